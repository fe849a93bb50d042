-- `some_turn` meets its contract: what was found before an entry, or will be from there on, is what there is.
use Rattle.std.proofs.Common.{get_or, sym, refl, ◌∙◌}
use Rattle.config.specs.Value.{max_entries}
use Rattle.machine.specs.Cells.{has_turn}
use Rattle.cells.proofs.Cells.{some_step, some_end}
use Rattle.cells.proofs.some_turn.Goals as goal

pub loop-switch-preserved : goal.loop-switch-preserved
loop-switch-preserved c = let l = c.loop-switch in
    some_step (λ i. has_turn (get_or c.args.on.now i 0)) max_entries l.switch-index l.found c.loop-switch-test.true refl
    ∙ l.invariant

pub returns : goal.returns
returns c = let l = c.loop-switch in
    sym (some_end (λ i. has_turn (get_or c.args.on.now i 0)) max_entries l.switch-index l.found c.loop-switch-test.false)
    ∙ l.invariant
