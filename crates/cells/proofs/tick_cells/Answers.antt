-- `tick_cells` meets its contract: the invariant is `Ticking`, and beside it what is left to do of the switches.
use Rattle.std.proofs.Common.{◌+◌, cond, get_or, sym, ap, ◌∙◌, arith}
use Rattle.config.specs.Value.{max_entries}
use Rattle.cell.specs.declared.Cell.{Cell}
use Rattle.cell.specs.Cell.{tick_cell, unmarked}
use Rattle.machine.specs.Cells.{is_on, switch_for}
use Rattle.cells.proofs.Cells.{ticking_step, ticking_switched, ticking_end, switches_step, switches_end}
use Rattle.cells.proofs.tick_cells.Goals as goal

pub loop-e-preserved : goal.loop-e-preserved
loop-e-preserved c = let a = c.args in let l = c.loop-e in
    let n = c.tick-cell.ensures
    ∙ ap tick_cell (c.of.ensures
    ∙ ap (unmarked (get_or l.counter l.e 0) (get_or a.compare.now l.e 0) (is_on (get_or l.on l.e 0)))
    c.has_turn-turn.ensures) in (
      ticking_switched a.turning a.compare.now a.on.now a.counter.now l.on _ _ (l.e + 1)
          (ticking_step a.turning a.compare.now a.on.now a.counter.now l.on l.counter l.matched
          l.e l.invariant.0 c.loop-e-test.true n)
          l.e c.switch_after.result (omega arith),
      switches_step max_entries l.e a.compare.now l.counter l.on a.turning c.loop-e-test.true
          (c.switch_after.ensures
          ∙ ap (λ (k : Cell). cond a.turning (switch_for (is_on (get_or l.on l.e 0)) k.turn)
          (get_or l.on l.e 0)) n)
          c.tick-cell.result.counter
          ∙ l.invariant.1,
    )

pub returns : goal.returns
returns c = let a = c.args in let l = c.loop-e in
    let ended = ticking_end a.turning a.compare.now a.on.now a.counter.now l.on l.counter
    l.matched l.e l.invariant.0 c.loop-e-test.false in record {
      value = ended.0;
      counter_after = ended.1;
      on_after = sym (switches_end max_entries l.e a.compare.now l.counter l.on a.turning c.loop-e-test.false)
          ∙ l.invariant.1;
    }
