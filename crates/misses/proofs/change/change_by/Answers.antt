-- `change_by` meets its contract, field by field.
use Prim.Native.Nat.{ℕ}
use mathlib.Core.Path.{◌≡◌, sym, ap, ◌∙◌}
use lib.ListN.{length}
use borrow.Author.Rules.{rules}
use Rattle.std.specs.Prelude.{Option}
use Rattle.std.specs.List.{slice_get}
use Rattle.model.specs.View.{status_number}
use Rattle.run.specs.Run.{call_of}
use Rattle.misses.specs.Change.{chained_body}
use Rattle.misses.proofs.Codes.{ticks, body_read, item_copied}
use Rattle.misses.proofs.change.change_by.Goals as goal

pub returns : goal.returns
returns c = let a = c.args in
    let long : length a.body.now ≡ 32 = search rules in
    let runner : c.copied-runner.result ≡ slice_get a.body.now a.model.registers.runner
    = c.copied-runner.ensures ∙ item_copied c.get.result a.body.now a.model.registers.runner c.get.ensures.lookup in
    λ i.
    record {
      before = c.active.ensures i;
      after = c.active-2.ensures i;
      chained =
          (c.chained_body.ensures
          ∙ ap (λ (r : Option ℕ). chained_body r (call_of a.event) (status_number a.outcome.status))
          (runner ∙ body_read a.body.now a.model.registers.runner long)) i;
      tick = sym (ticks a.event) i;
    }
