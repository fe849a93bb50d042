-- `osek_draw` meets its contract: it packs the answer of `draw`, whose parts are small.
use Prim.Native.Nat.{◌≤◌}
use mathlib.Core.Path.{sym, ap, ◌∙◌}
use native.Mathlib.Nat.{zero-add}
use lib.ListN.{length}
use native.Mathlib.Omega.{arith}
use Rattle.number.specs.Output.{Written, packed}
use Rattle.draw.proofs.Answers.{answer_small}
use Rattle.draw.proofs.osek_draw.Goals as goal

pub returns-in-Ok : goal.returns-in-Ok
returns-in-Ok c = let e = c.in-Ok.ensures in
    record {
      result = sym (zero-add _) ∙ ap (λ (r : Written). packed r.refusal r.place) e.result;
      output = e.output;
    }

pub returns-in-Err : goal.returns-in-Err
returns-in-Err c = let e = c.in-Err.ensures in
    let a = c.args in
    let small : c.in-Err.refused.place ≤ 8192 = omega (arith, ap (λ (r : Written). r.place) e.result, answer_small a.start a.weights.now a.limits.now a.count (length a.out.now)) in
    record {
      result = c.packed.ensures (omega arith) ∙ ap (λ (r : Written). packed r.refusal r.place) e.result;
      output = e.output;
    }
