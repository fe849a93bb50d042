-- `osek_salvage` meets its contract: it packs the answer of `salvage`, whose parts are small.
use Rattle.std.specs.Prelude.{Ok, Err}
use mathlib.Core.Path.{refl, ap, ◌∙◌}
use native.Mathlib.Omega.{arith}
use Rattle.number.proofs.Answers.{code_some}
use Rattle.salvage.specs.Salvage.{as_salvaged, result_of}
use Rattle.salvage.proofs.Answers.{answer_small, result_refused, result_accepted}
use Rattle.salvage.proofs.osek_salvage.Goals as goal

pub overflow_mul-result : goal.overflow_mul-result
overflow_mul-result c = let s = answer_small _ _ _ _ c.in-Ok.ensures.result in omega (arith, s.stretches_le)

pub overflow_add-result : goal.overflow_add-result
overflow_add-result c = let s = answer_small _ _ _ _ c.in-Ok.ensures.result in
    omega (arith, s.stretches_le, s.events_le)

pub returns-in-Ok : goal.returns-in-Ok
returns-in-Ok c = let e = c.in-Ok.ensures in
    record {
      result = result_accepted (as_salvaged (Ok c.in-Ok.lengths)) refl ∙ ap result_of e.result;
      events = e.events;
      stretches = e.stretches;
    }

pub returns-in-Err : goal.returns-in-Err
returns-in-Err c = let e = c.in-Err.ensures in
    let r = c.in-Err.refused in
    let s = answer_small _ _ _ _ e.result in
    record {
      result =
          c.packed.ensures (omega (arith, s.place_le))
          ∙ result_refused (as_salvaged (Err r)) (code_some r.refusal) ∙ ap result_of e.result;
      events = e.events;
      stretches = e.stretches;
    }
