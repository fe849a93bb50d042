-- `answer` meets its contract: the losses are laid after the answers of all events.
use mathlib.Core.Path.{◌≡◌, sym, ap, ◌∙◌}
use native.Mathlib.Omega.{arith}
use lib.ListN.{length, length-map}
use Rattle.event.specs.Trace.{read_trace}
use Rattle.plan.specs.declared.Plan.{Plan}
use Rattle.plan.proofs.Theorems.{plan_sized}
use Rattle.run.specs.Run.{call_of, calls_of}
use Rattle.model.specs.View.{view, model_of}
use Rattle.kernel.proofs.Passes.Whole.{answered, last_model_lem}
use Rattle.kernel.proofs.answer.answer.Goals as goal

pub play-last-requires : goal.play-last-requires
play-last-requires c = record {
  readable = c.requires.readable;
  room = omega (arith, c.requires.room, c.requires.counted);
}

pub overflow_mul-events : goal.overflow_mul-events
overflow_mul-events c = omega (arith, c.requires.room, c.well_formed.1)

pub put_losses-requires : goal.put_losses-requires
put_losses-requires c = let long : length c.plan_of-plan.result.rank ≡ 32 = ap
    (λ (q : Plan). length q.rank) c.plan_of-plan.ensures
    ∙ (plan_sized c.args.config).ranks in (
      c.requires.accepted.few_bodies,
      omega (arith, c.requires.accepted.few_bodies),
      omega (arith, c.requires.room, c.play-last.auto.out),
    )

pub returns : goal.returns
returns c = record {
  out_after = answered c.args.config c.requires.accepted c.requires.shaped (calls_of c.args.trace.now)
      c.plan_of-plan.result (view c.fresh-fresh.result)
      c.args.events c.args.out.now _ _ (view c.play-last.result)
      c.plan_of-plan.ensures (ap view c.fresh-fresh.ensures)
      (c.requires.counted ∙ sym (length-map (read_trace c.args.trace.now).events call_of)) c.requires.room
      c.play-last.ensures.out_after (ap view c.play-last.ensures.value) c.put_losses.ensures;
  value = ap model_of
      (last_model_lem c.args.config (calls_of c.args.trace.now)
      c.plan_of-plan.result (view c.fresh-fresh.result)
      (view c.play-last.result) c.plan_of-plan.ensures
      (ap view c.fresh-fresh.ensures) (ap view c.play-last.ensures.value));
}
