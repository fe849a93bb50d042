-- `try_run` meets its contract: each way out is one of the run's checks, or the whole run.
use Rattle.std.proofs.Common.{refl, ap, arith}
use Rattle.std.proofs.lemmas.Result.{err_from_is_err_and}
use Rattle.model.specs.View.{view, model_of}
use Rattle.number.proofs.Answers.{code_some}
use Rattle.kernel.proofs.Passes.Whole.{config_place_small, ran_config_refused, ran_too_long, config_accepted, config_shaped, few_events, trace_place_le, ran_trace_refused, ran_no_room, ran_all}
use Rattle.kernel.proofs.try_run.Goals as goal

pub returns-in_err-read : goal.returns-in_err-read
returns-in_err-read c = let a = c.args in
    let p = err_from_is_err_and c.from_residual.result c.from_residual.ensures.1 in
    let read = c.in_err-read.ensures in
    let h = ran_config_refused a.config.now a.trace.now a.out.now _ read _ (code_some _) refl in
    record {
      result = rw (p.1, p.2) h.result;
      output = h.output;
      steps = h.steps;
      model = rw p.1 (ap model_of h.model);
      few = rw p.1 tt;
      place = rw (p.1, p.2) (omega (arith, config_place_small a.config.now a.trace.now a.out.now _ read));
    }

pub returns-then-trace-gt-MAX_TRACE : goal.returns-then-trace-gt-MAX_TRACE
returns-then-trace-gt-MAX_TRACE c = let a = c.args in
    let h = ran_too_long a.config.now a.trace.now a.out.now _ c.in_ok-read.ensures refl _ c.if-trace-gt-MAX_TRACE.true refl in
    record { result = h.result; output = h.output; steps = h.steps; model = ap model_of h.model; few = tt; place = omega arith }

pub returns-in_err-events : goal.returns-in_err-events
returns-in_err-events c = let a = c.args in
    let p = err_from_is_err_and c.from_residual-in_err-events.result c.from_residual-in_err-events.ensures.1 in
    let read = c.in_ok-read.ensures in
    let short = c.if-trace-gt-MAX_TRACE.false in
    let told = c.in_err-events.ensures in
    let h = ran_trace_refused a.config.now a.trace.now a.out.now _ read refl short _ _ _ (code_some _) told refl in
    record {
      result = rw (p.1, p.2) h.result;
      output = h.output;
      steps = h.steps;
      model = rw p.1 (ap model_of h.model);
      few = rw p.1 tt;
      place = rw (p.1, p.2) (omega (arith, trace_place_le a.config.now a.trace.now a.out.now _ read refl short, told.1));
    }

pub overflow_mul-need : goal.overflow_mul-need
overflow_mul-need c = let a = c.args in
    omega (
      arith,
      few_events a.config.now a.trace.now a.out.now _ c.in_ok-read.ensures refl c.if-trace-gt-MAX_TRACE.false _
          c.in_ok-events.ensures,
    )

pub overflow_add-need : goal.overflow_add-need
overflow_add-need c = let a = c.args in
    let read = c.in_ok-read.ensures in
    omega (
      arith,
      few_events a.config.now a.trace.now a.out.now _ read refl c.if-trace-gt-MAX_TRACE.false _ c.in_ok-events.ensures,
      (config_accepted a.config.now a.trace.now a.out.now _ read refl).few_bodies,
    )

pub returns-then-out-need : goal.returns-then-out-need
returns-then-out-need c = let a = c.args in
    let read = c.in_ok-read.ensures in
    let short = c.if-trace-gt-MAX_TRACE.false in
    let told = c.in_ok-events.ensures in
    let h = ran_no_room a.config.now a.trace.now a.out.now _ read refl short _ told _ _ refl c.if-out-need.true refl in
    record {
      result = h.result;
      output = h.output;
      steps = h.steps;
      model = ap model_of h.model;
      few = tt;
      place = omega (
        arith,
        few_events a.config.now a.trace.now a.out.now _ read refl short _ told,
        (config_accepted a.config.now a.trace.now a.out.now _ read refl).few_bodies,
      );
    }

pub answer-model-requires : goal.answer-model-requires
answer-model-requires c = let a = c.args in
    let read = c.in_ok-read.ensures in
    record {
      accepted = config_accepted a.config.now a.trace.now a.out.now _ read refl;
      shaped = config_shaped a.config.now a.trace.now a.out.now _ read refl;
      readable = c.in_ok-events.ensures.0;
      counted = c.in_ok-events.ensures.1;
      room = c.if-out-need.false;
    }

pub returns : goal.returns
returns c = let a = c.args in
    let read = c.in_ok-read.ensures in
    let short = c.if-trace-gt-MAX_TRACE.false in
    let told = c.in_ok-events.ensures in
    let answered = c.answer-model.ensures in
    let h = ran_all a.config.now a.trace.now a.out.now _ read refl short _ told _ (view c.answer-model.result)
    c.if-out-need.false answered.out_after (ap view answered.value) in
    record {
      result = h.result;
      output = h.output;
      steps = h.steps;
      model = ap model_of h.model;
      few = few_events a.config.now a.trace.now a.out.now _ read refl short _ told;
      place = tt;
    }
