-- `osek_verdict` meets its contract: with room for every run its result is a refusal, or its answers are judged.
use Prim.Native.Nat.{ℕ}
use mathlib.Core.Path.{◌∙◌}
use native.Mathlib.Omega.{arith}
use lib.ListN.{replicate, length-replicate}
use Rattle.conformance.specs.Verdict.{result_of}
use Rattle.verdict.specs.Answers.{as_verdict}
use Rattle.verdict.proofs.Ways.{run_refused, run_counted, run_judged}
use Rattle.verdict.proofs.osek_verdict.Goals as goal

pub returns-then-result-ge-REFUSED : goal.returns-then-result-ge-REFUSED
returns-then-result-ge-REFUSED c = let a = c.args in
    run_refused a.config.now a.trace.now (replicate 32832 0) a.recorded.now c.osek_run-result.result (length-replicate {A = ℕ} 32832 0) c.osek_run-result.ensures.result
    c.if-result-ge-REFUSED.true

pub judge-requires : goal.judge-requires
judge-requires c = let a = c.args in
    omega (
      arith,
      run_counted a.config.now a.trace.now (replicate 32832 0) a.recorded.now c.osek_run-result.result (length-replicate {A = ℕ} 32832 0) c.osek_run-result.ensures.result
          c.if-result-ge-REFUSED.false,
    )

-- the arms: the verdict that `judge` gave
pub returns-in-Ok-Pass : goal.returns-in-Ok-Pass
unfolding result_of
returns-in-Ok-Pass c = let a = c.args in
    let all = run_judged a.config.now a.trace.now (replicate 32832 0) a.recorded.now c.osek_run-result.result (length-replicate {A = ℕ} 32832 0)
    c.osek_run-result.ensures.result _ (as_verdict c.judge.result) c.if-result-ge-REFUSED.false c.osek_run-result.ensures.output
    c.judge.ensures.verdict in
    rw (c.in-Ok-Pass.is, c.in-Ok-Pass.field-0-is) at all

pub returns-in-Ok-Fails : goal.returns-in-Ok-Fails
unfolding result_of
returns-in-Ok-Fails c = let a = c.args in
    let all = run_judged a.config.now a.trace.now (replicate 32832 0) a.recorded.now c.osek_run-result.result (length-replicate {A = ℕ} 32832 0)
    c.osek_run-result.ensures.result _ (as_verdict c.judge.result) c.if-result-ge-REFUSED.false c.osek_run-result.ensures.output
    c.judge.ensures.verdict in
    rw (c.in-Ok-Fails.is, c.in-Ok-Fails.field-0-is) at all

pub returns-in-Err : goal.returns-in-Err
unfolding result_of
returns-in-Err c = let a = c.args in
    let all = run_judged a.config.now a.trace.now (replicate 32832 0) a.recorded.now c.osek_run-result.result (length-replicate {A = ℕ} 32832 0)
    c.osek_run-result.ensures.result _ (as_verdict c.judge.result) c.if-result-ge-REFUSED.false c.osek_run-result.ensures.output
    c.judge.ensures.verdict in
    let told = rw c.in-Err.is at all in
    c.packed.ensures (omega (arith, c.in-Err.ensures.place)) ∙ told
