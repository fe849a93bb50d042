-- The number for C: what it tells of each outcome.
--
--   run_bounds  a refused input has a refusal from 1 to 23, so none is 30
--   told        the number tells pass, a failed event and a refusal apart
use Prim.Native.Nat.{ℕ, ◌≤◌, ◌<◌}
use mathlib.Core.Path.{◌≡◌, refl}
use mathlib.Core.List.{List}
use mathlib.Core.Logic.{⊎_elim, ◌≢◌}
use native.Mathlib.Omega.{arith}
use lib.ListN.{length}
use Rattle.number.specs.Refusal.{none}
use Rattle.number.proofs.Cases.{by_lt, by_eq, cond_either}
use Rattle.config.specs.Reader.{read_config}
use Rattle.config.proofs.Theorems.{reading}
use Rattle.event.specs.Trace.{max_trace, read_trace}
use Rattle.event.proofs.Theorems.{trace_reading}
use Rattle.scheduler.specs.Choice.{by_holding}
use Rattle.scheduler.specs.Scheduler.{Seen, fresh, seen}
use Rattle.run.specs.Run.{Input, refused, played, read_run}
use Rattle.run.proofs.Input.{config_refused, trace_too_long_lem, trace_refused, all_readable}
use Rattle.run.proofs.Theorems.{places, Bounded, input_bounded, high_half, low_half}
use Rattle.conformance.specs.Verdict.{Verdict, pass, fail, refusal, right_answers, judged, bad_record, is_record, record_verdict, verdict_on, verdict, result_of, verdict_result}
use Rattle.conformance.proofs.Judging.{length_seen, judged_fail, judged_whole}

-- what a refused input's refusal is
unfoldable pub Refusals : Input → Type 0
Refusals (refused r p) = (1 ≤ r) × (r ≤ 23)
Refusals (played c es) = Unit {0}

pub run_bounds : (cs ts : List ℕ) → Refusals (read_run cs ts)
unfolding Refusals
run_bounds cs ts =
    by_eq (read_config cs).refusal none
    (λ ok. by_lt max_trace (length ts)
    (λ long. rw (trace_too_long_lem cs ts ok long) (omega arith, omega arith))
    (λ short. by_eq (read_trace ts).refusal none
    (λ fine. rw (all_readable cs ts ok short fine) tt)
    (λ bad. let h = (trace_reading ts 0 (omega arith)).refusals bad in
    rw (trace_refused cs ts ok short bad) (omega arith, omega arith))))
    (λ bad. rw (config_refused cs ts bad) (
      omega arith,
      ⊎_elim (λ l. omega arith) (λ m. ⊎_elim (λ e. omega arith) (λ e. omega arith) m) (reading cs).refusals,
    ))

-- n is the number of an outcome; a refusal is its high half, which is 0 of an event's index and 4,294,967,295 of pass
unfoldable pub Told : Verdict → ℕ → Type 0
Told pass n = n ≡ 18446744073709551615
Told (fail i) n = (i < 8192) × (n ≡ i)
Told (refusal r p) n = (1 ≤ r) × (r ≤ 70) × (r ≢ 30) × (high_half n ≡ r) × (low_half n ≡ p)

abbrev Tells : Verdict → Type 0
Tells v = Told v (result_of v)

tells_refusal : (r p : ℕ) → 1 ≤ r → r ≤ 70 → r ≢ 30 → p < places → Tells (refusal r p)
unfolding Told result_of
tells_refusal r p some few other less = (some, few, other, omega arith, omega arith)

tells_judged : (xs : List Seen) (rs : List ℕ) → length xs ≤ 8192 → Tells (judged xs rs)
unfolding Told result_of
tells_judged xs rs few =
    ⊎_elim (λ e. rw e refl)
    (λ e. rw e (omega (arith, (judged_fail xs rs (right_answers xs rs) e).of_an_event), refl))
    (judged_whole xs rs)

tells_recorded : (xs : List Seen) (n : ℕ) (rs : List ℕ) → length xs ≡ n → n ≤ 8192 → Tells (record_verdict xs n rs)
tells_recorded xs n rs many few =
    cond_either Tells (is_record (length rs) n) (judged xs rs) (refusal bad_record 0)
    (tells_judged xs rs (omega arith))
    (tells_refusal bad_record 0 (omega arith) (omega arith) (λ e. omega arith) (omega arith))

tells_input : (rs : List ℕ) (i : Input) → Refusals i → Bounded i → Tells (verdict_on rs i)
unfolding Refusals Bounded verdict_on
tells_input rs (refused r p) h less = tells_refusal r p h.0 (omega arith) (λ e. omega arith) less
tells_input rs (played c es) h few =
    tells_recorded (seen c (fresh c) es) (length es) rs (length_seen by_holding c es (fresh c)) few.0

pub told : (cs ts rs : List ℕ) → Told (verdict cs ts rs) (verdict_result cs ts rs)
told cs ts rs = tells_input rs (read_run cs ts) (run_bounds cs ts) (input_bounded cs ts)
