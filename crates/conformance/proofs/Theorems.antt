-- What the crate shows of the verdict, for every configuration, trace and record. Each law stands here in full, over
-- specs/ alone; the modules it cites prove it.
--
-- In order: when a unit passes; the event at which it fails; refusals; that losses are not judged; the number for C.
use Prim.Native.Nat.{ℕ, ◌+◌, ◌*◌, ◌%◌, ◌≤◌, ◌<◌}
use mathlib.Core.Path.{◌≡◌, sym, ap, ◌∙◌}
use mathlib.Core.Bool.{true}
use mathlib.Core.List.{List, map}
use mathlib.Core.Logic.{◌↔◌, ◌⊎◌, ◌≢◌}
use native.Mathlib.Omega.{arith}
use lib.ListN.{length, take}
use lib.Seq.{length-take-le}
use Rattle.config.specs.declared.Config.{Config}
use Rattle.scheduler.specs.Choice.{by_holding}
use Rattle.scheduler.specs.Scheduler.{Event, Seen, fresh, seen}
use Rattle.run.specs.Run.{refused, read_run, answer_bytes, answers, run_output}
use Rattle.conformance.specs.Verdict.{Verdict, pass, fail, refusal, four_bytes, is_record, record_verdict, verdict_on, verdict, verdict_result}
use Rattle.conformance.specs.Record.{answer_at, FirstWrong, expected, Runs}
use Rattle.run.proofs.Answers.{length_answer_bytes}
use Rattle.conformance.proofs.Right.{differs_missing, answers_alike, taken_wrong}
use Rattle.conformance.proofs.Judging as Judging
use Rattle.conformance.proofs.Output.{output_front}
use Rattle.conformance.proofs.Results as Results
use Rattle.conformance.proofs.Results.{Told}

-- the same of a verdict that is equal
along : {a b v : Verdict} {P : Type 0} → a ≡ b → (b ≡ v) ↔ P → (a ≡ v) ↔ P
along e k = (λ h. k.0 (sym e ∙ h), λ p. e ∙ k.1 p)

module _ (cs ts rs : List ℕ) where
  module _ (c : Config) (es : List Event) (runs : Runs cs ts c es) where
    as_recorded : verdict cs ts rs ≡ record_verdict (seen c (fresh c) es) (length es) rs
    unfolding verdict_on
    as_recorded = ap (verdict_on rs) runs

    many : length (seen c (fresh c) es) ≡ length es
    many = Judging.length_seen by_holding c es (fresh c)

    -- "pass exactly when all equal the definition's"
    pub pass_exactly : (verdict cs ts rs ≡ pass) ↔ (rs ≡ expected c es)
    pass_exactly = along as_recorded (Judging.recorded_pass (seen c (fresh c) es) (length es) many rs)

    -- "else the first event that differs or is missing"
    pub fail_exactly : (i : ℕ) → (verdict cs ts rs ≡ fail i)
        ↔ ((is_record (length rs) (length es) ≡ true) × FirstWrong (expected c es) rs (length es) i)
    fail_exactly i = along as_recorded (Judging.recorded_fail (seen c (fresh c) es) (length es) many rs i)

    -- it is missing where the record ends before it; otherwise all four bytes are there, and are not those expected
    pub differs_or_missing : (i : ℕ) → verdict cs ts rs ≡ fail i
        → (length rs ≡ 4 * i) ⊎ ((4 * i + 4 ≤ length rs) × (answer_at rs i ≢ answer_at (expected c es) i))
    differs_or_missing i e =
        let w = (fail_exactly i).0 e in
        let size = length_answer_bytes (seen c (fresh c) es) in
        differs_missing (expected c es) rs (length es) i (omega (arith, many)) w.1
        (Judging.record_true (length rs) (length es) w.0).0

    -- "then 70 for recorded answers that are not a multiple of four bytes or are too many"
    pub refused_exactly : (r p : ℕ) → (verdict cs ts rs ≡ refusal r p)
        ↔ ((refusal 70 0 ≡ refusal r p) × ((length rs % 4 ≢ 0) ⊎ (4 * length es < length rs)))
    refused_exactly r p =
        along as_recorded (Judging.recorded_refused (seen c (fresh c) es) (length es) many rs r p)

  -- "the run's, with 30 left out", whatever is recorded
  pub run_refused : (r p : ℕ) → read_run cs ts ≡ refused r p → verdict cs ts rs ≡ refusal r p
  unfolding verdict_on
  run_refused r p e = ap (verdict_on rs) e

-- a record that breaks off is judged, and fails at the first event without an answer
pub too_few : (cs ts : List ℕ) (c : Config) (es : List Event) → Runs cs ts c es → (k : ℕ) → k < length es
    → verdict cs ts (take (4 * k) (expected c es)) ≡ fail k
too_few cs ts c es runs k h =
    let size : length (expected c es) ≡ 4 * length es =
    length_answer_bytes (seen c (fresh c) es) ∙ ap (λ (n : ℕ). 4 * n) (Judging.length_seen by_holding c es (fresh c)) in
    (fail_exactly cs ts (take (4 * k) (expected c es)) c es runs k).1 (
      Judging.true_record (length (take (4 * k) (expected c es))) (length es)
          (omega (arith, length-take-le (4 * k) (expected c es) (omega arith)))
          (omega (arith, length-take-le (4 * k) (expected c es) (omega arith))),
      taken_wrong (expected c es) (length es) k size h,
    )

-- a unit that answers right passes, whatever its losses: xs is what is seen of it
pub losses_not_judged : (cs ts : List ℕ) (c : Config) (es : List Event) → Runs cs ts c es → (xs : List Seen)
    → map four_bytes xs ≡ map four_bytes (seen c (fresh c) es) → verdict cs ts (answer_bytes xs) ≡ pass
losses_not_judged cs ts c es runs xs e =
    (pass_exactly cs ts (answer_bytes xs) c es runs).1 (answers_alike xs (seen c (fresh c) es) e)

-- the reference's own answers pass, in the front of whatever room the run was lent
pub reference_passes : (cs ts : List ℕ) (c : Config) (es : List Event) → Runs cs ts c es → (d : List ℕ)
    → length (answers c es) ≤ length d → verdict cs ts (take (4 * length es) (run_output cs ts d)) ≡ pass
reference_passes cs ts c es runs d room =
    (pass_exactly cs ts (take (4 * length es) (run_output cs ts d)) c es runs).1
    (output_front cs ts c es runs d room)

-- how C tells the outcomes apart: the greatest number is pass, a number below 8,192 the event at which the unit fails,
-- and any other a refusal, which is never 30, with its place
pub result_told : (cs ts rs : List ℕ) → Told (verdict cs ts rs) (verdict_result cs ts rs)
result_told = Results.told
