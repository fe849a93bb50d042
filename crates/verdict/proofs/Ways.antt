-- The ways out of the code, each as the verdict that it is.
--
--   no_whole, too_many, differs, passes   those of `judge`
--   run_refused, run_counted, run_judged  those of `osek_verdict`, by the result and the output of the run
use Prim.Native.Nat.{ℕ, ◌*◌, ◌%◌, ◌≤◌, ◌<◌}
use mathlib.Core.Path.{◌≡◌, refl, sym, ap, ◌∙◌}
use mathlib.Core.List.{List, ◌++◌}
use mathlib.Core.Logic.{◌≢◌, inl, inr}
use native.Mathlib.Omega.{arith}
use borrow.Author.Tests.{le-leb}
use lib.ListN.{length}
use Rattle.number.specs.Output.{packed}
use Rattle.scheduler.specs.Choice.{by_holding}
use Rattle.scheduler.specs.Scheduler.{Seen, fresh, seen}
use Rattle.run.specs.Run.{Input, refused, played, read_run, answer_bytes, answers, run_result, run_output}
use Rattle.run.specs.Run as Run
use Rattle.run.proofs.Theorems.{places, Bounded, input_bounded, room_enough}
use Rattle.conformance.specs.Verdict.{fail, judged, right_answers, record_verdict, verdict_on, result_of, verdict_result, Verdict, pass, refusal, bad_record}
use Rattle.conformance.proofs.Judging.{length_seen, true_record, false_record, judged_all, judged_some}
use Rattle.conformance.proofs.Output.{behind, output_answers}
use Rattle.conformance.proofs.Results.{Refusals, run_bounds}
use Rattle.verdict.specs.Answers.{RightAnswers}
use Rattle.verdict.proofs.Answers.{right_counted}

module _ (xs : List Seen) (n : ℕ) (rs : List ℕ) where
  pub no_whole : length rs % 4 ≢ 0 → refusal bad_record 0 ≡ record_verdict xs n rs
  no_whole h = rw (false_record (length rs) n (inl h)) refl

  pub too_many : 4 * n < length rs → refusal bad_record 0 ≡ record_verdict xs n rs
  too_many h = rw (false_record (length rs) n (inr h)) refl

  module _ (zs : List ℕ) (many : length xs ≡ n) (whole : length rs % 4 ≡ 0) (few : length rs ≤ 4 * n) (r : ℕ)
      (a : RightAnswers (answer_bytes xs ++ zs) rs r) where
    counted : right_answers xs rs ≡ r
    counted = right_counted xs zs rs r (omega arith) a

    as_judged : record_verdict xs n rs ≡ judged xs rs
    as_judged = rw (true_record (length rs) n whole few)

    pub differs : r < n → fail r ≡ record_verdict xs n rs
    differs h = sym (as_judged ∙ judged_some xs rs (λ e. omega (arith, counted)) ∙ ap fail counted)

    pub passes : n ≤ r → pass ≡ record_verdict xs n rs
    passes h = sym (as_judged ∙ judged_all xs rs (omega (arith, counted, a.there)))

-- what a run with room enough returned, by its input; r is its result
unfoldable pub Returned : List ℕ → ℕ → Input → Type 0
Returned rs r (refused a p) = (places ≤ r) × (r ≡ result_of (verdict_on rs (refused a p)))
Returned rs r (played c es) = (r ≡ length es) × (r ≤ 8192)

module _ (cs ts d rs : List ℕ) (r : ℕ) (room : length d ≡ 32832) (ran : r ≡ run_result cs ts (length d)) where
  returned_by : (i : Input) → read_run cs ts ≡ i → Refusals i → Bounded i → Returned rs r i
  unfolding Returned Refusals Bounded Run.result_of verdict_on result_of
  returned_by (refused a p) e h less =
      let same : r ≡ packed a p = ran ∙ ap (Run.result_of (length d)) e in (omega (arith, h.0), same)
  returned_by (played c es) e h few =
      let fits : length (answers c es) ≤ length d = omega (arith, few.1) in
      let same : r ≡ length es =
      ran ∙ ap (Run.result_of (length d)) e ∙ rw (le-leb (length (answers c es)) (length d) fits) in
      (same, omega (arith, few.0))

  returned : Returned rs r (read_run cs ts)
  returned = returned_by (read_run cs ts) refl (run_bounds cs ts) (input_bounded cs ts)

  -- a refusal is handed on
  pub run_refused : places ≤ r → r ≡ verdict_result cs ts rs
  unfolding Returned
  run_refused h = by_input (read_run cs ts) returned
    where
      by_input : (i : Input) → Returned rs r i → r ≡ result_of (verdict_on rs i)
      by_input (refused a p) k = k.1
      by_input (played c es) k = absurd (omega (arith, k.1))

  -- the answers are in the room that was lent
  pub run_counted : r < places → 4 * r ≤ 32832
  unfolding Returned
  run_counted h = by_input (read_run cs ts) returned
    where
      by_input : (i : Input) → Returned rs r i → 4 * r ≤ 32832
      by_input (refused a p) k = absurd (omega (arith, k.0))
      by_input (played c es) k = omega (arith, k.1)

  -- and are judged: d₁ is what the run left, v what `judge` gave
  pub run_judged : (d₁ : List ℕ) (v : Verdict) → r < places → d₁ ≡ run_output cs ts d
      → ((xs : List Seen) (zs : List ℕ) → d₁ ≡ answer_bytes xs ++ zs → length xs ≡ r → v ≡ record_verdict xs r rs)
      → result_of v ≡ verdict_result cs ts rs
  unfolding Returned verdict_on
  run_judged d₁ v h left gave = ap result_of (by_input (read_run cs ts) refl returned)
    where
      by_input : (i : Input) → read_run cs ts ≡ i → Returned rs r i → v ≡ verdict_on rs i
      by_input (refused a p) e k = absurd (omega (arith, k.0))
      by_input (played c es) e k =
          let many : length (seen c (fresh c) es) ≡ r = length_seen by_holding c es (fresh c) ∙ sym k.0 in
          gave (seen c (fresh c) es) (behind c es d)
          (left ∙ output_answers cs ts c es e d (omega (arith, room_enough cs ts c es e))) many
          ∙ ap (λ (n : ℕ). record_verdict (seen c (fresh c) es) n rs) k.0
