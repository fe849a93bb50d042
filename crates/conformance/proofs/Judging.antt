-- The verdict on answers, by its outcomes, and on a record by its length.
--
--   judged_pass, judged_fail, fail_judged  what pass and fail say of the answers
--   judged_whole                           one of them is given
--   record_true, record_false              what the test of a record's length says
use Prim.Native.Nat.{ℕ, ◌*◌, ◌%◌, ◌≤◌, ◌<◌}
use mathlib.Core.Path.{◌≡◌, refl, sym, ap, ◌∙◌}
use mathlib.Core.Bool.{true, false, true≢false}
use mathlib.Core.List.{List, [], ◌∷◌}
use mathlib.Core.Logic.{◌↔◌, ◌⊎◌, inl, inr, ⊎_elim, ◌≢◌}
use native.Mathlib.Omega.{arith}
use borrow.Author.Tests.{eq-eqb, ne_eqb, eqb-true, leb-true, le-leb}
use lib.Dec.{leb, eqb}
use lib.ListN.{length}
use lib.Seq.{take_all}
use Rattle.number.proofs.Cases.{by_test, by_lt, by_eq, and_true, refuted}
use Rattle.config.specs.declared.Config.{Config}
use Rattle.scheduler.specs.Choice.{Tie}
use Rattle.scheduler.specs.State.{State}
use Rattle.scheduler.specs.Scheduler.{Seen, Event, seen_by, step_by}
use Rattle.run.specs.Run.{answer_bytes}
use Rattle.conformance.specs.Verdict.{pass, fail, refusal, right_answers, judged, bad_record, is_record, record_verdict}
use Rattle.conformance.specs.Record.{FirstWrong}
use Rattle.run.proofs.Answers.{length_answer_bytes}
use Rattle.conformance.proofs.Right.{right_le, first_wrong, wrong_first, all_right, right_all}

pub length_seen : (q : Tie) (c : Config) (es : List Event) (s : State) → length (seen_by q c s es) ≡ length es
unfolding seen_by
length_seen q c [] s = refl
length_seen q c (e ∷ es) s = let h = length_seen q c es (step_by q c s e).state in omega arith

-- a record has whole answers, at most one for each event
pub record_true : (n m : ℕ) → is_record n m ≡ true → (n % 4 ≡ 0) × (n ≤ 4 * m)
unfolding is_record
record_true n m e =
    let h = and_true (eqb (n % 4) 0) (leb n (4 * m)) e in (eqb-true (n % 4) 0 h.0, leb-true n (4 * m) h.1)

pub true_record : (n m : ℕ) → n % 4 ≡ 0 → n ≤ 4 * m → is_record n m ≡ true
unfolding is_record
true_record n m whole few = rw (eq-eqb (n % 4) 0 whole, le-leb n (4 * m) few)

pub record_false : (n m : ℕ) → is_record n m ≡ false → (n % 4 ≢ 0) ⊎ (4 * m < n)
record_false n m e =
    by_eq (n % 4) 0
    (λ whole. by_lt (4 * m) n inr (λ few. absurd (true≢false (sym (true_record n m whole few) ∙ e))))
    inl

pub false_record : (n m : ℕ) → (n % 4 ≢ 0) ⊎ (4 * m < n) → is_record n m ≡ false
unfolding is_record
false_record n m (inl broken) = rw (ne_eqb (n % 4) 0 broken)
false_record n m (inr many) = refuted (is_record n m) (λ e. omega (arith, (record_true n m e).1))

-- no two outcomes are one
pub pass≢fail : {i : ℕ} → pass ≢ fail i
pass≢fail e = let z : ◌≡◌ {A = ℕ} 0 1 = cc in omega arith

pub pass≢refusal : {r p : ℕ} → pass ≢ refusal r p
pass≢refusal e = let z : ◌≡◌ {A = ℕ} 0 1 = cc in omega arith

pub fail≢refusal : {i r p : ℕ} → fail i ≢ refusal r p
fail≢refusal e = let z : ◌≡◌ {A = ℕ} 0 1 = cc in omega arith

module _ (xs : List Seen) (rs : List ℕ) where
  pub judged_all : right_answers xs rs ≡ length xs → judged xs rs ≡ pass
  judged_all e = rw (eq-eqb (right_answers xs rs) (length xs) e)

  pub judged_some : right_answers xs rs ≢ length xs → judged xs rs ≡ fail (right_answers xs rs)
  judged_some n = rw (ne_eqb (right_answers xs rs) (length xs) n)

  pub judged_pass : length rs ≤ 4 * length xs → judged xs rs ≡ pass → rs ≡ answer_bytes xs
  judged_pass few e =
      by_eq (right_answers xs rs) (length xs)
      (λ h. sym (take_all (4 * length xs) rs few) ∙ all_right xs rs h)
      (λ n. absurd (pass≢fail (sym e ∙ judged_some n)))

  pub judged_fail : (i : ℕ) → judged xs rs ≡ fail i → FirstWrong (answer_bytes xs) rs (length xs) i
  judged_fail i e =
      by_eq (right_answers xs rs) (length xs)
      (λ h. absurd (pass≢fail (sym (judged_all h) ∙ e)))
      (λ n. let same : right_answers xs rs ≡ i = cc (judged_some n) in
      rw same at (wrong_first xs rs (omega (arith, right_le xs rs, n))))

  pub fail_judged : (i : ℕ) → FirstWrong (answer_bytes xs) rs (length xs) i → judged xs rs ≡ fail i
  fail_judged i w =
      let h = first_wrong xs rs i w in judged_some (λ e. omega (arith, w.of_an_event)) ∙ ap fail h

  pub judged_whole : (judged xs rs ≡ pass) ⊎ (judged xs rs ≡ fail (right_answers xs rs))
  judged_whole =
      by_eq (right_answers xs rs) (length xs) (λ h. inl (judged_all h)) (λ n. inr (judged_some n))

module _ (xs : List Seen) (n : ℕ) (many : length xs ≡ n) (rs : List ℕ) where
  judging : is_record (length rs) n ≡ true → record_verdict xs n rs ≡ judged xs rs
  judging e = rw e refl

  refusing : is_record (length rs) n ≡ false → record_verdict xs n rs ≡ refusal bad_record 0
  refusing e = rw e refl

  pub recorded_pass : (record_verdict xs n rs ≡ pass) ↔ (rs ≡ answer_bytes xs)
  recorded_pass = (right, passes)
    where
      right : record_verdict xs n rs ≡ pass → rs ≡ answer_bytes xs
      right e =
          by_test (is_record (length rs) n)
          (λ r. judged_pass xs rs (omega (arith, (record_true (length rs) n r).1)) (sym (judging r) ∙ e))
          (λ r. absurd (pass≢refusal (sym e ∙ refusing r)))

      passes : rs ≡ answer_bytes xs → record_verdict xs n rs ≡ pass
      passes e =
          let size : length rs ≡ 4 * n = ap length e ∙ length_answer_bytes xs ∙ ap (λ (k : ℕ). 4 * k) many in
          judging (true_record (length rs) n (omega arith) (omega arith))
          ∙ judged_all xs rs (rw e (right_all xs))

  pub recorded_fail : (i : ℕ) → (record_verdict xs n rs ≡ fail i)
      ↔ ((is_record (length rs) n ≡ true) × FirstWrong (answer_bytes xs) rs n i)
  recorded_fail i = (wrong, fails)
    where
      wrong : record_verdict xs n rs ≡ fail i → (is_record (length rs) n ≡ true) × FirstWrong (answer_bytes xs) rs n i
      wrong e =
          by_test (is_record (length rs) n)
          (λ r. (r, rw many at (judged_fail xs rs i (sym (judging r) ∙ e))))
          (λ r. absurd (fail≢refusal (sym e ∙ refusing r)))

      fails : (is_record (length rs) n ≡ true) × FirstWrong (answer_bytes xs) rs n i → record_verdict xs n rs ≡ fail i
      fails w = judging w.0 ∙ fail_judged xs rs i (rw (← many) at w.1)

  pub recorded_refused : (r p : ℕ) → (record_verdict xs n rs ≡ refusal r p)
      ↔ ((refusal bad_record 0 ≡ refusal r p) × ((length rs % 4 ≢ 0) ⊎ (4 * n < length rs)))
  recorded_refused r p = (bad, refuses)
    where
      bad : record_verdict xs n rs ≡ refusal r p
          → (refusal bad_record 0 ≡ refusal r p) × ((length rs % 4 ≢ 0) ⊎ (4 * n < length rs))
      bad e =
          by_test (is_record (length rs) n)
          (λ t. absurd (⊎_elim (λ h. pass≢refusal (sym h ∙ sym (judging t) ∙ e))
          (λ h. fail≢refusal (sym h ∙ sym (judging t) ∙ e)) (judged_whole xs rs)))
          (λ t. (sym (refusing t) ∙ e, record_false (length rs) n t))

      refuses : (refusal bad_record 0 ≡ refusal r p) × ((length rs % 4 ≢ 0) ⊎ (4 * n < length rs))
          → record_verdict xs n rs ≡ refusal r p
      refuses h = refusing (false_record (length rs) n h.1) ∙ h.0
