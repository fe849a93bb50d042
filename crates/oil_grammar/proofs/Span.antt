-- Runs of a class of bytes: how a run goes on, and that it is the longest.
use Prim.Native.Nat.{ℕ, suc, ◌+◌, ◌≤◌, ◌<◌}
use mathlib.Core.Path.{◌≡◌, refl, ap}
use mathlib.Core.Bool.{Bool, true, false}
use mathlib.Core.List.{List, [], ◌∷◌}
use native.Mathlib.Omega.{arith}
use native.Mathlib.Numerals.{add-one}
use lib.ListN.{length, take, drop, get_or, length-drop, drop_of_length-le}
use lib.Seq.{drop-cons}
use Rattle.number.proofs.Cases.{by_test}
use Rattle.oil_grammar.specs.Byte.{span, Longest, end, stop, more}

-- the bytes from a place on: the byte there, and those after it
pub drop_next : (t : List ℕ) (i : ℕ) → i < length t → drop i t ≡ get_or t i 0 ∷ drop (i + 1) t
drop_next t i h = rw add-one (drop-cons t i 0 h)

module _ (p : ℕ → Bool) where
  pub span_le : (bs : List ℕ) → span p bs ≤ length bs
  unfolding span
  span_le [] = omega arith
  span_le (b ∷ bs) = let h = span_le bs in by_test (p b) (λ e. rw e (omega arith)) (λ e. rw e (omega arith))

  pub run_inside : (t : List ℕ) (at : ℕ) → at ≤ length t → at + span p (drop at t) ≤ length t
  run_inside t at h = let l = rw length-drop at (span_le (drop at t)) in omega arith

  span_more : (b : ℕ) (bs : List ℕ) → p b ≡ true → span p (b ∷ bs) ≡ suc (span p bs)
  unfolding span
  span_more b bs e = rw e

  span_stop : (b : ℕ) (bs : List ℕ) → p b ≡ false → span p (b ∷ bs) ≡ 0
  unfolding span
  span_stop b bs e = rw e

  -- the run is the longest, and there is no other that is
  pub longest : (bs : List ℕ) → Longest p bs (take (span p bs) bs) (drop (span p bs) bs)
  unfolding span
  longest [] = end
  longest (b ∷ bs) = by_test (p b) (λ e. rw e (more e (longest bs))) (λ e. rw e (stop e))

  pub longest_span : {bs xs r : List ℕ} → Longest p bs xs r → (xs ≡ take (span p bs) bs) × (r ≡ drop (span p bs) bs)
  unfolding span
  longest_span end = (refl, refl)
  longest_span (stop e) = (rw e refl, rw e refl)
  longest_span (more {b = b} e l) = (rw e (ap (λ (z : List ℕ). b ∷ z) (longest_span l).0), rw e (longest_span l).1)

  -- a loop over the text: the run from `at` on has come as far as i
  module _ (t : List ℕ) (at i : ℕ) (far : i + span p (drop i t) ≡ at + span p (drop at t)) where
    pub run_stopped : i < length t → p (get_or t i 0) ≡ false → i ≡ at + span p (drop at t)
    run_stopped h e =
        let z : span p (drop i t) ≡ 0 = rw (drop_next t i h) (span_stop (get_or t i 0) (drop (i + 1) t) e) in
        omega arith

    pub run_ended : length t ≤ i → i ≡ at + span p (drop at t)
    unfolding span
    run_ended h = let z : span p (drop i t) ≡ 0 = rw (drop_of_length-le t {i = i} h) in omega arith

    pub run_more : i < length t → p (get_or t i 0) ≡ true → i + 1 + span p (drop (i + 1) t) ≡ at + span p (drop at t)
    run_more h e =
        let z : span p (drop i t) ≡ suc (span p (drop (i + 1) t)) =
        rw (drop_next t i h) (span_more (get_or t i 0) (drop (i + 1) t) e) in
        omega arith
