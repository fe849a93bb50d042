-- Which codes are known, as the arms of a `match` on a code and the count of its arguments show it.
use Prim.Native.Nat.{ℕ, zero, suc, ◌+◌, ◌*◌, ◌/◌, ◌%◌, ◌^◌, ◌≤◌, ◌<◌}
use mathlib.Core.Path.{◌≡◌, refl, sym}
use mathlib.Core.Bool.{Bool, true, false, cond, ◌&&◌}
use lib.Dec.{leb, eqb}
use native.Mathlib.Omega.{arith}
use borrow.Author.Tests.{leb-true, le-leb, lt-leb, eqb-true}
use Rattle.event.specs.Event.{activate, last_code, known, arguments, no_event}
use Rattle.number.proofs.Cases.{by_test, by_lt, and_true}
use Rattle.event.proofs.Codes.{known_le}

-- a code that is none of 1 to n, as a `match` with an arm for each of them tells it
unfoldable pub NoneUpTo : ℕ → ℕ → Type 0
NoneUpTo code zero = Unit
NoneUpTo code (suc n) = NoneUpTo code n × (code ≡ suc n → ⊥)

above : (code n : ℕ) → 0 < code → NoneUpTo code n → n < code
unfolding NoneUpTo
above code zero some r = some
above code (suc n) some r = omega (arith, above code n some r.0, r.1)

-- a code that is none of these arms, nor 0
pub known_no_arm : (code : ℕ) → NoneUpTo code last_code × (code ≡ 0 → ⊥) → known code ≡ false
unfolding known
known_no_arm code r = let h : last_code < code = above code last_code (omega (arith, r.1)) r.0 in
    simp (le-leb activate code (omega arith), lt-leb code last_code h)

-- no event has three arguments, so that a count tells a known code from an unknown one
pub arguments_le : (code : ℕ) → arguments code ≤ 2
unfolding arguments
arguments_le code = leb-true (arguments code) 2 (simp (leb_cond, cond_same))
  where
    leb_cond : (b : Bool) (x y m : ℕ) → leb (cond b x y) m ≡ cond b (leb x m) (leb y m)
    leb_cond true x y m = refl
    leb_cond false x y m = refl

    cond_same : (b x : Bool) → cond b x x ≡ x
    cond_same true x = refl
    cond_same false x = refl

-- n arguments follow a known code
pub record Counted (code n : ℕ) : Type 0 where
  pub is_known : known code ≡ true
  pub code_le : code ≤ last_code
  pub counts : arguments code ≡ n
  pub few : n ≤ 2

module _ (code n : ℕ) (same : n ≡ cond (known code) (arguments code) no_event) where
  pub counted : (n ≡ no_event → ⊥) → Counted code n
  counted some =
      by_test (known code)
      (λ k. let e : n ≡ arguments code = rw k at same in
      record { is_known = k; code_le = (known_le code k).1; counts = sym e; few = omega (arith, arguments_le code) })
      (λ u. absurd (some (rw u at same)))

  pub uncounted : n ≡ no_event → known code ≡ false
  uncounted none =
      by_test (known code)
      (λ k. let e : n ≡ arguments code = rw k at same in absurd (omega (arith, arguments_le code)))
      (λ u. u)

-- f holds of all numbers below n
unfoldable pub all_below : (ℕ → Bool) → ℕ → Bool
all_below f zero = true
all_below f (suc n) = all_below f n && f n

below_all : (f : ℕ → Bool) (n i : ℕ) → all_below f n ≡ true → i < n → f i ≡ true
unfolding all_below
below_all f zero i h lt = absurd (omega arith)
below_all f (suc n) i h lt =
    by_lt i n (λ below. below_all f n i (and_true (all_below f n) (f n) h).0 below)
    (λ ge. let e : i ≡ n = omega arith in rw e (and_true (all_below f n) (f n) h).1)

-- the lengths of events whose numbers have a byte each, as a number t tells them by two bits for each code below 32
pub short_lengths : (t : ℕ)
    → all_below (λ i. eqb (t / 2 ^ (2 * i) % 4) (cond (known i) (1 + arguments i) 0)) 32 ≡ true
    → (code : ℕ) → code < 32 → t / 2 ^ (2 * code) % 4 ≡ cond (known code) (1 + arguments code) 0
short_lengths t computed code lt = eqb-true _ _ (below_all _ 32 code computed lt)
