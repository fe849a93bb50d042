-- How many resources are free, and what one that is taken or given back changes.
use Prim.Native.Nat.{ℕ, zero, suc, ◌+◌, ◌≤◌, ◌<◌}
use mathlib.Core.Path.{◌≡◌, refl, ap₂}
use mathlib.Core.Logic.{◌≢◌}
use mathlib.Core.Bool.{Bool, true, false, cond}
use native.Mathlib.Omega.{arith}
use Rattle.number.proofs.Cases.{by_eq}
use Rattle.word.specs.Word.{has}
use Rattle.word.proofs.Theorems.{empty}
use Rattle.machine.proofs.Relation.Slots.{missing}

-- two words that differ in r alone, which the first has
module _ (u v r : ℕ) (others : (i : ℕ) → i ≢ r → has u i ≡ has v i) where
  same_below : (n : ℕ) → n ≤ r → missing n u ≡ missing n v
  unfolding missing
  same_below zero h = refl
  same_below (suc n) h =
      ap₂ (λ (b : Bool) (k : ℕ). cond b 0 1 + k) (others n (λ e. absurd (omega arith))) (same_below n (omega arith))

  pub missing_one : (n : ℕ) → r < n → has u r ≡ true → has v r ≡ false → missing n v ≡ missing n u + 1
  unfolding missing
  missing_one zero h a b = absurd (omega arith)
  missing_one (suc n) h a b =
      by_eq n r
      (λ e. let q : missing n u ≡ missing n v = same_below n (omega arith) in
      rw (e, a, b) (omega (arith, rw e at q)))
      (λ d. let q = missing_one n (omega arith) a b in rw (others n d) (omega arith))

-- of no resources all are missing
pub missing_empty : (n : ℕ) → missing n 0 ≡ n
unfolding missing
missing_empty zero = refl
missing_empty (suc n) = rw (empty n, missing_empty n) (omega arith)
