-- Sums of numbers f i, f (i + 1), .. of which there are n.
use Prim.Native.Nat.{ℕ, zero, suc, ◌+◌, ◌≤◌, ◌<◌}
use mathlib.Core.Path.{◌≡◌, refl, ap₂}
use mathlib.Core.Logic.{◌≢◌}
use native.Mathlib.Omega.{arith}
use Rattle.number.proofs.Cases.{by_eq}

unfoldable pub sum_from : ℕ → ℕ → (ℕ → ℕ) → ℕ
sum_from i zero f = 0
sum_from i (suc n) f = f i + sum_from (suc i) n f

pub sum_same : (i n : ℕ) (f g : ℕ → ℕ) → ((j : ℕ) → i ≤ j → j < i + n → f j ≡ g j)
    → sum_from i n f ≡ sum_from i n g
unfolding sum_from
sum_same i zero f g h = refl
sum_same i (suc n) f g h =
    ap₂ (λ (x y : ℕ). x + y) (h i (omega arith) (omega arith))
    (sum_same (suc i) n f g (λ j l m. h j (omega arith) (omega arith)))

pub sum_zero : (i n : ℕ) (f : ℕ → ℕ) → ((j : ℕ) → i ≤ j → j < i + n → f j ≡ 0) → sum_from i n f ≡ 0
unfolding sum_from
sum_zero i zero f h = refl
sum_zero i (suc n) f h =
    omega (arith, h i (omega arith) (omega arith), sum_zero (suc i) n f (λ j l m. h j (omega arith) (omega arith)))

pub sum_add : (i n : ℕ) (f g : ℕ → ℕ) → sum_from i n (λ j. f j + g j) ≡ sum_from i n f + sum_from i n g
unfolding sum_from
sum_add i zero f g = refl
sum_add i (suc n) f g = omega (arith, sum_add (suc i) n f g)

-- two that differ in one place, by one
pub sum_one : (i n : ℕ) (f g : ℕ → ℕ) (k : ℕ) → i ≤ k → k < i + n → f k ≡ suc (g k)
    → ((j : ℕ) → i ≤ j → j < i + n → j ≢ k → f j ≡ g j)
    → sum_from i n f ≡ suc (sum_from i n g)
unfolding sum_from
sum_one i zero f g k l m e h = absurd (omega arith)
sum_one i (suc n) f g k l m e h =
    by_eq i k
    (λ same.
    let here : f i ≡ suc (g i) = rw same e in
    omega (
      arith,
      sum_same (suc i) n f g (λ j p q. h j (omega arith) (omega arith) (λ z. omega arith)),
    ))
    (λ other. omega (
      arith,
      h i (omega arith) (omega arith) other,
      sum_one (suc i) n f g k (omega (arith, other)) (omega arith) e (λ j p q. h j (omega arith) (omega arith)),
    ))
