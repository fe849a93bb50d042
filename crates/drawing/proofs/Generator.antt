-- The generator runs through its values one to one: `previous` undoes `next`, and `next` undoes `previous`. A step made
-- twice has its shift doubled, so that 13 made four times, 17 twice and 5 eight times leave every value as it was.
use Prim.Native.Nat.{ℕ, zero, suc, ◌+◌, ◌≤◌, ◌<◌}
use mathlib.Core.Path.{◌≡◌, refl, sym, ap, ◌∙◌}
use native.Mathlib.Nat.{mod-lt, lt_of_le_of_lt}
use native.Mathlib.Omega.{arith}
use lib.Dec.{lit≤}
use lib.Bits.{xor_lt}
use lib.Pow.{pow_pos, shr_le}
use Rattle.number.proofs.Cases.{by_eq}
use Rattle.drawing.specs.Xorshift.{width, value_bound, xor_left, xor_right, next}
use Rattle.drawing.proofs.Shift.{left_twice, right_twice, left_out, right_out}

-- no step leaves the 32 bits
left_lt : (k x : ℕ) → x < value_bound → xor_left k x < value_bound
unfolding xor_left
left_lt k x h = xor_lt width x _ h (mod-lt _ (pow_pos width))

right_lt : (k x : ℕ) → x < value_bound → xor_right k x < value_bound
unfolding xor_right
right_lt k x h = xor_lt width x _ h (lt_of_le_of_lt (shr_le x k) h)

pub next_lt : (x : ℕ) → x < value_bound → next x < value_bound
unfolding next
next_lt x h = left_lt 5 _ (right_lt 17 _ (left_lt 13 x h))

-- f made n times
times : ℕ → (ℕ → ℕ) → ℕ → ℕ
times zero f x = x
times (suc n) f x = f (times n f x)

four : (k x : ℕ) → times 4 (xor_left k) x ≡ xor_left (k + k + (k + k)) x
unfolding times
four k x = left_twice k (xor_left k (xor_left k x)) ∙ ap (xor_left (k + k)) (left_twice k x) ∙ left_twice (k + k) x

four_13 : (x : ℕ) → times 4 (xor_left 13) x ≡ x
four_13 x = four 13 x ∙ left_out 52 x (lit≤ tt)

eight_5 : (x : ℕ) → times 8 (xor_left 5) x ≡ x
unfolding times
eight_5 x =
    four 5 (times 4 (xor_left 5) x) ∙ ap (xor_left 20) (four 5 x) ∙ left_twice 20 x ∙ left_out 40 x (lit≤ tt)

twice_17 : (x : ℕ) → x < value_bound → xor_right 17 (xor_right 17 x) ≡ x
twice_17 x h = right_twice 17 x ∙ right_out 34 x (lit≤ tt) h

pub previous : ℕ → ℕ
previous x = times 3 (xor_left 13) (xor_right 17 (times 7 (xor_left 5) x))

times_lt : (n k x : ℕ) → x < value_bound → times n (xor_left k) x < value_bound
unfolding times
times_lt zero k x h = h
times_lt (suc n) k x h = left_lt k _ (times_lt n k x h)

pub previous_lt : (x : ℕ) → x < value_bound → previous x < value_bound
unfolding previous
previous_lt x h = times_lt 3 13 _ (right_lt 17 _ (times_lt 7 5 x h))

pub previous_next : (x : ℕ) → x < value_bound → previous (next x) ≡ x
unfolding previous next times
previous_next x h =
    ap (λ (y : ℕ). times 3 (xor_left 13) (xor_right 17 y)) (eight_5 (xor_right 17 (xor_left 13 x)))
    ∙ ap (times 3 (xor_left 13)) (twice_17 (xor_left 13 x) (left_lt 13 x h))
    ∙ four_13 x

pub next_previous : (x : ℕ) → x < value_bound → next (previous x) ≡ x
unfolding previous next times
next_previous x h =
    ap (λ (y : ℕ). xor_left 5 (xor_right 17 y)) (four_13 (xor_right 17 (times 7 (xor_left 5) x)))
    ∙ ap (xor_left 5) (twice_17 (times 7 (xor_left 5) x) (times_lt 7 5 x h))
    ∙ eight_5 x

-- 0 is followed by 0 alone
next_zero : next 0 ≡ 0
unfolding next xor_left xor_right
next_zero = refl

pub next_injective : (x y : ℕ) → x < value_bound → y < value_bound → next x ≡ next y → x ≡ y
next_injective x y h k e = sym (previous_next x h) ∙ ap previous e ∙ previous_next y k

pub next_positive : (x : ℕ) → 1 ≤ x → x < value_bound → 1 ≤ next x
next_positive x p h =
    by_eq (next x) 0
    (λ z. absurd (let e = next_injective x 0 h (pow_pos width) (z ∙ sym next_zero) in omega arith))
    (λ n. omega arith)

pub previous_positive : (x : ℕ) → 1 ≤ x → x < value_bound → 1 ≤ previous x
previous_positive x p h =
    by_eq (previous x) 0
    (λ z. absurd (let e : x ≡ 0 = sym (next_previous x h) ∙ ap next z ∙ next_zero in omega arith))
    (λ n. omega arith)
