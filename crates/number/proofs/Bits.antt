-- What `|`, `&` and taking away make of the bits of numbers, each bit by itself.
--
-- In order: `|`; `&`; what a number shares with a complement; the bits of one number without those of another; a number
-- without bits. Each law goes by halving, so that omega sees the lowest bit only.
use Prim.Native.Nat.{ℕ, zero, suc, ◌+◌, ◌-◌, ◌*◌, ◌/◌, ◌%◌, ◌^◌, max, min, ◌≤◌, ◌<◌}
use mathlib.Core.Path.{◌≡◌, refl, sym, ap, ◌∙◌}
use mathlib.Core.Bool.{false, true≢false, not, ◌&&◌, ◌||◌}
use native.Mathlib.Nat.{pow-suc, div-one}
use native.Mathlib.Numerals.{one-add}
use native.Mathlib.Omega.{arith}
use lib.Arith.{lt-one}
use lib.Bits.{bit_and, bit_or, and_step, and_shr, and_le_l, or_step, or_shr}
use lib.Dec.{eqb}
use lib.Pow.{shr-shr}

-- what holds of 0 and 1 holds of two bits
of_bits : (P : ℕ → ℕ → Type 0) → P 0 0 → P 0 1 → P 1 0 → P 1 1 → (x y : ℕ) → x ≤ 1 → y ≤ 1 → P x y
of_bits P a b c d zero zero h k = a
of_bits P a b c d zero (suc zero) h k = b
of_bits P a b c d (suc zero) zero h k = c
of_bits P a b c d (suc zero) (suc zero) h k = d
of_bits P a b c d (suc (suc x)) y h k = absurd (omega arith)
of_bits P a b c d zero (suc (suc y)) h k = absurd (omega arith)
of_bits P a b c d (suc zero) (suc (suc y)) h k = absurd (omega arith)

lowest_bit : (n b : ℕ) → b ≤ 1 → eqb ((n * 2 + b) % 2) 1 ≡ eqb b 1
lowest_bit n b h = let e : (n * 2 + b) % 2 ≡ b = omega arith in ap (λ (x : ℕ). eqb x 1) e

-- a bit of an `|` is set exactly if one of the two is
pub or_bit : (w v i : ℕ) → eqb (bit_or w v / 2 ^ i % 2) 1 ≡ eqb (w / 2 ^ i % 2) 1 || eqb (v / 2 ^ i % 2) 1
or_bit w v i =
    ap (λ (n : ℕ). eqb (n % 2) 1) (or_shr w v i ∙ or_step (w / 2 ^ i) (v / 2 ^ i))
    ∙ lowest_bit (bit_or (w / 2 ^ i / 2) (v / 2 ^ i / 2)) _ (omega arith)
    ∙ of_bits (λ x y. eqb (max x y) 1 ≡ eqb x 1 || eqb y 1) refl refl refl refl (w / 2 ^ i % 2) (v / 2 ^ i % 2)
    (omega arith) (omega arith)

-- and of an `&` exactly if both are
pub and_bits : (w v i : ℕ) → eqb (bit_and w v / 2 ^ i % 2) 1 ≡ eqb (w / 2 ^ i % 2) 1 && eqb (v / 2 ^ i % 2) 1
and_bits w v i =
    ap (λ (n : ℕ). eqb (n % 2) 1) (and_shr w v i ∙ and_step (w / 2 ^ i) (v / 2 ^ i))
    ∙ lowest_bit (bit_and (w / 2 ^ i / 2) (v / 2 ^ i / 2)) _ (omega arith)
    ∙ of_bits (λ x y. eqb (min x y) 1 ≡ eqb x 1 && eqb y 1) refl refl refl refl (w / 2 ^ i % 2) (v / 2 ^ i % 2)
    (omega arith) (omega arith)

-- a number of k bits is what it shares with another, and what it shares with that one's complement
pub and_not : (k w a : ℕ) → w < 2 ^ k → a < 2 ^ k → bit_and w (2 ^ k - 1 - a) + bit_and w a ≡ w
and_not zero w a hw ha = simp (lt-one hw)
and_not (suc k) w a hw ha =
    rw (and_step w (2 ^ suc k - 1 - a), and_step w a, half, low)
    (omega (arith, and_not k (w / 2) (a / 2) (omega (arith, pow-suc 2 k)) (omega (arith, pow-suc 2 k))))
  where
    half : (2 ^ suc k - 1 - a) / 2 ≡ 2 ^ k - 1 - a / 2
    half = omega (arith, pow-suc 2 k)

    low : (2 ^ suc k - 1 - a) % 2 ≡ 1 - a % 2
    low = omega (arith, pow-suc 2 k)

-- a number without what it shares with another has the bits that the other has not
pub without_bit : (w v i : ℕ)
    → eqb ((w - bit_and w v) / 2 ^ i % 2) 1 ≡ eqb (w / 2 ^ i % 2) 1 && not (eqb (v / 2 ^ i % 2) 1)
without_bit w v i = ap (λ (n : ℕ). eqb (n % 2) 1) (shifted i w v) ∙ low (w / 2 ^ i) (v / 2 ^ i)
  where
    half : (w v : ℕ) → (w - bit_and w v) / 2 ≡ w / 2 - bit_and (w / 2) (v / 2)
    half w v = rw (and_step w v) (omega (arith, and_le_l (w / 2) (v / 2)))

    shifted : (i w v : ℕ) → (w - bit_and w v) / 2 ^ i ≡ w / 2 ^ i - bit_and (w / 2 ^ i) (v / 2 ^ i)
    shifted zero w v = rw (div-one (w - bit_and w v), div-one w, div-one v)
    shifted (suc i) w v =
        rw (← one-add i, ← shr-shr (w - bit_and w v) 1 i, ← shr-shr w 1 i, ← shr-shr v 1 i)
        (ap (λ (n : ℕ). n / 2 ^ i) (half w v) ∙ shifted i (w / 2) (v / 2))

    lowest : (w v : ℕ) → (w - bit_and w v) % 2 ≡ w % 2 - min (w % 2) (v % 2)
    lowest w v = rw (and_step w v) (omega (arith, and_le_l (w / 2) (v / 2)))

    low : (w v : ℕ) → eqb ((w - bit_and w v) % 2) 1 ≡ eqb (w % 2) 1 && not (eqb (v % 2) 1)
    low w v =
        ap (λ (n : ℕ). eqb n 1) (lowest w v)
        ∙ of_bits (λ x y. eqb (x - min x y) 1 ≡ eqb x 1 && not (eqb y 1)) refl refl refl refl (w % 2) (v % 2)
        (omega arith) (omega arith)

-- a number none of whose bits is set is 0
pub no_bit : (n : ℕ) → ((i : ℕ) → eqb (n / 2 ^ i % 2) 1 ≡ false) → n ≡ 0
no_bit n none = go n n (omega arith) none
  where
    unset : (x : ℕ) → x ≤ 1 → eqb x 1 ≡ false → x ≡ 0
    unset zero h e = refl
    unset (suc zero) h e = absurd (true≢false e)
    unset (suc (suc x)) h e = absurd (omega arith)

    go : (k n : ℕ) → n ≤ k → ((i : ℕ) → eqb (n / 2 ^ i % 2) 1 ≡ false) → n ≡ 0
    go zero n h none = omega arith
    go (suc k) n h none =
        let first : n % 2 ≡ 0 =
        unset (n % 2) (omega arith) (ap (λ (x : ℕ). eqb (x % 2) 1) (sym (div-one n)) ∙ none 0) in
        let rest : n / 2 ≡ 0 =
        go k (n / 2) (omega arith)
        (λ i. ap (λ (x : ℕ). eqb (x % 2) 1) (shr-shr n 1 i ∙ ap (λ (j : ℕ). n / 2 ^ j) (one-add i))
        ∙ none (suc i)) in
        omega arith
