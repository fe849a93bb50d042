-- A loop from set bit to set bit of a mask: where the lowest set bit is, and the words of ranks past bits that are 0.
use Prim.Native.Nat.{ℕ, zero, suc, ◌+◌, ◌*◌, ◌/◌, ◌%◌, ◌^◌, ◌<◌, min}
use mathlib.Core.Path.{◌≡◌, refl, sym, ap, ◌∙◌}
use native.Mathlib.Omega.{arith}
use native.Mathlib.Numerals.{add-one}
use native.Mathlib.Nat.{add-zero, mul-one, zero-mul, two-pow-succ, pow-suc, div-div-eq-div-mul, div-eq_of_lt}
use lib.Count.{count_trailing_zeros, under}
use lib.Pow.{pow_mono}
use Rattle.number.proofs.Cases.{by_lt, by_eq}
use Rattle.plan.specs.Words.{marked}
use Rattle.plan.proofs.Words.{marked_without}
use Rattle.plan.proofs.Greatest.{moved}

-- a number is an odd one times the power of its trailing zeros
pub record Lowest (d m : ℕ) : Type 0 where
  pub rest : ℕ
  pub split : m ≡ rest * 2 ^ count_trailing_zeros d m
  pub odd : rest % 2 ≡ 1

pub lowest : (d m : ℕ) → 0 < m → m < 2 ^ d → Lowest d m
unfolding count_trailing_zeros
lowest zero m some few = absurd (omega arith)
lowest (suc d) m some few =
    by_eq (m % 2) 1
    (λ o. record { rest = m; split = rw o (sym (mul-one m)); odd = o })
    (λ e. let even : m % 2 ≡ 0 = omega arith in
    let h = lowest d (m / 2) (omega arith) (omega (arith, two-pow-succ d)) in
    record {
      rest = h.rest;
      split =
          doubled m even h.rest (count_trailing_zeros d (m / 2)) h.split
          ∙ ap (λ (t : ℕ). h.rest * 2 ^ t) (zero_digit (m % 2) (count_trailing_zeros d (m / 2)) even);
      odd = h.odd;
    })
  where
    doubled : (m : ℕ) → m % 2 ≡ 0 → (q t : ℕ) → m / 2 ≡ q * 2 ^ t → m ≡ q * 2 ^ suc t
    doubled m e q t h = rw (two-pow-succ t) (omega arith)

    zero_digit : (r t : ℕ) → r ≡ 0 → suc t ≡ under r t
    zero_digit zero t e = refl
    zero_digit (suc r) t e = absurd (omega arith)

-- the bits of a mask, one by one
module _ (at : ℕ → ℕ) (users n : ℕ) where
  abbrev bit : ℕ → ℕ
  bit b = users / 2 ^ b % 2

  -- the word of the first b bodies, and of n at most
  abbrev pub up_to : ℕ → ℕ
  up_to b = marked at bit 1 (min b n)

  next_bit : (b : ℕ) → users / 2 ^ suc b ≡ users / 2 ^ b / 2
  next_bit b = ap (λ (x : ℕ). users / x) (pow-suc 2 b) ∙ sym (div-div-eq-div-mul users (2 ^ b) 2)

  up_zero : (b : ℕ) → bit b ≡ 0 → up_to b ≡ up_to (suc b)
  up_zero b z =
      by_lt b n
      (λ h. let here : min b n ≡ b = omega arith in
      let more : min (suc b) n ≡ b + 1 = omega arith in
      rw (here, more) (marked_without at bit 1 b (λ o. omega arith)))
      (λ h. let here : min b n ≡ n = omega arith in
      let more : min (suc b) n ≡ n = omega arith in
      rw (here, more) refl)

  pub up_shift : (q k b : ℕ) → users / 2 ^ b ≡ q * 2 ^ k → up_to b ≡ up_to (b + k)
  up_shift q zero b e = rw (add-zero b) refl
  up_shift q (suc k) b e =
      let twice : users / 2 ^ b ≡ 2 * (q * 2 ^ k) = e ∙ rw (two-pow-succ k) (omega arith) in
      up_zero b (rw twice (omega arith))
      ∙ up_shift q k (suc b) (next_bit b ∙ rw twice (omega arith))
      ∙ ap up_to (moved b k)

  -- what is left of the mask after k bits more
  pub rest_shift : (q k b : ℕ) → users / 2 ^ b ≡ q * 2 ^ k → users / 2 ^ (b + k) ≡ q
  rest_shift q zero b e = rw (add-zero b) (e ∙ mul-one q)
  rest_shift q (suc k) b e =
      let twice : users / 2 ^ b ≡ 2 * (q * 2 ^ k) = e ∙ rw (two-pow-succ k) (omega arith) in
      ap (λ (x : ℕ). users / 2 ^ x) (sym (moved b k)) ∙ rest_shift q k (suc b) (next_bit b ∙ rw twice (omega arith))

  pub rest_next : (b : ℕ) → users / 2 ^ (b + 1) ≡ users / 2 ^ b / 2
  rest_next b = ap (λ (x : ℕ). users / 2 ^ x) (add-one b) ∙ next_bit b

  -- where nothing is left, the word is whole
  pub up_whole : (b : ℕ) → users / 2 ^ b ≡ 0 → up_to b ≡ marked at bit 1 n
  up_whole b e =
      up_shift 0 n b (e ∙ sym (zero-mul (2 ^ n)))
      ∙ ap (marked at bit 1) all
    where
      all : min (b + n) n ≡ n
      all = omega arith

-- a bit of a 32-bit mask is one of 32
pub bit_low : (users b : ℕ) → users < 2 ^ 32 → 0 < users / 2 ^ b → b < 32
bit_low users b few some =
    by_lt b 32
    (λ h. h)
    (λ h. let z : users / 2 ^ b ≡ 0 = div-eq_of_lt (omega (arith, pow_mono h)) in absurd (omega arith))
