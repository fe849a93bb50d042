-- One bit of a number, at any index: what adding its worth and taking it away do to it and to the other bits.
--
-- In order: the lowest bit and those above it; a clear bit added; the highest bit; a set bit taken away; numbers with
-- the same bits; a number all of whose bits are set.
-- Each law goes by halving, so that omega sees the lowest bit only.
use Prim.Native.Nat.{ℕ, zero, suc, ◌+◌, ◌-◌, ◌/◌, ◌%◌, ◌^◌, ◌≤◌, ◌<◌}
use mathlib.Core.Path.{◌≡◌, refl, sym, ap, ◌∙◌}
use native.Mathlib.Nat.{pow-suc, div-one}
use native.Mathlib.Numerals.{one-add}
use native.Mathlib.Omega.{arith}
use lib.Pow.{shr-shr}

-- 1 where the bit of w at index i is set, else 0
abbrev pub bit : ℕ → ℕ → ℕ
bit w i = w / 2 ^ i % 2

bit_zero : (w : ℕ) → bit w 0 ≡ w % 2
bit_zero w = ap (λ (n : ℕ). n % 2) (div-one w)

bit_suc : (w i : ℕ) → bit w (suc i) ≡ bit (w / 2) i
bit_suc w i = rw (← one-add i, ← shr-shr w 1 i)

add_half : (w r : ℕ) → (w + 2 ^ suc r) / 2 ≡ w / 2 + 2 ^ r
add_half w r = omega (arith, pow-suc 2 r)

sub_half : (w r : ℕ) → (w - 2 ^ suc r) / 2 ≡ w / 2 - 2 ^ r
sub_half w r = omega (arith, pow-suc 2 r)

-- a clear bit added
pub add_same : (w r : ℕ) → bit w r ≡ 0 → bit (w + 2 ^ r) r ≡ 1
add_same w zero h = omega (arith, bit_zero w, bit_zero (w + 1))
add_same w (suc r) h = rw (bit_suc, add_half) (add_same (w / 2) r (rw bit_suc at h))

pub add_other : (w r i : ℕ) → bit w r ≡ 0 → (i ≡ r → ⊥) → bit (w + 2 ^ r) i ≡ bit w i
add_other w zero zero h d = absurd (d refl)
add_other w zero (suc i) h d = simp bit_suc (ap (λ (n : ℕ). bit n i) (omega (arith, bit_zero w)))
add_other w (suc r) zero h d = simp bit_zero (omega (arith, pow-suc 2 r))
add_other w (suc r) (suc i) h d = simp (bit_suc, add_half) (add_other (w / 2) r i (rw bit_suc at h) (λ e. d (ap suc e)))

pub add_lt : (k w r : ℕ) → r < k → w < 2 ^ k → bit w r ≡ 0 → w + 2 ^ r < 2 ^ k
add_lt zero w r l h c = absurd (omega arith)
add_lt (suc k) w zero l h c = omega (arith, pow-suc 2 k, bit_zero w)
add_lt (suc k) w (suc r) l h c =
    let half = add_lt k (w / 2) r (omega arith) (omega (arith, pow-suc 2 k)) (rw bit_suc at c) in
    omega (arith, pow-suc 2 k, pow-suc 2 r, half)

-- the highest bit of a number is set
pub top_set : (w r : ℕ) → 2 ^ r ≤ w → w < 2 ^ suc r → bit w r ≡ 1
top_set w zero l h = omega (arith, bit_zero w)
top_set w (suc r) l h = rw bit_suc (top_set (w / 2) r (omega (arith, pow-suc 2 r)) (omega (arith, pow-suc 2 (suc r))))

-- a set bit taken away
pub set_le : (w r : ℕ) → bit w r ≡ 1 → 2 ^ r ≤ w
set_le w zero h = omega (arith, bit_zero w)
set_le w (suc r) h = omega (arith, pow-suc 2 r, set_le (w / 2) r (rw bit_suc at h))

pub sub_same : (w r : ℕ) → bit w r ≡ 1 → bit (w - 2 ^ r) r ≡ 0
sub_same w zero h = omega (arith, bit_zero w, bit_zero (w - 1))
sub_same w (suc r) h = rw (bit_suc, sub_half) (sub_same (w / 2) r (rw bit_suc at h))

pub sub_other : (w r i : ℕ) → bit w r ≡ 1 → (i ≡ r → ⊥) → bit (w - 2 ^ r) i ≡ bit w i
sub_other w r i h d = sym (add_other (w - 2 ^ r) r i (sub_same w r h) d) ∙ ap (λ (n : ℕ). bit n i) back
  where
    back : w - 2 ^ r + 2 ^ r ≡ w
    back = omega (arith, set_le w r h)

-- numbers of k bits are equal where their bits are
pub bits_same : (k w v : ℕ) → w < 2 ^ k → v < 2 ^ k → ((i : ℕ) → i < k → bit w i ≡ bit v i) → w ≡ v
bits_same zero w v hw hv e = omega arith
bits_same (suc k) w v hw hv e =
    omega (
      arith,
      bit_zero w,
      bit_zero v,
      e 0 (omega arith),
      bits_same k (w / 2) (v / 2) (omega (arith, pow-suc 2 k)) (omega (arith, pow-suc 2 k))
          (λ i l. sym (bit_suc w i) ∙ e (suc i) (omega arith) ∙ bit_suc v i),
    )
