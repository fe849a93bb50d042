-- What the code's `|`, `&` and `!` make of one bit: `or_with` and `and_without`.
use Prim.Native.Nat.{ℕ, ◌+◌, ◌-◌, ◌*◌, ◌%◌, ◌^◌, ◌<◌}
use mathlib.Core.Path.{◌≡◌, ap, ◌∙◌}
use native.Mathlib.Nat.{pow-suc, one-mul}
use native.Mathlib.Numerals.{one-add}
use native.Mathlib.Omega.{arith}
use lib.Bits.{bit_and, bit_or, and_high, or_add_and}
use lib.Dec.{lit<}
use lib.Pow.{pow-lt, shl_exact}
use Rattle.number.proofs.Bits.{and_not}
use Rattle.word.specs.Word.{ranks, with, without}
use Rattle.word.proofs.Bit.{bit}
use Rattle.word.proofs.Rank.{has_set, has_clear, with_elim, without_elim}

-- the bit of w at r, alone
and_bit : (w r : ℕ) → bit_and w (2 ^ r) ≡ bit w r * 2 ^ r
and_bit w r = ap (bit_and w) worth ∙ and_high w 1 r
  where
    worth : 2 ^ r ≡ 2 ^ (1 + r) - 2 ^ r
    worth = rw one-add (omega (arith, pow-suc 2 r))

module _ (w r : ℕ) (rank : r < ranks) where
  -- 1 shifted to a rank stays in the word
  shifted : (1 * 2 ^ r) % 2 ^ ranks ≡ 2 ^ r
  shifted = shl_exact {a = 1} 1 r ranks (lit< tt) (omega arith) ∙ one-mul (2 ^ r)

  pub or_with : bit_or w ((1 * 2 ^ r) % 2 ^ ranks) ≡ with w r
  or_with =
      rw shifted
      (with_elim (λ (v : ℕ). bit_or w (2 ^ r) ≡ v) w r
      (λ kept. omega (arith, or_add_and w (2 ^ r), rw (has_set w r (kept rank)) at (and_bit w r)))
      (λ _ c. omega (arith, or_add_and w (2 ^ r), rw c at (and_bit w r))))

  pub and_without : w < 2 ^ ranks → bit_and w (2 ^ ranks - 1 - (1 * 2 ^ r) % 2 ^ ranks) ≡ without w r
  and_without h =
      rw shifted
      (without_elim (λ (v : ℕ). bit_and w (2 ^ ranks - 1 - 2 ^ r) ≡ v) w r
      (λ e. omega (arith, whole, rw (has_clear w r rank e) at (and_bit w r)))
      (λ _ s. omega (arith, whole, rw s at (and_bit w r))))
    where
      whole : bit_and w (2 ^ ranks - 1 - 2 ^ r) + bit_and w (2 ^ r) ≡ w
      whole = and_not ranks w (2 ^ r) h (pow-lt rank)
