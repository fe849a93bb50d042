-- The winner of a word: what the search from the top finds, and where the leading zeros end.
use Prim.Native.Nat.{ℕ, zero, suc, ◌+◌, ◌^◌, ◌≤◌, ◌<◌}
use mathlib.Core.Path.{◌≡◌, refl}
use mathlib.Core.Logic.{◌⊎◌, inl, inr}
use mathlib.Core.Bool.{true, false}
use native.Mathlib.Omega.{arith}
use native.Mathlib.Nat.{le_of_suc-le-suc, lt_of_not-le, not-le_of_lt}
use lib.Arith.{lt_of_le-ne}
use lib.Count.{count_leading_zeros, leading_top}
use lib.Pow.{pow_mono}
use Rattle.number.proofs.Cases.{by_test}
use Rattle.word.specs.Word.{ranks, no_winner, has, highest_below, winner}
use Rattle.word.proofs.Bit.{top_set, set_le}
use Rattle.word.proofs.Rank.{has_lt, has_set, set_has}

-- where some rank below n is in the word, the highest one is found
found : (n w i : ℕ) → i < n → has w i ≡ true → (i ≤ highest_below n w) × (has w (highest_below n w) ≡ true)
unfolding highest_below
found zero w i l e = absurd (omega arith)
found (suc n) w i l e =
    by_test (has w n)
    (λ t. rw t (omega arith, t))
    (λ f. rw f (found n w i (below f) e))
  where
    below : has w n ≡ false → i < n
    below f = lt_of_le-ne (omega arith) (λ q. let z : ◌≡◌ {A = ℕ} 0 1 = cc in omega arith)

-- and where none is, there is no winner
cases : (n w : ℕ) → (highest_below n w ≡ no_winner) ⊎ (has w (highest_below n w) ≡ true)
unfolding highest_below
cases zero w = inl refl
cases (suc n) w = by_test (has w n) (λ t. rw t (inr t)) (λ f. rw f (cases n w))

pub winner_cases : (w : ℕ) → (winner w ≡ no_winner) ⊎ (has w (winner w) ≡ true)
unfolding winner
winner_cases w = cases ranks w

pub winner_found : (w i : ℕ) → has w i ≡ true → (i ≤ winner w) × (has w (winner w) ≡ true)
unfolding winner
winner_found w i e = found ranks w i (has_lt w i e) e

pow_le : (i j : ℕ) → 2 ^ i < 2 ^ suc j → i ≤ j
pow_le i j h = le_of_suc-le-suc (lt_of_not-le (λ g. not-le_of_lt h (pow_mono g)))

module _ (w : ℕ) (some : 0 < w) (fits : w < 2 ^ ranks) where
  -- the index of the highest bit is a rank in the word, so the search finds it or a higher one
  top_found : ((leading_top ranks w some fits).0 ≤ winner w) × (has w (winner w) ≡ true)
  top_found = let t = leading_top ranks w some fits in
      winner_found w t.0 (set_has w t.0 (omega arith) (top_set w t.0 t.2 t.3))

  pub winner_has : has w (winner w) ≡ true
  winner_has = top_found.1

  -- the leading zeros, the winner's bit and the bits below it make the word
  pub winner_leading : count_leading_zeros ranks w + suc (winner w) ≡ ranks
  winner_leading = let t = leading_top ranks w some fits in
      let low = set_le w (winner w) (has_set w (winner w) winner_has) in
      let below = pow_le (winner w) t.0 (omega (arith, low)) in
      omega (arith, below, top_found.0)
