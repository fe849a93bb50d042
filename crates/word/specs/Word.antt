-- A 32-bit word as a set of ranks, "one request bit per rank".
--
--   has w r    rank r is in w
--   with w r   w with rank r in it; without w r: with rank r not in it
--   union w v  the ranks of both words
--   winner w   the highest rank in w, or `no_winner`
--
-- Main laws: `winner_has` and `winner_highest` (proofs/Theorems.antt).
use Rattle.std.specs.Prelude.{ℕ, zero, suc, ◌+◌, ◌-◌, ◌/◌, ◌%◌, ◌^◌, Bool, cond, not, ◌&&◌, ltb, eqb}
use Rattle.std.specs.Int.Bits.{bit_or}

-- how many ranks there are, 0 the lowest
abbrev pub ranks : ℕ
ranks = 32

-- the winner of the empty word, which is no rank
abbrev pub no_winner : ℕ
no_winner = ranks

-- the bit of rank r is worth 2 ^ r
unfoldable pub has : ℕ → ℕ → Bool
has w r = ltb r ranks && eqb (w / 2 ^ r % 2) 1

-- a rank that is in already changes nothing, nor does a number that is no rank
unfoldable pub with : ℕ → ℕ → ℕ
with w r = cond (ltb r ranks && not (has w r)) (w + 2 ^ r) w

unfoldable pub without : ℕ → ℕ → ℕ
without w r = cond (has w r) (w - 2 ^ r) w

unfoldable pub union : ℕ → ℕ → ℕ
union w v = bit_or w v

-- the highest rank below n in w
unfoldable pub highest_below : ℕ → ℕ → ℕ
highest_below zero w = no_winner
highest_below (suc n) w = cond (has w n) n (highest_below n w)

-- "the arbiter's winner is the highest bit set in that word"
unfoldable pub winner : ℕ → ℕ
winner w = highest_below ranks w
