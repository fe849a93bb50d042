-- Which event code a value picks, by "weights of 0 to 65,535, one per event code"; document 02, A6, makes them twelve.
--
--   running_sum ws c  the sum of the weights of the codes 1 to c
--   total ws          the sum of all of them
--   picked ws v       the code that a value below the sum picks
--
-- Main laws: `picked_first`, `picked_exactly`, `share_size`, `each_code_drawn` (proofs/Theorems.antt).
use Rattle.std.specs.Prelude.{ℕ, zero, suc, ◌+◌, ◌-◌, cond, List, [], ◌∷◌, ltb, take, get_or}
use Rattle.event.specs.Event.{activate, last_code}

-- the weight of a code; they stand in the order of the codes
abbrev pub weight : List ℕ → ℕ → ℕ
weight ws c = get_or ws (c - activate) 0

unfoldable pub sum : List ℕ → ℕ
sum [] = 0
sum (w ∷ ws) = w + sum ws

abbrev pub running_sum : List ℕ → ℕ → ℕ
running_sum ws c = sum (take c ws)

-- "the sum of the weights" is the running sum of the last code
abbrev pub total : List ℕ → ℕ
total ws = running_sum ws last_code

-- the first of the codes from c on, with n others behind it, whose running sum exceeds v; the last one where none does
unfoldable pub first_above : List ℕ → ℕ → ℕ → ℕ → ℕ
first_above ws v c zero = c
first_above ws v c (suc n) = cond (ltb v (running_sum ws c)) c (first_above ws v (suc c) n)

-- "picks the first code whose running sum exceeds it"
abbrev pub picked : List ℕ → ℕ → ℕ
picked ws v = first_above ws v activate (last_code - activate)
