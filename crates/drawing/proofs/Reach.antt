-- Every code with a weight is drawn: `code_drawn`. The running sum before it picks it, with the sum of all weights added
-- so that it is not 0, and is the next one of some value.
use Prim.Native.Nat.{ℕ, ◌+◌, ◌-◌, ◌%◌, ◌≤◌, ◌<◌}
use mathlib.Core.Path.{◌≡◌, ap, ◌∙◌}
use mathlib.Core.List.{List}
use native.Mathlib.Nat.{add-mod_right, mod-eq_of_lt}
use native.Mathlib.Omega.{arith}
use lib.ListN.{get_or}
use Rattle.drawing.specs.Weights.{weight, total, running_sum, picked}
use Rattle.drawing.specs.Drawing.{with_arguments, draw_event}
use Rattle.drawing.proofs.Generator.{previous, previous_positive, previous_lt, next_previous}
use Rattle.drawing.proofs.Shares.{sum_mono, sum_le, share_size, picked_exactly}

-- a value that picks c
abbrev picking : List ℕ → ℕ → ℕ
picking ws c = running_sum ws (c - 1) + total ws

module _ (ws ls : List ℕ) (c : ℕ) (small : (i : ℕ) → get_or ws i 0 < 65536) (from : 1 ≤ c) (to : c ≤ 12)
    (some : 1 ≤ weight ws c) where
  within : running_sum ws (c - 1) + weight ws c ≤ total ws
  within = omega (arith, share_size ws c from, sum_mono ws c 12 to)

  picks : picked ws (picking ws c % total ws) ≡ c
  picks =
      ap (picked ws) (add-mod_right (running_sum ws (c - 1)) (total ws) ∙ mod-eq_of_lt (omega (arith, within)))
      ∙ picked_exactly ws (running_sum ws (c - 1)) c from to (omega arith) (omega (arith, share_size ws c from))

  positive : 1 ≤ picking ws c
  positive = omega (arith, within)

  in_range : picking ws c < 4294967296
  in_range = omega (arith, within, sum_le ws small 12)

  pub code_drawn : (x : ℕ) × (1 ≤ x) × (x < 4294967296) × ((draw_event ws ls x).event.code ≡ c)
  unfolding draw_event with_arguments
  code_drawn = (
    previous (picking ws c),
    previous_positive (picking ws c) positive in_range,
    previous_lt (picking ws c) in_range,
    ap (λ (y : ℕ). picked ws (y % total ws)) (next_previous (picking ws c) in_range) ∙ picks,
  )
