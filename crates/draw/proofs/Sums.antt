-- The running sum of the weights, added up one by one.
use Prim.Native.Nat.{ℕ, ◌+◌, ◌*◌, ◌≤◌, ◌<◌}
use mathlib.Core.Path.{◌≡◌, refl, sym, ap, ◌∙◌}
use mathlib.Core.List.{List}
use native.Mathlib.Numerals.{add-one}
use native.Mathlib.Omega.{arith}
use lib.ListN.{get_or}
use Rattle.drawing.specs.Weights.{sum, running_sum, picked}
use Rattle.drawing.proofs.Shares.{sum_step, picked_here}

pub record Summed (ws : List ℕ) (i s : ℕ) : Type 0 where
  pub is_running_lem : s ≡ running_sum ws i
  pub small : s ≤ 65535 * i

pub summed_start : (ws : List ℕ) → Summed ws 0 0
unfolding sum
summed_start ws = record { is_running_lem = refl; small = omega arith }

pub summed_end : {ws : List ℕ} {i s : ℕ} → Summed ws i s → (n : ℕ) → i ≡ n → s ≡ running_sum ws n
summed_end {ws} p n e = p.is_running_lem ∙ ap (running_sum ws) e

module _ {ws : List ℕ} {i s w : ℕ} (p : Summed ws i s) (here : w ≡ get_or ws i 0) (small : w < 65536) where
  pub summed_step : Summed ws (i + 1) (s + w)
  summed_step =
      record { is_running_lem = rw add-one (omega (arith, p.is_running_lem, sum_step ws i)); small = omega (arith, p.small) }

  -- a value that the sum before does not exceed, and the sum with this weight does, picks this code
  pub summed_picks : (v : ℕ) → i < 12 → s ≤ v → v < s + w → i + 1 ≡ picked ws v
  summed_picks v few low high =
      add-one i
      ∙ sym (picked_here ws v i few (omega (arith, p.is_running_lem)) (omega (arith, p.is_running_lem, sum_step ws i)))
