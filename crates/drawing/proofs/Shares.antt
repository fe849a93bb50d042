-- Which values pick a code: those from the running sum before it up to its own, as many as its weight.
use Prim.Native.Nat.{ℕ, zero, suc, ◌+◌, ◌-◌, ◌*◌, ◌≤◌, ◌<◌}
use mathlib.Core.Path.{◌≡◌, refl, ◌∙◌}
use mathlib.Core.List.{List, [], ◌∷◌}
use native.Mathlib.Nat.{add-zero}
use native.Mathlib.Omega.{arith}
use borrow.Author.Tests.{lt-ltb, le-ltb}
use lib.ListN.{get_or}
use Rattle.number.proofs.Cases.{by_lt}
use Rattle.drawing.specs.Weights.{weight, sum, running_sum, total, first_above, picked}

-- the running sum grows by the weight of each code
pub sum_step : (ws : List ℕ) (i : ℕ) → running_sum ws (suc i) ≡ running_sum ws i + get_or ws i 0
unfolding sum
sum_step [] zero = refl
sum_step [] (suc i) = refl
sum_step (w ∷ ws) zero = omega arith
sum_step (w ∷ ws) (suc i) = omega (arith, sum_step ws i)

pub sum_mono : (ws : List ℕ) (i j : ℕ) → i ≤ j → running_sum ws i ≤ running_sum ws j
unfolding sum
sum_mono ws zero j h = omega arith
sum_mono ws (suc i) zero h = absurd (omega arith)
sum_mono [] (suc i) (suc j) h = omega arith
sum_mono (w ∷ ws) (suc i) (suc j) h = omega (arith, sum_mono ws i j (omega arith))

-- sums of 16-bit weights fit
pub sum_le : (ws : List ℕ) → ((i : ℕ) → get_or ws i 0 < 65536) → (c : ℕ) → running_sum ws c ≤ 65535 * c
unfolding sum
sum_le ws h zero = omega arith
sum_le ws h (suc c) = omega (arith, sum_step ws c, sum_le ws h c, h c)

before : (k : ℕ) → suc k - 1 ≡ k
before k = omega arith

after : (c : ℕ) → 1 ≤ c → suc (c - 1) ≡ c
after c h = omega arith

module _ (ws : List ℕ) (v : ℕ) where
  above_range : (c n : ℕ) → (c ≤ first_above ws v c n) × (first_above ws v c n ≤ c + n)
  unfolding first_above
  above_range c zero = (omega arith, omega arith)
  above_range c (suc n) =
      by_lt v (running_sum ws c)
      (λ h. rw (lt-ltb v (running_sum ws c) h) (omega arith, omega arith))
      (λ h. let r = above_range (suc c) n in
      rw (le-ltb v (running_sum ws c) h) (omega arith, omega arith))

  -- the code after i is the first above where v lies in its share
  above_here : (i c n : ℕ) → running_sum ws i ≤ v → v < running_sum ws (suc i) → c ≤ suc i → suc i ≤ c + n
      → first_above ws v c n ≡ suc i
  unfolding first_above
  above_here i c zero low high from to = omega arith
  above_here i c (suc n) low high from to =
      by_lt v (running_sum ws c)
      (λ h. rw (lt-ltb v (running_sum ws c) h)
      (by_lt i c (λ after. omega arith) (λ le. absurd (let m = sum_mono ws c i le in omega arith))))
      (λ h. rw (le-ltb v (running_sum ws c) h)
      (above_here i (suc c) n low high
      (by_lt c (suc i) (λ lt. lt) (λ ge. absurd (let m = sum_mono ws (suc i) c ge in omega arith)))
      (omega arith)))

  -- v lies in the share of the first above
  above_share : (b n : ℕ) → running_sum ws b ≤ v → v < running_sum ws (suc b + n)
      → (running_sum ws (first_above ws v (suc b) n - 1) ≤ v) × (v < running_sum ws (first_above ws v (suc b) n))
  unfolding first_above
  above_share b zero low high = (rw (before b) low, rw add-zero at high)
  above_share b (suc n) low high =
      by_lt v (running_sum ws (suc b))
      (λ h. rw (lt-ltb v (running_sum ws (suc b)) h) (rw (before b) low, h))
      (λ h. rw (le-ltb v (running_sum ws (suc b)) h) (above_share (suc b) n h (rw (more b n) at high)))
    where
      more : (k m : ℕ) → suc k + suc m ≡ suc (suc k) + m
      more k m = omega arith

  -- no running sum but the last exceeds v
  above_last : (c n : ℕ) → running_sum ws (c + n - 1) ≤ v → first_above ws v c n ≡ c + n
  unfolding first_above
  above_last c zero h = omega arith
  above_last c (suc n) h =
      let m = sum_mono ws c (c + suc n - 1) (omega arith) in
      rw (le-ltb v (running_sum ws c) (omega arith), above_last (suc c) n (rw (moved c n) at h)) (omega arith)
    where
      moved : (k j : ℕ) → k + suc j - 1 ≡ suc k + j - 1
      moved k j = omega arith

  pub picked_last : running_sum ws 11 ≤ v → picked ws v ≡ 12
  picked_last h = above_last 1 11 h

  pub picked_range : (1 ≤ picked ws v) × (picked ws v ≤ 12)
  picked_range = above_range 1 11

  pub picked_here : (i : ℕ) → i < 12 → running_sum ws i ≤ v → v < running_sum ws (suc i) → picked ws v ≡ suc i
  picked_here i h low high = above_here i 1 11 low high (omega arith) (omega arith)

  pub picked_share : v < total ws
      → (running_sum ws (picked ws v - 1) ≤ v) × (v < running_sum ws (picked ws v))
  unfolding sum
  picked_share h = above_share 0 11 (omega arith) h

  pub picked_weight : v < total ws → 1 ≤ weight ws (picked ws v)
  picked_weight h =
      let s = picked_share h in
      omega (arith, rw (after (picked ws v) picked_range.0) at (sum_step ws (picked ws v - 1)))

  -- no code before the picked one has a running sum that exceeds v
  pub picked_first : v < total ws
      → (v < running_sum ws (picked ws v)) × ((c : ℕ) → c < picked ws v → running_sum ws c ≤ v)
  picked_first h = let s = picked_share h in
      (s.1, λ c lt. let m = sum_mono ws c (picked ws v - 1) (omega arith) in omega arith)

-- the share of a code: which values it has, and how many
pub picked_exactly : (ws : List ℕ) (v c : ℕ) → 1 ≤ c → c ≤ 12 → running_sum ws (c - 1) ≤ v → v < running_sum ws c
    → picked ws v ≡ c
picked_exactly ws v c p q low high = picked_here ws v (c - 1) (omega arith) low (rw (after c p) high) ∙ after c p

pub share_size : (ws : List ℕ) (c : ℕ) → 1 ≤ c → running_sum ws c ≡ running_sum ws (c - 1) + weight ws c
share_size ws c p = rw (after c p) at (sum_step ws (c - 1))
