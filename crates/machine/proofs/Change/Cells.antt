-- What starting and stopping a run of cells stores: inside the run each cell gets its value, outside it all stays.
use Prim.Native.Nat.{ℕ, zero, suc, ◌+◌, ◌≤◌, ◌<◌}
use mathlib.Core.Path.{◌≡◌, refl, ◌∙◌}
use mathlib.Core.List.{List}
use native.Mathlib.Omega.{arith}
use lib.ListN.{length, get_or, set, length-set}
use lib.Seq.{get_or-set_same, get_or-set_other}
use Rattle.number.proofs.Cases.{by_eq}
use Rattle.machine.specs.Cells.{spread}

module _ (f : ℕ → ℕ) where
  pub length_spread : (k e : ℕ) (l : List ℕ) → length (spread f k e l) ≡ length l
  unfolding spread
  length_spread zero e l = refl
  length_spread (suc k) e l = length_spread k (suc e) (set l e (f e)) ∙ length-set l e (f e)

  pub spread_before : (k e : ℕ) (l : List ℕ) (i d : ℕ) → i < e → get_or (spread f k e l) i d ≡ get_or l i d
  unfolding spread
  spread_before zero e l i d h = refl
  spread_before (suc k) e l i d h =
      spread_before k (suc e) (set l e (f e)) i d (omega arith)
      ∙ get_or-set_other l e i (f e) d (λ q. absurd (omega arith))

  pub spread_after : (k e : ℕ) (l : List ℕ) (i d : ℕ) → e + k ≤ i → get_or (spread f k e l) i d ≡ get_or l i d
  unfolding spread
  spread_after zero e l i d h = refl
  spread_after (suc k) e l i d h =
      spread_after k (suc e) (set l e (f e)) i d (omega arith)
      ∙ get_or-set_other l e i (f e) d (λ q. absurd (omega arith))

  pub spread_inside : (k e : ℕ) (l : List ℕ) (i d : ℕ) → e ≤ i → i < e + k → i < length l
      → get_or (spread f k e l) i d ≡ f i
  unfolding spread
  spread_inside zero e l i d low high h = absurd (omega arith)
  spread_inside (suc k) e l i d low high h =
      by_eq i e
      (λ q. rw q (spread_before k (suc e) (set l e (f e)) e d (omega arith) ∙ get_or-set_same l e (f e) d (omega arith)))
      (λ n. spread_inside k (suc e) (set l e (f e)) i d (omega (arith, n)) (omega arith) (rw (length-set l e (f e)) h))
