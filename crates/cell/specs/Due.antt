-- When an entry is due, by its table's arithmetic alone, and what it is for a cell to keep to that.
--
--   due P D n        an entry with period P and first delay D is due at the n-th tick after its start
--   until_due P D n  the ticks from the n-th one to the next at which it is due
--   OnTime c P D n   c is on, and from the n-th tick on it matches exactly when the entry is due
--   Left c P u       c is on, its next match is u ticks ahead, and every later one P ticks after the one before
--   Periodic c P D   c matches D ticks ahead, then every P ticks, and at no other tick
--
-- Main law: `matches_when_due` (proofs/Theorems.antt).
use Rattle.std.specs.Prelude.{◌≡◌, ℕ, suc, ◌+◌, ◌-◌, ◌*◌, ◌%◌, Bool, true, cond, ◌&&◌, ◌==◌, nat_le, nat_lt}
use Rattle.cell.specs.declared.Cell.{Cell}
use Rattle.cell.specs.Cell.{ticks}

-- "due at the n-th tick after its start exactly when n ≥ D and n − D is a multiple of P"
unfoldable pub due : ℕ → ℕ → ℕ → Bool
due P D n = nat_le D n && (n - D) % P == 0

-- 1 exactly when the next tick is the due one
unfoldable pub until_due : ℕ → ℕ → ℕ → ℕ
until_due P D n = cond (nat_lt n D) (D - n) (P - (n - D) % P)

-- It speaks of the ticks to come and not of the counter, so whoever rests on it does not see how a cell counts.
pub record OnTime (c : Cell) (P D n : ℕ) : Type 0 where
  pub on : c.on ≡ true
  pub matches : (k : ℕ) → (ticks (suc k) c).matched ≡ due P D (n + suc k)

-- a cell u ticks before its next match is in step with an entry that has just been started with first delay u
abbrev pub Left : Cell → ℕ → ℕ → Type 0
Left c P u = OnTime c P u 0

-- the ticks at which c matches, one by one
pub record Periodic (c : Cell) (P D : ℕ) : Type 0 where
  pub at : (j : ℕ) → (ticks (D + j * P) c).matched ≡ true
  pub only : (n : ℕ) → (ticks (suc n) c).matched ≡ true → (j : ℕ) × (suc n ≡ D + j * P)
