-- What one tick makes of a cell, for a counter of any modulus M: its four cases, and a cell that is off.
use Rattle.std.proofs.Common.{◌≡◌, ℕ, zero, suc, true, false, refl, ap, ◌∙◌, eq-eqb, ne_eqb}
use mathlib.Core.Bool.{and-true}
use Rattle.cell.specs.declared.Cell.{Cell}
use Rattle.cell.specs.Cell.{cell_of, unmarked, sum_in, reset_in, tick_cell_in, ticks_in}

module _ (M : ℕ) (c : Cell) where
  pub ticked_off : c.on ≡ false → tick_cell_in M c ≡ unmarked c.counter c.compare false c.turn
  unfolding tick_cell_in
  ticked_off off = simp (off, and-true)

  -- n is what the addition gives
  module _ {n : ℕ} (on : c.on ≡ true) (sum : n ≡ sum_in M c.counter) where
    pub ticked_matched : c.turn ≡ false → n ≡ c.compare
        → tick_cell_in M c ≡ cell_of (reset_in M) c.compare true true false
    unfolding tick_cell_in
    ticked_matched none meets = simp (on, none, ← sum, eq-eqb _ _ meets)

    -- a turn has passed
    pub ticked_turned : c.turn ≡ true → n ≡ c.compare → tick_cell_in M c ≡ unmarked n c.compare true false
    unfolding tick_cell_in
    ticked_turned some meets = simp (on, some, ← sum, eq-eqb _ _ meets)

    pub ticked_passed : (n ≡ c.compare → ⊥) → tick_cell_in M c ≡ unmarked n c.compare true c.turn
    unfolding tick_cell_in
    ticked_passed misses = simp (on, ← sum, ne_eqb _ _ misses, and-true)

pub off_ticks : (M n : ℕ) (c : Cell) → c.on ≡ false
    → ticks_in M (suc n) c ≡ unmarked c.counter c.compare false c.turn
unfolding ticks_in
off_ticks M zero c off = ticked_off M c off
off_ticks M (suc n) c off = ap (ticks_in M (suc n)) (ticked_off M c off) ∙ off_ticks M n _ refl
