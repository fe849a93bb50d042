-- What keeps a cell on time: it starts so, a tick keeps it so, and the ticks left to its next match fall one by one.
--
-- Nothing here knows how a cell counts but `on_time_start`, which rests on `Match`.
use Rattle.std.proofs.Common.{◌≡◌, ℕ, suc, ◌+◌, ◌-◌, ◌*◌, ◌<◌, ◌≤◌, Bool, true, false, sym, refl, ap, ◌∙◌, arith}
use Rattle.cell.specs.declared.Cell.{Cell}
use Rattle.cell.specs.Cell.{modulus, unmarked, start_cell, tick_cell_in, ticks_in, tick_cell, ticks}
use Rattle.cell.specs.Due.{due, until_due, OnTime, Left, Periodic}
use Rattle.cell.proofs.Due as Due
use Rattle.cell.proofs.Match as Match

module _ (P D : ℕ) where
  pub on_time_start : 1 ≤ P → P ≤ modulus → 1 ≤ D → D ≤ modulus + modulus → OnTime (start_cell P D) P D 0
  on_time_start one_le P_fits some D_fits =
      record {
        on = refl;
        matches = λ k. let e : 0 + suc k ≡ suc k = omega arith in
            rw e (Match.matches_when_due modulus P one_le P_fits D k some D_fits);
      }

  pub started_periodic : 1 ≤ P → P ≤ modulus → 1 ≤ D → D ≤ modulus + modulus → Periodic (start_cell P D) P D
  started_periodic one_le P_fits some D_fits =
      record {
        at = λ j. let e : D + j * P ≡ suc (D - 1 + j * P) = omega arith in
            ap (λ n. (ticks n (start_cell P D)).matched) e ∙ when_due (D - 1 + j * P) ∙ ap (due P D) (sym e)
            ∙ Due.due_at P D j;
        only = λ n is. Due.due_only P D (suc n) (sym (when_due n) ∙ is);
      }
    where
      when_due : (n : ℕ) → (ticks (suc n) (start_cell P D)).matched ≡ due P D (suc n)
      when_due n = Match.matches_when_due modulus P one_le P_fits D n some D_fits

  module _ (c : Cell) (n : ℕ) (on_time : OnTime c P D n) where
    pub on_time_matched : (tick_cell c).matched ≡ due P D (suc n)
    unfolding ticks_in
    on_time_matched = let e : n + 1 ≡ suc n = omega arith in rw e at (on_time.matches 0)

    pub on_time_tick : OnTime (tick_cell c) P D (suc n)
    unfolding ticks_in tick_cell_in
    on_time_tick =
        record {
          on = on_time.on;
          matches = λ k. let e : suc n + suc k ≡ n + suc (suc k) = omega arith in
              rw e (on_time.matches (suc k));
        }

    on_time_unmarked : OnTime (unmarked c.counter c.compare c.on c.turn) P D n
    unfolding ticks_in tick_cell_in
    on_time_unmarked = record { on = on_time.on; matches = on_time.matches }

    pub on_time_left : 1 ≤ P → Left c P (until_due P D n)
    on_time_left one_le =
        record {
          on = on_time.on;
          matches = λ k. let e : 0 + suc k ≡ suc k = omega arith in
              rw e (on_time.matches k ∙ Due.due_from P one_le D n k);
        }

pub on_time_numbers : (P D n i k : ℕ) (on t : Bool) → OnTime (unmarked i k on t) P D n
    → OnTime (unmarked (tick_cell (unmarked i k on t)).counter k on (tick_cell (unmarked i k on t)).turn) P D (suc n)
unfolding tick_cell_in
on_time_numbers P D n i k on t on_time =
    on_time_unmarked P D (tick_cell (unmarked i k on t)) (suc n) (on_time_tick P D (unmarked i k on t) n on_time)

module _ (P : ℕ) (one_le : 1 ≤ P) (c : Cell) where
  pub left_above_one : (u : ℕ) → 1 < u → Left c P u → ((tick_cell c).matched ≡ false) × Left (tick_cell c) P (u - 1)
  left_above_one u more left = (
    on_time_matched P u c 0 left ∙ Due.due_before P more,
    rw (Due.until_before P more) at (on_time_left P u (tick_cell c) 1 (on_time_tick P u c 0 left) one_le),
  )

  pub left_one : Left c P 1 → ((tick_cell c).matched ≡ true) × Left (tick_cell c) P P
  left_one left = (
    on_time_matched P 1 c 0 left ∙ Due.due_first P 1,
    rw (Due.until_due_lem P 1) at (on_time_left P 1 (tick_cell c) 1 (on_time_tick P 1 c 0 left) one_le),
  )
