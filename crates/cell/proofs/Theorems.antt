-- What the crate shows beyond its contracts. Each law stands here in full, over specs/ alone; the module it cites
-- proves it.
--
-- In order: the start counter, by additions alone; one tick, field by field; a cell that is off, a stopped cell; the
-- main law, `matches_when_due`; and what a caller needs who keeps for a cell the ticks since its start (`OnTime`) or
-- the ticks left to its next match (`Left`); a row of cells.
use Rattle.std.proofs.Common.{◌≡◌, ℕ, suc, ◌+◌, ◌-◌, ◌%◌, ◌<◌, ◌≤◌, Bool, true, false, cond, not, ◌&&◌, eqb, ◌≢◌, List, length, get_or, refl, ap, ◌∙◌, arith}
use Rattle.cell.specs.declared.Cell.{Cell}
use Rattle.cell.specs.Cell.{modulus, unmarked, start_counter_in, sums_in, start_cell_in, tick_cell_in, ticks_in, start_counter, sums, start_cell, tick_cell, ticks, stop_cell}
use Rattle.cell.specs.Due.{due, until_due, OnTime, Left, Periodic}
use Rattle.cell.specs.Rows.{row_ticks}
use Rattle.cell.proofs.Reach as Reach
use Rattle.cell.proofs.Tick as Tick
use Rattle.cell.proofs.Match as Match
use Rattle.cell.proofs.Due as Due
use Rattle.cell.proofs.OnTime as OnTime
use Rattle.cell.proofs.Rows as Rows

-- the D-th addition of 1 to the start counter, and none before it, brings it to the compare value k: for a counter of
-- any modulus M
pub compare_reached_in : (M k D : ℕ) → k < M → 1 ≤ D → D ≤ M
    → (sums_in M D (start_counter_in M k D) ≡ k) × ((n : ℕ) → 1 ≤ n → n < D → sums_in M n (start_counter_in M k D) ≢ k)
compare_reached_in M k D fits some few = let r = Reach.reaches_start M k fits D some few in (r.reached, r.none_before)

-- the same at 16 bits
pub compare_reached : (k D : ℕ) → k < modulus → 1 ≤ D → D ≤ modulus
    → (sums D (start_counter k D) ≡ k) × ((n : ℕ) → 1 ≤ n → n < D → sums n (start_counter k D) ≢ k)
compare_reached = compare_reached_in modulus

-- a tick of a cell of any content
module _ (c : Cell) where
  pub ticked_compare_same : (tick_cell c).compare ≡ c.compare
  unfolding tick_cell_in
  ticked_compare_same = refl

  pub ticked_on_same : (tick_cell c).on ≡ c.on
  unfolding tick_cell_in
  ticked_on_same = refl

  pub ticked_mark : (tick_cell c).matched ≡ (c.on && eqb ((c.counter + 1) % modulus) c.compare) && not c.turn
  unfolding tick_cell_in
  ticked_mark = refl

  pub ticked_turn : (tick_cell c).turn ≡ c.turn && not (c.on && eqb ((c.counter + 1) % modulus) c.compare)
  unfolding tick_cell_in
  ticked_turn = refl

  pub ticked_counter : (tick_cell c).counter
      ≡ cond (tick_cell c).matched 65535 (cond c.on ((c.counter + 1) % modulus) c.counter)
  unfolding tick_cell_in
  ticked_counter = refl

  pub off_ticked_same : c.on ≡ false → tick_cell c ≡ unmarked c.counter c.compare false c.turn
  off_ticked_same = Tick.ticked_off modulus c

  -- a cell that is off never matches and keeps its counter and its turn, however many ticks there are
  pub off_ticks_same : c.on ≡ false → (n : ℕ) → ticks (suc n) c ≡ unmarked c.counter c.compare false c.turn
  off_ticks_same off n = Tick.off_ticks modulus n c off

  -- "Stop switches the table's cells off and sets their counters to 0": with numbers, whatever stood there before
  pub stopped_zero : ((stop_cell c).counter ≡ 0) × ((stop_cell c).on ≡ false) × ((stop_cell c).turn ≡ false)
      × ((stop_cell c).compare ≡ c.compare)
  stopped_zero = (refl, refl, refl, refl)

-- a started cell matches at exactly the ticks at which its entry is due, however many ticks there are: for a counter of
-- any modulus M and a first delay of up to two turns
pub matches_when_due_in : (M P D n : ℕ) → 1 ≤ P → P ≤ M → 1 ≤ D → D ≤ M + M
    → (ticks_in M (suc n) (start_cell_in M P D)).matched ≡ due P D (suc n)
matches_when_due_in M P D n one_le P_fits some D_fits = Match.matches_when_due M P one_le P_fits D n some D_fits

-- the same for the 16-bit cell
pub matches_when_due : (P D n : ℕ) → 1 ≤ P → P ≤ modulus → 1 ≤ D → D ≤ modulus + modulus
    → (ticks (suc n) (start_cell P D)).matched ≡ due P D (suc n)
matches_when_due = matches_when_due_in modulus

-- so it matches D ticks after its start, then every P ticks, and at no other tick
pub started_periodic : (P D : ℕ) → 1 ≤ P → P ≤ modulus → 1 ≤ D → D ≤ modulus + modulus → Periodic (start_cell P D) P D
started_periodic = OnTime.started_periodic

-- a maker's table of period 60,000 with entries at 0 and 50,000, started with delay 30,000: due at 30,000, at 80,000,
-- then each every 60,000
pub maker_periodic : Periodic (start_cell 60000 (30000 + 0)) 60000 30000
    × Periodic (start_cell 60000 (30000 + 50000)) 60000 80000
maker_periodic = (
  started_periodic 60000 30000 (omega arith) (omega arith) (omega arith) (omega arith),
  started_periodic 60000 80000 (omega arith) (omega arith) (omega arith) (omega arith),
)

-- a started cell is on time
pub on_time_start : (P D : ℕ) → 1 ≤ P → P ≤ modulus → 1 ≤ D → D ≤ modulus + modulus → OnTime (start_cell P D) P D 0
on_time_start = OnTime.on_time_start

-- a cell that is on time n ticks after its start
module _ (P D n : ℕ) (c : Cell) (on_time : OnTime c P D n) where
  -- at the next tick it matches exactly if its entry is due, and stays on time
  pub on_time_matched : (tick_cell c).matched ≡ due P D (suc n)
  on_time_matched = OnTime.on_time_matched P D c n on_time

  pub on_time_tick : OnTime (tick_cell c) P D (suc n)
  on_time_tick = OnTime.on_time_tick P D c n on_time

  -- as many ticks are left to its next match as to the next due one
  pub on_time_left : 1 ≤ P → Left c P (until_due P D n)
  on_time_left = OnTime.on_time_left P D c n on_time

-- for whoever keeps a cell as plain numbers: its mark does not count, and of the rest a tick changes the counter and
-- the turn alone
pub on_time_numbers : (P D n i k : ℕ) (on t : Bool) → OnTime (unmarked i k on t) P D n
    → OnTime (unmarked (tick_cell (unmarked i k on t)).counter k on (tick_cell (unmarked i k on t)).turn) P D (suc n)
on_time_numbers = OnTime.on_time_numbers

-- one tick left is what makes the next tick a due one
pub due_next : (P D n : ℕ) → 1 ≤ P → due P D (suc n) ≡ eqb (until_due P D n) 1
due_next P D n one_le = Due.due_next P one_le D n

-- a cell with period P and first delay D has D ticks left when it is started
pub left_start : (P D : ℕ) → 1 ≤ P → P ≤ modulus → 1 ≤ D → D ≤ modulus + modulus → Left (start_cell P D) P D
left_start = on_time_start

-- above one, a tick takes one away and is no match
pub left_above_one : (P u : ℕ) (c : Cell) → 1 ≤ P → 1 < u → Left c P u
    → ((tick_cell c).matched ≡ false) × Left (tick_cell c) P (u - 1)
left_above_one P u c one_le = OnTime.left_above_one P one_le c u

-- at one, a tick is a match, and the next is a period ahead
pub left_one : (P : ℕ) (c : Cell) → 1 ≤ P → Left c P 1 → ((tick_cell c).matched ≡ true) × Left (tick_cell c) P P
left_one P c one_le = OnTime.left_one P one_le c

-- a row keeps its length, and its cells their order: each is ticked for itself
pub row_length_same : (n : ℕ) (cs : List Cell) → length (row_ticks n cs) ≡ length cs
row_length_same = Rows.row_length_same

pub row_at : (n : ℕ) (cs : List Cell) (i : ℕ) (d : Cell) → i < length cs
    → get_or (row_ticks n cs) i d ≡ ticks n (get_or cs i d)
row_at = Rows.row_at

-- so a started cell in a row, whatever stands beside it, matches at exactly the ticks of the row at which its entry is
-- due
pub row_matches_when_due : (cs : List Cell) (i P D n : ℕ) (d : Cell) → i < length cs → get_or cs i d ≡ start_cell P D
    → 1 ≤ P → P ≤ modulus → 1 ≤ D → D ≤ modulus + modulus
    → (get_or (row_ticks (suc n) cs) i d).matched ≡ due P D (suc n)
row_matches_when_due cs i P D n d within started one_le P_fits some D_fits =
    ap (λ c. c.matched) (row_at (suc n) cs i d within ∙ ap (ticks (suc n)) started)
    ∙ matches_when_due P D n one_le P_fits some D_fits
