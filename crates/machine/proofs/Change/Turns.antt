-- Turns of the counter that must pass unmatched: what the switches say of them after a tick, and at a start.
--
--   switch_on_lem, switch_turn_lem  a switch says whether its cell is on, and whether it has a turn to pass
--   some_holds, some_none           one of the cells from e on
--   on_after, turn_after            a cell's switch after a tick says what the tick made of the cell
use Prim.Native.Nat.{ℕ, zero, suc, ◌+◌, ◌≤◌, ◌<◌}
use mathlib.Core.Bool.{Bool, true, false, cond, true≢false, ◌&&◌, and-false, or-true}
use mathlib.Core.List.{List}
use mathlib.Core.Path.{◌≡◌, refl, sym, ap, ap₂, ◌∙◌}
use native.Mathlib.Omega.{arith}
use borrow.Author.Tests.{eqb-true}
use lib.ListN.{length, get_or, set, length-set, get_or-eq_default}
use lib.Seq.{get_or-set_same, get_or-set_other}
use Rattle.number.proofs.Cases.{by_lt, by_eq, and_true, refuted}
use Rattle.config.specs.Value.{max_entries}
use Rattle.cell.specs.Cell.{unmarked, tick_cell}
use Rattle.cell.proofs.Theorems.{ticked_turn}
use Rattle.machine.specs.Cells.{switch_turn, is_on, has_turn, switch_for, cell_at, switch_ticked, switches_ticked, some, some_turn}

-- a turn is one of a cell that is on
pub switch_on_lem : (on t : Bool) → (t ≡ true → on ≡ true) → is_on (switch_for on t) ≡ on
switch_on_lem on true h = sym (h refl)
switch_on_lem true false h = refl
switch_on_lem false false h = refl

pub switch_turn_lem : (on t : Bool) → has_turn (switch_for on t) ≡ t
switch_turn_lem on true = refl
switch_turn_lem true false = refl
switch_turn_lem false false = refl

turn_on : (x : ℕ) → has_turn x ≡ true → is_on x ≡ true
turn_on x h = ap is_on (eqb-true x switch_turn h)

-- f holds of one of the k numbers from e on, or of none
module _ (f : ℕ → Bool) where
  pub some_holds : (k e i : ℕ) → e ≤ i → i < e + k → f i ≡ true → some f k e ≡ true
  unfolding some
  some_holds zero e i low high h = absurd (omega arith)
  some_holds (suc k) e i low high h =
      by_eq i e
      (λ q. rw (sym (ap f q) ∙ h))
      (λ n. rw (some_holds k (suc e) i (omega (arith, n)) (omega arith) h) (or-true (f e)))

  pub some_none : (k e i : ℕ) → e ≤ i → i < e + k → some f k e ≡ false → f i ≡ false
  some_none k e i low high h = refuted (f i) (λ q. true≢false (sym (some_holds k e i low high q) ∙ h))

-- the switches after a tick, one by one
module _ (ks ns : List ℕ) where
  length_switches : (k e : ℕ) (on : List ℕ) → length (switches_ticked k e ks ns on) ≡ length on
  unfolding switches_ticked
  length_switches zero e on = refl
  length_switches (suc k) e on = length_switches k (suc e) _ ∙ length-set on e _

  switches_before : (k e i : ℕ) (on : List ℕ) → i < e → get_or (switches_ticked k e ks ns on) i 0 ≡ get_or on i 0
  unfolding switches_ticked
  switches_before zero e i on h = refl
  switches_before (suc k) e i on h =
      switches_before k (suc e) i _ (omega arith) ∙ get_or-set_other on e i _ 0 (λ z. absurd (omega arith))

  switches_at : (k e i : ℕ) (on : List ℕ) → e ≤ i → i < e + k → i < length on
      → get_or (switches_ticked k e ks ns on) i 0 ≡ switch_ticked ks ns on i
  unfolding switches_ticked
  switches_at zero e i on low high within = absurd (omega arith)
  switches_at (suc k) e i on low high within =
      by_eq i e
      (λ z. rw z (switches_before k (suc e) e (set on e x) (omega arith) ∙ get_or-set_same on e x 0 (omega arith)))
      (λ n. switches_at k (suc e) i (set on e x) (omega (arith, n)) (omega arith) (rw (length-set on e x) within)
      ∙ ap (λ (y : ℕ). switch_for (is_on y) (tick_cell (unmarked (get_or ns i 0) (get_or ks i 0) (is_on y) (has_turn y))).turn)
      (get_or-set_other on e i x 0 n))
    where
      x : ℕ
      x = switch_ticked ks ns on e

-- the switches and whether any turn is left, after a tick of a row that has turns to pass or not
abbrev pub switches_after : Bool → List ℕ → List ℕ → List ℕ → List ℕ
switches_after w ks ns on = cond w (switches_ticked max_entries 0 ks ns on) on

abbrev pub turning_after : Bool → List ℕ → List ℕ → List ℕ → Bool
turning_after w ks ns on = w && some_turn max_entries 0 (switches_after w ks ns on)

pub length_after : (w : Bool) (ks ns on : List ℕ) → length (switches_after w ks ns on) ≡ length on
length_after true ks ns on = length_switches ks ns max_entries 0 on
length_after false ks ns on = refl

past : (on : List ℕ) (e : ℕ) → length on ≡ max_entries → max_entries ≤ e → get_or on e 0 ≡ 0
past on e long h = get_or-eq_default on 0 (omega arith)

module _ (ks ns on : List ℕ) (e : ℕ) where
  -- a tick leaves no turn where none was
  turn_of_on : (tick_cell (cell_at true ks on ns e)).turn ≡ true → is_on (get_or on e 0) ≡ true
  turn_of_on h = turn_on (get_or on e 0) (and_true _ _ (sym (ticked_turn (cell_at true ks on ns e)) ∙ h)).0

  module _ (inside : e < max_entries) (long : length on ≡ max_entries) where
    switch_after : get_or (switches_ticked max_entries 0 ks ns on) e 0 ≡ switch_ticked ks ns on e
    switch_after = switches_at ks ns max_entries 0 e on (omega arith) (omega arith) (omega arith)

    on_ticked : is_on (get_or (switches_ticked max_entries 0 ks ns on) e 0) ≡ is_on (get_or on e 0)
    on_ticked =
        ap is_on switch_after ∙ switch_on_lem (is_on (get_or on e 0)) (tick_cell (cell_at true ks on ns e)).turn turn_of_on

    turn_ticked : has_turn (get_or (switches_ticked max_entries 0 ks ns on) e 0) ≡ (tick_cell (cell_at true ks on ns e)).turn
    turn_ticked = ap has_turn switch_after ∙ switch_turn_lem (is_on (get_or on e 0)) (tick_cell (cell_at true ks on ns e)).turn

module _ (w : Bool) (ks ns on : List ℕ) where
  pub on_after : (e : ℕ) → e < max_entries → length on ≡ max_entries
      → is_on (get_or (switches_after w ks ns on) e 0) ≡ is_on (get_or on e 0)
  on_after e inside long = go w
    where
      go : (w : Bool) → is_on (get_or (switches_after w ks ns on) e 0) ≡ is_on (get_or on e 0)
      go true = on_ticked ks ns on e inside long
      go false = refl

  pub turn_after : (e : ℕ) → e < max_entries → length on ≡ max_entries
      → turning_after w ks ns on && has_turn (get_or (switches_after w ks ns on) e 0) ≡ (tick_cell (cell_at w ks on ns e)).turn
  turn_after e inside long = go w
    where
      then : List ℕ
      then = switches_ticked max_entries 0 ks ns on

      left : (t : Bool) → has_turn (get_or then e 0) ≡ t → some_turn max_entries 0 then && has_turn (get_or then e 0) ≡ t
      left true h = ap₂ (λ (a b : Bool). a && b) (some_holds _ max_entries 0 e (omega arith) (omega arith) h) h
      left false h = rw h (and-false (some_turn max_entries 0 then))

      go : (w : Bool)
          → turning_after w ks ns on && has_turn (get_or (switches_after w ks ns on) e 0)
          ≡ (tick_cell (cell_at w ks on ns e)).turn
      go true = left (tick_cell (cell_at true ks on ns e)).turn (turn_ticked ks ns on e inside long)
      go false = sym (ticked_turn (cell_at false ks on ns e))

  pub off_after : (e : ℕ) → length on ≡ max_entries → is_on (get_or on e 0) ≡ false
      → is_on (get_or (switches_after w ks ns on) e 0) ≡ false
  off_after e long off =
      by_lt e max_entries
      (λ inside. on_after e inside long ∙ off)
      (λ h. ap is_on (past (switches_after w ks ns on) e (length_after w ks ns on ∙ long) h))

  pub none_after : length on ≡ max_entries → (w ≡ false → (e : ℕ) → has_turn (get_or on e 0) ≡ false)
      → turning_after w ks ns on ≡ false → (e : ℕ) → has_turn (get_or (switches_after w ks ns on) e 0) ≡ false
  none_after long before = go w before
    where
      go : (w : Bool) → (w ≡ false → (e : ℕ) → has_turn (get_or on e 0) ≡ false) → turning_after w ks ns on ≡ false
          → (e : ℕ) → has_turn (get_or (switches_after w ks ns on) e 0) ≡ false
      go true before none e =
          by_lt e max_entries
          (λ inside. some_none _ max_entries 0 e (omega arith) (omega arith) none)
          (λ h. ap has_turn (past (switches_after true ks ns on) e (length_after true ks ns on ∙ long) h))
      go false before none e = before refl e
