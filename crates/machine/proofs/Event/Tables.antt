-- Start and Stop do the same to the model as to the state: the cells of one table are started or stopped as a cell by
-- itself is, and no other table's.
use Prim.Native.Nat.{ℕ, suc, ◌+◌, ◌-◌, ◌≤◌, ◌<◌}
use mathlib.Core.Path.{◌≡◌, refl, sym, ap, ◌∙◌}
use mathlib.Core.Logic.{◌≢◌}
use mathlib.Core.Bool.{Bool, true, false, true≢false, not, ◌&&◌, ◌||◌, and-false, or-true}
use mathlib.Core.List.{List}
use native.Mathlib.Omega.{arith}
use borrow.Author.Tests.{leb-false}
use lib.Dec.{ltb, eqb}
use lib.ListN.{length, get_or, set, length-set}
use lib.Seq.{get_or-set_same, get_or-set_other}
use Rattle.number.proofs.Cases.{by_lt, by_eq, neither}
use Rattle.config.specs.declared.Config.{Config}
use Rattle.config.specs.Meaning.{first_of, smallest_offset}
use Rattle.config.proofs.Tables.{first_of_step, first_of_rises}
use Rattle.plan.specs.declared.Plan.{Plan}
use Rattle.cell.specs.Cell as Cell
use Rattle.cell.specs.Cell.{unmarked, compare_in, long as is_long, start_cell, modulus}
use Rattle.cell.specs.Due.{OnTime}
use Rattle.cell.proofs.Theorems.{on_time_start}
use Rattle.scheduler.specs.Status.{call_level, no_such, no_function, wrong_state, bad_delay}
use Rattle.scheduler.specs.State.{Table, stopped, running, is_running, State, table_of}
use Rattle.scheduler.specs.Call.{longest_delay, start_status, stop_status, start, stop}
use Rattle.scheduler.specs.Tick.{dues}
use Rattle.scheduler.specs.Scheduler.{Start, Stop, step_by}
use Rattle.scheduler.proofs.Order.Invariant.{Orderly}
use Rattle.scheduler.proofs.Event.Checks.{start_passed, stop_passed}
use Rattle.machine.specs.Model.{Model, with_cells, done_with}
use Rattle.machine.specs.Cells.{switch_off, is_on, has_turn, switch_for, cell_at, spread, some_long}
use Rattle.machine.specs.Events as Machine
use Rattle.machine.specs.Events.{runs, cell_count, starting, stopping}
use Rattle.machine.specs.Machine.{status_of, effect_of, else_of, cell_in}
use Rattle.plan.proofs.Fitted.{Fitted}
use Rattle.machine.proofs.Relation.Cells.{CellFits, CellsTied, CellsOf}
use Rattle.machine.proofs.Relation.Whole.{Sim}
use Rattle.machine.proofs.Change.Request.{elsewhere}
use Rattle.machine.proofs.Event.Agrees.{first_same, Agrees, Done, Keeps, caller_same, calm_done, agrees_attempt}
use Rattle.machine.proofs.Change.Cells.{length_spread, spread_before, spread_after, spread_inside}
use Rattle.machine.proofs.Change.Turns.{switch_on_lem, switch_turn_lem, some_holds, some_none}

-- a started cell, kept as plain numbers, is on time
started_on_time : (P D : ℕ) → 1 ≤ P → P ≤ 65535 → 1 ≤ D → D ≤ modulus + modulus
    → OnTime (unmarked (start_cell P D).counter (P - 1) true (is_long D)) P D 0
started_on_time P D low high some few = rw (sym compare) (on_time_start P D low (omega arith) some few)
  where
    compare : compare_in modulus P ≡ P - 1
    compare = omega arith

-- a cell that no start or stop touches has a turn to pass as before, whatever the others have
same_turn : (w w' t : Bool) → (w ≡ true → w' ≡ true) → (w ≡ false → t ≡ false) → w' && t ≡ w && t
same_turn true w' t keeps none = rw (keeps refl)
same_turn false w' t keeps none = rw (none refl) (and-false w')

-- where no cell is said to have a turn to pass after it, none was before
was_false : (w w' : Bool) → (w ≡ true → w' ≡ true) → w' ≡ false → w ≡ false
was_false true w' keeps none = absurd (true≢false (sym (keeps refl) ∙ none))
was_false false w' keeps none = refl

module _ {c : Config} {p : Plan} {rk : ℕ → ℕ} (fit : Fitted c p rk) where
  module _ (t : ℕ) (t< : t < c.tables) where
    abbrev count : ℕ
    count = get_or c.entries t 0

    abbrev P : ℕ
    P = get_or c.period t 0

    -- the cells of table t get the counters f and the switches g, and w' says whether any cell has a turn to pass
    module _ {ns on : List ℕ} {w : Bool} {ts : List Table} (cells : CellsTied c p ns on w ts) (f g : ℕ → ℕ) (w' : Bool)
        (keeps : w ≡ true → w' ≡ true) where
      abbrev ns' : List ℕ
      ns' = spread f count (first_of c t) ns

      abbrev on' : List ℕ
      on' = spread g count (first_of c t) on

      own_at : (h : ℕ → ℕ) (l : List ℕ) → length l ≡ 64 → (e : ℕ) → first_of c t ≤ e → e < first_of c (suc t)
          → get_or (spread h count (first_of c t) l) e 0 ≡ h e
      own_at h l long e low high =
          spread_inside h count (first_of c t) l e 0 low (omega (arith, first_of_step c t))
          (omega (arith, first_of_rises c (suc t) c.tables t<, fit.few_entries))

      -- the cells of table t are those that it gets, and the other tables' stay
      own_cell : (e : ℕ) → first_of c t ≤ e → e < first_of c (suc t)
          → cell_at w' p.compare on' ns' e ≡ unmarked (f e) (P - 1) (is_on (g e)) (w' && has_turn (g e))
      own_cell e low high =
          rw (
            own_at f ns cells.counters_long e low high,
            own_at g on cells.switches_long e low high,
            fit.compare_at t e t< low high,
          )

      other_cell : (u e : ℕ) → u < c.tables → u ≢ t → first_of c u ≤ e → e < first_of c (suc u)
          → cell_at w' p.compare on' ns' e ≡ cell_at w p.compare on ns e
      other_cell u e u< n low high =
          rw (stays f ns, stays g on, same_turn w w' (has_turn (get_or on e 0)) keeps (λ z. cells.unturned z e))
        where
          stays : (h : ℕ → ℕ) (l : List ℕ) → get_or (spread h count (first_of c t) l) e 0 ≡ get_or l e 0
          stays h l =
              by_lt u t
              (λ b. spread_before h count (first_of c t) l e 0 (omega (arith, first_of_rises c (suc u) t (omega arith))))
              (λ b. spread_after h count (first_of c t) l e 0
              (omega (arith, first_of_rises c (suc t) u (omega (arith, n)), first_of_step c t)))

      -- and the table becomes x
      module _ (x : Table)
          (none : w' ≡ false → (e : ℕ) → first_of c t ≤ e → e < first_of c (suc t) → has_turn (g e) ≡ false)
          (fits : (e : ℕ) → first_of c t ≤ e → e < first_of c (suc t)
          → CellFits P (get_or c.offset e 0) (unmarked (f e) (P - 1) (is_on (g e)) (w' && has_turn (g e))) x) where
        none_left : w' ≡ false → (e : ℕ) → has_turn (get_or on' e 0) ≡ false
        none_left z e =
            by_lt e (first_of c t)
            (λ b. ap has_turn (spread_before g count (first_of c t) on e 0 b) ∙ before)
            (λ low. by_lt e (first_of c (suc t))
            (λ high. ap has_turn (own_at g on cells.switches_long e low high) ∙ none z e low high)
            (λ h. ap has_turn (spread_after g count (first_of c t) on e 0 (omega (arith, first_of_step c t))) ∙ before))
          where
            before : has_turn (get_or on e 0) ≡ false
            before = cells.unturned (was_false w w' keeps z) e

        table_tied : CellsTied c p ns' on' w' (set ts t x)
        table_tied =
            record {
              tables_long = length-set ts t x ∙ cells.tables_long;
              counters_long = length_spread f count (first_of c t) ns ∙ cells.counters_long;
              switches_long = length_spread g count (first_of c t) on ∙ cells.switches_long;
              fits = λ u e u< low high. by_eq u t
                  (λ q.
                  let own = own_cell e (rw q at low) (rw q at high) in
                  rw (q, get_or-set_same ts t x stopped (rw cells.tables_long t<), own)
                  (fits e (rw q at low) (rw q at high)))
                  (λ n. rw (get_or-set_other ts t u x stopped n, other_cell u e u< n low high)
                  (cells.fits u e u< low high));
              spare = λ e h.
                  ap is_on (spread_after g count (first_of c t) on e 0 (omega (arith, rises, first_of_step c t)))
                  ∙ cells.spare e h;
              unturned = none_left;
            }
          where
            rises : first_of c (suc t) ≤ first_of c c.tables
            rises = first_of_rises c (suc t) c.tables t<

module _ {c : Config} {p : Plan} {rk : ℕ → ℕ} (fit : Fitted c p rk) {m : Model} {s : State} (sim : Sim c p rk m s)
    (keeps : Keeps c s) (long : length (dues c s) ≡ p.count) where
  -- the first cell of a table is on exactly if the table runs
  runs_is : (t : ℕ) → t < c.tables → runs p.first m t ≡ is_running (table_of s t)
  unfolding CellFits
  runs_is t h =
      rw (fit.first_at t h)
      (go (table_of s t)
      (sim.cells.fits t (first_of c t) h (omega arith) (omega (arith, first_of_step c t, fit.some_entry t h))))
    where
      go : (x : Table)
          → CellFits (get_or c.period t 0) (get_or c.offset (first_of c t) 0) (cell_in p m (first_of c t)) x
          → is_on (get_or m.on (first_of c t) 0) ≡ is_running x
      go stopped k = k
      go (running d n) k = k.on

  -- the cells of a table of the configuration all lie in the row
  count_is : (t : ℕ) → t < c.tables → cell_count p.first c.entries t ≡ get_or c.entries t 0
  count_is t h =
      omega
      (arith, fit.first_at t h, first_of_step c t, first_of_rises c (suc t) c.tables h, fit.few_entries)

  -- a call that changes the cells and the tables alone
  abbrev with_tables : List Table → State
  with_tables ts = record { bodies = s.bodies; tables = ts; order = s.order }

  cells_done : {ns on : List ℕ} {w : Bool} {ts : List Table} → Orderly c (with_tables ts) → CellsTied c p ns on w ts
      → Done c p rk (done_with (with_cells m ns on w) false) (with_tables ts)
  cells_done {ns} {on} {w} o cells =
      calm_done fit o (elsewhere sim.tied ns on w m.losses) sim.row cells sim.lost sim.noted sim.calm

  -- Start
  abbrev launching : ℕ → ℕ → Model
  launching t d = starting (cell_count p.first c.entries t) (get_or p.first t 0) (get_or c.period t 0) c.offset d m

  start_status_lem : (t d : ℕ) → Machine.start_status c.tables p.first c.offset m t d ≡ start_status c s t d
  start_status_lem t d =
      first_same call_level _ _ (caller_same fit sim)
      (λ _. first_same no_such _ _ refl
      (λ h. let t< = leb-false c.tables t h in
      first_same bad_delay _ _
      (ap (λ (e : ℕ). eqb d 0 || ltb longest_delay (d + get_or c.offset e 0)) (fit.first_at t t<))
      (λ _. first_same wrong_state _ _ (runs_is t t<) (λ _. refl))))

  -- an entry's first delay, and whether one of table t's is more than a turn of the counter
  abbrev delayed : ℕ → ℕ → ℕ
  delayed d i = d + get_or c.offset i 0

  abbrev any_long : ℕ → ℕ → Bool
  any_long t d = some_long (get_or c.entries t 0) (first_of c t) d c.offset

  -- the counters and switches that a Start gives
  abbrev counter_of : ℕ → ℕ → ℕ → ℕ
  counter_of t d i = (start_cell (get_or c.period t 0) (delayed d i)).counter

  abbrev switch_of : ℕ → ℕ → ℕ
  switch_of d i = switch_for true (is_long (delayed d i))

  -- what is said of the turns of table t's cells is so
  module _ (t d e : ℕ) (low : first_of c t ≤ e) (high : e < first_of c (suc t)) where
    inside : e < first_of c t + get_or c.entries t 0
    inside = omega (arith, first_of_step c t)

    turn_said : (m.turning || any_long t d) && has_turn (switch_of d e) ≡ is_long (delayed d e)
    turn_said = rw (switch_turn_lem true (is_long (delayed d e))) (go (is_long (delayed d e)) refl)
      where
        go : (b : Bool) → is_long (delayed d e) ≡ b → (m.turning || any_long t d) && b ≡ b
        go true h =
            let any : any_long t d ≡ true = some_holds (λ i. is_long (delayed d i)) _ (first_of c t) e low inside h in
            rw (any, or-true m.turning)
        go false h = and-false (m.turning || any_long t d)

    none_long : m.turning || any_long t d ≡ false → has_turn (switch_of d e) ≡ false
    none_long z =
        switch_turn_lem true (is_long (delayed d e))
        ∙ some_none (λ i. is_long (delayed d i)) _ (first_of c t) e low inside (neither m.turning (any_long t d) z).1

  start_tied : (t d : ℕ) → t < c.tables → d ≢ 0 → d + smallest_offset c t ≤ longest_delay
      → CellsOf c p (launching t d) (start t d s).tables
  unfolding CellFits
  start_tied t d t< some fits =
      rw (count_is t t<, fit.first_at t t<)
      (table_tied fit t t< sim.cells (counter_of t d) (switch_of d) (m.turning || any_long t d) (λ w. rw w)
      (running d 0)
      (λ z e low high. none_long t d e low high z)
      (λ e low high. rw (switch_on_lem true (is_long (delayed d e)) (λ _. refl), turn_said t d e low high)
      (started_on_time (get_or c.period t 0) (delayed d e) (fit.period_low t t<) (fit.period_high t t<)
      (omega (arith, some))
      (omega (arith, fit.offset_lt t e t< low high, fit.period_high t t<)))))

  -- "On an accepted Start": each cell of the table is the cell's own start, and no other table's changes
  module _ (t d e : ℕ) (t< : t < c.tables) where
    pub start_cell_lem : first_of c t ≤ e → e < first_of c (suc t)
        → cell_in p (launching t d) e ≡ start_cell (get_or c.period t 0) (delayed d e)
    start_cell_lem low high =
        rw (count_is t t<, fit.first_at t t<)
        (own_cell fit t t< sim.cells (counter_of t d) (switch_of d) (m.turning || any_long t d) (λ w. rw w) e low high
        ∙ rw (switch_on_lem true (is_long (delayed d e)) (λ _. refl), turn_said t d e low high)
        (ap (λ (k : ℕ). unmarked (counter_of t d e) k true (is_long (delayed d e))) compare))
      where
        compare : get_or c.period t 0 - 1 ≡ compare_in modulus (get_or c.period t 0)
        compare = omega (arith, fit.period_low t t<, fit.period_high t t<)

    pub start_other : (u : ℕ) → u < c.tables → u ≢ t → first_of c u ≤ e → e < first_of c (suc u)
        → cell_in p (launching t d) e ≡ cell_in p m e
    start_other u u< n low high =
        rw (count_is t t<, fit.first_at t t<)
        (other_cell fit t t< sim.cells (counter_of t d) (switch_of d) (m.turning || any_long t d) (λ w. rw w)
        u e u< n low high)

  pub agrees_start : (t d : ℕ) → Agrees c p rk m s (Start t d)
  unfolding status_of effect_of else_of step_by
  agrees_start t d =
      agrees_attempt fit sim keeps long (Start t d) (done_with (launching t d) false) (start t d s)
      refl refl refl (start_status_lem t d)
      (λ z.
      let a = start_passed c s t d z in
      cells_done (keeps.effect (Start t d) refl z) (start_tied t d a.1 a.2 a.3))

  -- Stop
  abbrev halting : ℕ → Model
  halting t = stopping (cell_count p.first c.entries t) (get_or p.first t 0) m

  stop_status_lem : (t : ℕ) → Machine.stop_status c.tables p.first m t ≡ stop_status c s t
  stop_status_lem t =
      first_same call_level _ _ (caller_same fit sim)
      (λ _. first_same no_such _ _ refl
      (λ h. first_same no_function _ _ (ap not (runs_is t (leb-false c.tables t h))) (λ _. refl)))

  stop_tied : (t : ℕ) → t < c.tables → CellsOf c p (halting t) (stop t s).tables
  unfolding CellFits
  stop_tied t t< =
      rw (count_is t t<, fit.first_at t t<)
      (table_tied fit t t< sim.cells (λ _. 0) (λ _. switch_off) m.turning (λ w. w) stopped
      (λ _ e low high. refl)
      (λ e low high. refl))

  -- "Stop switches the table's cells off and sets their counters to 0"
  module _ (t e : ℕ) (t< : t < c.tables) where
    pub stop_cell_lem : first_of c t ≤ e → e < first_of c (suc t)
        → cell_in p (halting t) e ≡ Cell.stop_cell (cell_in p m e)
    stop_cell_lem low high =
        rw (count_is t t<, fit.first_at t t<)
        (own_cell fit t t< sim.cells (λ _. 0) (λ _. switch_off) m.turning (λ w. w) e low high
        ∙ rw (fit.compare_at t e t< low high, and-false m.turning))

    pub stop_other : (u : ℕ) → u < c.tables → u ≢ t → first_of c u ≤ e → e < first_of c (suc u)
        → cell_in p (halting t) e ≡ cell_in p m e
    stop_other u u< n low high =
        rw (count_is t t<, fit.first_at t t<)
        (other_cell fit t t< sim.cells (λ _. 0) (λ _. switch_off) m.turning (λ w. w) u e u< n low high)

  pub agrees_stop : (t : ℕ) → Agrees c p rk m s (Stop t)
  unfolding status_of effect_of else_of step_by
  agrees_stop t =
      agrees_attempt fit sim keeps long (Stop t) (done_with (halting t) false) (stop t s)
      refl refl refl (stop_status_lem t)
      (λ z. cells_done (keeps.effect (Stop t) refl z) (stop_tied t (stop_passed c s t z).1))
