-- At a tick the cells that match are those of the due entries, and the cells keep the tables' arithmetic.
--
--   dues_long        an entry for each cell
--   marks_due        the marks of the entries' cells are the due entries
--   due_first_cells  cells without an entry are off, and ask for nothing
--   ticked_cells     the cells after the tick stand for the tables after it
use Prim.Native.Nat.{ℕ, zero, suc, ◌+◌, ◌-◌, ◌≤◌, ◌<◌}
use mathlib.Core.Path.{◌≡◌, refl, sym, ap, ap₂, ◌∙◌}
use mathlib.Core.Bool.{Bool, false, ◌&&◌}
use mathlib.Core.List.{List, [], ◌∷◌, ◌++◌, map}
use native.Mathlib.Nat.{zero-add, add-zero}
use native.Mathlib.Omega.{arith}
use lib.ListN.{length, get_or, set, take, drop, replicate, length-map, length-set, get_or-map}
use lib.Seq.{get_or-set_same, get_or-set_other, drop-cons}
use Rattle.number.proofs.Cases.{by_eq}
use Rattle.config.specs.declared.Config.{Config}
use Rattle.config.specs.Value.{max_entries}
use Rattle.config.specs.Meaning.{first_of}
use Rattle.config.proofs.Tables.{first_of_step, first_of_rises, first_of_zero}
use Rattle.plan.specs.declared.Plan.{Plan}
use Rattle.cell.specs.declared.Cell.{Cell}
use Rattle.cell.specs.Cell.{unmarked, tick_cell}
use Rattle.cell.proofs.Theorems.{off_ticked_same, on_time_matched, on_time_numbers}
use Rattle.scheduler.specs.State.{Table, stopped, running, State}
use Rattle.scheduler.specs.Tick.{counting, entry_due, dues_from, dues}
use Rattle.scheduler.proofs.Table.Entries.{entries_long}
use Rattle.scheduler.proofs.Table.Dues.{length_dues}
use Rattle.machine.specs.Cells.{is_on, has_turn, cell_at, counters_ticked, marks, Tally, requests_due}
use Rattle.plan.proofs.Fitted.{Fitted}
use Rattle.machine.proofs.Relation.Cells.{CellFits, CellsTied}
use Rattle.machine.proofs.Change.Matches.{due_append, due_quiet}
use Rattle.machine.proofs.Change.Turns.{switches_after, turning_after, length_after, on_after, turn_after, off_after, none_after}

-- a tick reaches the counters of its cells, each by its own cell alone
module _ (w : Bool) (ks on : List ℕ) where
  length_ticked : (k e : ℕ) (ns : List ℕ) → length (counters_ticked k e w ks on ns) ≡ length ns
  unfolding counters_ticked
  length_ticked zero e ns = refl
  length_ticked (suc k) e ns = length_ticked k (suc e) _ ∙ length-set ns e _

  ticked_before : (k e i : ℕ) (ns : List ℕ) → i < e → get_or (counters_ticked k e w ks on ns) i 0 ≡ get_or ns i 0
  unfolding counters_ticked
  ticked_before zero e i ns h = refl
  ticked_before (suc k) e i ns h =
      ticked_before k (suc e) i _ (omega arith) ∙ get_or-set_other ns e i _ 0 (λ z. absurd (omega arith))

  ticked_at : (k e i : ℕ) (ns : List ℕ) → e ≤ i → i < e + k → i < length ns
      → get_or (counters_ticked k e w ks on ns) i 0 ≡ (tick_cell (cell_at w ks on ns i)).counter
  unfolding counters_ticked
  ticked_at zero e i ns h l len = absurd (omega arith)
  ticked_at (suc k) e i ns h l len =
      by_eq i e
      (λ z. rw z (ticked_before k (suc e) e (set ns e x) (omega arith) ∙ get_or-set_same ns e x 0 (omega arith)))
      (λ n. ticked_at k (suc e) i (set ns e x) (omega arith) (omega arith) (rw (length-set ns e x) len)
      ∙ ap (λ (v : ℕ). (tick_cell (unmarked v (get_or ks i 0) (is_on (get_or on i 0)) (w && has_turn (get_or on i 0)))).counter)
      (get_or-set_other ns e i x 0 n))
    where
      x : ℕ
      x = (tick_cell (cell_at w ks on ns e)).counter

  marks_append : (j k e : ℕ) (ns : List ℕ)
      → marks (j + k) e w ks on ns ≡ marks j e w ks on ns ++ marks k (e + j) w ks on ns
  unfolding marks
  marks_append zero k e ns = rw (zero-add, add-zero)
  marks_append (suc j) k e ns =
      ap (λ (n : ℕ). marks n e w ks on ns) (sum j k)
      ∙ ap (λ (l : List Bool). (tick_cell (cell_at w ks on ns e)).matched ∷ l)
      (marks_append j k (suc e) ns ∙ ap (λ (n : ℕ). marks j (suc e) w ks on ns ++ marks k n w ks on ns) (shift e j))
    where
      sum : (j k : ℕ) → suc j + k ≡ suc (j + k)
      sum j k = omega arith

      shift : (e j : ℕ) → suc e + j ≡ e + suc j
      shift e j = omega arith

  -- cells that are off do not match
  off_marks : (k e : ℕ) (ns : List ℕ) → ((i : ℕ) → e ≤ i → is_on (get_or on i 0) ≡ false)
      → marks k e w ks on ns ≡ replicate k false
  unfolding marks
  off_marks zero e ns off = refl
  off_marks (suc k) e ns off =
      ap₂ (λ (b : Bool) (l : List Bool). b ∷ l)
      (ap (λ (y : Cell). y.matched) (off_ticked_same (cell_at w ks on ns e) (off e (omega arith))))
      (off_marks k (suc e) ns (λ i h. off i (omega arith)))

  -- what a row asks for of which only the first n cells may be on
  pub due_first_cells : (n : ℕ) → n ≤ max_entries → ((i : ℕ) → n ≤ i → is_on (get_or on i 0) ≡ false)
      → (v : ℕ) (ns rs : List ℕ) (x : Tally)
      → requests_due v (marks max_entries 0 w ks on ns) rs x ≡ requests_due v (marks n 0 w ks on ns) rs x
  due_first_cells n h off v ns rs x =
      ap (λ (k : ℕ). requests_due v (marks k 0 w ks on ns) rs x) all
      ∙ ap (λ (l : List Bool). requests_due v l rs x) (marks_append n (max_entries - n) 0 ns)
      ∙ due_append v first (marks (max_entries - n) (0 + n) w ks on ns) rs x
      ∙ ap (λ (l : List Bool). requests_due v l (drop (length first) rs) (requests_due v first rs x))
      (off_marks (max_entries - n) (0 + n) ns (λ i l. off i (omega arith)))
      ∙ due_quiet v (max_entries - n) _ _
    where
      first : List Bool
      first = marks n 0 w ks on ns

      all : max_entries ≡ n + (max_entries - n)
      all = omega arith

  -- the marks of one table's cells
  table_marks : (n e : ℕ) (ns os : List ℕ) (f : ℕ → Bool) → e + n ≤ length os
      → ((i : ℕ) → e ≤ i → i < e + n → (tick_cell (cell_at w ks on ns i)).matched ≡ f (get_or os i 0))
      → marks n e w ks on ns ≡ map f (take n (drop e os))
  unfolding marks
  table_marks zero e ns os f h each = refl
  table_marks (suc n) e ns os f h each =
      rw (drop-cons os e 0 (omega arith))
      (ap₂ (λ (b : Bool) (l : List Bool). b ∷ l) (each e (omega arith) (omega arith))
      (table_marks n (suc e) ns os f (omega arith) (λ i a b. each i (omega arith) (omega arith))))

module _ {c : Config} {p : Plan} {rk : ℕ → ℕ} (fit : Fitted c p rk) where
  -- as many entries as cells
  pub dues_long : (s : State) → length s.tables ≡ c.tables → length (dues c s) ≡ p.count
  dues_long s h =
      length_dues c s h ∙ entries_long c (omega (arith, fit.offsets_long, fit.few_entries)) ∙ sym fit.count_is

-- a cell matches exactly if its entry is due at this tick
cell_due : (P o : ℕ) (x : Cell) (t : Table) → CellFits P o x t → (tick_cell x).matched ≡ entry_due P (counting t) o
unfolding CellFits counting entry_due
cell_due P o x stopped h = ap (λ (y : Cell). y.matched) (off_ticked_same x h)
cell_due P o x (running d n) h = on_time_matched P (d + o) n x h

-- and then it still fits
cell_counted : (P o i k : ℕ) (on turn : Bool) (t : Table) → CellFits P o (unmarked i k on turn) t
    → CellFits P o (unmarked (tick_cell (unmarked i k on turn)).counter k on (tick_cell (unmarked i k on turn)).turn)
    (counting t)
unfolding CellFits counting
cell_counted P o i k on turn stopped h = h
cell_counted P o i k on turn (running d n) h = on_time_numbers P (d + o) n i k on turn h

module _ {c : Config} {p : Plan} {rk : ℕ → ℕ} (fit : Fitted c p rk) (w : Bool) (ns on : List ℕ) where
  abbrev ks : List ℕ
  ks = p.compare

  -- the cells of the tables ts, the first of which is table t, keep their arithmetic
  abbrev FitFrom : ℕ → List Table → Type 0
  FitFrom t ts =
      (i e : ℕ) → i < length ts → first_of c (t + i) ≤ e → e < first_of c (suc (t + i))
      → CellFits (get_or c.period (t + i) 0) (get_or c.offset e 0) (cell_at w ks on ns e) (get_or ts i stopped)

  -- how many cells there are from table t on
  abbrev cells_from : ℕ → ℕ
  cells_from t = first_of c c.tables - first_of c t

  marks_from : (ts : List Table) (t : ℕ) → t + length ts ≡ c.tables → FitFrom t ts
      → marks (cells_from t) (first_of c t) w ks on ns ≡ dues_from c t (map counting ts)
  unfolding dues_from marks
  marks_from [] t e fits =
      let q : t ≡ c.tables = omega arith in
      let z : cells_from t ≡ 0 = rw q (omega arith) in
      ap (λ (k : ℕ). marks k (first_of c t) w ks on ns) z
  marks_from (x ∷ xs) t e fits =
      rw (split, marks_append w ks on (get_or c.entries t 0) (cells_from (suc t)) (first_of c t) ns)
      (ap₂ (λ (a b : List Bool). a ++ b)
      (table_marks w ks on (get_or c.entries t 0) (first_of c t) ns c.offset (entry_due P (counting x))
      (omega (arith, fit.offsets_long, fit.few_entries, rises, first_of_step c t))
      (λ i a b. cell_due P (get_or c.offset i 0) (cell_at w ks on ns i) x
      (rw add-zero at (fits 0 i (omega arith) (rw add-zero a) (rw add-zero (omega (arith, first_of_step c t)))))))
      (ap (λ (f : ℕ). marks (cells_from (suc t)) f w ks on ns) (sym (first_of_step c t))
      ∙ marks_from xs (suc t) (omega arith) (λ i f i< a b. rest i f i< a b)))
    where
      P : ℕ
      P = get_or c.period t 0

      rises : first_of c (suc t) ≤ first_of c c.tables
      rises = first_of_rises c (suc t) c.tables (omega arith)

      split : cells_from t ≡ get_or c.entries t 0 + cells_from (suc t)
      split = omega (arith, rises, first_of_step c t)

      rest : FitFrom (suc t) xs
      rest i f i< a b =
          let q : t + suc i ≡ suc t + i = omega arith in
          rw q at (fits (suc i) f (omega arith) (rw q a) (rw q b))

-- the cells of the tables ts
module _ {c : Config} {p : Plan} {rk : ℕ → ℕ} (fit : Fitted c p rk) {w : Bool} {ns on : List ℕ} {ts : List Table}
    (cells : CellsTied c p ns on w ts) where
  -- the cells that match are those of the due entries
  pub marks_due : marks p.count 0 w p.compare on ns ≡ dues_from c 0 (map counting ts)
  marks_due =
      ap₂ (λ (k e : ℕ). marks k e w p.compare on ns) size (sym (first_of_zero c))
      ∙ marks_from fit w ns on ts 0 (omega (arith, cells.tables_long)) fits
    where
      fits : FitFrom fit w ns on 0 ts
      fits i e i< a b =
          let q : 0 + i ≡ i = omega arith in
          rw q (cells.fits i e (omega (arith, cells.tables_long)) (rw q at a) (rw q at b))

      size : p.count ≡ first_of c c.tables - first_of c 0
      size = omega (arith, first_of_zero c, fit.count_is)

  -- the cells after the tick stand for the tables after it
  pub ticked_cells : CellsTied c p
      (counters_ticked max_entries 0 w p.compare on ns)
      (switches_after w p.compare ns on)
      (turning_after w p.compare ns on)
      (map counting ts)
  unfolding counting
  ticked_cells =
      record {
        tables_long = length-map ts counting ∙ cells.tables_long;
        counters_long = length_ticked w p.compare on max_entries 0 ns ∙ cells.counters_long;
        switches_long = length_after w p.compare ns on ∙ cells.switches_long;
        fits = λ t e t< a b.
            let inside : e < max_entries = omega (arith, fit.few_entries, first_of_rises c (suc t) c.tables t<) in
            let long = cells.counters_long in
            rw (
              ticked_at w p.compare on max_entries 0 e ns (omega arith) (omega arith) (omega arith),
              on_after w p.compare ns on e inside cells.switches_long,
              turn_after w p.compare ns on e inside cells.switches_long,
              get_or-map counting ts t stopped,
            )
            (cell_counted (get_or c.period t 0) (get_or c.offset e 0) (get_or ns e 0) (get_or p.compare e 0)
            (is_on (get_or on e 0)) (w && has_turn (get_or on e 0)) (get_or ts t stopped) (cells.fits t e t< a b));
        spare = λ e h. off_after w p.compare ns on e cells.switches_long (cells.spare e h);
        unturned = none_after w p.compare ns on cells.switches_long cells.unturned;
      }
