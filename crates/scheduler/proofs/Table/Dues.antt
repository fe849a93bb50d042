-- An entry's mark in what is seen is what the events say of it: `due_exactly`, at the end of the file.
--
-- In order: what is seen of the i-th event; the marks of a Tick, entry by entry;
-- both directions, by the table's history.
use Prim.Native.Nat.{ℕ, zero, suc, ◌<◌}
use mathlib.Core.Path.{◌≡◌, refl, sym, ap, ap₂, ◌∙◌}
use mathlib.Core.Bool.{Bool, true, false, true≢false}
use mathlib.Core.List.{List, [], ◌∷◌, ◌++◌, map, map-map, map-append}
use mathlib.Core.Logic.{◌↔◌}
use native.Mathlib.Nat.{add-zero}
use native.Mathlib.Numerals.{add-one}
use native.Mathlib.Omega.{arith}
use lib.ListN.{length, get_or, get_or-map, length-map, take, drop, replicate}
use lib.Seq.{get_or-drop, drop-drop}
use Rattle.config.specs.declared.Config.{Config}
use Rattle.config.specs.Meaning.{offsets}
use Rattle.scheduler.specs.State.{State, Table, stopped, table_of}
use Rattle.scheduler.specs.Event.{Event, Tick}
use Rattle.scheduler.specs.Tick.{counting, counted, entry_due, dues_from, dues}
use Rattle.scheduler.specs.Scheduler.{step, step_by, fresh, seen, seen_by, after, after_by}
use Rattle.scheduler.specs.Entries.{Entry, entry_of, entries_from, entries_of, entry_at}
use Rattle.scheduler.specs.History.{History, never_started, since_start, since_stop, due_mark, DueAt}
use Rattle.scheduler.proofs.Event.Effects.{by_tick, no_tick, length_tables_fresh}
use Rattle.scheduler.proofs.Table.Entries.{get_d_map_in}
use Rattle.scheduler.proofs.Table.History.{table_history, history_of_table, fits_after}

-- the marks of the i-th event
seen_at : (c : Config) (es : List Event) (i : ℕ) (s : State) → i < length es
    → get_or (map (λ x. x.due) (seen c s es)) i [] ≡ (step c (after c s (take i es)) (get_or es i Tick)).seen.due
unfolding seen_by after_by
seen_at c [] i s h = absurd (omega arith)
seen_at c (e ∷ es) zero s h = refl
seen_at c (e ∷ es) (suc i) s h = seen_at c es i (step c s e).state (omega arith)

-- whether the entry x is due, where the tables are ys
abbrev due_in : List Table → Entry → Bool
due_in ys x = entry_due x.period (get_or ys x.table stopped) x.offset

dues_from_entries : (c : Config) (ys xs : List Table) (t : ℕ) → drop t ys ≡ xs
    → dues_from c t xs ≡ map (due_in ys) (entries_from c (length xs) t)
unfolding dues_from entries_from
dues_from_entries c ys [] t e = refl
dues_from_entries c ys (x ∷ xs) t e =
    ap₂ (λ (a b : List Bool). a ++ b)
    (ap (λ y. map (entry_due (get_or c.period t 0) y) (offsets c t)) (sym head)
    ∙ sym (map-map (due_in ys) (entry_of c t) (offsets c t)))
    (dues_from_entries c ys xs (suc t) tail)
    ∙ sym (map-append (due_in ys) (map (entry_of c t) (offsets c t)) (entries_from c (length xs) (suc t)))
  where
    head : get_or ys t stopped ≡ x
    head =
        ap (λ n. get_or ys n stopped) (sym (add-zero t)) ∙ sym (get_or-drop t ys 0 stopped) ∙ ap (λ l. get_or l 0 stopped) e

    tail : drop (suc t) ys ≡ xs
    tail = ap (λ n. drop n ys) (sym (add-one t)) ∙ sym (drop-drop 1 t ys) ∙ ap (drop 1) e

none_due_lem : (n k : ℕ) → get_or (replicate n false) k false ≡ false
none_due_lem zero k = refl
none_due_lem (suc n) zero = refl
none_due_lem (suc n) (suc k) = none_due_lem n k

-- each entry has a mark
pub length_dues : (c : Config) (s : State) → length s.tables ≡ c.tables → length (dues c s) ≡ length (entries_of c)
length_dues c s fits =
    ap length (dues_from_entries c s.tables s.tables 0 refl)
    ∙ length-map (entries_from c (length s.tables) 0) (due_in s.tables)
    ∙ ap (λ n. length (entries_from c n 0)) fits

module _ (c : Config) where
  -- the k-th mark of a Tick
  tick_mark : (s : State) (k : ℕ) → length s.tables ≡ c.tables → k < length (entries_of c)
      → get_or (dues c (counted s)) k false
      ≡ entry_due (entry_at c k).period (counting (table_of s (entry_at c k).table)) (entry_at c k).offset
  unfolding counting
  tick_mark s k fits h =
      ap (λ l. get_or l k false) (dues_from_entries c (counted s).tables (counted s).tables 0 refl)
      ∙ ap (λ n. get_or (map (due_in (counted s).tables) (entries_from c n 0)) k false)
      (length-map s.tables counting ∙ fits)
      ∙ get_d_map_in (due_in (counted s).tables) (entries_of c) k (entry_of c 0 0) false h
      ∙ ap (λ y. entry_due (entry_at c k).period y (entry_at c k).offset)
      (get_or-map counting s.tables (entry_at c k).table stopped)

  -- the table's history tells whether its entry is due at a Tick after the events es
  due_history : (es : List Event) (x : Entry) (y : Table) → History c x.table es y
      → entry_due x.period (counting y) x.offset ≡ true
      → DueAt c es Tick x
  unfolding counting entry_due
  due_history es x y (never_started none) h = absurd (true≢false (sym h))
  due_history es x y (since_start d before rest q a none) h =
      record {
        at_tick = refl;
        d = d;
        before = before;
        rest = rest;
        split = q;
        accepted = a;
        no_stop = none;
        on_time = h;
      }
  due_history es x y (since_stop before rest q a none) h = absurd (true≢false (sym h))

  history_due : (es : List Event) (x : Entry) → DueAt c es Tick x
      → entry_due x.period (counting (table_of (after c (fresh c) es) x.table)) x.offset ≡ true
  unfolding counting entry_due
  history_due es x h =
      ap (λ y. entry_due x.period (counting y) x.offset)
      (table_history c x.table (since_start h.d h.before h.rest h.split h.accepted h.no_stop))
      ∙ h.on_time

  -- one event, after the events es
  event_due : (es : List Event) (e : Event) (k : ℕ) → k < length (entries_of c)
      → (get_or (step c (after c (fresh c) es) e).seen.due k false ≡ true) ↔ DueAt c es e (entry_at c k)
  unfolding step_by
  event_due es e k h =
      by_tick e
      (λ q. rw q (
        λ m. due_history es x (table_of s x.table) (history_of_table c x.table es) (sym mark ∙ m),
        λ d. mark ∙ history_due es x d,
      ))
      (λ n. (
        λ m. absurd (true≢false (sym m ∙ rw n (none_due_lem (length (dues c s)) k))),
        λ d. absurd (no_tick e n d.at_tick),
      ))
    where
      s : State
      s = after c (fresh c) es

      x : Entry
      x = entry_at c k

      mark : get_or (dues c (counted s)) k false ≡ entry_due x.period (counting (table_of s x.table)) x.offset
      mark = tick_mark s k (fits_after c es (fresh c) (length_tables_fresh c)) h

  pub due_exactly : (es : List Event) (i k : ℕ) → i < length es → k < length (entries_of c)
      → (due_mark (seen c (fresh c) es) i k ≡ true) ↔ DueAt c (take i es) (get_or es i Tick) (entry_at c k)
  due_exactly es i k h f = rw (seen_at c es i (fresh c) h) (event_due (take i es) (get_or es i Tick) k f)
