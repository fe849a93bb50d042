-- A table's d and n are what its history says: `table_history` and `history_of_table`, at the end of the file.
--
-- In order: what one event does to a table (`turn`); a table through a list of events with no accepted Stop, or no
-- accepted Start, of it; every list of events has a last accepted Start or Stop of the table, or none.
use Prim.Native.Nat.{ℕ, zero, suc, ◌+◌}
use mathlib.Core.Path.{◌≡◌, refl, sym, ap, ◌∙◌}
use mathlib.Core.Bool.{Bool, true, false, true≢false, cond}
use mathlib.Core.List.{List, [], ◌∷◌, ◌++◌, append_assoc}
use native.Mathlib.Nat.{add-zero, zero-add}
use native.Mathlib.Omega.{arith}
use borrow.Author.Tests.{eq-eqb, ne_eqb}
use lib.Dec.{eqb}
use lib.ListN.{length, get_or, get_or-map, replicate}
use lib.Seq.{get_or-set_same, get_or-set_other}
use Rattle.number.proofs.Cases.{by_eq, cond_either}
use Rattle.config.specs.declared.Config.{Config}
use Rattle.scheduler.specs.Status.{done, first_given}
use Rattle.scheduler.specs.State.{State, Table, stopped, running, table_of, with_table, runner}
use Rattle.scheduler.specs.Event.{Event, Activate, Finish, Chain, Get, Release, Tick, Line, Start, Stop, Wait, Set, Clear, is_tick}
use Rattle.scheduler.specs.Tick.{counting}
use Rattle.scheduler.specs.Call.{caller, finish, finish_timed, status_of, effect_of, else_of}
use Rattle.scheduler.specs.Scheduler.{leaves, step_by, fresh, after, after_by}
use Rattle.scheduler.specs.History.{AcceptedIn, next, NoneAccepted, StartOf, StopOf, NoStart, NoStop, tick_count, History, never_started, since_start, since_stop}
use Rattle.scheduler.proofs.Event.Checks.{start_passed, stop_passed}
use Rattle.scheduler.proofs.Event.Effects.{clash, after_append, else_of_keeps, tables_dispatched, tables_ticked, tables_fresh, length_tables_step, length_tables_fresh}

-- what the event e, met in the state s, does to the table t
data Turn (c : Config) (t : ℕ) (s : State) (e : Event) : Type 0 where
  starts : (d : ℕ) → e ≡ Start t d → AcceptedIn c s e → table_of (next c s e) t ≡ running d 0 → Turn c t s e
  stops : e ≡ Stop t → AcceptedIn c s e → table_of (next c s e) t ≡ stopped → Turn c t s e
  passes : (StartOf t e → AcceptedIn c s e → ⊥) → (StopOf t e → AcceptedIn c s e → ⊥)
      → table_of (next c s e) t ≡ cond (is_tick e) (counting (table_of s t)) (table_of s t)
      → Turn c t s e

module _ (c : Config) (t : ℕ) (s : State) where
  -- the table after the event e: its effect's where the status is 0
  table_next : (e : Event) → table_of (next c s e) t ≡ table_of (leaves c s e) t
  unfolding step_by
  table_next e = ap (λ l. get_or l t stopped) (tables_dispatched c (leaves c s e))

  -- no refusal changes a table
  table_same : (e : Event) → table_of (else_of c s (status_of c s e) e) t ≡ table_of s t
  table_same e = else_of_keeps c s (λ x. table_of x t ≡ table_of s t) refl (status_of c s e) e (λ i _ _ _. refl)

  table_done : (e : Event) → AcceptedIn c s e → table_of (next c s e) t ≡ table_of (effect_of c s e) t
  unfolding step_by
  table_done e a = table_next e ∙ rw (eq-eqb (status_of c s e) done a)

  table_refused : (e : Event) → (AcceptedIn c s e → ⊥) → table_of (next c s e) t ≡ table_of s t
  unfolding step_by
  table_refused e r = table_next e ∙ rw (ne_eqb (status_of c s e) done r) (table_same e)

  table_kept : (e : Event) → table_of (effect_of c s e) t ≡ table_of s t → table_of (next c s e) t ≡ table_of s t
  table_kept e k =
      table_next e
      ∙ cond_either (λ x. table_of x t ≡ table_of s t) (eqb (status_of c s e) done) (effect_of c s e)
      (else_of c s (status_of c s e) e) k (table_same e)

  with_table_other : (u : ℕ) (x : Table) → (u ≡ t → ⊥) → table_of (with_table u x s) t ≡ table_of s t
  with_table_other u x d = get_or-set_other s.tables u t x stopped (λ e. d (sym e))

  table_started : (d : ℕ) → length s.tables ≡ c.tables → AcceptedIn c s (Start t d)
      → table_of (next c s (Start t d)) t ≡ running d 0
  unfolding step_by
  table_started d n a =
      table_done (Start t d) a
      ∙ get_or-set_same s.tables t (running d 0) stopped (omega (arith, (start_passed c s t d a).1))

  table_stopped : length s.tables ≡ c.tables → AcceptedIn c s (Stop t) → table_of (next c s (Stop t)) t ≡ stopped
  unfolding step_by
  table_stopped n a =
      table_done (Stop t) a
      ∙ get_or-set_same s.tables t stopped stopped (omega (arith, (stop_passed c s t a).1))

  table_ticked : table_of (next c s Tick) t ≡ counting (table_of s t)
  unfolding step_by first_given counting
  table_ticked =
      table_done Tick refl ∙ ap (λ l. get_or l t stopped) (tables_ticked c s)
      ∙ get_or-map counting s.tables t stopped

  turn_start : (u d : ℕ) → length s.tables ≡ c.tables → Turn c t s (Start u d)
  unfolding step_by
  turn_start u d n =
      by_eq (status_of c s (Start u d)) done
      (λ ok. by_eq u t
      (λ same. rw same (starts d refl (rw same at ok) (table_started d n (rw same at ok))))
      (λ other. passes (λ p a. other (cc)) (λ q a. clash (cc))
      (table_kept (Start u d) (with_table_other u (running d 0) other))))
      (λ bad. passes (λ p a. bad a) (λ q a. clash (cc)) (table_refused (Start u d) bad))

  turn_stop : (u : ℕ) → length s.tables ≡ c.tables → Turn c t s (Stop u)
  unfolding step_by
  turn_stop u n =
      by_eq (status_of c s (Stop u)) done
      (λ ok. by_eq u t
      (λ same. rw same (stops refl (rw same at ok) (table_stopped n (rw same at ok))))
      (λ other. passes (λ p a. clash (cc)) (λ q a. other (cc)) (table_kept (Stop u) (with_table_other u stopped other))))
      (λ bad. passes (λ p a. clash (cc)) (λ q a. bad a) (table_refused (Stop u) bad))

  -- an end changes no table
  ends : table_of (effect_of c s Finish) t ≡ table_of s t
  ends =
      cond_either (λ x. table_of x t ≡ table_of s t) (runner c s).timed (finish_timed (caller c s) s)
      (finish (caller c s) s) refl refl

  turn : (e : Event) → length s.tables ≡ c.tables → Turn c t s e
  turn (Activate u) n = passes (λ p a. clash (cc)) (λ q a. clash (cc)) (table_kept (Activate u) refl)
  turn Finish n = passes (λ p a. clash (cc)) (λ q a. clash (cc)) (table_kept Finish ends)
  turn (Chain u) n = passes (λ p a. clash (cc)) (λ q a. clash (cc)) (table_kept (Chain u) refl)
  turn (Get r) n = passes (λ p a. clash (cc)) (λ q a. clash (cc)) (table_kept (Get r) refl)
  turn (Release r) n = passes (λ p a. clash (cc)) (λ q a. clash (cc)) (table_kept (Release r) refl)
  turn Tick n = passes (λ p a. clash (cc)) (λ q a. clash (cc)) table_ticked
  turn (Line i) n = passes (λ p a. clash (cc)) (λ q a. clash (cc)) (table_kept (Line i) refl)
  turn (Start u d) n = turn_start u d n
  turn (Stop u) n = turn_stop u n
  turn (Wait w) n = passes (λ p a. clash (cc)) (λ q a. clash (cc)) (table_kept (Wait w) refl)
  turn (Set u w) n = passes (λ p a. clash (cc)) (λ q a. clash (cc)) (table_kept (Set u w) refl)
  turn (Clear w) n = passes (λ p a. clash (cc)) (λ q a. clash (cc)) (table_kept (Clear w) refl)

-- none of e and es: neither e nor any of es
module _ (P : Event → Type 0) (c : Config) (s : State) (e : Event) (es : List Event) where
  none_head : NoneAccepted P c s (e ∷ es) → P e → AcceptedIn c s e → ⊥
  unfolding after_by
  none_head none = none e [] es refl

  none_tail : NoneAccepted P c s (e ∷ es) → NoneAccepted P c (next c s e) es
  unfolding after_by
  none_tail none x before rest q = none x (e ∷ before) rest (ap (λ l. e ∷ l) q)

  none_cons : (P e → AcceptedIn c s e → ⊥) → NoneAccepted P c (next c s e) es → NoneAccepted P c s (e ∷ es)
  unfolding after_by
  none_cons head tail x [] rest q p a = let h : e ≡ x = cc in head (rw h p) (rw h a)
  none_cons head tail x (y ∷ before) rest q p a = let h : e ≡ y = cc in tail x before rest (cc) p (rw h a)

none_nil : (P : Event → Type 0) (c : Config) (s : State) → NoneAccepted P c s []
none_nil P c s e [] rest q p a = clash (cc)
none_nil P c s e (x ∷ before) rest q p a = clash (cc)

-- nor in the part before any of them
none_before : (P : Event → Type 0) (c : Config) (s : State) (e : Event) (before rest : List Event)
    → NoneAccepted P c s (before ++ e ∷ rest)
    → NoneAccepted P c s before
none_before P c s e before rest none x before' rest' q =
    none x before' (rest' ++ e ∷ rest) (ap (λ l. l ++ e ∷ rest) q ∙ append_assoc before' (x ∷ rest') (e ∷ rest))

-- there are as many tables as the configuration says
module _ (c : Config) where
  fits_step : (s : State) (e : Event) → length s.tables ≡ c.tables → length (next c s e).tables ≡ c.tables
  fits_step s e n = length_tables_step c s e ∙ n

  pub fits_after : (es : List Event) (s : State) → length s.tables ≡ c.tables
      → length (after c s es).tables ≡ c.tables
  unfolding after_by
  fits_after [] s n = n
  fits_after (e ∷ es) s n = fits_after es (next c s e) (fits_step s e n)

module _ (c : Config) (t : ℕ) where
  -- a table that runs counts the Ticks until an accepted Stop
  runs_on : (es : List Event) (s : State) (d n : ℕ) → length s.tables ≡ c.tables → table_of s t ≡ running d n
      → NoStop c t s es
      → table_of (after c s es) t ≡ running d (n + tick_count es)
  unfolding step_by after_by tick_count counting
  runs_on [] s d n fits r none = r ∙ ap (running d) (sym (add-zero n))
  runs_on (e ∷ es) s d n fits r none =
      go (turn c t s e fits)
      (λ m r'. runs_on es (next c s e) d m (fits_step c s e fits) r' (none_tail (StopOf t) c s e es none))
    where
      Later : ℕ → Type 0
      Later m =
          table_of (next c s e) t ≡ running d m → table_of (after c (next c s e) es) t ≡ running d (m + tick_count es)

      counts : (b : Bool) → table_of (next c s e) t ≡ cond b (counting (running d n)) (running d n) → ((m : ℕ) → Later m)
          → table_of (after c (next c s e) es) t ≡ running d (n + cond b (suc (tick_count es)) (tick_count es))
      counts true y later =
          let one_more_lem : suc n + tick_count es ≡ n + suc (tick_count es) = omega arith in
          later (suc n) y ∙ ap (running d) one_more_lem
      counts false y later = later n y

      go : Turn c t s e → ((m : ℕ) → Later m) → table_of (after c s (e ∷ es)) t ≡ running d (n + tick_count (e ∷ es))
      go (starts d' q a y) later = absurd (true≢false (rw r at (start_passed c s t d' (rw q at a)).4))
      go (stops q a y) later = absurd (none_head (StopOf t) c s e es none q a)
      go (passes p q y) later = counts (is_tick e) (y ∙ ap (λ x. cond (is_tick e) (counting x) x) r) later

  -- a table that is stopped stays so until an accepted Start
  stays_stopped : (es : List Event) (s : State) → length s.tables ≡ c.tables → table_of s t ≡ stopped
      → NoStart c t s es
      → table_of (after c s es) t ≡ stopped
  unfolding after_by counting
  stays_stopped [] s fits r none = r
  stays_stopped (e ∷ es) s fits r none =
      stays_stopped es (next c s e) (fits_step c s e fits) (go (turn c t s e fits))
      (none_tail (StartOf t) c s e es none)
    where
      still : (b : Bool) → cond b (counting stopped) stopped ≡ stopped
      still true = refl
      still false = refl

      go : Turn c t s e → table_of (next c s e) t ≡ stopped
      go (starts d q a y) = absurd (none_head (StartOf t) c s e es none (d, q) a)
      go (stops q a y) = y
      go (passes p q y) = y ∙ rw r (still (is_tick e))

  -- the same from the fresh start
  pub counted_from_start : (d : ℕ) (before rest : List Event) → AcceptedIn c (after c (fresh c) before) (Start t d)
      → NoStop c t (next c (after c (fresh c) before) (Start t d)) rest
      → table_of (after c (fresh c) (before ++ Start t d ∷ rest)) t ≡ running d (tick_count rest)
  unfolding after_by
  counted_from_start d before rest a none =
      ap (λ x. table_of x t) (after_append c before (Start t d ∷ rest) (fresh c))
      ∙ runs_on rest (next c s (Start t d)) d 0 (fits_step c s (Start t d) fits) (table_started c t s d fits a) none
      ∙ ap (running d) (zero-add (tick_count rest))
    where
      s : State
      s = after c (fresh c) before

      fits : length s.tables ≡ c.tables
      fits = fits_after c before (fresh c) (length_tables_fresh c)

  pub stopped_until_start : (es : List Event) → NoStart c t (fresh c) es → table_of (after c (fresh c) es) t ≡ stopped
  stopped_until_start es none =
      stays_stopped es (fresh c) (length_tables_fresh c)
      (ap (λ l. get_or l t stopped) (tables_fresh c) ∙ all_stopped c.tables t) none
    where
      all_stopped : (n i : ℕ) → get_or (replicate n stopped) i stopped ≡ stopped
      all_stopped zero i = refl
      all_stopped (suc n) zero = refl
      all_stopped (suc n) (suc i) = all_stopped n i

  pub stopped_since_stop : (before rest : List Event) → AcceptedIn c (after c (fresh c) before) (Stop t)
      → NoStart c t (next c (after c (fresh c) before) (Stop t)) rest
      → table_of (after c (fresh c) (before ++ Stop t ∷ rest)) t ≡ stopped
  unfolding after_by
  stopped_since_stop before rest a none =
      ap (λ x. table_of x t) (after_append c before (Stop t ∷ rest) (fresh c))
      ∙ stays_stopped rest (next c s (Stop t)) (fits_step c s (Stop t) fits) (table_stopped c t s fits a) none
    where
      s : State
      s = after c (fresh c) before

      fits : length s.tables ≡ c.tables
      fits = fits_after c before (fresh c) (length_tables_fresh c)

  -- a table that runs can't be started again
  no_restart : (d : ℕ) (s : State) (rest : List Event) → length s.tables ≡ c.tables → AcceptedIn c s (Start t d)
      → NoStop c t (next c s (Start t d)) rest
      → NoStart c t (next c s (Start t d)) rest
  unfolding step_by
  no_restart d s rest fits a none e before later q p a' =
      true≢false
      (rw (runs_on before (next c s (Start t d)) d 0 (fits_step c s (Start t d) fits)
      (table_started c t s d fits a) fewer)
      at (start_passed c (after c (next c s (Start t d)) before) t p.0 (rw p.1 at a')).4)
    where
      fewer : NoStop c t (next c s (Start t d)) before
      fewer = none_before (StopOf t) c (next c s (Start t d)) e before later (rw q at none)

  pub last_start : (d : ℕ) (before rest : List Event) → AcceptedIn c (after c (fresh c) before) (Start t d)
      → NoStop c t (next c (after c (fresh c) before) (Start t d)) rest
      → NoStart c t (next c (after c (fresh c) before) (Start t d)) rest
  last_start d before rest =
      no_restart d (after c (fresh c) before) rest (fits_after c before (fresh c) (length_tables_fresh c))

  -- the last accepted Start or Stop among the events es from the state s on
  data Last (s : State) (es : List Event) : Type 0 where
    neither : NoStart c t s es → NoStop c t s es → Last s es
    start_last : (d : ℕ) (before rest : List Event) → es ≡ before ++ Start t d ∷ rest
        → AcceptedIn c (after c s before) (Start t d)
        → NoStop c t (next c (after c s before) (Start t d)) rest
        → Last s es
    stop_last : (before rest : List Event) → es ≡ before ++ Stop t ∷ rest → AcceptedIn c (after c s before) (Stop t)
        → NoStart c t (next c (after c s before) (Stop t)) rest
        → Last s es

  last : (es : List Event) (s : State) → length s.tables ≡ c.tables → Last s es
  unfolding after_by
  last [] s fits = neither (none_nil (StartOf t) c s) (none_nil (StopOf t) c s)
  last (e ∷ es) s fits = go (turn c t s e fits) (last es (next c s e) (fits_step c s e fits))
    where
      go : Turn c t s e → Last (next c s e) es → Last s (e ∷ es)
      go τ (start_last d before rest q a none) = start_last d (e ∷ before) rest (ap (λ l. e ∷ l) q) a none
      go τ (stop_last before rest q a none) = stop_last (e ∷ before) rest (ap (λ l. e ∷ l) q) a none
      go (starts d q a y) (neither ns np) = start_last d [] es (ap (λ x. x ∷ es) q) (rw q at a) (rw q at np)
      go (stops q a y) (neither ns np) = stop_last [] es (ap (λ x. x ∷ es) q) (rw q at a) (rw q at ns)
      go (passes p r y) (neither ns np) =
          neither (none_cons (StartOf t) c s e es p ns) (none_cons (StopOf t) c s e es r np)

  pub table_history : {es : List Event} {x : Table} → History c t es x → table_of (after c (fresh c) es) t ≡ x
  table_history {es} (never_started none) = stopped_until_start es none
  table_history (since_start d before rest q a none) = rw q (counted_from_start d before rest a none)
  table_history (since_stop before rest q a none) = rw q (stopped_since_stop before rest a none)

  pub history_of_table : (es : List Event) → History c t es (table_of (after c (fresh c) es) t)
  history_of_table es = go (last es (fresh c) (length_tables_fresh c))
    where
      go : Last (fresh c) es → History c t es (table_of (after c (fresh c) es) t)
      go (neither ns np) = rw (stopped_until_start es ns) (never_started ns)
      go (start_last d before rest q a none) =
          rw (table_history (since_start d before rest q a none)) (since_start d before rest q a none)
      go (stop_last before rest q a none) =
          rw (table_history (since_stop before rest q a none)) (since_stop before rest q a none)
