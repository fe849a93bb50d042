-- Tables: what the entries that are due at one Tick do to a task; d and n are counted from the last accepted Start; an
-- entry is due exactly as demand 3 says, and no two of kind 3 at one Tick. Each law stands here in full, over specs/
-- alone; the modules it cites prove it.
use Prim.Native.Nat.{ℕ, suc, ◌+◌, ◌<◌}
use mathlib.Core.Path.{◌≡◌}
use mathlib.Core.Bool.{true, false}
use mathlib.Core.List.{List, ◌∷◌, ◌++◌}
use mathlib.Core.Logic.{◌≢◌, ◌↔◌}
use native.Mathlib.Omega.{arith}
use lib.ListN.{length, get_or, take}
use Rattle.config.specs.declared.Config.{Config}
use Rattle.config.specs.Meaning.{is_timed, first_of}
use Rattle.config.specs.Accepted as Configuration
use Rattle.scheduler.specs.Body.{suspended, is_suspended, activated, triggers, losing}
use Rattle.scheduler.specs.State.{State, Table, stopped, running, body_of, table_of}
use Rattle.scheduler.specs.Event.{Event, Tick, Start, Stop}
use Rattle.scheduler.specs.Tick.{dues, ticked, due_for}
use Rattle.scheduler.specs.Scheduler.{fresh, seen, after}
use Rattle.scheduler.specs.Entries.{entry_of, entries_of, entry_at}
use Rattle.scheduler.specs.History.{AcceptedIn, next, NoStart, NoStop, tick_count, History, due_mark, DueAt}
use Rattle.scheduler.proofs.Event.Losses as Losses
use Rattle.scheduler.proofs.Table.History as History
use Rattle.scheduler.proofs.Table.Dues as Dues
use Rattle.scheduler.proofs.Table.Entries as Entries
use Rattle.scheduler.proofs.Table.TimedEntries as TimedEntries

-- At one tick a task that several due entries name becomes ready once and loses the rest, whatever their order: only
-- their number counts. A time-triggered one is triggered once. One that isn't suspended loses them all.
pub tick_suspended : (c : Config) (es : List Event) (t k : ℕ) → t < length (after c (fresh c) es).bodies
    → is_timed c t ≡ false
    → (body_of (after c (fresh c) es) t).phase ≡ suspended
    → due_for c (after c (fresh c) es) t ≡ suc k
    → body_of (ticked c (after c (fresh c) es)) t ≡ losing k (activated (body_of (after c (fresh c) es) t))
tick_suspended c es t k fits = Losses.tick_suspended c es t fits k

pub tick_triggered : (c : Config) (es : List Event) (t k : ℕ) → t < length (after c (fresh c) es).bodies
    → is_timed c t ≡ true
    → (body_of (after c (fresh c) es) t).phase ≡ suspended
    → due_for c (after c (fresh c) es) t ≡ suc k
    → body_of (ticked c (after c (fresh c) es)) t ≡ losing k (triggers (body_of (after c (fresh c) es) t))
tick_triggered c es t k fits = Losses.tick_triggered c es t fits k

pub tick_active : (c : Config) (es : List Event) (t : ℕ) → t < length (after c (fresh c) es).bodies
    → is_suspended (body_of (after c (fresh c) es) t).phase ≡ false
    → body_of (ticked c (after c (fresh c) es)) t
    ≡ losing (due_for c (after c (fresh c) es) t) (body_of (after c (fresh c) es) t)
tick_active = Losses.tick_active

-- "n, the Ticks since its start": from an accepted Start on, until an accepted Stop
pub counted_from_start : (c : Config) (t d : ℕ) (before rest : List Event)
    → AcceptedIn c (after c (fresh c) before) (Start t d)
    → NoStop c t (next c (after c (fresh c) before) (Start t d)) rest
    → table_of (after c (fresh c) (before ++ Start t d ∷ rest)) t ≡ running d (tick_count rest)
counted_from_start = History.counted_from_start

pub stopped_until_start : (c : Config) (t : ℕ) (es : List Event) → NoStart c t (fresh c) es
    → table_of (after c (fresh c) es) t ≡ stopped
stopped_until_start = History.stopped_until_start

pub stopped_since_stop : (c : Config) (t : ℕ) (before rest : List Event)
    → AcceptedIn c (after c (fresh c) before) (Stop t)
    → NoStart c t (next c (after c (fresh c) before) (Stop t)) rest
    → table_of (after c (fresh c) (before ++ Stop t ∷ rest)) t ≡ stopped
stopped_since_stop = History.stopped_since_stop

-- no other case is left: each table is what its history says, and nothing else
pub table_history : (c : Config) (t : ℕ) (es : List Event) (x : Table)
    → (table_of (after c (fresh c) es) t ≡ x) ↔ History c t es x
table_history c t es x = (λ e. rw e at (History.history_of_table c t es), History.table_history c t)

-- the Start in a history is the table's last accepted one
pub last_start : (c : Config) (t d : ℕ) (before rest : List Event) → AcceptedIn c (after c (fresh c) before) (Start t d)
    → NoStop c t (next c (after c (fresh c) before) (Start t d)) rest
    → NoStart c t (next c (after c (fresh c) before) (Start t d)) rest
last_start = History.last_start

-- Two entries of kind 3 are never due at one tick, in no state at all:
-- they lie in one table, and their offsets differ by less than its period
pub timed_once : (c : Config) → Configuration.Accepted c → Configuration.Shaped c → (s : State) (e e' : ℕ)
    → e < first_of c c.tables
    → e' < first_of c c.tables
    → e ≢ e'
    → is_timed c (get_or c.task e 0) ≡ true
    → is_timed c (get_or c.task e' 0) ≡ true
    → get_or (dues c s) e false ≡ true
    → get_or (dues c s) e' false ≡ true
    → ⊥
timed_once = TimedEntries.timed_once

-- Demand 3: an entry is marked due at exactly those events that are Ticks and at which it is due "by the table's
-- arithmetic, counted from the table's last accepted start until its next accepted stop": the events before are `before
-- ++ Start t d ∷ rest`, that Start is accepted where it stands, no Stop of t in rest is, and `due P (d + o) (suc
-- (tick_count rest))`. For every list of events, the i-th of them and the k-th entry.
pub due_exactly : (c : Config) (es : List Event) (i k : ℕ) → i < length es → k < length (entries_of c)
    → (due_mark (seen c (fresh c) es) i k ≡ true) ↔ DueAt c (take i es) (get_or es i Tick) (entry_at c k)
due_exactly = Dues.due_exactly

-- of a configuration that the reader accepts, the k-th entry is that of the k-th offset,
-- in the table to whose entries k belongs
pub entries_long : (c : Config) → Configuration.Accepted c → Configuration.Shaped c
    → length (entries_of c) ≡ first_of c c.tables
entries_long c ok shaped = Entries.entries_long c (omega (arith, ok.few_entries, shaped.offsets))

pub entry_at_lem : (c : Config) → Configuration.Accepted c → Configuration.Shaped c → (t j : ℕ) → t < c.tables
    → j < get_or c.entries t 0
    → entry_at c (first_of c t + j) ≡ entry_of c t (get_or c.offset (first_of c t + j) 0)
entry_at_lem c ok shaped = Entries.entry_at_lem c (omega (arith, ok.few_entries, shaped.offsets))
