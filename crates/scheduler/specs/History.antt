-- A table's d and n as demand 3 words them:
-- "counted from the table's last accepted start until its next accepted stop".
--
--   AcceptedIn c s e     the event e, met in the state s, is accepted; Ends e: it ends its caller
--   NoStart c t s es     of the events es from the state s on, none is an accepted Start of the table t; NoStop: Stop
--   tick_count es        how many of es are Ticks
--   History c t es x     what the events es from the fresh start say of the table t is x
--   DueAt c es e x       they say of the entry x that it is due at the event e, which comes next
--   due_mark xs i k      the mark of the k-th entry at the i-th event, in what was seen
--   lines_lost c i s es  how many of the events es from the state s on are Lines of the ISR i that give 4
--   unlost x             what was seen of an event, but for the losses
--
-- Main laws: `table_history`, `due_exactly` (proofs/Theorems/Tables.antt).
use Rattle.std.specs.Prelude.{ℕ, suc, ◌+◌, ◌≡◌, ◌⊎◌, Bool, true, false, cond, ◌&&◌, List, [], ◌∷◌, ◌++◌, map, eqb, get_or}
use Rattle.config.specs.declared.Config.{Config}
use Rattle.cell.specs.Due.{due}
use Rattle.scheduler.specs.Status.{done, limit_reached}
use Rattle.scheduler.specs.State.{Table, stopped, running, State}
use Rattle.scheduler.specs.Event.{Event, Activate, Finish, Chain, Get, Release, Tick, Line, Start, Stop, Wait, Set, Clear, is_tick}
use Rattle.scheduler.specs.Scheduler.{Seen, mark_of, step, fresh, after}
use Rattle.scheduler.specs.Entries.{Entry}

abbrev pub AcceptedIn : Config → State → Event → Type 0
AcceptedIn c s e = (step c s e).seen.status ≡ done

-- the event ends its caller's body
abbrev pub Ends : Event → Type 0
Ends e = (e ≡ Finish) ⊎ ((t : ℕ) × (e ≡ Chain t))

-- the state that the event e leaves
abbrev pub next : Config → State → Event → State
next c s e = (step c s e).state

-- of the events es from the state s on, none that P names is accepted
abbrev pub NoneAccepted : (Event → Type 0) → Config → State → List Event → Type 0
NoneAccepted P c s es =
    (e : Event) (before rest : List Event) → es ≡ before ++ e ∷ rest → P e → AcceptedIn c (after c s before) e → ⊥

-- the event is a Start, a Stop, of table t
abbrev pub StartOf : ℕ → Event → Type 0
StartOf t e = (d : ℕ) × (e ≡ Start t d)

abbrev pub StopOf : ℕ → Event → Type 0
StopOf t e = e ≡ Stop t

abbrev pub NoStart : Config → ℕ → State → List Event → Type 0
NoStart c t = NoneAccepted (StartOf t) c

abbrev pub NoStop : Config → ℕ → State → List Event → Type 0
NoStop c t = NoneAccepted (StopOf t) c

unfoldable pub tick_count : List Event → ℕ
tick_count [] = 0
tick_count (e ∷ es) = cond (is_tick e) (suc (tick_count es)) (tick_count es)

-- A table that runs can't be started again, so an accepted Start with no accepted Stop after it is the last one.
pub data History (c : Config) (t : ℕ) (es : List Event) : Table → Type 0 where
  never_started : NoStart c t (fresh c) es → History c t es stopped
  since_start : (d : ℕ) (before rest : List Event) → es ≡ before ++ Start t d ∷ rest
      → AcceptedIn c (after c (fresh c) before) (Start t d)
      → NoStop c t (next c (after c (fresh c) before) (Start t d)) rest
      → History c t es (running d (tick_count rest))
  since_stop : (before rest : List Event) → es ≡ before ++ Stop t ∷ rest
      → AcceptedIn c (after c (fresh c) before) (Stop t)
      → NoStart c t (next c (after c (fresh c) before) (Stop t)) rest
      → History c t es stopped

-- past the last event and the last entry no mark is true
abbrev pub due_mark : List Seen → ℕ → ℕ → Bool
due_mark xs i k = get_or (get_or (map (λ x. x.due) xs) i []) k false

-- Demand 3's "due by the table's arithmetic, counted from the table's last accepted start until its next accepted stop"
pub record DueAt (c : Config) (es : List Event) (e : Event) (x : Entry) : Type 0 where
  pub at_tick : e ≡ Tick
  pub d : ℕ
  pub before : List Event
  pub rest : List Event
  pub split : es ≡ before ++ Start x.table d ∷ rest
  pub accepted : AcceptedIn c (after c (fresh c) before) (Start x.table d)
  pub no_stop : NoStop c x.table (next c (after c (fresh c) before) (Start x.table d)) rest
  pub on_time : due x.period (d + x.offset) (suc (tick_count rest)) ≡ true

-- the event is a Line of the ISR i
abbrev pub is_line_of : ℕ → Event → Bool
is_line_of i (Activate t) = false
is_line_of i Finish = false
is_line_of i (Chain t) = false
is_line_of i (Get r) = false
is_line_of i (Release r) = false
is_line_of i Tick = false
is_line_of i (Line j) = eqb j i
is_line_of i (Start t d) = false
is_line_of i (Stop t) = false
is_line_of i (Wait w) = false
is_line_of i (Set t w) = false
is_line_of i (Clear w) = false

-- "a Line that meets a waiting request .. besides giving status 4"
unfoldable pub lines_lost : Config → ℕ → State → List Event → ℕ
lines_lost c i s [] = 0
lines_lost c i s (e ∷ es) =
    mark_of (is_line_of i e && eqb (step c s e).seen.status limit_reached) + lines_lost c i (next c s e) es

abbrev pub unlost : Seen → Seen
unlost x =
    record { status = x.status; runner = x.runner; level = x.level; begun = x.begun; losses = []; due = x.due }
