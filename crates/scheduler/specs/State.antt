-- The scheduler's state: its bodies, its tables and the order in which time-triggered tasks were started; and who runs
-- in it. A table is document 01's word for a schedule table.
use Rattle.std.specs.Prelude.{ℕ, Bool, true, false, ◌||◌, List, [], ◌∷◌, get_or, set}
use Rattle.config.specs.declared.Config.{Config}
use Rattle.config.specs.Meaning.{execution_level}
unfoldable pub use Rattle.config.specs.Among.{among}
use Rattle.scheduler.specs.Body.{suspended, has_begun, Body}
use Rattle.scheduler.specs.Choice.{Candidate, Tie, by_holding, chosen_by}

-- "each table is stopped or has d and n, the Ticks since its start": AUTOSAR's stopped and running
pub data Table : Type 0 where
  stopped : Table
  running : (d n : ℕ) → Table

-- it was started, and has not been stopped since
abbrev pub is_running : Table → Bool
is_running stopped = false
is_running (running d n) = true

-- `order`: the time-triggered tasks that were started and have not ended, the latest first
pub record State : Type 0 where
  pub bodies : List Body
  pub tables : List Table
  pub order : List ℕ

-- a body that was never asked for; what stands past the list's end
abbrev pub no_body : Body
no_body = record { phase = suspended; pending = false; held = []; losses = 0; bits = 0 }

-- body i; table t
abbrev pub body_of : State → ℕ → Body
body_of s i = get_or s.bodies i no_body

abbrev pub table_of : State → ℕ → Table
table_of s t = get_or s.tables t stopped

-- the body i changed by f
abbrev pub changing : ℕ → (Body → Body) → State → State
changing i f s = record { bodies = set s.bodies i (f (body_of s i)); tables = s.tables; order = s.order }

-- table t becomes x
abbrev pub with_table : ℕ → Table → State → State
with_table t x s = record { bodies = s.bodies; tables = set s.tables t x; order = s.order }

-- OSEKtime's rule, "latest start first": a time-triggered task "preempts all that runs, another kind 3 body too, and
-- runs at one common execution level"; js are those started, k is who runs where there is none
abbrev pub latest_of : List Body → List ℕ → Candidate → Candidate
latest_of bs [] k = k
latest_of bs (j ∷ js) k =
    record {
      number = j;
      level = execution_level;
      began = has_begun (get_or bs j no_body).phase;
      holder = false;
      timed = true;
    }

-- who runs now, by a rule for ties, and by the one that holds
abbrev pub runner_by : Tie → Config → State → Candidate
runner_by q c s = latest_of s.bodies s.order (chosen_by q c s.bodies)

abbrev pub runner : Config → State → Candidate
runner = runner_by by_holding

-- "r is held by anyone"
unfoldable pub held_in : ℕ → List Body → Bool
held_in r [] = false
held_in r (b ∷ bs) = among r b.held || held_in r bs
