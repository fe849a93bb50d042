-- How a model of the machine stands for a state of the plain scheduler.
--
--   Tied  words, runner and held resources are those of the bodies; another body may still be above the level
--   Calm  none is
--   Sim   the whole: tied, calm, with the cells, the losses, the event bits and the order of the time-triggered tasks
--
-- and `latest_seat`, who runs while a time-triggered task is started.
use Prim.Native.Nat.{ℕ, ◌≤◌, ◌<◌}
use mathlib.Core.Path.{◌≡◌}
use mathlib.Core.Bool.{true, false}
use mathlib.Core.List.{List, [], ◌∷◌, map}
use lib.ListN.{length}
use Rattle.config.specs.declared.Config.{Config}
use Rattle.config.specs.Meaning.{execution_level, priority_of}
use Rattle.plan.specs.declared.Plan.{Plan}
use Rattle.scheduler.specs.Body.{Body, competes}
use Rattle.stack.specs.Stack.{row_bytes}
use Rattle.scheduler.specs.State.{State, among}
use Rattle.scheduler.proofs.Order.Invariant.{Orderly}
use Rattle.machine.specs.Model.{Model}
use Rattle.machine.proofs.Relation.Rows.{Shows}
use Rattle.machine.proofs.Relation.Words.{at, Words}
use Rattle.machine.proofs.Relation.Slots.{slots_along, SlotsOf}
use Rattle.machine.proofs.Relation.Nest.{Nested, AllHold, Seats, timed_seat}
use Rattle.machine.proofs.Relation.Cells.{CellsOf}
use Rattle.machine.proofs.Relation.Losses.{Lost}
use Rattle.machine.proofs.Relation.Bits.{NotedOf}

-- js: the time-triggered tasks that are started
pub record Tied (c : Config) (rk : ℕ → ℕ) (m : Model) (bs : List Body) (js ns : List ℕ) : Type 0 where
  pub size : length bs ≡ c.bodies
  pub words : Words c rk m.core bs
  pub nested : Nested c bs ns
  pub seats : Seats c rk bs js m.core.runner m.core.level ns
  pub slots : SlotsOf m (slots_along c rk bs ns)
  -- who is in no nest holds nothing
  pub loose : (b : ℕ) → among b ns ≡ false → (at bs b).held ≡ []

-- no body that is ready or started has an own priority above the level
abbrev pub Calm : Config → ℕ → List Body → Type 0
Calm c l bs = (b : ℕ) → b < c.bodies → competes (at bs b).phase ≡ true → priority_of c b ≤ l

-- the model m of the machine stands for the state s of the plain scheduler
pub record Sim (c : Config) (p : Plan) (rk : ℕ → ℕ) (m : Model) (s : State) : Type 0 where
  pub nest : List ℕ
  pub tied : Tied c rk m s.bodies s.order nest
  pub calm : Calm c m.core.level s.bodies
  pub cells : CellsOf c p m s.tables
  pub lost : Lost c rk m.losses s.bodies
  pub noted : NotedOf c rk m s.bodies
  pub orderly : Orderly c s
  pub row : Shows (row_bytes m.triggered) (map rk s.order)

-- the latest of the started time-triggered tasks runs, and all of the nest hold a resource
pub latest_seat : {c : Config} {rk : ℕ → ℕ} {m : Model} {bs : List Body} {j : ℕ} {js ns : List ℕ}
    → Tied c rk m bs (j ∷ js) ns → (m.core.runner ≡ rk j) × ((m.core.level ≡ execution_level) × AllHold bs ns)
latest_seat {c} {rk} {m} {bs} {j} {js} {ns} t =
    timed_seat c rk bs j js m.core.runner m.core.level ns t.seats
