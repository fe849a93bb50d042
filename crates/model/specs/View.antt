-- The code's model is the machine's, field by field, and so is an outcome: `view` looks at a struct of the code as the
-- machine's record, `model_of` goes back. A status is the documents' number of its case. A contract speaks of the
-- machine's definitions through them, and fixes what is handed back: `view_outcome_injective` (proofs/Views.antt).
-- Registers are the machine's model once there are arrays beside them (`view_with`), and the contract of a method on
-- registers holds whatever the arrays hold that it is not lent.
use Rattle.std.specs.Prelude.{ℕ, List}
use Rattle.scheduler.specs.Status.{done, access, call_level, no_such, limit_reached, no_function, holds_resource, wrong_state, bad_delay, not_user}
use Rattle.model.specs.declared.Status.{Status}
use Rattle.model.specs.declared.Status.TheVariants.{Done, Access, CallLevel, NoSuch, Limit, NoFunction, HoldsResource, WrongState, BadDelay, NotUser}
use Rattle.model.specs.declared.Core.{Core}
use Rattle.model.specs.declared.Picked.{Picked}
use Rattle.model.specs.declared.Registers.{Registers}
use Rattle.model.specs.declared.Step.{Step}
use Rattle.model.specs.declared.Model.{Model}
use Rattle.model.specs.declared.Outcome.{Outcome}
use Rattle.machine.specs.Model as Machine

-- the words, who runs and at which level
abbrev pub core : ℕ → ℕ → ℕ → ℕ → ℕ → Machine.Core
core w v a r l = record { request = w; started = v; aside = a; runner = r; level = l }

abbrev pub view_core : Core → Machine.Core
view_core k = core k.request k.started k.aside k.runner k.level

-- the same after arbitration
abbrev pub view_picked : Picked → Machine.Picked
view_picked p = record { core = view_core p.core; begun = p.begun }

-- The arrays of the machine: counters and switches of the cells, losses, event bits and masks.
pub record Arrays : Type 0 where
  pub counter : List ℕ
  pub on : List ℕ
  pub losses : List ℕ
  pub bits : List ℕ
  pub waited : List ℕ

abbrev pub arrays : List ℕ → List ℕ → List ℕ → List ℕ → List ℕ → Arrays
arrays ns on ls bs ms = record { counter = ns; on = on; losses = ls; bits = bs; waited = ms }

-- those of a model
abbrev pub arrays_of : Model → Arrays
arrays_of m = arrays m.counter m.on m.losses m.bits m.waited

-- other cells, losses, event bits and masks
abbrev pub put_cells : List ℕ → List ℕ → Arrays → Arrays
put_cells ns on x = arrays ns on x.losses x.bits x.waited

abbrev pub put_losses : List ℕ → Arrays → Arrays
put_losses ls x = arrays x.counter x.on ls x.bits x.waited

abbrev pub put_event_bits : List ℕ → List ℕ → Arrays → Arrays
put_event_bits bs ms x = arrays x.counter x.on x.losses bs ms

abbrev pub put_bits : List ℕ → Arrays → Arrays
put_bits bs x = put_event_bits bs x.waited x

-- registers with arrays
abbrev pub view_with : Registers → Arrays → Machine.Model
view_with r x =
    record {
      core = core r.request r.started r.aside r.runner r.level;
      held = r.held;
      resource = r.resource;
      holder = r.holder;
      raised = r.raised;
      counter = x.counter;
      on = x.on;
      turning = r.turning;
      losses = x.losses;
      cleared = r.cleared;
      bits = x.bits;
      waited = x.waited;
      triggered = r.triggered;
    }

-- the number of a status
abbrev pub status_number : Status → ℕ
status_number Done = done
status_number Access = access
status_number CallLevel = call_level
status_number NoSuch = no_such
status_number Limit = limit_reached
status_number NoFunction = no_function
status_number HoldsResource = holds_resource
status_number WrongState = wrong_state
status_number BadDelay = bad_delay
status_number NotUser = not_user

-- what a method on registers hands back
abbrev pub view_step : Step → Arrays → Machine.Outcome
view_step s x = record { model = view_with s.registers x; status = status_number s.status; begun = s.begun }

-- a model
abbrev pub view : Model → Machine.Model
view m = view_with m.registers (arrays_of m)

abbrev pub view_outcome : Outcome → Machine.Outcome
view_outcome o = record { model = view o.model; status = status_number o.status; begun = o.begun }

-- and back
abbrev pub registers_of : Machine.Model → Registers
registers_of m =
    record {
      request = m.core.request;
      started = m.core.started;
      aside = m.core.aside;
      held = m.held;
      runner = m.core.runner;
      level = m.core.level;
      resource = m.resource;
      holder = m.holder;
      raised = m.raised;
      turning = m.turning;
      cleared = m.cleared;
      triggered = m.triggered;
    }

abbrev pub model_of : Machine.Model → Model
model_of m =
    record {
      registers = registers_of m;
      counter = m.counter;
      on = m.on;
      losses = m.losses;
      bits = m.bits;
      waited = m.waited;
    }
