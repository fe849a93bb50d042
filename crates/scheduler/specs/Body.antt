-- One body. Body is document 01's word for a control flow: a task or a category 2 interrupt routine (ISR).
use Rattle.std.specs.Prelude.{ℕ, ◌+◌, max, min, Bool, true, false, cond}
use mathlib.Core.List.{List, [], ◌∷◌, foldr, map}
use Rattle.config.specs.declared.Config.{Config}
use Rattle.config.specs.Meaning.{priority_of, ceiling}
use Rattle.scheduler.specs.Bits.{any_set, with_bits, without_bits}

-- "suspended, ready (waiting to begin) or started (begun, not finished)": OSEK's running and preempted are both
-- `started`. An extended task may be OSEK's waiting besides: begun, and waiting for one of the bits of a mask. A
-- time-triggered task is suspended or `triggered`, by an entry: OSEKtime's running and preempted, once it has begun.
pub data Phase : Type 0 where
  suspended ready started : Phase
  waiting : (mask : ℕ) → Phase
  triggered : (began : Bool) → Phase

-- which phase it is
abbrev pub is_suspended : Phase → Bool
is_suspended suspended = true
is_suspended ready = false
is_suspended started = false
is_suspended (waiting w) = false
is_suspended (triggered x) = false

abbrev pub is_started : Phase → Bool
is_started suspended = false
is_started ready = false
is_started started = true
is_started (waiting w) = false
is_started (triggered x) = false

abbrev pub is_waiting : Phase → Bool
is_waiting suspended = false
is_waiting ready = false
is_waiting started = false
is_waiting (waiting w) = true
is_waiting (triggered x) = false

-- begun and not finished: started, waiting, or triggered and begun
abbrev pub has_begun : Phase → Bool
has_begun suspended = false
has_begun ready = false
has_begun started = true
has_begun (waiting w) = true
has_begun (triggered x) = x

-- ready or started: it may run by its priority
abbrev pub competes : Phase → Bool
competes suspended = false
competes ready = true
competes started = true
competes (waiting w) = false
competes (triggered x) = false

-- `pending`: for a started ISR, whether a request waits. `held`: the resources it holds, the most recently taken first.
-- `losses`: lost activations, and where they are counted lost lines. `bits`: the event bits of an extended task.
pub record Body : Type 0 where
  pub phase : Phase
  pub pending : Bool
  pub held : List ℕ
  pub losses : ℕ
  pub bits : ℕ

-- it holds a resource
abbrev pub holds : List ℕ → Bool
holds [] = false
holds (r ∷ rs) = true

-- "the greatest of its own priority and the ceilings of the resources it holds", for the body with number i
abbrev pub current : Config → ℕ → Body → ℕ
current c i b = foldr max (priority_of c i) (map (ceiling c) b.held)

-- the body in another phase
abbrev pub become : Phase → Body → Body
become p b = record { phase = p; pending = b.pending; held = b.held; losses = b.losses; bits = b.bits }

-- A suspended body becomes ready, and in no other way: "32 event bits, cleared when it is activated from suspended"
abbrev pub activated : Body → Body
activated b = record { phase = ready; pending = b.pending; held = b.held; losses = b.losses; bits = 0 }

-- "started only by entries": an entry triggers a suspended time-triggered task
abbrev pub triggers : Body → Body
triggers b = become (triggered false) (activated b)

-- the runner has ended
abbrev pub ended : Body → Body
ended b = record { phase = suspended; pending = false; held = b.held; losses = b.losses; bits = b.bits }

-- "the runner suspended, but ready if a request waits, which is then used up"
abbrev pub finished : Body → Body
finished b = cond b.pending (activated (ended b)) (ended b)

-- "i ready, or if started a request waits"
abbrev pub requested : Body → Body
requested b =
    cond (has_begun b.phase)
    (record { phase = b.phase; pending = true; held = b.held; losses = b.losses; bits = b.bits })
    (activated b)

-- "r last in the runner's order"
abbrev pub gets : ℕ → Body → Body
gets r b = record { phase = b.phase; pending = b.pending; held = r ∷ b.held; losses = b.losses; bits = b.bits }

-- "r out": the most recently taken one
abbrev pub rest : List ℕ → List ℕ
rest [] = []
rest (r ∷ rs) = rs

-- the most recently taken resource is given back
abbrev pub releases : Body → Body
releases b =
    record { phase = b.phase; pending = b.pending; held = rest b.held; losses = b.losses; bits = b.bits }

-- "its loss count rises by 1 and stays at 65,535 once there"
abbrev pub most_losses : ℕ
most_losses = 65535

-- n activations lost
abbrev pub losing : ℕ → Body → Body
losing n b =
    record {
      phase = b.phase;
      pending = b.pending;
      held = b.held;
      losses = min (b.losses + n) most_losses;
      bits = b.bits;
    }

-- one activation lost
abbrev pub loses : Body → Body
loses b = losing 1 b

-- "A due entry makes a suspended task ready. If the task isn't suspended, its loss count rises";
-- "table entries treat a waiting task as not suspended"
abbrev pub activated_by_entry : Body → Body
activated_by_entry b = cond (is_suspended b.phase) (activated b) (loses b)

-- Clear: those of w are cleared
abbrev pub clears : ℕ → Body → Body
clears w b =
    record {
      phase = b.phase;
      pending = b.pending;
      held = b.held;
      losses = b.losses;
      bits = without_bits b.bits w;
    }

-- "Wait on a bit already set goes on at once"; else the runner waits for one of the bits of w
abbrev pub waits : ℕ → Body → Body
waits w b = cond (any_set b.bits w) b (become (waiting w) b)

-- "resumes .. once a waited bit is set", one of them, so that "Wait on mask 0 is never resumed":
-- the phase of a body whose bits these are
abbrev pub resumed : ℕ → Phase → Phase
resumed bits suspended = suspended
resumed bits ready = ready
resumed bits started = started
resumed bits (waiting w) = cond (any_set bits w) started (waiting w)
resumed bits (triggered x) = triggered x

-- Set: the bits of w are set too; neither a Wait nor a resumption clears any
abbrev pub receives : ℕ → Body → Body
receives w b =
    record {
      phase = resumed (with_bits b.bits w) b.phase;
      pending = b.pending;
      held = b.held;
      losses = b.losses;
      bits = with_bits b.bits w;
    }
