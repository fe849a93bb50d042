-- Worked numbers: by the steps, and by the closed count.
use Prim.Native.Nat.{ℕ, zero, suc}
use mathlib.Core.Path.{◌≡◌, refl}
use mathlib.Core.Bool.{Bool, true, false}
use mathlib.Core.List.{List, [], ◌∷◌, ◌++◌, map}
use lib.ListN.{replicate}
use Rattle.number.specs.Number.{read_number, groups, continued, fifth_group}
use Rattle.config.specs.declared.Config.{Config}
use Rattle.config.specs.Draft.{fault_at, put_at, ended, timed_in, some_timed}
use Rattle.config.specs.Reader.{read_config, number_at, read_from}
use Rattle.config.specs.Meaning.{greatest_in, entries_before}
use Rattle.cell.specs.Due.{due}
use Rattle.scheduler.specs.Status.{first_given}
use Rattle.scheduler.specs.Choice.{candidate, chosen_from}
use Rattle.scheduler.specs.State.{among, held_in}
use Rattle.scheduler.specs.Event.{Event, Finish, Tick, Line, Start}
use Rattle.scheduler.specs.Tick.{counting, entry_due, dues_from, activating_due}
use Rattle.scheduler.specs.Scheduler.{step_by, fresh, seen, seen_by, after, after_by}
use Rattle.waiting.specs.Conditions.{waits_to_begin, some_hold, resource_held}
use Rattle.waiting.specs.Finishes.{begins_in, finishes_within, finishes_until}
use Rattle.waiting.specs.Jobs.{jobs_before, jobs_ahead_from, jobs_ahead}

-- Three autostart tasks of priority 2, 5, 9.
unfoldable pub three_tasks : Config
three_tasks = (read_config (1 ∷ 3 ∷ 0 ∷ 2 ∷ 1 ∷ 0 ∷ 5 ∷ 1 ∷ 0 ∷ 9 ∷ 1 ∷ 0 ∷ 0 ∷ [])).config

-- Task 0 of priority 2, autostart; ISRs 1, 2, 3 of priority 9, 5, 7.
unfoldable pub three_isrs : Config
three_isrs =
    (read_config (1 ∷ 4 ∷ 0 ∷ 2 ∷ 1 ∷ 1 ∷ 9 ∷ 0 ∷ 1 ∷ 5 ∷ 0 ∷ 1 ∷ 7 ∷ 0 ∷ 0 ∷ 0 ∷ [])).config

-- The door, an ISR of priority 8; the tasks radio, sensor and record of priority 12, 10 and 3, the
-- last one autostart; table 0 of period 10 wakes radio and sensor at offset 0.
unfoldable pub door_and_radio : Config
door_and_radio =
    (read_config
    (1 ∷ 4 ∷ 1 ∷ 8 ∷ 0 ∷ 0 ∷ 12 ∷ 0 ∷ 0 ∷ 10 ∷ 0 ∷ 0 ∷ 3 ∷ 1 ∷ 0 ∷ 1 ∷ 10 ∷ 2 ∷ 0 ∷ 1 ∷ 0 ∷ 2 ∷ [])).config

-- n bodies of a kind, with priorities from p on
unfoldable pub bodies_of : (kind autostart p n : ℕ) → List ℕ
bodies_of kind autostart p zero = []
bodies_of kind autostart p (suc n) = kind ∷ p ∷ autostart ∷ bodies_of kind autostart (suc p) n

-- 32 ISRs of priority 1 to 32.
unfoldable pub all_isrs : Config
all_isrs = (read_config (1 ∷ 32 ∷ (bodies_of 1 0 1 32 ++ 0 ∷ 0 ∷ []))).config

-- 24 autostart tasks of priority 1 to 24, and 8 ISRs of priority 25 to 32.
unfoldable pub eight_isrs : Config
eight_isrs = (read_config (1 ∷ 32 ∷ (bodies_of 0 1 1 24 ++ (bodies_of 1 0 25 8 ++ 0 ∷ 0 ∷ [])))).config

-- n ISRs from i on, each requested twice, the least first:
-- each begins at once, and all are started with a request waiting
unfoldable pub twice : ℕ → ℕ → List Event
twice i zero = []
twice i (suc n) = Line i ∷ Line i ∷ twice (suc i) n

-- whether b waits to begin after the events, whether a resource is held, the number by steps, and
-- the closed count
pub record Waits : Type 0 where
  pub waiting : Bool
  pub held : Bool
  pub steps : ℕ
  pub closed : ℕ

abbrev waits : Config → List Event → ℕ → Waits
waits c es b =
    let s = after c (fresh c) es in
    record {
      waiting = waits_to_begin s b;
      held = resource_held s;
      steps = finishes_until c s b;
      closed = jobs_ahead c s b;
    }

abbrev both : ℕ → Waits
both n = record { waiting = true; held = false; steps = n; closed = n }

pub record Examples : Type 0 where
  -- three tasks: the greatest runs, the middle one waits for one end, the least for two
  pub middle : waits three_tasks [] 1 ≡ both 1
  pub least : waits three_tasks [] 0 ≡ both 2
  pub least_later : waits three_tasks (Finish ∷ []) 0 ≡ both 1
  -- an ISR that waits behind itself: it runs, and is requested again
  pub behind_itself : waits three_isrs (Line 2 ∷ Line 2 ∷ []) 2 ≡ both 1
  -- behind itself and behind one that has preempted it, then requested twice
  pub preempted : waits three_isrs (Line 2 ∷ Line 2 ∷ Line 1 ∷ []) 2 ≡ both 2
  pub preempted_twice : waits three_isrs (Line 2 ∷ Line 2 ∷ Line 1 ∷ Line 1 ∷ []) 2 ≡ both 3
  -- an ISR requested twice above a ready one
  pub twice_above : waits three_isrs (Line 1 ∷ Line 1 ∷ Line 2 ∷ []) 2 ≡ both 2
  pub twice_above_two : waits three_isrs (Line 1 ∷ Line 1 ∷ Line 2 ∷ Line 3 ∷ []) 2 ≡ both 3
  -- what is below does not count: a started task, and a ready ISR
  pub below : waits three_isrs (Line 1 ∷ Line 2 ∷ Line 3 ∷ []) 3 ≡ both 1
  -- the door, requested in the tick that wakes radio and sensor
  pub door : waits door_and_radio (Start 0 1 ∷ Tick ∷ Line 0 ∷ []) 0 ≡ both 2
  pub radio_above_door : waits door_and_radio (Line 0 ∷ Line 0 ∷ Start 0 1 ∷ Tick ∷ []) 0 ≡ both 3
  -- the greatest number there is
  pub all_twice : waits all_isrs (twice 0 32) 0 ≡ both 63
  -- 23 tasks and 8 ISRs requested twice go before the least task
  pub eight_isrs_twice : waits eight_isrs (twice 24 8) 0 ≡ both 39
  -- in the door's two Finish events, both accepted, it begins in the last
  pub door_begins :
      map (begins_in 0) (seen door_and_radio (after door_and_radio (fresh door_and_radio) (Start 0 1 ∷ Tick ∷ Line 0 ∷ []))
      (replicate 3 Finish)) ≡ false ∷ true ∷ false ∷ []

pub examples : Examples
unfolding three_tasks three_isrs door_and_radio bodies_of all_isrs eight_isrs twice read_config number_at read_from read_number groups
    continued fifth_group fault_at put_at ended timed_in some_timed greatest_in entries_before due first_given
    candidate chosen_from among held_in counting entry_due dues_from activating_due step_by seen_by after_by
    some_hold finishes_within jobs_before jobs_ahead_from
examples =
    record {
      middle = refl;
      least = refl;
      least_later = refl;
      behind_itself = refl;
      preempted = refl;
      preempted_twice = refl;
      twice_above = refl;
      twice_above_two = refl;
      below = refl;
      door = refl;
      radio_above_door = refl;
      all_twice = refl;
      eight_isrs_twice = refl;
      door_begins = refl;
    }
