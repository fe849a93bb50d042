-- The call on bytes, computed: each refusal, and their order.
use Prim.Native.Nat.{ℕ, ◌+◌, ◌*◌}
use mathlib.Core.Path.{◌≡◌, refl}
use mathlib.Core.List.{List, [], ◌∷◌}
use Rattle.number.specs.Number.{read_number, groups, continued, fifth_group}
use Rattle.config.specs.Draft.{fault_at, put_at, ended, timed_in, some_timed}
use Rattle.config.specs.Reader.{number_at, read_from, read_config}
use Rattle.config.specs.Meaning.{greatest_in, entries_before}
use Rattle.event.specs.Event.{known, arguments, after_number, read_arguments, read_event}
use Rattle.event.specs.Trace.{read_from as events_from, read_rest}
use Rattle.cell.specs.Due.{due}
use Rattle.scheduler.specs.Status.{first_given}
use Rattle.scheduler.specs.Bits.{any_set, with_bits, without_bits}
use Rattle.scheduler.specs.Choice.{candidate, chosen_from}
use Rattle.scheduler.specs.State.{among, held_in}
use Rattle.scheduler.specs.Tick.{counting, entry_due, dues_from, activating_due}
use Rattle.scheduler.specs.Scheduler.{step_by, seen_by, after_by}
use Rattle.run.specs.Run.{call_of, read_run}
use Rattle.waiting.specs.Conditions.{some_beyond_basic, some_hold}
use Rattle.waiting.specs.Finishes.{finishes_within}
use Rattle.waiting.specs.Result.{wait_in, wait_after, wait_result}

-- document 01's listing: tasks 0 and 1 of priority 2 and 5, 0 autostart, ISR 2 of priority 9; resource
-- 0 of the tasks; a table of period 4 with task 0 at 0 and 1 at 2
abbrev listing : List ℕ
listing =
    0x01 ∷ 0x03 ∷ 0x00 ∷ 0x02 ∷ 0x01 ∷ 0x00 ∷ 0x05 ∷ 0x00 ∷ 0x01 ∷ 0x09 ∷ 0x00 ∷ 0x01 ∷ 0x03
    ∷ 0x01 ∷ 0x04 ∷ 0x02 ∷ 0x00 ∷ 0x01 ∷ 0x02 ∷ 0x00 ∷ []

-- an autostart extended task of priority 4 that uses resource 0, and an ISR of priority 9
abbrev extended_task : List ℕ
extended_task = 1 ∷ 2 ∷ 2 ∷ 4 ∷ 1 ∷ 1 ∷ 9 ∷ 0 ∷ 1 ∷ 1 ∷ 0 ∷ []

-- a time-triggered task of priority 4, and an ISR of priority 9
abbrev time_triggered_task : List ℕ
time_triggered_task = 1 ∷ 2 ∷ 3 ∷ 4 ∷ 0 ∷ 1 ∷ 9 ∷ 0 ∷ 0 ∷ 0 ∷ []

pub record Calls : Type 0 where
  -- ISR 2 runs and is requested again
  pub behind_itself : wait_result listing (7 ∷ 2 ∷ 7 ∷ 2 ∷ []) 2 ≡ 1
  -- task 1 is activated while ISR 2, requested twice, runs above it
  pub behind_another : wait_result listing (1 ∷ 1 ∷ 2 ∷ 7 ∷ 2 ∷ 7 ∷ 2 ∷ 1 ∷ 1 ∷ []) 1 ≡ 2
  -- 31 for one that is suspended, and for one that runs
  pub suspended : wait_result listing [] 1 ≡ 31 * 4294967296
  pub running : wait_result listing [] 0 ≡ 31 * 4294967296
  -- 34 for no such body
  pub no_body_lem : wait_result listing [] 3 ≡ 34 * 4294967296
  pub no_body_far : wait_result listing [] 4294967295 ≡ 34 * 4294967296
  -- task 0 holds the resource and task 1 is ready at its ceiling: 32
  pub in_use : wait_result listing (4 ∷ 0 ∷ 1 ∷ 1 ∷ []) 1 ≡ 32 * 4294967296
  -- 34 and 31 before 32
  pub body_before_in_use : wait_result listing (4 ∷ 0 ∷ 1 ∷ 1 ∷ []) 3 ≡ 34 * 4294967296
  pub waiting_before_in_use : wait_result listing (4 ∷ 0 ∷ 1 ∷ 1 ∷ []) 0 ≡ 31 * 4294967296
  -- 35 for either kind, whatever would be the answer: before 34, 31 and 32
  pub kind_two : wait_result extended_task (7 ∷ 1 ∷ 7 ∷ 1 ∷ []) 1 ≡ 35 * 4294967296
  pub kind_three : wait_result time_triggered_task (7 ∷ 1 ∷ 7 ∷ 1 ∷ []) 1 ≡ 35 * 4294967296
  pub kind_before_body : wait_result extended_task [] 2 ≡ 35 * 4294967296
  pub kind_before_waiting : wait_result extended_task [] 0 ≡ 35 * 4294967296
  pub kind_before_in_use : wait_result extended_task (4 ∷ 0 ∷ 7 ∷ 1 ∷ 7 ∷ 1 ∷ []) 1 ≡ 35 * 4294967296
  -- the run's refusals come before all of these, each at its own place
  pub no_configuration : wait_result [] [] 0 ≡ 1 * 4294967296
  pub bad_code : wait_result extended_task (2 ∷ 99 ∷ []) 9 ≡ 23 * 4294967296 + 1

pub calls : Calls
unfolding read_config number_at read_from read_number groups continued fifth_group fault_at put_at ended timed_in some_timed greatest_in
    entries_before known arguments after_number read_arguments read_event events_from read_rest due first_given any_set
    with_bits without_bits candidate chosen_from among held_in counting entry_due dues_from activating_due step_by seen_by
    after_by call_of read_run some_beyond_basic some_hold finishes_within wait_in wait_after
calls =
    record {
      behind_itself = refl;
      behind_another = refl;
      suspended = refl;
      running = refl;
      no_body_lem = refl;
      no_body_far = refl;
      in_use = refl;
      body_before_in_use = refl;
      waiting_before_in_use = refl;
      kind_two = refl;
      kind_three = refl;
      kind_before_body = refl;
      kind_before_waiting = refl;
      kind_before_in_use = refl;
      no_configuration = refl;
      bad_code = refl;
    }
