-- Worked lists of events: what document 01 gives for each, in numbers, and that the definitions compute the same. A row
-- is status, runner, level and begun mark. They are the cases that the listing and the edges P1 to P13 leave open:
-- where the scheduler and the machine were wrong alike, these would still refuse.
use Prim.Native.Nat.{ℕ}
use mathlib.Core.Path.{◌≡◌, refl}
use mathlib.Core.Bool.{Bool, true, false}
use mathlib.Core.List.{List, [], ◌∷◌, ◌++◌, map}
use lib.ListN.{replicate}
use Rattle.number.specs.Number.{read_number, groups, continued, fifth_group}
use Rattle.config.specs.declared.Config.{Config}
use Rattle.config.specs.Value.{with_version}
use Rattle.config.specs.Draft.{fault_at, put_at, ended, timed_in, some_timed}
use Rattle.config.specs.Reader.{read_config, number_at, read_from}
use Rattle.config.specs.Meaning.{greatest_in, entries_before}
use Rattle.cell.specs.Due.{due}
use Rattle.scheduler.specs.Status.{first_given}
use Rattle.scheduler.specs.Bits.{any_set, with_bits, without_bits}
use Rattle.scheduler.specs.Choice.{candidate, chosen_from}
use Rattle.scheduler.specs.State.{among, held_in}
use Rattle.scheduler.specs.Event.{Event, Activate, Finish, Chain, Get, Release, Tick, Line, Start, Stop, Wait, Set, Clear}
use Rattle.scheduler.specs.Tick.{counting, entry_due, dues_from, activating_due}
use Rattle.scheduler.specs.Scheduler.{step_by, fresh, seen, seen_by, after, after_by, losses_of}
use Rattle.scheduler.proofs.Worked.Listing.{Row, row, row_of}

-- Bodies: tasks 0, 1, 2 of priority 4, 2, 6, of which 0 is autostart; ISRs 3 and 4 of priority 9 and 3. Resources 0 to
-- 3 with the users 0 and 2, 1, 0, 0 and 3, so with the ceilings 6, 2, 4, 9. Tables: 0 of period 4 with task 2 at offset
-- 0 and task 1 at 2; 1 of period 2 with task 2 at 0.
unfoldable pub sample : Config
sample =
    (read_config
    (1 ∷ 5 ∷ 0 ∷ 4 ∷ 1 ∷ 0 ∷ 2 ∷ 0 ∷ 0 ∷ 6 ∷ 0 ∷ 1 ∷ 9 ∷ 0 ∷ 1 ∷ 3 ∷ 0 ∷ 4 ∷ 5 ∷ 2 ∷ 1 ∷ 9 ∷ 2 ∷ 4 ∷ 2 ∷ 0 ∷ 2 ∷ 2
    ∷ 1 ∷ 2 ∷ 1 ∷ 0 ∷ 2 ∷ [])
    ).config

-- the same by edition two of the procedure, which counts lost lines
unfoldable pub second_edition : Config
second_edition = with_version sample 2

-- two autostart tasks, of priority 2 and 5
unfoldable pub two_autostart : Config
two_autostart = (read_config (1 ∷ 2 ∷ 0 ∷ 2 ∷ 1 ∷ 0 ∷ 5 ∷ 1 ∷ 0 ∷ 0 ∷ [])).config

-- tasks 0, 1, 2 of priority 2, 5, 3, of which 0 is autostart; resources 0, 1, 2 with the users 0 and 1, 1, 0 and 2, so
-- with the ceilings 5, 5, 3
unfoldable pub three_tasks : Config
three_tasks = (read_config (1 ∷ 3 ∷ 0 ∷ 2 ∷ 1 ∷ 0 ∷ 5 ∷ 0 ∷ 0 ∷ 3 ∷ 0 ∷ 3 ∷ 3 ∷ 2 ∷ 5 ∷ 0 ∷ [])).config

-- an autostart task of priority 4; table 0 of period 4 with the task at offset 0, table 1 of period 8 with it at 2 and 5
unfoldable pub two_tables : Config
two_tables = (read_config (1 ∷ 1 ∷ 0 ∷ 4 ∷ 1 ∷ 0 ∷ 2 ∷ 4 ∷ 1 ∷ 0 ∷ 0 ∷ 8 ∷ 2 ∷ 2 ∷ 0 ∷ 5 ∷ 0 ∷ [])).config

abbrev rows : Config → List Event → List Row
rows c es = map row_of (seen c (fresh c) es)

abbrev losses_seen : Config → List Event → List (List ℕ)
losses_seen c es = map (λ x. x.losses) (seen c (fresh c) es)

abbrev dues_seen : Config → List Event → List (List Bool)
dues_seen c es = map (λ x. x.due) (seen c (fresh c) es)

-- a task that two tables name at one tick, and again while it is started
abbrev several_due : List Event
several_due = Start 0 1 ∷ Start 1 1 ∷ Tick ∷ Tick ∷ Tick ∷ []

-- task 2 is made ready by table 1 at the ceiling of resource 0, and begins after that table has stopped
abbrev outliving : List Event
outliving = Get 0 ∷ Start 1 1 ∷ Tick ∷ Stop 1 ∷ Tick ∷ Tick ∷ Release 0 ∷ []

-- an Activate and a Chain that are refused with 4; a second request of an ISR that waits, and a third of one that runs;
-- no such ISR, a task
abbrev lost_lines : List Event
lost_lines =
    Activate 1 ∷ Activate 1 ∷ Chain 1 ∷ Line 4 ∷ Line 4 ∷ Line 3 ∷ Line 3 ∷ Line 3 ∷ Line 9 ∷ Line 1 ∷ Line 3 ∷ []

pub record Examples : Type 0 where
  -- a higher task begins at once, and the lower one is resumed
  pub activate_higher : rows sample (Activate 2 ∷ Finish ∷ []) ≡ row 0 2 6 1 ∷ row 0 0 4 0 ∷ []
  -- a lower one waits: 4 for it and for the runner, neither being suspended
  pub activate_lower : rows sample (Activate 1 ∷ Activate 1 ∷ Activate 0 ∷ Finish ∷ [])
      ≡ row 0 0 4 0 ∷ row 4 0 4 0 ∷ row 4 0 4 0 ∷ row 0 1 2 1 ∷ []
  -- the caller of a Chain ends: it can be activated again
  pub chain_other : rows sample (Chain 1 ∷ Chain 2 ∷ Activate 1 ∷ Finish ∷ [])
      ≡ row 0 1 2 1 ∷ row 0 2 6 1 ∷ row 0 2 6 0 ∷ row 0 1 2 1 ∷ []
  pub chain_itself : rows sample (Chain 0 ∷ Activate 1 ∷ Chain 0 ∷ Finish ∷ Finish ∷ [])
      ≡ row 0 0 4 1 ∷ row 0 0 4 0 ∷ row 0 0 4 1 ∷ row 0 1 2 1 ∷ row 0 255 0 0 ∷ []
  -- nobody runs, and the argument is wrong too; a Line needs no caller. Idle is 255, and a Tick ends it
  pub idle_first : rows sample
      (Start 0 1 ∷ Finish ∷ Finish ∷ Activate 9 ∷ Chain 9 ∷ Get 9 ∷ Release 9 ∷ Start 0 0 ∷ Stop 9 ∷ Line 9 ∷ Tick ∷ [])
      ≡ row 0 0 4 0 ∷ row 0 255 0 0 ∷ row 2 255 0 0 ∷ row 2 255 0 0 ∷ row 2 255 0 0 ∷ row 2 255 0 0 ∷ row 2 255 0 0
      ∷ row 2 255 0 0
      ∷ row 2 255 0 0 ∷ row 3 255 0 0 ∷ row 0 2 6 1 ∷ []
  -- an ISR's number is no task, a task's no ISR, though both wait: 3, not 4
  pub id_before_limit : rows sample (Line 4 ∷ Activate 4 ∷ Activate 1 ∷ Line 1 ∷ [])
      ≡ row 0 0 4 0 ∷ row 3 0 4 0 ∷ row 0 0 4 0 ∷ row 3 0 4 0 ∷ []
  -- a lower ISR waits too, and 4 is for a request that waits
  pub line_lower : rows sample (Line 4 ∷ Line 4 ∷ Finish ∷ []) ≡ row 0 0 4 0 ∷ row 4 0 4 0 ∷ row 0 4 3 1 ∷ []
  -- Chain while a resource is held: to no task 3, to one that is ready 6; and 4 to that one afterwards
  pub chain_order : rows sample (Activate 1 ∷ Get 0 ∷ Chain 9 ∷ Chain 1 ∷ Release 0 ∷ Chain 1 ∷ [])
      ≡ row 0 0 4 0 ∷ row 0 0 6 0 ∷ row 3 0 6 0 ∷ row 6 0 6 0 ∷ row 0 0 4 0 ∷ row 4 0 4 0 ∷ []
  -- no such resource and table: 3 before 33, 5 and 8; 5 for a resource that nobody holds; and 8 before 7
  pub id_before_others : rows sample (Get 9 ∷ Release 9 ∷ Release 0 ∷ Start 9 0 ∷ Stop 9 ∷ Start 0 1 ∷ Start 0 0 ∷ [])
      ≡ row 3 0 4 0 ∷ row 3 0 4 0 ∷ row 5 0 4 0 ∷ row 3 0 4 0 ∷ row 3 0 4 0 ∷ row 0 0 4 0 ∷ row 8 0 4 0 ∷ []
  -- delay and smallest offset, 0, are 65,535 together, or one more; the offset 2 of table 0 has no part in it
  pub longest_delay_lem : rows sample (Start 0 65536 ∷ Start 0 65535 ∷ Start 1 65536 ∷ Start 1 65535 ∷ [])
      ≡ row 8 0 4 0 ∷ row 0 0 4 0 ∷ row 8 0 4 0 ∷ row 0 0 4 0 ∷ []
  -- a later table has a smallest offset of its own, 2
  pub longest_delay_later : rows two_tables (Start 1 65534 ∷ Start 1 65533 ∷ Start 0 65536 ∷ Start 0 65535 ∷ [])
      ≡ row 8 0 4 0 ∷ row 0 0 4 0 ∷ row 8 0 4 0 ∷ row 0 0 4 0 ∷ []
  -- the number that equals the count is that of no resource, table, task or ISR
  pub id_at_the_count : rows sample (Get 4 ∷ Release 4 ∷ Start 2 1 ∷ Stop 2 ∷ Activate 5 ∷ Chain 5 ∷ Line 5 ∷ [])
      ≡ replicate 7 (row 3 0 4 0)
  -- at level 9 a declared user takes resources of the ceilings 6 and 4; one of which it is no user, then one that it
  -- holds already, and Release in the order taken
  pub get_at_a_level : rows sample
      (Get 3 ∷ Get 0 ∷ Get 2 ∷ Get 1 ∷ Get 0 ∷ Release 0 ∷ Release 2 ∷ Release 0 ∷ Release 3 ∷ [])
      ≡ row 0 0 9 0 ∷ row 0 0 9 0 ∷ row 0 0 9 0 ∷ row 33 0 9 0 ∷ row 1 0 9 0 ∷ row 5 0 9 0 ∷ row 0 0 9 0 ∷ row 0 0 9 0
      ∷ row 0 0 4 0 ∷ []
  -- task 0 is no user of resource 1, below its ceiling and with its level at it: 33, and 3 before that; 1 for the one
  -- that it holds itself
  pub get_undeclared : rows three_tasks (Get 1 ∷ Get 0 ∷ Get 1 ∷ Get 3 ∷ Get 0 ∷ [])
      ≡ row 33 0 2 0 ∷ row 0 0 5 0 ∷ row 33 0 5 0 ∷ row 3 0 5 0 ∷ row 1 0 5 0 ∷ []
  -- task 1 is above the ceiling of resource 2 and no user of it: 33 where task 0 holds it, and where it is free. Its
  -- Release is 5
  pub get_undeclared_held : rows three_tasks
      (Get 2 ∷ Activate 1 ∷ Get 2 ∷ Release 2 ∷ Get 1 ∷ Get 1 ∷ Release 1 ∷ Finish ∷ Release 2 ∷ Activate 1 ∷ Get 2
      ∷ [])
      ≡ row 0 0 3 0 ∷ row 0 1 5 1 ∷ row 33 1 5 0 ∷ row 5 1 5 0 ∷ row 0 1 5 0 ∷ row 1 1 5 0 ∷ row 0 1 5 0 ∷ row 0 0 3 0
      ∷ row 0 0 2 0
      ∷ row 0 1 5 1 ∷ row 33 1 5 0 ∷ []
  -- an ISR makes every call but Chain, which is 2 whatever else applies; 33 for a resource that only tasks use
  pub isr_calls : rows sample
      (Line 3 ∷ Activate 2 ∷ Start 0 1 ∷ Stop 0 ∷ Get 0 ∷ Get 3 ∷ Chain 9 ∷ Chain 0 ∷ Finish ∷ Release 3 ∷ Finish ∷ [])
      ≡ row 0 3 9 1 ∷ row 0 3 9 0 ∷ row 0 3 9 0 ∷ row 0 3 9 0 ∷ row 33 3 9 0 ∷ row 0 3 9 0 ∷ row 2 3 9 0 ∷ row 2 3 9 0
      ∷ row 6 3 9 0
      ∷ row 0 3 9 0 ∷ row 0 2 6 1 ∷ []
  -- a waiting request begins when its ISR ends, and once
  pub begins_again : rows sample (Line 3 ∷ Line 3 ∷ Line 3 ∷ Finish ∷ Finish ∷ [])
      ≡ row 0 3 9 1 ∷ row 0 3 9 0 ∷ row 4 3 9 0 ∷ row 0 3 9 1 ∷ row 0 0 4 0 ∷ []
  -- both editions answer a lost line alike
  pub lost_lines_lem : map (λ c. rows c lost_lines) (sample ∷ second_edition ∷ [])
      ≡ replicate 2
      (row 0 0 4 0 ∷ row 4 0 4 0 ∷ row 4 0 4 0 ∷ row 0 0 4 0 ∷ row 4 0 4 0 ∷ row 0 3 9 1 ∷ row 0 3 9 0 ∷ row 4 3 9 0
      ∷ row 3 3 9 0 ∷ row 3 3 9 0 ∷ row 4 3 9 0 ∷ [])
  -- and only the second counts it, for each Line with status 4 and for nothing else
  pub lost_lines_counted : (losses_seen sample lost_lines ≡ replicate 11 (0 ∷ 0 ∷ 0 ∷ 0 ∷ 0 ∷ []))
      × (losses_seen second_edition lost_lines
      ≡ replicate 4 (0 ∷ 0 ∷ 0 ∷ 0 ∷ 0 ∷ []) ++
      (replicate 3 (0 ∷ 0 ∷ 0 ∷ 0 ∷ 1 ∷ []) ++
      (replicate 3 (0 ∷ 0 ∷ 0 ∷ 1 ∷ 1 ∷ []) ++ (0 ∷ 0 ∷ 0 ∷ 2 ∷ 1 ∷ []) ∷ [])))
  -- also where the ISR was preempted: it is resumed first
  pub resumed_then_again : rows sample (Finish ∷ Line 4 ∷ Line 4 ∷ Line 3 ∷ Finish ∷ Finish ∷ Finish ∷ [])
      ≡ row 0 255 0 0 ∷ row 0 4 3 1 ∷ row 0 4 3 0 ∷ row 0 3 9 1 ∷ row 0 4 3 0 ∷ row 0 4 3 1 ∷ row 0 255 0 0 ∷ []
  -- the better one began at the fresh start, the other waits
  pub two_autostart_lem : rows two_autostart (Get 0 ∷ Finish ∷ Finish ∷ []) ≡ row 3 1 5 0 ∷ row 0 0 2 1 ∷ row 0 255 0 0 ∷ []
  -- a stopped table can't be stopped, a running one not started; after a Stop it can
  pub stop_stopped : rows sample (Stop 0 ∷ Start 0 1 ∷ Start 0 1 ∷ Stop 0 ∷ Stop 0 ∷ Start 0 1 ∷ [])
      ≡ row 5 0 4 0 ∷ row 0 0 4 0 ∷ row 7 0 4 0 ∷ row 0 0 4 0 ∷ row 5 0 4 0 ∷ row 0 0 4 0 ∷ []
  -- "requests already waiting stay", and after the Stop no more come
  pub outlives_stop : rows sample outliving
      ≡ row 0 0 6 0 ∷ row 0 0 6 0 ∷ row 0 0 6 0 ∷ row 0 0 6 0 ∷ row 0 0 6 0 ∷ row 0 0 6 0 ∷ row 0 2 6 1 ∷ []
  pub outlives_stop_due : dues_seen sample outliving
      ≡ (false ∷ false ∷ false ∷ []) ∷ (false ∷ false ∷ false ∷ []) ∷ (false ∷ false ∷ true ∷ []) ∷
      (false ∷ false ∷ false ∷ [])
      ∷ (false ∷ false ∷ false ∷ []) ∷ (false ∷ false ∷ false ∷ []) ∷ (false ∷ false ∷ false ∷ []) ∷ []
  -- ready once and lost once; then lost again, being started
  pub several_due_lem : rows sample several_due ≡ row 0 0 4 0 ∷ row 0 0 4 0 ∷ row 0 2 6 1 ∷ row 0 2 6 0 ∷ row 0 2 6 0 ∷ []
  pub several_due_losses : losses_seen sample several_due
      ≡ (0 ∷ 0 ∷ 0 ∷ 0 ∷ 0 ∷ []) ∷ (0 ∷ 0 ∷ 0 ∷ 0 ∷ 0 ∷ []) ∷ (0 ∷ 0 ∷ 1 ∷ 0 ∷ 0 ∷ []) ∷ (0 ∷ 0 ∷ 1 ∷ 0 ∷ 0 ∷ []) ∷
      (0 ∷ 0 ∷ 2 ∷ 0 ∷ 0 ∷ []) ∷ []
  pub several_due_due : dues_seen sample several_due
      ≡ (false ∷ false ∷ false ∷ []) ∷ (false ∷ false ∷ false ∷ []) ∷ (true ∷ false ∷ true ∷ []) ∷
      (false ∷ false ∷ false ∷ [])
      ∷ (false ∷ true ∷ true ∷ []) ∷ []

pub examples : Examples
unfolding sample second_edition two_autostart three_tasks two_tables read_config number_at read_from read_number groups continued fifth_group
    fault_at put_at ended timed_in some_timed greatest_in entries_before due first_given candidate chosen_from among held_in
    counting entry_due dues_from activating_due step_by seen_by
examples =
    record {
      activate_higher = refl;
      activate_lower = refl;
      chain_other = refl;
      chain_itself = refl;
      idle_first = refl;
      id_before_limit = refl;
      line_lower = refl;
      chain_order = refl;
      id_before_others = refl;
      longest_delay_lem = refl;
      longest_delay_later = refl;
      id_at_the_count = refl;
      get_at_a_level = refl;
      get_undeclared = refl;
      get_undeclared_held = refl;
      isr_calls = refl;
      begins_again = refl;
      lost_lines_lem = refl;
      lost_lines_counted = (refl, refl);
      resumed_then_again = refl;
      two_autostart_lem = refl;
      stop_stopped = refl;
      outlives_stop = refl;
      outlives_stop_due = refl;
      several_due_lem = refl;
      several_due_losses = refl;
      several_due_due = refl;
    }

-- Tasks 0 and 1 are extended, of priority 6 and 4, and 1 is autostart; 2 is a basic task of priority 2, 3 an ISR of
-- priority 9. Resources 0 to 3 have the users 0 and 1, 1, 0 and 2, 3, so the ceilings 6, 4, 6, 9. Table 0 has period 4,
-- and task 0 at offset 0.
unfoldable pub extended_tasks : Config
extended_tasks =
    (read_config
    (1 ∷ 4 ∷ 2 ∷ 6 ∷ 0 ∷ 2 ∷ 4 ∷ 1 ∷ 0 ∷ 2 ∷ 0 ∷ 1 ∷ 9 ∷ 0 ∷ 4 ∷ 3 ∷ 2 ∷ 5 ∷ 8 ∷ 1 ∷ 4 ∷ 1 ∷ 0 ∷ 0 ∷ [])).config

-- task 0 is due at the first Tick and at the fifth
abbrev lost_waiting : List Event
lost_waiting = Start 0 1 ∷ Tick ∷ Wait 1 ∷ Tick ∷ Tick ∷ Tick ∷ Tick ∷ []

pub record ExtendedExamples : Type 0 where
  -- nobody runs: 2, whatever else applies. An ISR may neither wait nor clear: 1. Set: no such task, an ISR's number, a
  -- task that is not extended though it is suspended too, a suspended one. A bit that is not waited for resumes nobody,
  -- and a resumed task need not run at once: begun mark 0 when it does
  pub wait_statuses : rows extended_tasks
      (Wait 1 ∷ Wait 1 ∷ Set 9 1 ∷ Clear 1 ∷ Line 3 ∷ Wait 1 ∷ Clear 1 ∷ Set 9 1 ∷ Set 3 1 ∷ Set 2 1 ∷ Set 0 1 ∷ Set 1 2
      ∷ Set 1 1 ∷ Finish ∷ [])
      ≡ row 0 255 0 0 ∷ row 2 255 0 0 ∷ row 2 255 0 0 ∷ row 2 255 0 0 ∷ row 0 3 9 1 ∷ row 1 3 9 0 ∷ row 1 3 9 0
      ∷ row 3 3 9 0 ∷ row 3 3 9 0 ∷ row 1 3 9 0 ∷ row 7 3 9 0 ∷ row 0 3 9 0 ∷ row 0 3 9 0 ∷ row 0 1 4 0 ∷ []
  -- a basic task may neither wait nor clear, nor be named by Set: 1 before 6
  pub basic_task : rows extended_tasks (Activate 2 ∷ Finish ∷ Wait 1 ∷ Clear 1 ∷ Get 2 ∷ Wait 1 ∷ Set 2 1 ∷ [])
      ≡ row 0 1 4 0 ∷ row 0 2 2 1 ∷ row 1 2 2 0 ∷ row 1 2 2 0 ∷ row 0 2 6 0 ∷ row 1 2 6 0 ∷ row 1 2 6 0 ∷ []
  -- so for an ISR
  pub isr_holding : rows extended_tasks (Line 3 ∷ Get 3 ∷ Wait 1 ∷ [])
      ≡ row 0 3 9 1 ∷ row 0 3 9 0 ∷ row 1 3 9 0 ∷ []
  -- 6 while a resource is held, also where the bit is set already; then Wait goes on at once, and again, since no Wait
  -- clears a bit
  pub wait_holding : rows extended_tasks
      (Get 0 ∷ Wait 1 ∷ Set 1 1 ∷ Wait 1 ∷ Release 0 ∷ Wait 1 ∷ Wait 1 ∷ Clear 1 ∷ Wait 1 ∷ [])
      ≡ row 0 1 6 0 ∷ row 6 1 6 0 ∷ row 0 1 6 0 ∷ row 6 1 6 0 ∷ row 0 1 4 0 ∷ row 0 1 4 0 ∷ row 0 1 4 0 ∷ row 0 1 4 0
      ∷ row 0 255 0 0 ∷ []
  -- one of two waited bits suffices, and the resumed task runs at once, begun mark 0; its bits stay, those that it did
  -- not wait for too
  pub resumed_at_once : rows extended_tasks
      (Activate 0 ∷ Wait 3 ∷ Set 0 4 ∷ Set 0 2 ∷ Wait 2 ∷ Wait 4 ∷ Clear 6 ∷ Wait 2 ∷ [])
      ≡ row 0 0 6 1 ∷ row 0 1 4 0 ∷ row 0 1 4 0 ∷ row 0 0 6 0 ∷ row 0 0 6 0 ∷ row 0 0 6 0 ∷ row 0 0 6 0 ∷ row 0 1 4 0
      ∷ []
  -- one of two waited bits is set: goes on; the bits that are set later join it, and a Clear leaves those out of its mask
  pub one_of_two : rows extended_tasks (Set 1 1 ∷ Wait 3 ∷ Set 1 6 ∷ Clear 3 ∷ Wait 4 ∷ Wait 2 ∷ [])
      ≡ row 0 1 4 0 ∷ row 0 1 4 0 ∷ row 0 1 4 0 ∷ row 0 1 4 0 ∷ row 0 1 4 0 ∷ row 0 255 0 0 ∷ []
  -- a Clear leaves the other bits, and sets none; a bit that is set twice is set
  pub cleared_alone : rows extended_tasks (Set 1 3 ∷ Clear 1 ∷ Wait 2 ∷ Wait 1 ∷ [])
      ≡ row 0 1 4 0 ∷ row 0 1 4 0 ∷ row 0 1 4 0 ∷ row 0 255 0 0 ∷ []
  pub cleared_unset : rows extended_tasks (Clear 1 ∷ Wait 1 ∷ []) ≡ row 0 1 4 0 ∷ row 0 255 0 0 ∷ []
  pub set_twice : rows extended_tasks (Set 1 1 ∷ Set 1 1 ∷ Wait 1 ∷ []) ≡ row 0 1 4 0 ∷ row 0 1 4 0 ∷ row 0 1 4 0 ∷ []
  -- masks of no bit are accepted, and so is a Clear by a task that holds a resource; no such task at the count
  pub no_bit : rows extended_tasks (Set 1 0 ∷ Clear 0 ∷ Get 0 ∷ Set 1 1 ∷ Clear 1 ∷ Release 0 ∷ Set 4 1 ∷ Wait 1 ∷ [])
      ≡ row 0 1 4 0 ∷ row 0 1 4 0 ∷ row 0 1 6 0 ∷ row 0 1 6 0 ∷ row 0 1 6 0 ∷ row 0 1 4 0 ∷ row 3 1 4 0 ∷ row 0 255 0 0
      ∷ []
  -- two tasks wait for the same bit: a Set resumes the one that it names
  pub set_for_one : rows extended_tasks (Activate 0 ∷ Wait 1 ∷ Wait 1 ∷ Line 3 ∷ Set 1 1 ∷ Finish ∷ [])
      ≡ row 0 0 6 1 ∷ row 0 1 4 0 ∷ row 0 255 0 0 ∷ row 0 3 9 1 ∷ row 0 3 9 0 ∷ row 0 1 4 0 ∷ []
  -- Wait on mask 0 is never resumed, and goes on at no bit; a waiting task is not suspended, so Activate and Chain to
  -- it are 4
  pub mask_zero : rows extended_tasks
      (Activate 0 ∷ Wait 0 ∷ Set 0 4294967295 ∷ Activate 0 ∷ Chain 0 ∷ Set 1 1 ∷ Wait 0 ∷ [])
      ≡ row 0 0 6 1 ∷ row 0 1 4 0 ∷ row 0 1 4 0 ∷ row 4 1 4 0 ∷ row 4 1 4 0 ∷ row 0 1 4 0 ∷ row 0 255 0 0 ∷ []
  -- bit 31, and all the others
  pub highest_bit : rows extended_tasks
      (Wait 2147483648 ∷ Line 3 ∷ Set 1 2147483647 ∷ Finish ∷ Line 3 ∷ Set 1 2147483648 ∷ Finish ∷ [])
      ≡ row 0 255 0 0 ∷ row 0 3 9 1 ∷ row 0 3 9 0 ∷ row 0 255 0 0 ∷ row 0 3 9 1 ∷ row 0 3 9 0 ∷ row 0 1 4 0 ∷ []
  -- the bits are cleared when the task is activated, and kept while it is ready: what was set then is there when it
  -- begins
  pub bits_of_ready : rows extended_tasks
      (Get 0 ∷ Activate 0 ∷ Set 0 1 ∷ Release 0 ∷ Wait 1 ∷ Finish ∷ Activate 0 ∷ Wait 1 ∷ [])
      ≡ row 0 1 6 0 ∷ row 0 1 6 0 ∷ row 0 1 6 0 ∷ row 0 0 6 1 ∷ row 0 0 6 0 ∷ row 0 1 4 0 ∷ row 0 0 6 1 ∷ row 0 1 4 0
      ∷ []
  -- a due entry clears them, too
  pub bits_by_entry : rows extended_tasks (Activate 0 ∷ Set 0 1 ∷ Finish ∷ Start 0 1 ∷ Tick ∷ Wait 1 ∷ [])
      ≡ row 0 0 6 1 ∷ row 0 0 6 0 ∷ row 0 1 4 0 ∷ row 0 1 4 0 ∷ row 0 0 6 1 ∷ row 0 1 4 0 ∷ []
  -- and so does Chain, to another and to the caller itself
  pub bits_by_chain : rows extended_tasks (Activate 0 ∷ Set 0 1 ∷ Finish ∷ Chain 0 ∷ Wait 1 ∷ [])
      ≡ row 0 0 6 1 ∷ row 0 0 6 0 ∷ row 0 1 4 0 ∷ row 0 0 6 1 ∷ row 0 255 0 0 ∷ []
  pub bits_by_chain_itself : rows extended_tasks (Set 1 1 ∷ Wait 1 ∷ Chain 1 ∷ Wait 1 ∷ [])
      ≡ row 0 1 4 0 ∷ row 0 1 4 0 ∷ row 0 1 4 1 ∷ row 0 255 0 0 ∷ []
  -- all of them
  pub bits_all_cleared : rows extended_tasks (Set 1 4294967295 ∷ Chain 1 ∷ Wait 4294967295 ∷ [])
      ≡ row 0 1 4 0 ∷ row 0 1 4 1 ∷ row 0 255 0 0 ∷ []
  -- Set to a task that is started and preempted
  pub bits_of_preempted : rows extended_tasks (Activate 0 ∷ Set 1 1 ∷ Finish ∷ Wait 1 ∷ [])
      ≡ row 0 0 6 1 ∷ row 0 0 6 0 ∷ row 0 1 4 0 ∷ row 0 1 4 0 ∷ []
  -- task 0 waits while task 1 takes resource 0: resumed, it ties with the holder, which goes first though both have
  -- begun and 0 is lower
  pub holder_first : rows extended_tasks (Activate 0 ∷ Wait 1 ∷ Get 0 ∷ Set 0 1 ∷ Release 0 ∷ [])
      ≡ row 0 0 6 1 ∷ row 0 1 4 0 ∷ row 0 1 6 0 ∷ row 0 1 6 0 ∷ row 0 0 6 0 ∷ []
  -- a runner that waits leaves the level to a preempted holder
  pub wait_to_holder : rows extended_tasks (Get 1 ∷ Activate 0 ∷ Wait 1 ∷ Finish ∷ [])
      ≡ row 0 1 4 0 ∷ row 0 0 6 1 ∷ row 0 1 4 0 ∷ row 6 1 4 0 ∷ []
  -- a due entry of a waiting task is a loss
  pub due_while_waiting : rows extended_tasks lost_waiting
      ≡ row 0 1 4 0 ∷ row 0 0 6 1 ∷ row 0 1 4 0 ∷ row 0 1 4 0 ∷ row 0 1 4 0 ∷ row 0 1 4 0 ∷ row 0 1 4 0 ∷ []
  pub due_while_waiting_losses : losses_of (after extended_tasks (fresh extended_tasks) lost_waiting) ≡ 1 ∷ 0 ∷ 0 ∷ 0 ∷ []

pub extended_examples : ExtendedExamples
unfolding extended_tasks read_config number_at read_from read_number groups continued fifth_group fault_at put_at ended timed_in
    some_timed greatest_in entries_before due first_given candidate chosen_from among held_in counting entry_due dues_from
    activating_due any_set with_bits without_bits step_by seen_by after_by
extended_examples =
    record {
      wait_statuses = refl;
      basic_task = refl;
      isr_holding = refl;
      wait_holding = refl;
      resumed_at_once = refl;
      one_of_two = refl;
      cleared_alone = refl;
      cleared_unset = refl;
      set_twice = refl;
      no_bit = refl;
      set_for_one = refl;
      mask_zero = refl;
      highest_bit = refl;
      bits_of_ready = refl;
      bits_by_entry = refl;
      bits_by_chain = refl;
      bits_by_chain_itself = refl;
      bits_all_cleared = refl;
      bits_of_preempted = refl;
      holder_first = refl;
      wait_to_holder = refl;
      due_while_waiting = refl;
      due_while_waiting_losses = refl;
    }

-- Task 0 of priority 4, which is autostart; 1 and 2 are time-triggered, 3 an ISR of priority 9, 4 an extended task of
-- priority 6. Resource 0 has the users 0 and 4, so the ceiling 6. Table 0 has period 10, and task 1 at the offsets 1
-- and 6, task 2 at 3; table 1 has period 10, and task 4 at 0.
unfoldable pub timed_tasks : Config
timed_tasks =
    (read_config
    (1 ∷ 5 ∷ 0 ∷ 4 ∷ 1 ∷ 3 ∷ 1 ∷ 0 ∷ 3 ∷ 2 ∷ 0 ∷ 1 ∷ 9 ∷ 0 ∷ 2 ∷ 6 ∷ 0 ∷ 1 ∷ 17 ∷ 2 ∷ 10 ∷ 3 ∷ 1 ∷ 1 ∷ 3 ∷ 2 ∷ 6 ∷ 1
    ∷ 10 ∷ 1 ∷ 0 ∷ 4 ∷ [])
    ).config

-- started with delay 1, the entries of table 0 are due at the Ticks 2, 4 and 7, and 10 later again
abbrev dispatcher_round : List Event
dispatcher_round =
    Start 0 1 ∷ Tick ∷ Tick ∷ Activate 4 ∷ Line 3 ∷ Tick ∷ Tick ∷ Tick ∷ Tick ∷ Tick ∷ Finish ∷ Finish ∷ Finish ∷ Stop 0
    ∷ []

-- what a time-triggered task may not call: with wrong arguments, and with such that a task could give
abbrev called_by_timed : List Event
called_by_timed =
    Activate 9 ∷ Chain 9 ∷ Get 9 ∷ Release 9 ∷ Start 9 0 ∷ Stop 9 ∷ Wait 0 ∷ Set 9 0 ∷ Clear 0 ∷ Activate 4 ∷ Chain 4
    ∷ Get 0 ∷ Release 0 ∷ Start 1 1
    ∷ Stop 0 ∷ Wait 1 ∷ Set 4 1 ∷ Clear 1 ∷ []

pub record TimedExamples : Type 0 where
  -- 1 preempts task 0 at level 201, begun mark 1, and 2 preempts 1; a call is 2; the Line begins after both, and 1 is
  -- resumed with mark 0; at the seventh Tick 1 is due while it is started
  pub round : rows timed_tasks dispatcher_round
      ≡ row 0 0 4 0 ∷ row 0 0 4 0 ∷ row 0 1 201 1 ∷ row 2 1 201 0 ∷ row 0 1 201 0 ∷ row 0 1 201 0 ∷ row 0 2 201 1
      ∷ row 0 2 201 0 ∷ row 0 2 201 0
      ∷ row 0 2 201 0 ∷ row 0 1 201 0 ∷ row 0 3 9 1 ∷ row 0 0 4 0 ∷ row 0 0 4 0 ∷ []
  pub round_losses : losses_seen timed_tasks dispatcher_round
      ≡ replicate 9 (0 ∷ 0 ∷ 0 ∷ 0 ∷ 0 ∷ []) ++ replicate 5 (0 ∷ 1 ∷ 0 ∷ 0 ∷ 0 ∷ [])
  -- each begins from its start at each of its entries, and again a period later
  pub round_again : rows timed_tasks
      (Start 0 1 ∷ Tick ∷ Tick ∷ Finish ∷ Tick ∷ Tick ∷ Finish ∷ Tick ∷ Tick ∷ Tick ∷ Finish ∷ Tick ∷ Tick ∷ Tick ∷ Tick
      ∷ Tick ∷ [])
      ≡ row 0 0 4 0 ∷ row 0 0 4 0 ∷ row 0 1 201 1 ∷ row 0 0 4 0 ∷ row 0 0 4 0 ∷ row 0 2 201 1 ∷ row 0 0 4 0
      ∷ row 0 0 4 0 ∷ row 0 0 4 0
      ∷ row 0 1 201 1 ∷ row 0 0 4 0 ∷ row 0 0 4 0 ∷ row 0 0 4 0 ∷ row 0 0 4 0 ∷ row 0 0 4 0 ∷ row 0 1 201 1 ∷ []
  -- all nine calls are 2, whatever else applies, and Finish is not
  pub timed_caller : rows timed_tasks (Start 0 1 ∷ Tick ∷ Tick ∷ called_by_timed ++ Finish ∷ [])
      ≡ row 0 0 4 0 ∷ row 0 0 4 0 ∷ row 0 1 201 1 ∷ replicate 18 (row 2 1 201 0) ++ row 0 0 4 0 ∷ []
  -- Activate and Chain may not name one: 3; Set gives 1, though it is suspended too; it is no ISR: 3. An ISR may not
  -- chain: 2 before 3
  pub timed_named : rows timed_tasks
      (Activate 1 ∷ Chain 1 ∷ Set 1 1 ∷ Line 1 ∷ Line 3 ∷ Activate 2 ∷ Chain 2 ∷ Set 2 1 ∷ Finish ∷ [])
      ≡ row 3 0 4 0 ∷ row 3 0 4 0 ∷ row 1 0 4 0 ∷ row 3 0 4 0 ∷ row 0 3 9 1 ∷ row 3 3 9 0 ∷ row 2 3 9 0 ∷ row 1 3 9 0
      ∷ row 0 0 4 0 ∷ []
  -- a second Line while 1 runs is 4, and both an ISR and a holder of a resource are preempted
  pub timed_above : rows timed_tasks
      (Get 0 ∷ Start 0 1 ∷ Line 3 ∷ Tick ∷ Tick ∷ Line 3 ∷ Line 3 ∷ Finish ∷ Finish ∷ Finish ∷ Release 0 ∷ [])
      ≡ row 0 0 6 0 ∷ row 0 0 6 0 ∷ row 0 3 9 1 ∷ row 0 3 9 0 ∷ row 0 1 201 1 ∷ row 0 1 201 0 ∷ row 4 1 201 0
      ∷ row 0 3 9 0 ∷ row 0 3 9 1
      ∷ row 0 0 6 0 ∷ row 0 0 4 0 ∷ []
  -- at one Tick task 4 becomes ready and 1 starts, and is alone in beginning; 4 begins after it. A Wait of 4 does not
  -- hold 2 up
  pub mixed_mode : rows timed_tasks
      (Start 1 2 ∷ Start 0 1 ∷ Tick ∷ Tick ∷ Finish ∷ Wait 1 ∷ Tick ∷ Tick ∷ Finish ∷ Set 4 1 ∷ [])
      ≡ row 0 0 4 0 ∷ row 0 0 4 0 ∷ row 0 0 4 0 ∷ row 0 1 201 1 ∷ row 0 4 6 1 ∷ row 0 0 4 0 ∷ row 0 0 4 0
      ∷ row 0 2 201 1 ∷ row 0 0 4 0
      ∷ row 0 4 6 0 ∷ []
  -- where nobody runs, and nobody after it
  pub timed_idle : rows timed_tasks (Start 0 1 ∷ Finish ∷ Tick ∷ Tick ∷ Finish ∷ Finish ∷ [])
      ≡ row 0 0 4 0 ∷ row 0 255 0 0 ∷ row 0 255 0 0 ∷ row 0 1 201 1 ∷ row 0 255 0 0 ∷ row 2 255 0 0 ∷ []

pub timed_examples : TimedExamples
unfolding timed_tasks read_config number_at read_from read_number groups continued fifth_group fault_at put_at ended timed_in some_timed
    greatest_in entries_before due first_given candidate chosen_from among held_in counting entry_due dues_from activating_due
    any_set with_bits without_bits step_by seen_by
timed_examples =
    record {
      round = refl;
      round_losses = refl;
      round_again = refl;
      timed_caller = refl;
      timed_named = refl;
      timed_above = refl;
      mixed_mode = refl;
      timed_idle = refl;
    }
