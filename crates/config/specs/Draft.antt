-- A configuration as its numbers come, in reading order: which number is next, what it may be, and where it goes.
--
--   fault d v  the refusal of the number v where d is, 0 where it is in order
--   put d v    d with v in its place, at the number that follows
--   asked c d  the number of the value c that stands where d is
--   silent d   the number stands in no byte
--
-- The reader puts the numbers that it reads, the writer those of the value that it writes, so both refuse alike.
use Rattle.std.specs.Prelude.{ℕ, ◌+◌, ◌-◌, ◌/◌, ◌%◌, ◌^◌, ◌≤◌, ◌<◌, Bool, true, false, cond, not, ◌&&◌, ◌||◌, List, [], ◌∷◌, ltb, leb, eqb, get_or, take}
use Rattle.number.specs.Refusal.{none}
use Rattle.config.specs.declared.Config.{Config}
use Rattle.config.specs.declared.Draft.{Draft}
use Rattle.config.specs.declared.Field.{Field}
use Rattle.config.specs.declared.Field.TheVariants.{Version, Bodies, Kind, Priority, Autostart, Deadline, Resources, Users, Tables, Period, Entries, Offset, Task, End}
use Rattle.config.specs.Refusal.{bad_version, bad_count, bad_field, used_priority, unsorted, too_many_entries, shared_offset, mixed_table}
use Rattle.config.specs.Meaning.{isr, time_triggered, last_kind, is_task, is_timed, has_deadlines}
use Rattle.config.specs.Among.{among}
use Rattle.config.specs.Value.{newest_version, max_priority, max_bodies, max_resources, max_tables, max_entries, no_config, with_version, with_bodies, with_kind, with_priority, with_autostart, with_deadline, with_resources, with_users, with_tables, with_period, with_entries, with_offset, with_task}

-- the refusal r, unless the test holds
abbrev pub unless : Bool → ℕ → ℕ
unless ok r = cond ok none r

-- the refusal r of a number that is not from lo to hi
abbrev pub outside : ℕ → ℕ → ℕ → ℕ → ℕ
outside lo hi v r = unless (leb lo v && leb v hi) r

-- the first of two refusals: "Each number is tested for .. its range, then for 6, 7 or 8";
-- 13 is "after 7", 14 "after 13"
abbrev pub and_then : ℕ → ℕ → ℕ
and_then r s = cond (eqb r none) s r

-- "Entries rise by offset, then by task, none twice"; the first entry of a table has none before it
abbrev pub rises : ℕ → ℕ → ℕ → ℕ → Bool
rises o t o' t' = ltb o o' || (eqb o o' && ltb t t')

-- the entry that d is at is the first of its table
abbrev pub first_entry : Draft → Bool
first_entry d = eqb (d.entry + get_or d.config.entries d.index 0) d.until

-- the offset of the entry that d is at, and the entry before it
abbrev pub offset_here : Draft → ℕ
offset_here d = get_or d.config.offset d.entry 0

abbrev pub offset_before : Draft → ℕ
offset_before d = get_or d.config.offset (d.entry - 1) 0

abbrev pub task_before : Draft → ℕ
task_before d = get_or d.config.task (d.entry - 1) 0

-- the entry that d is at, with the task v, comes after the one before it in its table
abbrev pub sorted : Draft → ℕ → Bool
sorted d v = first_entry d || rises (offset_before d) (task_before d) (offset_here d) v

-- "an offset shared with the entry before where either is kind 3"
abbrev pub shares_offset : Draft → ℕ → Bool
shares_offset d v =
    not (first_entry d) && (eqb (offset_before d) (offset_here d)
    && (is_timed d.config (task_before d) || is_timed d.config v))

-- "a mixed .. table": of v and the entry before it one is of kind 3.
-- Those before them are alike, so that the first that differs is found.
abbrev pub mixes : Draft → ℕ → Bool
mixes d v =
    not (first_entry d) && cond (is_timed d.config v)
    (not (is_timed d.config (task_before d))) (is_timed d.config (task_before d))

-- one of the tasks is of kind 3
unfoldable pub some_timed : Config → List ℕ → Bool
some_timed c [] = false
some_timed c (b ∷ bs) = is_timed c b || some_timed c bs

-- the tasks of the tables before the one that d is at
abbrev pub tasks_before : Draft → List ℕ
tasks_before d = take (d.until - get_or d.config.entries d.index 0) d.config.task

-- "or second such table": v is of kind 3, and so is a task of a table before
abbrev pub second_table : Draft → ℕ → Bool
second_table d v = is_timed d.config v && some_timed d.config (tasks_before d)

-- "autostart (0 or 1; 0 for an ISR)", and 0 for a body of kind 3 too: "5 for its autostart"
abbrev pub startable : ℕ → Bool
startable kind = not (eqb kind isr || eqb kind time_triggered)

-- the greatest flag that a body of this kind may have
abbrev pub most_autostart : ℕ → ℕ
most_autostart kind = cond (startable kind) 1 0

-- "5 for a deadline above 65,535, on an ISR or, not 0, in a version below 3"
abbrev pub most_deadline : ℕ → ℕ → ℕ
most_deadline version kind = cond (has_deadlines version && not (eqb kind isr)) 65535 0

-- the mask has a bit of kind 3, where the list has the bodies' kinds, that of the lowest bit first
unfoldable pub timed_in : ℕ → List ℕ → Bool
timed_in m [] = false
timed_in m (k ∷ ks) = (eqb (m % 2) 1 && eqb k time_triggered) || timed_in (m / 2) ks

-- "a mask bit for it"
abbrev pub timed_user : Config → ℕ → Bool
timed_user c m = timed_in m (take c.bodies c.kind)

-- for each field what is tested of its number, in order
unfoldable pub fault_at : Field → Draft → ℕ → ℕ
fault_at Version d v = outside 1 newest_version v bad_version
fault_at Bodies d v = outside 1 max_bodies v bad_count
fault_at Kind d v = outside 0 last_kind v bad_field
fault_at Priority d v =
    and_then (outside 1 max_priority v bad_field)
    (unless (not (among v (take d.index d.config.priority))) used_priority)
fault_at Autostart d v = outside 0 (most_autostart (get_or d.config.kind d.index 0)) v bad_field
fault_at Deadline d v = outside 0 (most_deadline d.config.version (get_or d.config.kind d.index 0)) v bad_field
fault_at Resources d v = outside 0 max_resources v bad_count
fault_at Users d v = and_then (outside 1 (2 ^ d.config.bodies - 1) v bad_field)
    (unless (not (timed_user d.config v)) bad_field)
fault_at Tables d v = outside 0 max_tables v bad_count
fault_at Period d v = outside 1 65535 v bad_field
fault_at Entries d v = and_then (outside 1 16 v bad_count) (unless (leb (d.entry + v) max_entries) too_many_entries)
fault_at Offset d v = unless (ltb v (get_or d.config.period d.index 0)) bad_field
fault_at Task d v =
    and_then (unless (is_task d.config v) bad_field)
    (and_then (unless (sorted d v) unsorted)
    (and_then (unless (not (shares_offset d v)) shared_offset) (unless (not (mixes d v || second_table d v)) mixed_table)))
fault_at End d v = none

abbrev pub fault : Draft → ℕ → ℕ
fault d v = fault_at d.field d v

-- d with another configuration and the number that follows; `row` also says which body, resource or table comes next
abbrev pub on_to : Draft → Config → Field → Draft
on_to d c f = record { config = c; field = f; index = d.index; entry = d.entry; until = d.until }

abbrev pub row : Draft → Config → Field → ℕ → Draft
row d c f i = record { config = c; field = f; index = i; entry = d.entry; until = d.until }

-- after row i of n: again, or on where it was the last
abbrev pub or_on : ℕ → ℕ → Field → Field → Field
or_on i n again on = cond (eqb i n) on again

-- for each field where its number goes, and which number follows
unfoldable pub put_at : Field → Draft → ℕ → Draft
put_at Version d v = on_to d (with_version d.config v) Bodies
put_at Bodies d v = row d (with_bodies d.config v) Kind 0
put_at Kind d v = on_to d (with_kind d.config d.index v) Priority
put_at Priority d v = on_to d (with_priority d.config d.index v) Autostart
put_at Autostart d v = on_to d (with_autostart d.config d.index v) Deadline
put_at Deadline d v =
    row d (with_deadline d.config d.index v) (or_on (d.index + 1) d.config.bodies Kind Resources) (d.index + 1)
put_at Resources d v = row d (with_resources d.config v) (or_on 0 v Users Tables) 0
put_at Users d v =
    row d (with_users d.config d.index v) (or_on (d.index + 1) d.config.resources Users Tables) (d.index + 1)
put_at Tables d v = row d (with_tables d.config v) (or_on 0 v Period End) 0
put_at Period d v = on_to d (with_period d.config d.index v) Entries
put_at Entries d v =
    record {
      config = with_entries d.config d.index v;
      field = Offset;
      index = d.index;
      entry = d.entry;
      until = d.entry + v;
    }
put_at Offset d v = on_to d (with_offset d.config d.entry v) Task
put_at Task d v =
    record {
      config = with_task d.config d.entry v;
      field = or_on (d.entry + 1) d.until Offset (or_on (d.index + 1) d.config.tables Period End);
      index = cond (eqb (d.entry + 1) d.until) (d.index + 1) d.index;
      entry = d.entry + 1;
      until = d.until;
    }
put_at End d v = d

abbrev pub put : Draft → ℕ → Draft
put d v = put_at d.field d v

-- for each field the number that c has for it
unfoldable pub asked_at : Field → Config → Draft → ℕ
asked_at Version c d = c.version
asked_at Bodies c d = c.bodies
asked_at Kind c d = get_or c.kind d.index 0
asked_at Priority c d = get_or c.priority d.index 0
asked_at Autostart c d = get_or c.autostart d.index 0
asked_at Deadline c d = get_or c.deadline d.index 0
asked_at Resources c d = c.resources
asked_at Users c d = get_or c.users d.index 0
asked_at Tables c d = c.tables
asked_at Period c d = get_or c.period d.index 0
asked_at Entries c d = get_or c.entries d.index 0
asked_at Offset c d = get_or c.offset d.entry 0
asked_at Task c d = get_or c.task d.entry 0
asked_at End c d = 0

abbrev pub asked : Config → Draft → ℕ
asked c d = asked_at d.field c d

-- no number is left
unfoldable pub ended : Field → Bool
ended Version = false
ended Bodies = false
ended Kind = false
ended Priority = false
ended Autostart = false
ended Deadline = false
ended Resources = false
ended Users = false
ended Tables = false
ended Period = false
ended Entries = false
ended Offset = false
ended Task = false
ended End = true

-- the number stands in no byte and is 0: a deadline, where the version has none
abbrev pub silent_at : Field → ℕ → Bool
silent_at Version version = false
silent_at Bodies version = false
silent_at Kind version = false
silent_at Priority version = false
silent_at Autostart version = false
silent_at Deadline version = not (has_deadlines version)
silent_at Resources version = false
silent_at Users version = false
silent_at Tables version = false
silent_at Period version = false
silent_at Entries version = false
silent_at Offset version = false
silent_at Task version = false
silent_at End version = false

abbrev pub silent : Draft → Bool
silent d = silent_at d.field d.config.version

-- before the first number
abbrev pub start : Draft
start = record { config = no_config; field = Version; index = 0; entry = 0; until = 0 }

-- the draft's position lies inside the arrays
unfoldable pub Inside : Field → Draft → Type 0
Inside Version d = Unit {0}
Inside Bodies d = Unit {0}
Inside Kind d = d.index < d.config.bodies
Inside Priority d = d.index < d.config.bodies
Inside Autostart d = d.index < d.config.bodies
Inside Deadline d = d.index < d.config.bodies
Inside Resources d = Unit {0}
Inside Users d = d.index < d.config.resources
Inside Tables d = Unit {0}
Inside Period d = d.index < d.config.tables
Inside Entries d = d.index < d.config.tables
Inside Offset d = (d.index < d.config.tables) × (d.entry < d.until)
Inside Task d = (d.index < d.config.tables) × (d.entry < d.until)
Inside End d = Unit {0}

-- what holds of every draft that the start leads to, as far as the code's arrays go
pub record Within (d : Draft) : Type 0 where
  pub bodies_le : d.config.bodies ≤ max_bodies
  pub resources_le : d.config.resources ≤ max_resources
  pub tables_le : d.config.tables ≤ max_tables
  pub entry_le : d.entry ≤ d.until
  pub until_le : d.until ≤ max_entries
  pub inside : Inside d.field d
