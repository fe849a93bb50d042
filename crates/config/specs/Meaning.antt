-- What the rules ask of a configuration: whether it counts lost lines and has deadlines, which bodies are tasks, extended or
-- time-triggered ones, and ISRs, a resource's users and its ceiling, a table's entries.
-- A kind is a number in the bytes alone: whatever else needs it asks one of these questions.
use Rattle.std.specs.Prelude.{ℕ, zero, suc, ◌+◌, ◌/◌, ◌%◌, ◌^◌, max, Bool, cond, not, ◌&&◌, List, [], ◌∷◌, ltb, leb, eqb, get_or, take, drop}
use Rattle.config.specs.declared.Config.{Config}

-- "From edition two a Line that meets a waiting request adds to that ISR's loss count";
-- the version is the edition of the procedure
abbrev pub counts_lines : Config → Bool
counts_lines c = leb 2 c.version

-- "a number after each body's autostart, 0 for none, in version 3": whether a version has deadlines
abbrev pub has_deadlines : ℕ → Bool
has_deadlines version = leb 3 version

-- "kind (0 task, 1 ISR)"
abbrev pub isr : ℕ
isr = 1

-- "Kind 2 is an extended task"
abbrev pub extended : ℕ
extended = 2

-- "Kind 3 is such a task": OSEKtime's time-triggered task, "started only by entries"
abbrev pub time_triggered : ℕ
time_triggered = 3

-- the last kind that there is
abbrev pub last_kind : ℕ
last_kind = time_triggered

-- "runs at one common execution level 201; the trigger level is 202", both above every priority
abbrev pub execution_level : ℕ
execution_level = 201

abbrev pub trigger_level : ℕ
trigger_level = 202

-- b is the number of a body that is a task; "an ISR's number is no task",
-- and an extended or a time-triggered task is one
abbrev pub is_task : Config → ℕ → Bool
is_task c b = ltb b c.bodies && not (eqb (get_or c.kind b 0) isr)

-- b is the number of an ISR
abbrev pub is_isr : Config → ℕ → Bool
is_isr c b = ltb b c.bodies && eqb (get_or c.kind b 0) isr

-- b is the number of an extended task
abbrev pub is_extended : Config → ℕ → Bool
is_extended c b = ltb b c.bodies && eqb (get_or c.kind b 0) extended

-- b is the number of a time-triggered task
abbrev pub is_timed : Config → ℕ → Bool
is_timed c b = ltb b c.bodies && eqb (get_or c.kind b 0) time_triggered

-- b is the number of a task that Activate and Chain may name: one of OSEK, and not of OSEKtime
abbrev pub is_osek_task : Config → ℕ → Bool
is_osek_task c b = is_task c b && not (is_timed c b)

-- a body's own priority
abbrev pub priority_of : Config → ℕ → ℕ
priority_of c b = get_or c.priority b 0

-- how many ticks a body may take from its becoming ready to its end, 0 for any number
abbrev pub deadline_of : Config → ℕ → ℕ
deadline_of c b = get_or c.deadline b 0

-- b is a declared user of the resource r: "its users as a mask", in which the bit of body b is worth 2 ^ b
abbrev pub is_user : Config → ℕ → ℕ → Bool
is_user c r b = ltb r c.resources && eqb (get_or c.users r 0 / 2 ^ b % 2) 1

-- the greatest of the priorities whose bits are set in the mask, lowest bit first
unfoldable pub greatest_in : ℕ → List ℕ → ℕ
greatest_in m [] = 0
greatest_in m (p ∷ ps) = max (cond (eqb (m % 2) 1) p 0) (greatest_in (m / 2) ps)

-- "its ceiling is the greatest priority among" its users
abbrev pub ceiling : Config → ℕ → ℕ
ceiling c r = greatest_in (get_or c.users r 0) (take c.bodies c.priority)

-- how many entries the first t tables have, where each of them has as many as the list says
unfoldable pub entries_before : List ℕ → ℕ → ℕ
entries_before ns zero = 0
entries_before [] (suc t) = 0
entries_before (n ∷ ns) (suc t) = n + entries_before ns t

-- where the entries of table t begin
abbrev pub first_of : Config → ℕ → ℕ
first_of c t = entries_before c.entries t

-- table t's part of a list that has an element for each entry
abbrev pub of_table : Config → ℕ → List ℕ → List ℕ
of_table c t l = take (get_or c.entries t 0) (drop (first_of c t) l)

-- the offsets of table t, and the tasks that its entries start
abbrev pub offsets : Config → ℕ → List ℕ
offsets c t = of_table c t c.offset

abbrev pub tasks : Config → ℕ → List ℕ
tasks c t = of_table c t c.task

-- entry e, counted over all tables, starts a time-triggered task
abbrev pub timed_entry : Config → ℕ → Bool
timed_entry c e = is_timed c (get_or c.task e 0)

-- the table's smallest offset: "Entries rise by offset", so it is that of the first
abbrev pub smallest_offset : Config → ℕ → ℕ
smallest_offset c t = get_or c.offset (first_of c t) 0
