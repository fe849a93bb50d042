-- Document 01's table of events, with document 02's three more.
--
--   checks_for c k s e  the column "statuses in order": the tests that the event e has to pass while k runs, each with
--                       the status that it gives
--   effect_for c k s e  the column "effect": the state that e leaves where its status is 0
--   else_of c s st e    the state that it leaves where its status is another, st
--   checks_of, status_of, effect_of c s e
--                       the same while whoever is chosen runs; "the first status that applies is given"
--
-- In order: the tests, the first column, each event's effect, the second, what a refused event leaves, and both columns
-- while the chosen one runs. `event_table` (proofs/Theorems/Events.antt) is the first column with its numbers written out.
use Rattle.std.specs.Prelude.{ℕ, ◌+◌, Bool, true, false, cond, not, ◌&&◌, ◌||◌, List, [], ◌∷◌, ltb, leb, eqb}
use Rattle.config.specs.declared.Config.{Config}
use Rattle.config.specs.Meaning.{counts_lines, is_task, is_osek_task, is_isr, is_extended, is_user, smallest_offset}
use Rattle.scheduler.specs.Status.{Check, call_level, no_such, limit_reached, access, no_function, holds_resource, wrong_state, bad_delay, not_user, ◌gives◌, first_given}
use Rattle.scheduler.specs.Body.{Phase, suspended, ready, started, waiting, triggered, is_suspended, Body, holds, activated, finished, rest, requested, gets, releases, loses, waits, receives, clears}
use Rattle.scheduler.specs.Choice.{Candidate, is_nobody}
use Rattle.scheduler.specs.State.{State, stopped, running, is_running, body_of, table_of, changing, with_table, runner, held_in}
use Rattle.scheduler.specs.Event.{Event, Activate, Finish, Chain, Get, Release, Tick, Line, Start, Stop, Wait, Set, Clear}
use Rattle.scheduler.specs.Tick.{ticked}

-- "the task isn't suspended"
abbrev pub active : State → ℕ → Bool
active s t = not (is_suspended (body_of s t).phase)

-- r is "the runner's most recently taken one still held"
abbrev pub latest_is : ℕ → List ℕ → Bool
latest_is r [] = false
latest_is r (x ∷ xs) = eqb r x

-- "a request already waits (the ISR is ready, or started with one waiting)";
-- that of a triggered body waits until it begins
abbrev pub request_waits : Body → Phase → Bool
request_waits b suspended = false
request_waits b ready = true
request_waits b started = b.pending
request_waits b (waiting w) = b.pending
request_waits b (triggered x) = not x

-- the largest sum of the delay and the smallest offset
abbrev pub longest_delay : ℕ
longest_delay = 65535

-- nobody who may call runs: "A body of kind 3 may make no call but Finish", "in the place of nobody running"
abbrev pub no_caller : Candidate → Bool
no_caller k = is_nobody k || k.timed

-- "statuses in order", while k runs. Line is document 01's word for an interrupt request.
abbrev pub checks_for : Config → Candidate → State → Event → List Check
checks_for c k s (Activate t) =
    (no_caller k gives call_level) ∷ (not (is_osek_task c t) gives no_such) ∷ (active s t gives limit_reached) ∷ []
checks_for c k s Finish = (is_nobody k gives call_level) ∷ (holds (body_of s k.number).held gives holds_resource) ∷ []
checks_for c k s (Chain t) =
    (no_caller k || is_isr c k.number gives call_level) ∷
    (not (is_osek_task c t) gives no_such) ∷
    (holds (body_of s k.number).held gives holds_resource) ∷
    (active s t && not (eqb t k.number) gives limit_reached) ∷
    []
checks_for c k s (Get r) =
    (no_caller k gives call_level) ∷
    (leb c.resources r gives no_such) ∷
    (not (is_user c r k.number) gives not_user) ∷
    (held_in r s.bodies gives access) ∷
    []
checks_for c k s (Release r) =
    (no_caller k gives call_level) ∷
    (leb c.resources r gives no_such) ∷
    (not (latest_is r (body_of s k.number).held) gives no_function) ∷
    []
checks_for c k s Tick = []
checks_for c k s (Line i) =
    (not (is_isr c i) gives no_such) ∷ (request_waits (body_of s i) (body_of s i).phase gives limit_reached) ∷ []
checks_for c k s (Start t d) =
    (no_caller k gives call_level) ∷
    (leb c.tables t gives no_such) ∷
    (eqb d 0 || ltb longest_delay (d + smallest_offset c t) gives bad_delay) ∷
    (is_running (table_of s t) gives wrong_state) ∷
    []
checks_for c k s (Stop t) =
    (no_caller k gives call_level) ∷
    (leb c.tables t gives no_such) ∷
    (not (is_running (table_of s t)) gives no_function) ∷
    []
checks_for c k s (Wait w) =
    (no_caller k gives call_level) ∷
    (not (is_extended c k.number) gives access) ∷ (holds (body_of s k.number).held gives holds_resource) ∷ []
checks_for c k s (Set t w) =
    (no_caller k gives call_level) ∷
    (not (is_task c t) gives no_such) ∷
    (not (is_extended c t) gives access) ∷
    (not (active s t) gives wrong_state) ∷
    []
checks_for c k s (Clear w) = (no_caller k gives call_level) ∷ (not (is_extended c k.number) gives access) ∷ []

-- "t ready"
abbrev pub activate : ℕ → State → State
activate t s = changing t activated s

-- "the runner suspended, but ready if a request waits"; i: the runner, here and below
abbrev pub finish : ℕ → State → State
finish i s = changing i finished s

-- a time-triggered task ends: it was the latest
abbrev pub finish_timed : ℕ → State → State
finish_timed i s = record { bodies = (finish i s).bodies; tables = s.tables; order = rest s.order }

-- "as Finish, then as Activate"
abbrev pub chain : ℕ → ℕ → State → State
chain i t s = activate t (finish i s)

-- "r last in the runner's order"
abbrev pub get : ℕ → ℕ → State → State
get i r s = changing i (gets r) s

-- "r out"
abbrev pub release : ℕ → State → State
release i s = changing i releases s

-- "i ready, or if started a request waits"
abbrev pub line : ℕ → State → State
line i s = changing i requested s

-- "d kept, n = 0"
abbrev pub start : ℕ → ℕ → State → State
start t d s = with_table t (running d 0) s

-- "stopped"
abbrev pub stop : ℕ → State → State
stop t s = with_table t stopped s

-- Wait, Set and Clear: the runner waits for a bit of w, the task t gets the bits of w, the runner's are cleared
abbrev pub wait : ℕ → ℕ → State → State
wait i w s = changing i (waits w) s

abbrev pub set_event : ℕ → ℕ → State → State
set_event t w s = changing t (receives w) s

abbrev pub clear : ℕ → ℕ → State → State
clear i w s = changing i (clears w) s

-- the effect of an accepted event, while k runs
abbrev pub effect_for : Config → Candidate → State → Event → State
effect_for c k s (Activate t) = activate t s
effect_for c k s Finish = cond k.timed (finish_timed k.number s) (finish k.number s)
effect_for c k s (Chain t) = chain k.number t s
effect_for c k s (Get r) = get k.number r s
effect_for c k s (Release r) = release k.number s
effect_for c k s Tick = ticked c s
effect_for c k s (Line i) = line i s
effect_for c k s (Start t d) = start t d s
effect_for c k s (Stop t) = stop t s
effect_for c k s (Wait w) = wait k.number w s
effect_for c k s (Set t w) = set_event t w s
effect_for c k s (Clear w) = clear k.number w s

-- "A status other than 0 changes nothing", but
-- "From edition two a Line that meets a waiting request adds to that ISR's loss count .. besides giving status 4"
abbrev pub else_of : Config → State → ℕ → Event → State
else_of c s st (Activate t) = s
else_of c s st Finish = s
else_of c s st (Chain t) = s
else_of c s st (Get r) = s
else_of c s st (Release r) = s
else_of c s st Tick = s
else_of c s st (Line i) = cond (counts_lines c && eqb st limit_reached) (changing i loses s) s
else_of c s st (Start t d) = s
else_of c s st (Stop t) = s
else_of c s st (Wait w) = s
else_of c s st (Set t w) = s
else_of c s st (Clear w) = s

-- "nobody runs"
abbrev pub nobody_runs : Config → State → Bool
nobody_runs c s = is_nobody (runner c s)

-- nobody runs who may call
abbrev pub nobody_calls : Config → State → Bool
nobody_calls c s = no_caller (runner c s)

-- the number of the body that runs, and the body
abbrev pub caller : Config → State → ℕ
caller c s = (runner c s).number

abbrev pub calling : Config → State → Body
calling c s = body_of s (caller c s)

-- the checks and the effect of an event that meets the state s
abbrev pub checks_of : Config → State → Event → List Check
checks_of c s e = checks_for c (runner c s) s e

-- "At an event the first status that applies is given"
abbrev pub status_of : Config → State → Event → ℕ
status_of c s e = first_given (checks_of c s e)

abbrev pub effect_of : Config → State → Event → State
effect_of c s e = effect_for c (runner c s) s e

-- the statuses, event by event
abbrev pub activate_status : Config → State → ℕ → ℕ
activate_status c s t = status_of c s (Activate t)

abbrev pub finish_status : Config → State → ℕ
finish_status c s = status_of c s Finish

abbrev pub chain_status : Config → State → ℕ → ℕ
chain_status c s t = status_of c s (Chain t)

abbrev pub get_status : Config → State → ℕ → ℕ
get_status c s r = status_of c s (Get r)

abbrev pub release_status : Config → State → ℕ → ℕ
release_status c s r = status_of c s (Release r)

abbrev pub line_status : Config → State → ℕ → ℕ
line_status c s i = status_of c s (Line i)

abbrev pub start_status : Config → State → ℕ → ℕ → ℕ
start_status c s t d = status_of c s (Start t d)

abbrev pub stop_status : Config → State → ℕ → ℕ
stop_status c s t = status_of c s (Stop t)

abbrev pub wait_status : Config → State → ℕ → ℕ
wait_status c s w = status_of c s (Wait w)

abbrev pub set_status : Config → State → ℕ → ℕ → ℕ
set_status c s t w = status_of c s (Set t w)

abbrev pub clear_status : Config → State → ℕ → ℕ
clear_status c s w = status_of c s (Clear w)
