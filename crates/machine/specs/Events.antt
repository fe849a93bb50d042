-- The machine's twelve events: each one's status "in order", its effect where that is 0, and the two put together:
-- activate_status, activate_effect and activate, and so on.
--
-- ps are the priorities by rank, trs and lrs the ranks of tasks and of ISRs by body, as the plan has them, ws and xs
-- the words of the ranks that are ISRs and extended tasks.
use Rattle.std.specs.Prelude.{ℕ, ◌+◌, max, Bool, false, cond, not, ◌&&◌, ◌||◌, List, [], ◌∷◌, ltb, leb, eqb, get_or, set}
use Rattle.config.specs.Value.{max_entries}
use Rattle.scheduler.specs.Status.{done, call_level, no_such, limit_reached, access, no_function, holds_resource, wrong_state, bad_delay, not_user, ◌gives◌, first_given}
use Rattle.scheduler.specs.Bits.{any_set, with_bits, without_bits}
use Rattle.scheduler.specs.Call.{longest_delay}
use Rattle.word.specs.Word.{has, with, without, union}
use Rattle.machine.specs.Model.{Model, Outcome, no_rank, with_core, with_request, with_begun, with_rest, with_cells, with_losses, with_event_bits, done_with, refused_with}
use Rattle.machine.specs.Arbiter.{settled, leaving, paused, requesting, triggering, timed, returning}
use Rattle.machine.specs.Resources.{holding, latest, getting, releasing}
use Rattle.machine.specs.Cells.{is_on, counters_ticked, switches_ticked, some_turn, marks, counters_started, switches_started, some_long, counters_stopped, switches_stopped, in_row, Tally, one_lost, requests_due}

-- "nobody runs"
abbrev pub idles : Model → Bool
idles m = eqb m.core.runner no_rank

-- nobody who may call runs: "A body of kind 3 may make no call but Finish", "in the place of nobody running"
abbrev pub no_caller : Model → Bool
no_caller m = idles m || timed m

-- the words of the ranks that have begun and not ended
abbrev pub begun_word : Model → ℕ
begun_word m = union m.core.started m.core.aside

-- the body of rank r is ready, or has begun and not ended
abbrev pub busy : Model → ℕ → Bool
busy m r = has m.core.request r || has (begun_word m) r

-- "A status other than 0 changes nothing"; m: the model that a refused event leaves
abbrev pub attempt : Model → ℕ → Outcome → Outcome
attempt m st o = cond (eqb st done) o (refused_with m st)

-- Activate t
abbrev pub activate_status : List ℕ → Model → ℕ → ℕ
activate_status trs m t =
    first_given
    ((no_caller m gives call_level) ∷
    (eqb (get_or trs t no_rank) no_rank gives no_such) ∷
    (busy m (get_or trs t no_rank) gives limit_reached) ∷
    [])

abbrev pub activate_effect : List ℕ → List ℕ → Model → ℕ → Outcome
activate_effect trs ps m t = settled ps (requesting (get_or trs t no_rank) m)

unfoldable pub activate : List ℕ → List ℕ → Model → ℕ → Outcome
activate trs ps m t = attempt m (activate_status trs m t) (activate_effect trs ps m t)

-- Finish
abbrev pub finish_status : Model → ℕ
finish_status m = first_given ((idles m gives call_level) ∷ (holding m gives holds_resource) ∷ [])

-- a time-triggered task gives way to the one that it preempted, another runner to the latest holder of a resource
abbrev pub finish_effect : List ℕ → Model → Outcome
finish_effect ps m = settled ps (cond (timed m) (returning m) (leaving m))

unfoldable pub finish : List ℕ → Model → Outcome
finish ps m = attempt m (finish_status m) (finish_effect ps m)

-- Chain t; ws: the ranks that are ISRs
abbrev pub chain_status : ℕ → List ℕ → Model → ℕ → ℕ
chain_status ws trs m t =
    first_given
    ((no_caller m || has ws m.core.runner gives call_level) ∷
    (eqb (get_or trs t no_rank) no_rank gives no_such) ∷
    (holding m gives holds_resource) ∷
    (busy m (get_or trs t no_rank) && not (eqb (get_or trs t no_rank) m.core.runner) gives limit_reached) ∷
    [])

-- "as Finish, then as Activate", with one arbitration for both
abbrev pub chain_effect : List ℕ → List ℕ → Model → ℕ → Outcome
chain_effect trs ps m t = settled ps (requesting (get_or trs t no_rank) (leaving m))

unfoldable pub chain : ℕ → List ℕ → List ℕ → Model → ℕ → Outcome
chain ws trs ps m t = attempt m (chain_status ws trs m t) (chain_effect trs ps m t)

-- Get r, of n resources; us: the words of their declared users' ranks, cs: their ceilings
abbrev pub get_status : ℕ → List ℕ → Model → ℕ → ℕ
get_status n us m r =
    first_given
    ((no_caller m gives call_level) ∷
    (leb n r gives no_such) ∷
    (not (has (get_or us r 0) m.core.runner) gives not_user) ∷
    (has m.held r gives access) ∷
    [])

-- the level rises to the ceiling, or stays where it is above it
abbrev pub get_effect : List ℕ → Model → ℕ → Outcome
get_effect cs m r = done_with (getting r (max (get_or cs r 0) m.core.level) m) false

unfoldable pub get : ℕ → List ℕ → List ℕ → Model → ℕ → Outcome
get n us cs m r = attempt m (get_status n us m r) (get_effect cs m r)

-- Release r
abbrev pub release_status : ℕ → Model → ℕ → ℕ
release_status n m r =
    first_given ((no_caller m gives call_level) ∷ (leb n r gives no_such) ∷ (not (latest m r) gives no_function) ∷ [])

-- the level falls, and whoever waits above it is dispatched
abbrev pub release_effect : List ℕ → Model → ℕ → Outcome
release_effect ps m r = settled ps (releasing ps r m)

unfoldable pub release : ℕ → List ℕ → Model → ℕ → Outcome
release n ps m r = attempt m (release_status n m r) (release_effect ps m r)

-- Line i
abbrev pub line_status : List ℕ → Model → ℕ → ℕ
line_status lrs m i =
    first_given
    ((eqb (get_or lrs i no_rank) no_rank gives no_such) ∷
    (has m.core.request (get_or lrs i no_rank) gives limit_reached) ∷
    [])

abbrev pub line_effect : List ℕ → List ℕ → Model → ℕ → Outcome
line_effect lrs ps m i = settled ps (requesting (get_or lrs i no_rank) m)

-- "a Line that meets a waiting request adds to that ISR's loss count"; w: whether the configuration counts lines, st:
-- the status
abbrev pub line_else : Bool → List ℕ → Model → ℕ → ℕ → Model
line_else w lrs m i st = cond (w && eqb st limit_reached) (with_losses m (one_lost (get_or lrs i no_rank) m.losses)) m

unfoldable pub line : Bool → List ℕ → List ℕ → Model → ℕ → Outcome
line w lrs ps m i = attempt (line_else w lrs m i (line_status lrs m i)) (line_status lrs m i) (line_effect lrs ps m i)

-- Tick: every cell of the row is ticked, with the compare values ks; rs are the ranks of their entries' tasks.
-- marks_of n: which of the first n match
abbrev pub marks_of : ℕ → List ℕ → Model → List Bool
marks_of n ks m = marks n 0 m.turning ks m.on m.counter

-- the requests and losses that the matches leave
abbrev pub due_of : List ℕ → List ℕ → Model → Tally
due_of ks rs m =
    requests_due (begun_word m) (marks_of max_entries ks m) rs (record { request = m.core.request; losses = m.losses })

-- the switches after a tick: they change only where a turn may have passed
abbrev pub switches_of : List ℕ → Model → List ℕ
switches_of ks m = cond m.turning (switches_ticked max_entries 0 ks m.counter m.on) m.on

-- the model after the tick, before arbitration
abbrev pub ticking : List ℕ → List ℕ → Model → Model
ticking ks rs m =
    with_rest (with_core m (with_request m.core (due_of ks rs m).request))
    (counters_ticked max_entries 0 m.turning ks m.on m.counter)
    (switches_of ks m)
    (m.turning && some_turn max_entries 0 (switches_of ks m))
    (due_of ks rs m).losses

-- a time-triggered task that is due begins; else arbitration
unfoldable pub tick : List ℕ → List ℕ → List ℕ → Model → Outcome
tick ks rs ps m = triggering ps (ticking ks rs m)

-- a table "runs" where its first cell is on; fs: the tables' first entries
abbrev pub runs : List ℕ → Model → ℕ → Bool
runs fs m t = is_on (get_or m.on (get_or fs t 0) 0)

-- Start t, d, of n tables whose entries have the offsets os: "d plus the smallest offset", which is that of the table's
-- first entry
abbrev pub start_status : ℕ → List ℕ → List ℕ → Model → ℕ → ℕ → ℕ
start_status n fs os m t d =
    first_given
    ((no_caller m gives call_level) ∷
    (leb n t gives no_such) ∷
    (eqb d 0 || ltb longest_delay (d + get_or os (get_or fs t 0) 0) gives bad_delay) ∷
    (runs fs m t gives wrong_state) ∷
    [])

-- k entries from e on, with period P and offsets os
abbrev pub starting : ℕ → ℕ → ℕ → List ℕ → ℕ → Model → Model
starting k e P os d m =
    with_cells m
    (counters_started k e P d os m.counter)
    (switches_started k e d os m.on)
    (m.turning || some_long k e d os)

-- how many cells table t has; es: the tables' entry counts
abbrev pub cell_count : List ℕ → List ℕ → ℕ → ℕ
cell_count fs es t = in_row (get_or es t 0) (get_or fs t 0)

-- qs: the tables' periods
abbrev pub start_effect : List ℕ → List ℕ → List ℕ → List ℕ → Model → ℕ → ℕ → Outcome
start_effect fs es qs os m t d = done_with (starting (cell_count fs es t) (get_or fs t 0) (get_or qs t 0) os d m) false

unfoldable pub start : ℕ → List ℕ → List ℕ → List ℕ → List ℕ → Model → ℕ → ℕ → Outcome
start n fs es qs os m t d = attempt m (start_status n fs os m t d) (start_effect fs es qs os m t d)

-- Stop t
abbrev pub stop_status : ℕ → List ℕ → Model → ℕ → ℕ
stop_status n fs m t =
    first_given ((no_caller m gives call_level) ∷ (leb n t gives no_such) ∷ (not (runs fs m t) gives no_function) ∷ [])

-- the k cells from e on, stopped
abbrev pub stopping : ℕ → ℕ → Model → Model
stopping k e m = with_cells m (counters_stopped k e m.counter) (switches_stopped k e m.on) m.turning

abbrev pub stop_effect : List ℕ → List ℕ → Model → ℕ → Outcome
stop_effect fs es m t = done_with (stopping (cell_count fs es t) (get_or fs t 0) m) false

unfoldable pub stop : ℕ → List ℕ → List ℕ → Model → ℕ → Outcome
stop n fs es m t = attempt m (stop_status n fs m t) (stop_effect fs es m t)

-- the event bits of the body of rank r
abbrev pub bits_at : Model → ℕ → ℕ
bits_at m r = cond (has m.cleared r) 0 (get_or m.bits r 0)

-- the event bits of the body of rank r become b, and s and a the words of those that have begun
abbrev pub storing : ℕ → ℕ → ℕ → ℕ → Model → Model
storing r b s a m = with_event_bits m (with_begun m.core s a) (without m.cleared r) (set m.bits r b) m.waited

-- Wait w
abbrev pub wait_status : ℕ → Model → ℕ
wait_status xs m =
    first_given
    ((no_caller m gives call_level) ∷
    (not (has xs m.core.runner) gives access) ∷ (holding m gives holds_resource) ∷ [])

-- the runner waits for a bit of w
abbrev pub pausing : ℕ → Model → Model
pausing w m = with_event_bits m (paused m) m.cleared m.bits (set m.waited m.core.runner w)

-- "Wait on a bit already set goes on at once"
abbrev pub wait_effect : List ℕ → Model → ℕ → Outcome
wait_effect ps m w = cond (any_set (bits_at m m.core.runner) w) (done_with m false) (settled ps (pausing w m))

unfoldable pub wait : ℕ → List ℕ → Model → ℕ → Outcome
wait xs ps m w = attempt m (wait_status xs m) (wait_effect ps m w)

-- Set t w; rs: the ranks of all bodies
abbrev pub no_task : ℕ → ℕ → Bool
no_task ws r = eqb r no_rank || has ws r

abbrev pub set_status : ℕ → ℕ → List ℕ → Model → ℕ → ℕ
set_status ws xs rs m t =
    first_given
    ((no_caller m gives call_level) ∷
    (no_task ws (get_or rs t no_rank) gives no_such) ∷
    (not (has xs (get_or rs t no_rank)) gives access) ∷
    (not (busy m (get_or rs t no_rank)) gives wrong_state) ∷
    [])

-- with the event bits b "a waited bit is set" of the body of rank r, which waits: it goes on by its priority
abbrev pub resumes : ℕ → ℕ → Model → Bool
resumes r b m = has m.core.aside r && any_set b (get_or m.waited r 0)

-- the event bits of the body of rank r become b; go: it goes on by its priority
abbrev pub storing_for : Bool → ℕ → ℕ → Model → Model
storing_for go r b m =
    storing r b (cond go (with m.core.started r) m.core.started)
    (cond go (without m.core.aside r) m.core.aside) m

-- the body of rank r gets the bits of w
abbrev pub receiving : ℕ → ℕ → Model → Model
receiving r w m = storing_for (resumes r (with_bits (bits_at m r) w) m) r (with_bits (bits_at m r) w) m

abbrev pub set_effect : List ℕ → List ℕ → Model → ℕ → ℕ → Outcome
set_effect rs ps m t w = settled ps (receiving (get_or rs t no_rank) w m)

unfoldable pub set_event : ℕ → ℕ → List ℕ → List ℕ → Model → ℕ → ℕ → Outcome
set_event ws xs rs ps m t w = attempt m (set_status ws xs rs m t) (set_effect rs ps m t w)

-- Clear w
abbrev pub clear_status : ℕ → Model → ℕ
clear_status xs m = first_given ((no_caller m gives call_level) ∷ (not (has xs m.core.runner) gives access) ∷ [])

-- the runner's bits of w are cleared
abbrev pub clearing : ℕ → Model → Model
clearing w m =
    storing m.core.runner (without_bits (bits_at m m.core.runner) w) m.core.started m.core.aside m

abbrev pub clear_effect : Model → ℕ → Outcome
clear_effect m w = done_with (clearing w m) false

unfoldable pub clear : ℕ → Model → ℕ → Outcome
clear xs m w = attempt m (clear_status xs m) (clear_effect m w)
