-- The requests of a body, its begins and its ends, counted from the events' names and from what is seen of the
-- events. No count looks into a state; what the counts are compared with does: `waits_to_begin` and `under_way`.
--
--   asks_for b e                     the event e is an Activate, a Chain or a Line that names the body b
--   requests_at c b o e x            how many accepted requests of b the event e is, of which x is seen and before which o
--                                    requests of b had not ended
--   ends_at b r e x                  how many ends of b it is, where r ran before it
--   requests c b r o es xs           how many accepted requests the events es are; ends b r es xs: how many ends
--   marks b xs                       how many begun marks of b are in what is seen
--   autostarted c b, fresh_mark c b  the same of the fresh start: a request, a begin
--
-- A loss count does not tell whether a due entry found its task suspended, since it stays at 65,535. What tells
-- is that of all accepted requests of the task each has ended: `suspended_when_ended` (proofs/Theorems.antt).
--
-- Main law: `conservation` (proofs/Theorems.antt).
use Rattle.std.specs.Prelude.{ℕ, ◌+◌, ◌-◌, Bool, true, false, ◌&&◌, List, [], ◌∷◌, ltb, eqb, get_or}
use Rattle.config.specs.declared.Config.{Config}
use Rattle.scheduler.specs.Status.{done}
use Rattle.scheduler.specs.Body.{has_begun}
use Rattle.scheduler.specs.State.{State, body_of, runner}
use Rattle.scheduler.specs.Event.{Event, Activate, Finish, Chain, Get, Release, Tick, Line, Start, Stop, Wait, Set, Clear}
use Rattle.scheduler.specs.Tick.{naming}
use Rattle.scheduler.specs.Call.{request_waits}
use Rattle.scheduler.specs.Scheduler.{Seen, mark_of, fresh}

abbrev pub asks_for : ℕ → Event → Bool
asks_for b (Activate t) = eqb t b
asks_for b Finish = false
asks_for b (Chain t) = eqb t b
asks_for b (Get r) = false
asks_for b (Release r) = false
asks_for b Tick = false
asks_for b (Line i) = eqb i b
asks_for b (Start t d) = false
asks_for b (Stop t) = false
asks_for b (Wait w) = false
asks_for b (Set t w) = false
asks_for b (Clear w) = false

-- it ends the runner
abbrev pub ends_runner : Event → Bool
ends_runner (Activate t) = false
ends_runner Finish = true
ends_runner (Chain t) = true
ends_runner (Get r) = false
ends_runner (Release r) = false
ends_runner Tick = false
ends_runner (Line i) = false
ends_runner (Start t d) = false
ends_runner (Stop t) = false
ends_runner (Wait w) = false
ends_runner (Set t w) = false
ends_runner (Clear w) = false

abbrev pub accepted : Seen → Bool
accepted x = eqb x.status done

-- one of the entries that are seen due names b
abbrev pub some_due : Config → ℕ → Seen → Bool
some_due c b x = ltb 0 (naming b x.due c.task)

-- "Activate, Chain, Line with status 0, due entries that find a suspended task": of the due entries that name b
-- the first, where none of its requests is left
abbrev pub requests_at : Config → ℕ → ℕ → Event → Seen → ℕ
requests_at c b o e x = mark_of (asks_for b e && accepted x) + mark_of (eqb o 0 && some_due c b x)

abbrev pub ends_at : ℕ → ℕ → Event → Seen → ℕ
ends_at b r e x = mark_of (ends_runner e && eqb r b && accepted x)

unfoldable pub requests : Config → ℕ → ℕ → ℕ → List Event → List Seen → ℕ
requests c b r o [] xs = 0
requests c b r o (e ∷ es) [] = 0
requests c b r o (e ∷ es) (x ∷ xs) =
    requests_at c b o e x + requests c b x.runner (o + requests_at c b o e x - ends_at b r e x) es xs

unfoldable pub ends : ℕ → ℕ → List Event → List Seen → ℕ
ends b r [] xs = 0
ends b r (e ∷ es) [] = 0
ends b r (e ∷ es) (x ∷ xs) = ends_at b r e x + ends b x.runner es xs

-- the event made b begin
abbrev pub mark_at : ℕ → Seen → ℕ
mark_at b x = mark_of (eqb x.begun 1 && eqb x.runner b)

unfoldable pub marks : ℕ → List Seen → ℕ
marks b [] = 0
marks b (x ∷ xs) = mark_at b x + marks b xs

abbrev pub autostarted : Config → ℕ → ℕ
autostarted c b = mark_of (eqb (get_or c.autostart b 0) 1)

-- who runs at the fresh start, and began at it; past the last body where nobody does
abbrev pub fresh_runner : Config → ℕ
fresh_runner c = (runner c (fresh c)).number

abbrev pub fresh_mark : Config → ℕ → ℕ
fresh_mark c b = mark_of (eqb (fresh_runner c) b)

-- "waits to begin": it is ready, or started with a second request waiting
abbrev pub waits_to_begin : State → ℕ → ℕ
waits_to_begin s b = mark_of (request_waits (body_of s b) (body_of s b).phase)

-- it has begun, and not ended
abbrev pub under_way : State → ℕ → ℕ
under_way s b = mark_of (has_begun (body_of s b).phase)
