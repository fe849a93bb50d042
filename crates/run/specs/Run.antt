-- The run: from the bytes of a configuration and a trace to the answers of the plain scheduler.
--
--   read_run cs ts          what the input is: refused, or a configuration and its events
--   answers c es            the output of the plain scheduler, event by event and then the losses
--   run_result, run_output  what the run returns, and what it leaves in the slice that it is lent
use Rattle.std.specs.Prelude.{ℕ, ◌/◌, ◌%◌, cond, List, [], ◌∷◌, ◌++◌, map, leb, eqb, length}
use Rattle.number.specs.Refusal.{none, no_room}
use Rattle.number.specs.Output.{written, packed}
use Rattle.config.specs.declared.Config.{Config}
use Rattle.config.specs.Reader.{read_config}
use Rattle.event.specs.declared.Event.{Event}
use Rattle.event.specs.Event.{activate, finish, chain, get, release, tick, line, start, stop, wait, set}
use Rattle.event.specs.Refusal.{trace_too_long}
use Rattle.event.specs.Trace.{max_trace, read_trace}
use Rattle.scheduler.specs.Scheduler as Plain
use Rattle.scheduler.specs.Scheduler.{Activate, Finish, Chain, Get, Release, Tick, Line, Start, Stop, Wait, Set, Clear, Seen, fresh, seen, after, losses_of}

-- the event that a code with two arguments stands for; of the twelve codes that a readable event has, the last needs
-- no test
unfoldable pub call_of : Event → Plain.Event
call_of e =
    cond (eqb e.code activate) (Activate e.first)
    (cond (eqb e.code finish) Finish
    (cond (eqb e.code chain) (Chain e.first)
    (cond (eqb e.code get) (Get e.first)
    (cond (eqb e.code release) (Release e.first)
    (cond (eqb e.code tick) Tick
    (cond (eqb e.code line) (Line e.first)
    (cond (eqb e.code start) (Start e.first e.second)
    (cond (eqb e.code stop) (Stop e.first)
    (cond (eqb e.code wait) (Wait e.first)
    (cond (eqb e.code set) (Set e.first e.second)
    (Clear e.first)))))))))))

-- the events of a trace
abbrev pub calls_of : List ℕ → List Plain.Event
calls_of ts = map call_of (read_trace ts).events

-- what the run's input is
pub data Input : Type 0 where
  refused : (refusal place : ℕ) → Input
  played : (c : Config) (es : List Plain.Event) → Input

-- "Checks: 10, the configuration in reading order, 20, the whole trace"
unfoldable pub read_run : List ℕ → List ℕ → Input
read_run cs ts =
    cond (eqb (read_config cs).refusal none)
    (cond (leb (length ts) max_trace)
    (cond (eqb (read_trace ts).refusal none)
    (played (read_config cs).config (calls_of ts))
    (refused (read_trace ts).refusal (read_trace ts).place))
    (refused trace_too_long 0))
    (refused (read_config cs).refusal (read_config cs).place)

-- "four bytes an event (status, runner, level, begun)"
unfoldable pub answer_bytes : List Seen → List ℕ
answer_bytes [] = []
answer_bytes (x ∷ xs) = x.status ∷ x.runner ∷ x.level ∷ x.begun ∷ answer_bytes xs

-- "then two bytes a body, low first, for its losses"
unfoldable pub loss_bytes : List ℕ → List ℕ
loss_bytes [] = []
loss_bytes (n ∷ ns) = n % 256 ∷ n / 256 ∷ loss_bytes ns

unfoldable pub answers : Config → List Plain.Event → List ℕ
answers c es = answer_bytes (seen c (fresh c) es) ++ loss_bytes (losses_of (after c (fresh c) es))

-- "refusal × 4,294,967,296 + place"; "then 30", or "the event count"; n: how many bytes are lent
unfoldable pub result_of : ℕ → Input → ℕ
result_of n (refused r p) = packed r p
result_of n (played c es) = cond (leb (length (answers c es)) n) (length es) (packed no_room (length (answers c es)))

-- "A refused run writes nothing to the output"; "bytes beyond stay"
unfoldable pub output_of : List ℕ → Input → List ℕ
output_of d (refused r p) = d
output_of d (played c es) = written (answers c es) d

abbrev pub run_result : List ℕ → List ℕ → ℕ → ℕ
run_result cs ts n = result_of n (read_run cs ts)

abbrev pub run_output : List ℕ → List ℕ → List ℕ → List ℕ
run_output cs ts d = output_of d (read_run cs ts)
