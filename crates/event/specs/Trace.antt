-- A trace of any length as a list of events.
--
--   read_trace bs    the events of bs up to its end or to the first that is refused
--   read_rest bs at  the same from a place on
--   trace_bytes es   the bytes of a list of events
--   decisive bs r    how many bytes of bs decide its reading r, where that is refused with 22 or 23
--
-- Main laws: `rest_step`, `rest_end` and `rest_refused` tie `read_rest` to the reader of one event; `trace_read_written`
-- and `trace_written_read` are the round trips (proofs/Theorems.antt).
use Rattle.std.specs.Prelude.{ℕ, zero, suc, ◌-◌, cond, List, [], ◌∷◌, ◌++◌, ltb, eqb, length}
use Rattle.number.specs.Refusal.{none}
use Rattle.number.specs.Number as Number
use Rattle.event.specs.declared.Event.{Event}
use Rattle.event.specs.Refusal.{trace_malformed}
use Rattle.event.specs.Event.{EventRead, Writable, read_event, event_bytes}

-- "trace longer than 8,192 bytes": whoever is lent one refuses it with `trace_too_long`
abbrev pub max_trace : ℕ
max_trace = 8192

-- the events read, with refusal none and the place after them, or with the first refusal and its place
pub record TraceRead : Type 0 where
  pub events : List Event
  pub refusal : ℕ
  pub place : ℕ

-- the input is used up
abbrev pub ended : ℕ → TraceRead
ended at = record { events = []; refusal = none; place = at }

-- an event is refused, and with it the trace
abbrev pub broken : EventRead → TraceRead
broken r = record { events = []; refusal = r.refusal; place = r.place }

-- an event before those of a rest
abbrev pub before : Event → TraceRead → TraceRead
before e rest = record { events = e ∷ rest.events; refusal = rest.refusal; place = rest.place }

-- the events from a place on, at most fuel many
unfoldable pub read_from : ℕ → List ℕ → ℕ → TraceRead
read_from zero bs at = ended at
read_from (suc fuel) bs at =
    cond (ltb at (length bs))
    (cond (eqb (read_event bs at).refusal none)
    (before (read_event bs at).event (read_from fuel bs (read_event bs at).place))
    (broken (read_event bs at)))
    (ended at)

-- the events from a place on; each covers a byte, so there are no more of them than bytes
unfoldable pub read_rest : List ℕ → ℕ → TraceRead
read_rest bs at = read_from (length bs - at) bs at

-- "A trace is events"
abbrev pub read_trace : List ℕ → TraceRead
read_trace bs = read_rest bs 0

abbrev pub decisive : List ℕ → TraceRead → ℕ
decisive bs r = Number.decisive (eqb r.refusal trace_malformed) bs r.place

unfoldable pub trace_bytes : List Event → List ℕ
trace_bytes [] = []
trace_bytes (e ∷ es) = event_bytes e ++ trace_bytes es

-- each event of a list can be written
unfoldable pub AllWritable : List Event → Type 0
AllWritable [] = Unit
AllWritable (e ∷ es) = Writable e × AllWritable es
