-- The call that salvages a recording: what it answers, and what it leaves in the two slices that it is lent.
--
--   salvaged bs n m                the answer for the recording bs, where n and m bytes are lent for events and stretches
--   events_after, stretches_after  what the two slices hold afterwards
--   result_of r                    the answer as one number, for C
use Rattle.std.specs.Prelude.{ℕ, ◌+◌, ◌*◌, ◌≤◌, cond, List, leb, eqb, length, Result, Ok, Err}
use Rattle.number.specs.declared.Refused.{Refused}
use Rattle.number.specs.Refusal.{none, no_room}
use Rattle.number.specs.Answer.{code}
use Rattle.number.specs.Output.{written, packed}
use Rattle.event.specs.Refusal.{trace_too_long}
use Rattle.event.specs.Trace.{max_trace}
use Rattle.recording.specs.Fate.{kept_bytes}
use Rattle.recording.specs.Stretch.{list_bytes}
use Rattle.salvage.specs.declared.Lengths.{Lengths}

-- What the call answers: the lengths of both outputs with refusal 0, or zeros with the refusal and its place, which for
-- no_room is the number of bytes that the output at fault needs.
pub record Salvaged : Type 0 where
  pub events : ℕ
  pub stretches : ℕ
  pub refusal : ℕ
  pub place : ℕ

-- how many bytes each output takes
abbrev pub lengths : List ℕ → Lengths
lengths bs = record { events = length (kept_bytes bs); stretches = length (list_bytes bs) }

-- the recording is not too long, and n and m bytes are room enough for events and stretches
pub record Fitting (bs : List ℕ) (n m : ℕ) : Type 0 where
  pub short : length bs ≤ max_trace
  pub events : length (kept_bytes bs) ≤ n
  pub stretches : length (list_bytes bs) ≤ m

-- zeros with the refusal and its place, or the lengths of both outputs
abbrev pub refused : ℕ → ℕ → Salvaged
refused r p = record { events = 0; stretches = 0; refusal = r; place = p }

abbrev pub accepted : Lengths → Salvaged
accepted n = record { events = n.events; stretches = n.stretches; refusal = none; place = 0 }

-- the answer of the function, in document 01's numbers
abbrev pub as_salvaged : Result Lengths Refused → Salvaged
as_salvaged (Ok n) = accepted n
as_salvaged (Err e) = refused (code e.refusal) e.place

-- "Refusals: 20, then 30 for the events, then 30 for the stretches"; 30's place is "the bytes needed"
unfoldable pub salvaged : List ℕ → ℕ → ℕ → Salvaged
salvaged bs n m =
    cond (leb (length bs) max_trace)
    (cond (leb (length (kept_bytes bs)) n)
    (cond (leb (length (list_bytes bs)) m) (accepted (lengths bs)) (refused no_room (length (list_bytes bs))))
    (refused no_room (length (kept_bytes bs))))
    (refused trace_too_long 0)

-- d with xs at its start, or as it was where the call is refused
unfoldable pub filled : Salvaged → List ℕ → List ℕ → List ℕ
filled r xs d = cond (eqb r.refusal none) (written xs d) d

-- "The tool writes the kept events"; es and ss are what the two slices held before
abbrev pub events_after : List ℕ → List ℕ → List ℕ → List ℕ
events_after bs es ss = filled (salvaged bs (length es) (length ss)) (kept_bytes bs) es

-- "and lists each dropped stretch"
abbrev pub stretches_after : List ℕ → List ℕ → List ℕ → List ℕ
stretches_after bs es ss = filled (salvaged bs (length es) (length ss)) (list_bytes bs) ss

-- both lengths in one number
abbrev pub both : ℕ → ℕ → ℕ
both stretches events = stretches * 65536 + events

-- the answer for C: both lengths, or the refusal with its place
unfoldable pub result_of : Salvaged → ℕ
result_of r = cond (eqb r.refusal none) (both r.stretches r.events) (packed r.refusal r.place)
