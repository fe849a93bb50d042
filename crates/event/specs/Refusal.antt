-- Refusals that the readers and the writer of events give besides none (0) and no_room (30), which `number` names.
use Rattle.std.specs.Prelude.{ℕ, ◌+◌}
use Rattle.number.specs.Refusal.{cut, malformed}

-- "trace longer than 8,192 bytes"; the readers of events take a trace of any length and never give it
abbrev pub trace_too_long : ℕ
trace_too_long = 20

-- 21 and 22: "as 1 / 2, in the trace"
abbrev pub in_trace : ℕ → ℕ
in_trace r = 20 + r

-- 21: the trace ends within an event
abbrev pub trace_cut : ℕ
trace_cut = in_trace cut

abbrev pub trace_malformed : ℕ
trace_malformed = in_trace malformed

-- "23 now for codes not 1 to 12"
abbrev pub unknown_event : ℕ
unknown_event = 23

-- "event writer only: an argument the event lacks is not 0"
abbrev pub stray_argument : ℕ
stray_argument = 24
