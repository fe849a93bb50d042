-- How a run ends, in document 01's numbers.
--
--   as_result a      what a call returns to C: a count, or the refusal with its place as one number
--   as_run_result a  the same of a run, which counts its events
--   model_left a     the model after the last event; a refused run plays none, and nobody is ready
--
-- Main law: `as_result_injective` (proofs/Ends.antt): with a count and a place below 2 ^ 32 the number tells the results
-- apart.
use Rattle.std.specs.Prelude.{ℕ, Result, Ok, Err}
use Rattle.number.specs.declared.Refused.{Refused}
use Rattle.number.specs.Answer.{code}
use Rattle.number.specs.Output.{packed}
use Rattle.machine.specs.Machine.{unstarted}
use Rattle.model.specs.declared.Model.{Model}
use Rattle.model.specs.View.{model_of}
use Rattle.kernel.specs.declared.Played.{Played}

abbrev pub as_result : Result ℕ Refused → ℕ
as_result (Ok n) = n
as_result (Err e) = packed (code e.refusal) e.place

abbrev pub as_run_result : Result Played Refused → ℕ
as_run_result (Ok p) = p.events
as_run_result (Err e) = packed (code e.refusal) e.place

abbrev pub model_left : Result Played Refused → Model
model_left (Ok p) = p.model
model_left (Err e) = model_of (unstarted 0)
