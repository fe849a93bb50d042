-- How large the place of a refused configuration, the events of a trace and their answers can be, and that the two
-- halves of a result can be split again.
use Prim.Native.Nat.{ℕ, ◌≤◌, ◌<◌}
use mathlib.Core.Path.{◌≡◌}
use mathlib.Core.List.{List}
use native.Mathlib.Omega.{arith}
use borrow.Author.Tests.{lt-leb}
use lib.ListN.{length, length-map}
use Rattle.number.specs.Refusal.{none}
use Rattle.number.specs.Output.{packed}
use Rattle.number.proofs.Cases.{by_lt}
use Rattle.config.specs.Reader.{read_config, max_length}
use Rattle.config.proofs.Theorems.{reading, accepted_ranges}
use Rattle.event.specs.Trace.{max_trace, read_trace}
use Rattle.event.proofs.Theorems.{trace_reading}
use Rattle.run.specs.Result.{places, high_half, low_half}
use Rattle.run.specs.Run.{call_of, calls_of, answers}
use Rattle.run.proofs.Answers.{length_answers}

-- a configuration that is looked at is short
pub config_place_lt : (cs : List ℕ) → (read_config cs).place < places
unfolding read_config
config_place_lt cs = by_lt max_length (length cs) too_long_lem (λ h. omega (arith, (reading cs).inside))
  where
    too_long_lem : max_length < length cs → (read_config cs).place < places
    too_long_lem h = rw (lt-leb (length cs) max_length h) (omega arith)

-- a trace that is short enough has few events, and their answers few bytes
pub few_events : (ts : List ℕ) → length ts ≤ max_trace → length (calls_of ts) ≤ 8192
few_events ts short = omega (arith, length-map (read_trace ts).events call_of, (trace_reading ts 0 (omega arith)).few)

pub few_answers : (cs ts : List ℕ) → (read_config cs).refusal ≡ none → length ts ≤ max_trace
    → length (answers (read_config cs).config (calls_of ts)) ≤ 32832
few_answers cs ts ok short =
    let accepted = accepted_ranges cs ok in
    let size = length_answers (read_config cs).config accepted (reading cs).shaped (calls_of ts) in
    omega (arith, accepted.few_bodies, few_events ts short)

-- the two halves of a result
pub split : (r p : ℕ) → p < places → (high_half (packed r p) ≡ r) × (low_half (packed r p) ≡ p)
split r p h = (omega arith, omega arith)
