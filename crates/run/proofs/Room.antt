-- What the result of a run says of its input, where there is room for every output: the input is refused, and as the
-- result says, or it is read whole.
use Prim.Native.Nat.{ℕ, ◌≤◌, ◌<◌}
use mathlib.Core.Path.{◌≡◌, ap, ◌∙◌}
use mathlib.Core.List.{List}
use native.Mathlib.Omega.{arith}
use lib.ListN.{length}
use Rattle.number.specs.Refusal.{none}
use Rattle.number.specs.Output.{packed}
use Rattle.number.proofs.Cases.{by_lt, by_eq}
use Rattle.config.specs.declared.Config.{Config}
use Rattle.config.specs.Reader.{read_config}
use Rattle.event.specs.Refusal.{trace_too_long}
use Rattle.event.specs.Trace.{max_trace, read_trace}
use Rattle.run.specs.Run.{calls_of, refused, played, read_run, answers, result_of, run_result}
use Rattle.run.proofs.Input.{config_refused, trace_too_long_lem, trace_refused, all_readable}
use Rattle.run.proofs.Theorems.{places, played_split, room_enough}

-- what suffices for the output of every run
abbrev pub most_output : ℕ
most_output = 32832

-- the input is refused, and the result x says so
pub record Refused (cs ts : List ℕ) (x : ℕ) : Type 0 where
  pub refusal : ℕ
  pub place : ℕ
  pub input : read_run cs ts ≡ refused refusal place
  pub result : x ≡ packed refusal place

-- the input is read whole
pub record Played (cs ts : List ℕ) : Type 0 where
  pub accepted : (read_config cs).refusal ≡ none
  pub short : length ts ≤ max_trace
  pub readable : (read_trace ts).refusal ≡ none
  pub input : read_run cs ts ≡ played (read_config cs).config (calls_of ts)

-- the run of cs and ts, with n bytes lent, returned x
module _ (cs ts : List ℕ) {n x : ℕ} (ended : x ≡ run_result cs ts n) (room : most_output ≤ n) where
  data Reading : Type 0 where
    faulty : (r p : ℕ) → 1 ≤ r → read_run cs ts ≡ refused r p → Reading
    whole : Played cs ts → Reading

  some : (r : ℕ) → (r ≡ none → ⊥) → 1 ≤ r
  some r given = by_lt 0 r (λ h. h) (λ h. absurd (given (omega arith)))

  reading : Reading
  reading =
      by_eq (read_config cs).refusal none
      (λ ok. by_lt max_trace (length ts)
      (λ long. faulty trace_too_long 0 (omega arith) (trace_too_long_lem cs ts ok long))
      (λ short. by_eq (read_trace ts).refusal none
      (λ fine. whole
      (record { accepted = ok; short = short; readable = fine; input = all_readable cs ts ok short fine }))
      (λ bad. faulty (read_trace ts).refusal (read_trace ts).place (some (read_trace ts).refusal bad)
      (trace_refused cs ts ok short bad))))
      (λ bad. faulty (read_config cs).refusal (read_config cs).place (some (read_config cs).refusal bad)
      (config_refused cs ts bad))

  faulty_result : (r p : ℕ) → read_run cs ts ≡ refused r p → x ≡ packed r p
  unfolding result_of
  faulty_result r p e = ended ∙ ap (result_of n) e

  whole_result : (c : Config) → read_run cs ts ≡ played c (calls_of ts) → x < places
  whole_result c e =
      let fits : length (answers c (calls_of ts)) ≤ n = omega (arith, room_enough cs ts c (calls_of ts) e) in
      let halves = played_split cs ts n c (calls_of ts) e fits in
      omega (arith, halves.0, ended)

  pub run_refused : places ≤ x → Refused cs ts x
  run_refused high = go reading
    where
      go : Reading → Refused cs ts x
      go (faulty r p l e) = record { refusal = r; place = p; input = e; result = faulty_result r p e }
      go (whole w) = absurd (omega (arith, whole_result (read_config cs).config w.input))

  pub run_played : x < places → Played cs ts
  run_played low = go reading
    where
      go : Reading → Played cs ts
      go (faulty r p l e) = absurd (omega (arith, faulty_result r p e))
      go (whole w) = w
