-- What the crate shows of the run, for every input. Each law stands here in full, over specs/ alone.
--
-- In order: how many bytes the answers take; that refusal and place can be split again; that a refused run writes
-- nothing. `Worked` has the run on bytes, computed, and `Edges` P1 to P13.
use Prim.Native.Nat.{ℕ, ◌≤◌, ◌<◌}
use mathlib.Core.Path.{◌≡◌, refl}
use mathlib.Core.Logic.{◌≢◌}
use mathlib.Core.List.{List}
use native.Mathlib.Omega.{arith}
use borrow.Author.Tests.{le-leb, lt-leb}
use lib.ListN.{length}
use Rattle.number.specs.Refusal.{none, no_room}
use Rattle.number.proofs.Cases.{by_lt, by_eq}
use Rattle.config.specs.declared.Config.{Config}
use Rattle.config.specs.Reader.{read_config}
use Rattle.event.specs.Trace.{max_trace, read_trace}
use Rattle.event.proofs.Theorems.{trace_reading}
use Rattle.scheduler.specs.Scheduler.{Event}
pub use Rattle.run.specs.Result.{places, high_half, low_half}
use Rattle.run.specs.Run.{Input, refused, played, read_run, answers, result_of, run_result, run_output}
use Rattle.run.proofs.Bounds.{config_place_lt, few_events, few_answers, split}
use Rattle.run.proofs.Input.{config_refused, trace_too_long_lem, trace_refused, all_readable, refused_output, short_output}

-- what holds of a run's input: a refusal's place fits into a result; of a trace that is played, the events and the bytes
-- of their answers are few
unfoldable pub Bounded : Input → Type 0
Bounded (refused r p) = p < places
Bounded (played c es) = (length es ≤ 8192) × (length (answers c es) ≤ 32832)

-- every input, by the run's checks in order
pub input_bounded : (cs ts : List ℕ) → Bounded (read_run cs ts)
unfolding Bounded
input_bounded cs ts =
    by_eq (read_config cs).refusal none
    (λ ok. by_lt max_trace (length ts)
    (λ long. rw (trace_too_long_lem cs ts ok long) (omega arith))
    (λ short. by_eq (read_trace ts).refusal none
    (λ fine. rw (all_readable cs ts ok short fine) (few_events ts short, few_answers cs ts ok short))
    (λ bad. rw (trace_refused cs ts ok short bad) (omega (arith, (trace_reading ts 0 (omega arith)).place_le)))))
    (λ bad. rw (config_refused cs ts bad) (config_place_lt cs))

-- "A trace of at most 8,192 bytes needs at most 32,832"
pub room_enough : (cs ts : List ℕ) (c : Config) (es : List Event) → read_run cs ts ≡ played c es
    → length (answers c es) ≤ 32832
unfolding Bounded
room_enough cs ts c es e = (rw e at (input_bounded cs ts)).1

-- a result can be split again
pub refused_split : (cs ts : List ℕ) (n r p : ℕ) → read_run cs ts ≡ refused r p
    → (high_half (run_result cs ts n) ≡ r) × (low_half (run_result cs ts n) ≡ p)
unfolding Bounded result_of
refused_split cs ts n r p e = rw e (split r p (rw e at (input_bounded cs ts)))

module _ (cs ts : List ℕ) (n : ℕ) (c : Config) (es : List Event) (e : read_run cs ts ≡ played c es) where
  pub short_split : n < length (answers c es)
      → (high_half (run_result cs ts n) ≡ 30) × (low_half (run_result cs ts n) ≡ length (answers c es))
  unfolding Bounded result_of
  short_split less =
      rw (e, lt-leb (length (answers c es)) n less)
      (split no_room (length (answers c es)) (omega (arith, room_enough cs ts c es e)))

  pub played_split : length (answers c es) ≤ n
      → (high_half (run_result cs ts n) ≡ 0) × (low_half (run_result cs ts n) ≡ length es)
  unfolding Bounded result_of
  played_split room =
      let few : length es ≤ 8192 = (rw e at (input_bounded cs ts)).0 in
      rw (e, le-leb (length (answers c es)) n room) (omega arith, omega arith)

-- "A refused run writes nothing to the output": whatever the refusal, that of the output's own length too, every byte is
-- what it was
pub refused_same : (cs ts d : List ℕ) → high_half (run_result cs ts (length d)) ≢ 0 → run_output cs ts d ≡ d
refused_same cs ts d refusal = go (read_run cs ts) refl
  where
    go : (x : Input) → read_run cs ts ≡ x → run_output cs ts d ≡ d
    go (refused r p) e = refused_output cs ts d r p e
    go (played c es) e =
        by_lt (length d) (length (answers c es))
        (λ short. short_output cs ts d c es e short)
        (λ room. absurd (refusal (played_split cs ts (length d) c es e room).0))
