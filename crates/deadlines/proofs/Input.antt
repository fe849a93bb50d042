-- What the call returns and leaves, by its input, with the misses as the machine tells them.
--
--   machine_misses_lem                    for every accepted configuration
--   played_accepted                       the configuration of an input that is played is one; played_misses
--   Gave cs ts d r d₁                     the call with the list d returns r and leaves d₁ there
--   gave_refused, gave_short, gave_whole  its ways out
use Prim.Native.Nat.{ℕ, ◌≤◌, ◌<◌}
use mathlib.Core.Path.{◌≡◌, sym, ap, ◌∙◌}
use mathlib.Core.List.{List}
use borrow.Author.Tests.{le-leb, lt-leb}
use lib.ListN.{length}
use Rattle.number.specs.Refusal.{none, no_room}
use Rattle.number.specs.Output.{packed, written}
use Rattle.number.proofs.Cases.{by_eq, by_lt}
use Rattle.config.specs.declared.Config.{Config}
use Rattle.config.specs.Accepted.{Accepted, Shaped}
use Rattle.config.specs.Reader.{read_config}
use Rattle.config.proofs.Theorems.{reading, accepted_ranges}
use Rattle.event.specs.Trace.{max_trace, read_trace}
use Rattle.plan.specs.Plan.{plan_of}
use Rattle.scheduler.specs.Event.{Event}
use Rattle.run.specs.Run.{Input, refused, played, read_run}
use Rattle.run.proofs.Input.{config_refused, trace_too_long_lem, trace_refused, all_readable}
use Rattle.deadlines.specs.Miss.{Miss, deadlines_of}
use Rattle.deadlines.specs.Report.{bytes_needed}
use Rattle.deadlines.specs.Words.{machine_misses}
use Rattle.deadlines.specs.Result.{misses_in, count_of, list_of, misses_after_reading, list_after_reading, misses_result, misses_output}
use Rattle.deadlines.proofs.Report as Report
use Rattle.deadlines.proofs.Machine as Machine
use Rattle.deadlines.proofs.Bounds.{deadline_le, isr_none}

-- of a configuration's own deadlines
pub machine_misses_lem : (c : Config) → Accepted c → Shaped c → (es : List Event)
    → machine_misses c (plan_of c) (deadlines_of c) es ≡ misses_in c es
machine_misses_lem c ok shaped es =
    Machine.machine_misses_lem c ok shaped (deadlines_of c) (isr_none c ok) (deadline_le c ok) es

-- the configuration of an input that is played
unfoldable Sound : Input → Type 0
Sound (refused r p) = Unit {0}
Sound (played c es) = Accepted c × Shaped c

input_sound : (cs ts : List ℕ) → Sound (read_run cs ts)
unfolding Sound
input_sound cs ts =
    by_eq (read_config cs).refusal none
    (λ ok. by_lt max_trace (length ts)
    (λ long. rw (trace_too_long_lem cs ts ok long) tt)
    (λ short. by_eq (read_trace ts).refusal none
    (λ fine. rw (all_readable cs ts ok short fine) (accepted_ranges cs ok, (reading cs).shaped))
    (λ bad. rw (trace_refused cs ts ok short bad) tt)))
    (λ bad. rw (config_refused cs ts bad) tt)

pub played_accepted : (cs ts : List ℕ) (c : Config) (es : List Event) → read_run cs ts ≡ played c es
    → Accepted c × Shaped c
unfolding Sound
played_accepted cs ts c es e = rw e at (input_sound cs ts)

pub played_misses : (cs ts : List ℕ) (c : Config) (es : List Event) → read_run cs ts ≡ played c es
    → machine_misses c (plan_of c) (deadlines_of c) es ≡ misses_in c es
played_misses cs ts c es e = let ok = played_accepted cs ts c es e in machine_misses_lem c ok.0 ok.1 es

-- r is what the call returns, and d₁ what it leaves where d was
pub record Gave (cs ts d : List ℕ) (r : ℕ) (d₁ : List ℕ) : Type 0 where
  pub result : r ≡ misses_result cs ts (length d)
  pub output : d₁ ≡ misses_output cs ts d

module _ (cs ts d : List ℕ) where
  pub gave_refused : (r p x : ℕ) → read_run cs ts ≡ refused r p → x ≡ packed r p → Gave cs ts d x d
  unfolding misses_after_reading list_after_reading
  gave_refused r p x e same =
      record { result = same ∙ sym (ap (misses_after_reading (length d)) e); output = sym (ap (list_after_reading d) e) }

  module _ (c : Config) (es : List Event) (e : read_run cs ts ≡ played c es) (ms : List Miss)
      (told : ms ≡ machine_misses c (plan_of c) (deadlines_of c) es) where
    told_all : ms ≡ misses_in c es
    told_all = told ∙ played_misses cs ts c es e

    result_is : misses_result cs ts (length d) ≡ count_of (length d) ms
    unfolding misses_after_reading
    result_is = ap (misses_after_reading (length d)) e ∙ ap (count_of (length d)) (sym told_all)

    output_is : misses_output cs ts d ≡ list_of d ms
    unfolding list_after_reading
    output_is = ap (list_after_reading d) e ∙ ap (list_of d) (sym told_all)

    pub gave_short : (x : ℕ) → length d < bytes_needed ms → x ≡ packed no_room (bytes_needed ms) → Gave cs ts d x d
    unfolding written
    gave_short x short same =
        record {
          result = same ∙ sym (result_is ∙ rw (lt-leb (bytes_needed ms) (length d) short));
          output = sym (output_is ∙ rw (Report.bytes_needed_lem ms, lt-leb (bytes_needed ms) (length d) short));
        }

    pub gave_whole : (x : ℕ) (d₁ : List ℕ) → bytes_needed ms ≤ length d → x ≡ length ms
        → d₁ ≡ list_of d ms
        → Gave cs ts d x d₁
    gave_whole x d₁ room count wrote =
        record {
          result = count ∙ sym (result_is ∙ rw (le-leb (bytes_needed ms) (length d) room));
          output = wrote ∙ sym output_is;
        }
