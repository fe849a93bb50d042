-- What the run's input is, by its checks in order, and what the run returns and leaves for each.
--
--   config_refused .. all_readable     what the input is
--   refused_output, short_output       what a refused run leaves
--   Ran cs ts d r d₁ m                 the run of cs and ts on the slice d returns r with the last model m, and leaves d₁
--   ran_refused, ran_short, ran_whole  its ways out
use Prim.Native.Nat.{ℕ, ◌+◌, ◌*◌, ◌≤◌, ◌<◌}
use mathlib.Core.Path.{◌≡◌, refl, sym, ap, ◌∙◌}
use mathlib.Core.Bool.{cond}
use mathlib.Core.List.{List}
use native.Mathlib.Omega.{arith}
use borrow.Author.Tests.{le-leb, lt-leb, eq-eqb, ne_eqb}
use lib.Dec.{leb, eqb}
use lib.ListN.{length}
use Rattle.number.specs.Refusal.{none, no_room}
use Rattle.number.specs.Output.{written, packed}
use Rattle.config.specs.declared.Config.{Config}
use Rattle.config.specs.Accepted.{Accepted, Shaped}
use Rattle.config.specs.Reader.{read_config}
use Rattle.event.specs.Refusal.{trace_too_long}
use Rattle.event.specs.Trace.{max_trace, read_trace}
use Rattle.plan.specs.Plan.{plan_of}
use Rattle.scheduler.specs.Scheduler.{Event}
use Rattle.run.specs.Run.{calls_of, refused, played, read_run, answers, result_of, output_of, run_result, run_output}
use Rattle.machine.specs.Model.{Model}
use Rattle.machine.specs.Machine.{unstarted, fresh_model, machine_after}
use Rattle.run.specs.Steps.{machine_answers, machine_output_of, machine_output, last_model_of, last_model}
use Rattle.run.proofs.Answers.{answers_same, length_answers}

-- what the run's input is, by its checks in order
module _ (cs ts : List ℕ) where
  pub config_refused : ((read_config cs).refusal ≡ none → ⊥)
      → read_run cs ts ≡ refused (read_config cs).refusal (read_config cs).place
  unfolding read_run
  config_refused n = rw (ne_eqb (read_config cs).refusal none n)

  module _ (ok : (read_config cs).refusal ≡ none) where
    -- then the trace's length decides, and then what it holds
    length_decides : read_run cs ts
        ≡ cond (leb (length ts) max_trace)
        (cond (eqb (read_trace ts).refusal none)
        (played (read_config cs).config (calls_of ts))
        (refused (read_trace ts).refusal (read_trace ts).place))
        (refused trace_too_long 0)
    unfolding read_run
    length_decides = rw (eq-eqb (read_config cs).refusal none ok) refl

    pub trace_too_long_lem : max_trace < length ts → read_run cs ts ≡ refused trace_too_long 0
    trace_too_long_lem h = length_decides ∙ rw (lt-leb (length ts) max_trace h)

    module _ (short : length ts ≤ max_trace) where
      pub trace_refused : ((read_trace ts).refusal ≡ none → ⊥)
          → read_run cs ts ≡ refused (read_trace ts).refusal (read_trace ts).place
      trace_refused n = length_decides ∙ rw (le-leb (length ts) max_trace short, ne_eqb (read_trace ts).refusal none n)

      pub all_readable : (read_trace ts).refusal ≡ none → read_run cs ts ≡ played (read_config cs).config (calls_of ts)
      all_readable e = length_decides ∙ rw (le-leb (length ts) max_trace short, eq-eqb (read_trace ts).refusal none e)

-- "A refused run writes nothing to the output": of an input that is refused, and where the output is too short
pub refused_output : (cs ts d : List ℕ) (r p : ℕ) → read_run cs ts ≡ refused r p → run_output cs ts d ≡ d
unfolding output_of
refused_output cs ts d r p e = ap (output_of d) e

pub short_output : (cs ts d : List ℕ) (c : Config) (es : List Event) → read_run cs ts ≡ played c es
    → length d < length (answers c es)
    → run_output cs ts d ≡ d
unfolding output_of written
short_output cs ts d c es e short = ap (output_of d) e ∙ rw (lt-leb (length (answers c es)) (length d) short)

-- the run's contract: r is what it returns with the model m, and d₁ what it leaves where d was
pub record Ran (cs ts d : List ℕ) (r : ℕ) (d₁ : List ℕ) (m : Model) : Type 0 where
  pub result : r ≡ run_result cs ts (length d)
  pub output : d₁ ≡ run_output cs ts d
  pub steps : d₁ ≡ machine_output cs ts d
  pub model : m ≡ last_model cs ts (length d)

module _ (cs ts d : List ℕ) where
  pub ran_refused : (r p x : ℕ) → read_run cs ts ≡ refused r p → x ≡ packed r p → Ran cs ts d x d (unstarted 0)
  unfolding result_of output_of machine_output_of last_model_of
  ran_refused r p x e same =
      record {
        result = same ∙ sym (ap (result_of (length d)) e);
        output = sym (refused_output cs ts d r p e);
        steps = sym (ap (machine_output_of d) e);
        model = sym (ap (last_model_of (length d)) e);
      }

  module _ (c : Config) (ok : Accepted c) (shaped : Shaped c) (es : List Event) (e : read_run cs ts ≡ played c es) where
    pub ran_short : (need x : ℕ) → need ≡ 4 * length es + 2 * c.bodies → length d < need → x ≡ packed no_room need
        → Ran cs ts d x d (unstarted 0)
    unfolding result_of output_of machine_output_of last_model_of written
    ran_short need x long short same =
        let size : length (answers c es) ≡ need = length_answers c ok shaped es ∙ sym long in
        let size' : length (machine_answers c (plan_of c) es) ≡ need = ap length (answers_same c ok shaped es) ∙ size in
        record {
          result = same ∙ sym (ap (result_of (length d)) e ∙ rw (size, lt-leb need (length d) short));
          output = sym (short_output cs ts d c es e (rw size short));
          steps = sym (ap (machine_output_of d) e ∙ rw (size', lt-leb need (length d) short));
          model = sym (ap (last_model_of (length d)) e ∙ rw (size, lt-leb need (length d) short));
        }

    pub ran_whole : (x : ℕ) (d₁ : List ℕ) (m : Model) → 4 * length es + 2 * c.bodies ≤ length d → x ≡ length es
        → d₁ ≡ written (machine_answers c (plan_of c) es) d → m ≡ machine_after c (plan_of c) (fresh_model (plan_of c)) es
        → Ran cs ts d x d₁ m
    unfolding result_of output_of machine_output_of last_model_of
    ran_whole x d₁ m room count wrote last =
        let fits : length (answers c es) ≤ length d = omega (arith, length_answers c ok shaped es) in
        record {
          result = count ∙ sym (ap (result_of (length d)) e ∙ rw (le-leb (length (answers c es)) (length d) fits));
          output = wrote ∙ ap (λ (l : List ℕ). written l d) (answers_same c ok shaped es) ∙ sym (ap (output_of d) e);
          steps = wrote ∙ sym (ap (machine_output_of d) e);
          model =
              last ∙ sym (ap (last_model_of (length d)) e ∙ rw (le-leb (length (answers c es)) (length d) fits));
        }
