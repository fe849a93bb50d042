-- The second pass over a trace: the answers so far and those still to come are the answers of the whole trace.
--
-- `Playing` is the invariant: `playing_start`, `playing_step`, `playing_end`.
use Prim.Native.Nat.{ℕ, ◌+◌, ◌*◌, ◌≤◌, ◌<◌}
use mathlib.Core.Path.{◌≡◌, refl, sym, ap, ◌∙◌}
use mathlib.Core.List.{List, [], ◌∷◌, ◌++◌, map, append_assoc, append-nil}
use native.Mathlib.Omega.{arith}
use lib.ListN.{length, length-append}
use Rattle.number.specs.Refusal.{none}
use Rattle.number.specs.Output.{laid}
use Rattle.number.proofs.Cases.{by_eq}
use Rattle.number.proofs.Laying.{laid_laid, length_laid}
use Rattle.config.specs.declared.Config.{Config}
use Rattle.event.specs.Event.{EventRead, read_event}
use Rattle.event.specs.Trace.{TraceRead, before, read_rest}
use Rattle.event.proofs.Theorems.{event_reading, rest_end, rest_step, rest_refused}
use Rattle.plan.specs.declared.Plan.{Plan}
use Rattle.scheduler.specs.Scheduler as Plain
use Rattle.scheduler.specs.Scheduler.{mark_of}
use Rattle.machine.specs.Model.{Model, Outcome}
use Rattle.machine.specs.Machine.{runner_of, machine_seen, machine_after}
use Rattle.run.specs.Run.{call_of, answer_bytes}
use Rattle.kernel.specs.Passes.{Playable}
use Rattle.kernel.proofs.Passes.Bytes.{laid_none}
use Rattle.kernel.proofs.Passes.Arm.{Arm}

-- the events from a place on
abbrev calls_from : List ℕ → ℕ → List Plain.Event
calls_from ts at = map call_of (read_rest ts at).events

-- "four bytes an event (status, runner, level, begun)"
abbrev pub answer_of : Plan → Outcome → List ℕ
answer_of p o = o.status ∷ runner_of p o.model ∷ o.model.core.level ∷ mark_of o.begun ∷ []

-- the trace ts is played up to the place at: the model is m and the output out, whose first `to` bytes are written;
-- it was m₀ and d
pub record Playing (c : Config) (p : Plan) (ts d : List ℕ) (m₀ : Model) (at to : ℕ) (m : Model)
    (out : List ℕ) : Type 0 where
  pub bytes : List ℕ
  pub output : out ≡ laid 0 bytes d
  pub long : length bytes ≡ to
  pub readable : (read_rest ts at).refusal ≡ none
  pub room : to + 4 * length (read_rest ts at).events ≤ length d
  pub answers : bytes ++ answer_bytes (machine_seen c p m (calls_from ts at))
      ≡ answer_bytes (machine_seen c p m₀ (calls_from ts 0))
  pub last : machine_after c p m (calls_from ts at) ≡ machine_after c p m₀ (calls_from ts 0)

module _ {c : Config} {p : Plan} {ts d : List ℕ} {m₀ : Model} where
  pub playing_start : Playable ts (length d) → Playing c p ts d m₀ 0 0 m₀ d
  playing_start given =
      record {
        bytes = [];
        output = laid_none 0 d;
        long = refl;
        readable = given.readable;
        room = omega (arith, given.room);
        answers = refl;
        last = refl;
      }

  module _ {at to : ℕ} {m : Model} {out : List ℕ} (g : Playing c p ts d m₀ at to m out) where
    pub length_out : length out ≡ length d
    length_out = ap length g.output ∙ length_laid 0 g.bytes d (omega (arith, g.long, g.room))

    pub playing_end : length ts ≤ at
        → (m ≡ machine_after c p m₀ (calls_from ts 0))
        × (out ≡ laid 0 (answer_bytes (machine_seen c p m₀ (calls_from ts 0))) d)
    unfolding machine_after machine_seen answer_bytes
    playing_end h =
        let none_left : calls_from ts at ≡ [] = ap (λ (r : TraceRead). map call_of r.events) (rest_end ts at h) in (
          sym (ap (machine_after c p m) none_left) ∙ g.last,
          g.output ∙ ap (λ (l : List ℕ). laid 0 l d)
              (sym (append-nil g.bytes)
              ∙ ap (λ (l : List Plain.Event). g.bytes ++ answer_bytes (machine_seen c p m l)) (sym none_left)
              ∙ g.answers),
        )

    -- the event at the place
    module _ (inside : at < length ts) where
      pub playing_fine : (read_event ts at).refusal ≡ none
      playing_fine =
          by_eq (read_event ts at).refusal none
          (λ h. h)
          (λ n. absurd (n (sym (ap (λ (t : TraceRead). t.refusal) (rest_refused ts at inside n)) ∙ g.readable)))

      pub playing_room : to + 4 ≤ length out
      playing_room =
          omega (arith, g.room, length_out, ap (λ (t : TraceRead). length t.events) (rest_step ts at playing_fine))

      module _ {next : ℕ} {o : Outcome} (t : Arm c p ts m at next o) where
        more : read_rest ts at ≡ before t.event (read_rest ts next)
        more =
            rest_step ts at playing_fine
            ∙ ap (λ (x : EventRead). before x.event (read_rest ts x.place)) t.read

        calls : calls_from ts at ≡ call_of t.event ∷ calls_from ts next
        calls = ap (λ (t : TraceRead). map call_of t.events) more

        pub playing_later : at < next
        playing_later =
            omega (arith, (event_reading ts at).after playing_fine, ap (λ (x : EventRead). x.place) t.read)

        pub playing_step : (out' : List ℕ) → out' ≡ laid to (answer_of p o) out
            → Playing c p ts d m₀ next (to + 4) o.model out'
        unfolding machine_after machine_seen answer_bytes
        playing_step out' wrote =
            record {
              bytes = g.bytes ++ answer_of p o;
              output =
                  wrote ∙ ap (laid to (answer_of p o)) g.output
                  ∙ ap (λ (k : ℕ). laid k (answer_of p o) (laid 0 g.bytes d)) shift
                  ∙ laid_laid 0 g.bytes (answer_of p o) d (omega (arith, playing_room, length_out, g.long));
              long = length-append g.bytes (answer_of p o) ∙ ap (λ (n : ℕ). n + 4) g.long;
              readable = sym (ap (λ (t : TraceRead). t.refusal) more) ∙ g.readable;
              room = omega (arith, g.room, ap (λ (t : TraceRead). length t.events) more);
              answers =
                  append_assoc g.bytes (answer_of p o) _ ∙ ap (λ (l : List ℕ). g.bytes ++ l) (sym one)
                  ∙ g.answers;
              last =
                  ap (λ (x : Outcome). machine_after c p x.model (calls_from ts next)) t.stepped
                  ∙ sym (ap (machine_after c p m) calls) ∙ g.last;
            }
          where
            shift : to ≡ 0 + length g.bytes
            shift = omega (arith, g.long)

            one : answer_bytes (machine_seen c p m (calls_from ts at))
                ≡ answer_of p o ++ answer_bytes (machine_seen c p o.model (calls_from ts next))
            one =
                ap (λ (l : List Plain.Event). answer_bytes (machine_seen c p m l)) calls
                ∙ ap (λ (x : Outcome). answer_of p x ++ answer_bytes
                (machine_seen c p x.model (calls_from ts next))) (sym t.stepped)
