-- The run's code: what it reads and counts is the run's input, and what it lays is the run's output.
--
--   answered                       the answers and then the losses, laid one after the other, are the machine's answers
--   last_model_lem                 the model after the events is the machine's, from the fresh start of the configuration's plan
--   refused_high                   no refusal's number is one of events
--   ran_config_refused .. ran_all  the run's ways out, by what the code read
use Prim.Native.Nat.{ℕ, ◌+◌, ◌*◌, ◌≤◌, ◌<◌}
use mathlib.Core.Path.{◌≡◌, sym, ap, ap₂, ◌∙◌}
use mathlib.Core.List.{List, ◌++◌}
use native.Mathlib.Omega.{arith}
use lib.ListN.{length, length-append, length-map}
use Rattle.number.specs.declared.Refusal.{Refusal}
use Rattle.number.specs.Answer.{code}
use Rattle.number.specs.Refusal.{none, no_room}
use Rattle.number.specs.Output.{laid, written, packed}
use Rattle.number.proofs.Answers.{code_some}
use Rattle.number.proofs.Cases.{by_lt}
use Rattle.number.proofs.Laying.{laid_laid, laid_zero}
use Rattle.config.specs.declared.Config.{Config}
use Rattle.config.specs.Accepted.{Accepted, Shaped}
use Rattle.config.specs.Reader.{ConfigRead, read_config}
use Rattle.config.proofs.Theorems.{reading, accepted_ranges}
use Rattle.event.specs.Refusal.{trace_too_long}
use Rattle.event.specs.Trace.{max_trace, read_trace}
use Rattle.event.proofs.Theorems.{trace_reading}
use Rattle.plan.specs.declared.Plan.{Plan}
use Rattle.plan.specs.Rank.{rank_of}
use Rattle.plan.specs.Plan.{plan_of}
use Rattle.scheduler.specs.Scheduler.{Event}
use Rattle.machine.specs.Model.{Model}
use Rattle.machine.specs.Machine.{unstarted, fresh_model, losses_of, machine_seen, machine_after}
use Rattle.plan.proofs.Fitted.{Fitted, fitted}
use Rattle.run.specs.Run.{call_of, calls_of, played, read_run, answer_bytes, loss_bytes}
use Rattle.run.specs.Steps.{machine_answers}
use Rattle.run.proofs.Bounds.{config_place_lt}
use Rattle.run.proofs.Theorems.{places}
use Rattle.run.proofs.Answers.{events, length_events, length_losses}
use Rattle.run.proofs.Input.{config_refused, trace_too_long_lem, trace_refused, all_readable, Ran, ran_refused, ran_short, ran_whole}

module _ (c : Config) (p : Plan) (fit : Fitted c p (rank_of c)) (es : List Event) where
  -- the losses, laid after the answers
  both_laid : (n : ℕ) (d d₁ d₂ : List ℕ) (m : Model) → n ≡ length es → 4 * n + 2 * c.bodies ≤ length d
      → d₁ ≡ laid 0 (events c p fit es) d → m ≡ machine_after c p (fresh_model p) es
      → d₂ ≡ laid (4 * n) (loss_bytes (losses_of c p m)) d₁
      → d₂ ≡ written (machine_answers c p es) d
  unfolding machine_answers
  both_laid n d d₁ d₂ m count room first last then =
      then
      ∙ ap₂ (λ (k : ℕ) (l : List ℕ). laid k (loss_bytes (losses_of c p m)) l) place first
      ∙ laid_laid 0 (events c p fit es) (loss_bytes (losses_of c p m)) d (omega (
        arith,
        length_events c p fit es,
        length_losses c p fit m,
      ))
      ∙ sym (laid_zero (events c p fit es ++ loss_bytes (losses_of c p m)) d
      (simp length-append (omega (arith, length_events c p fit es, length_losses c p fit m))))
      ∙ ap (λ (x : Model). written (events c p fit es ++ loss_bytes (losses_of c p x)) d) last
    where
      place : 4 * n ≡ 0 + length (events c p fit es)
      place = omega (arith, length_events c p fit es)

module _ (c : Config) (ok : Accepted c) (shaped : Shaped c) (es : List Event) where
  -- p is the plan of c and m₀ its fresh model; m, d₁: the model and the output after the events; d₂: the output after
  -- the losses
  pub answered : (p : Plan) (m₀ : Model) (n : ℕ) (d d₁ d₂ : List ℕ) (m : Model) → p ≡ plan_of c → m₀ ≡ fresh_model p
      → n ≡ length es → 4 * n + 2 * c.bodies ≤ length d
      → d₁ ≡ laid 0 (answer_bytes (machine_seen c p m₀ es)) d → m ≡ machine_after c p m₀ es
      → d₂ ≡ laid (4 * n) (loss_bytes (losses_of c p m)) d₁ → d₂ ≡ written (machine_answers c (plan_of c) es) d
  answered p m₀ n d d₁ d₂ m planned begun count room first last then =
      both_laid c p (rw planned (fitted c ok shaped)) es n d d₁ d₂ m count room
      (first ∙ ap (λ (x : Model). laid 0 (answer_bytes (machine_seen c p x es)) d) begun)
      (last ∙ ap (λ (x : Model). machine_after c p x es) begun) then
      ∙ ap (λ (q : Plan). written (machine_answers c q es) d) planned

-- p is the plan of c, m₀ its fresh model, and m the model after the events
pub last_model_lem : (c : Config) (es : List Event) (p : Plan) (m₀ m : Model) → p ≡ plan_of c → m₀ ≡ fresh_model p
    → m ≡ machine_after c p m₀ es → m ≡ machine_after c (plan_of c) (fresh_model (plan_of c)) es
last_model_lem c es p m₀ m planned begun last =
    last ∙ ap (λ (x : Model). machine_after c p x es) begun
    ∙ ap (λ (q : Plan). machine_after c q (fresh_model q) es) planned

-- refusals are not 0, so their numbers are high
pub refused_high : (r : Refusal) (p : ℕ) → places ≤ packed (code r) p
refused_high r p = let some = code_some r in
    by_lt 0 (code r) (λ h. omega arith) (λ h. absurd (some (omega arith)))

-- the run's ways out, by what the code read: rc of the configuration
module _ (cs ts d : List ℕ) (rc : ConfigRead) (read : rc ≡ read_config cs) where
  pub config_place_small : rc.place < places
  config_place_small = rw read (config_place_lt cs)

  pub ran_config_refused : (x : ℕ) → (rc.refusal ≡ none → ⊥) → x ≡ packed rc.refusal rc.place → Ran cs ts d x d (unstarted 0)
  ran_config_refused x n same =
      ran_refused cs ts d (read_config cs).refusal (read_config cs).place x (config_refused cs ts (rw read at n))
      (same ∙ ap (λ (r : ConfigRead). packed r.refusal r.place) read)

  module _ (ok : rc.refusal ≡ none) where
    accepted : (read_config cs).refusal ≡ none
    accepted = rw read at ok

    pub ran_too_long : (x : ℕ) → max_trace < length ts → x ≡ packed trace_too_long 0 → Ran cs ts d x d (unstarted 0)
    ran_too_long x h same = ran_refused cs ts d trace_too_long 0 x (trace_too_long_lem cs ts accepted h) same

    pub config_accepted : Accepted rc.config
    config_accepted = rw read (accepted_ranges cs accepted)

    pub config_shaped : Shaped rc.config
    config_shaped = rw read (reading cs).shaped

    module _ (short : length ts ≤ max_trace) where
      pub trace_place_le : (read_trace ts).place ≤ max_trace
      trace_place_le = omega (arith, (trace_reading ts 0 (omega arith)).place_le)

      pub ran_trace_refused : (f q x : ℕ) → (f ≡ none → ⊥) → (f ≡ (read_trace ts).refusal) × (q ≡ (read_trace ts).place)
          → x ≡ packed f q → Ran cs ts d x d (unstarted 0)
      ran_trace_refused f q x n told same =
          ran_refused cs ts d (read_trace ts).refusal (read_trace ts).place x
          (trace_refused cs ts accepted short (rw told.0 at n))
          (same ∙ ap₂ packed told.0 told.1)

      -- n events, all readable
      module _ (n : ℕ) (told : ((read_trace ts).refusal ≡ none) × (n ≡ length (read_trace ts).events)) where
        pub few_events : n ≤ max_trace
        few_events = omega (arith, told.1, (trace_reading ts 0 (omega arith)).few)

        calls_counted : n ≡ length (calls_of ts)
        calls_counted = told.1 ∙ sym (length-map (read_trace ts).events call_of)

        reads : read_run cs ts ≡ played rc.config (calls_of ts)
        reads =
            all_readable cs ts accepted short told.0
            ∙ ap (λ (r : ConfigRead). played r.config (calls_of ts)) (sym read)

        pub ran_no_room : (need x : ℕ) → need ≡ 4 * n + 2 * rc.config.bodies → length d < need
            → x ≡ packed no_room need → Ran cs ts d x d (unstarted 0)
        ran_no_room need x long less same =
            ran_short cs ts d rc.config config_accepted config_shaped (calls_of ts) reads need x
            (omega (arith, calls_counted)) less same

        pub ran_all : (d₁ : List ℕ) (m : Model) → 4 * n + 2 * rc.config.bodies ≤ length d
            → d₁ ≡ written (machine_answers rc.config (plan_of rc.config) (calls_of ts)) d
            → m ≡ machine_after rc.config (plan_of rc.config) (fresh_model (plan_of rc.config)) (calls_of ts)
            → Ran cs ts d n d₁ m
        ran_all d₁ m room wrote last =
            ran_whole cs ts d rc.config config_accepted config_shaped (calls_of ts) reads n d₁ m
            (omega (arith, calls_counted)) calls_counted wrote last
