-- Isolation of the machine's models over lists of events: `isolation_models`, and `same_after`, what is the
-- same after it.
use Prim.Native.Nat.{ℕ, ◌≤◌}
use mathlib.Core.Path.{◌≡◌, refl, sym, ap, ap₂, subst, ◌∙◌}
use mathlib.Core.Bool.{Bool}
use mathlib.Core.List.{List, [], ◌∷◌}
use native.Mathlib.Omega.{arith}
use borrow.Author.Tests.{leb-true}
use lib.Dec.{leb}
use lib.ListN.{length}
use Rattle.number.proofs.Cases.{by_test}
use Rattle.config.specs.declared.Config.{Config}
use Rattle.config.specs.Accepted as Configuration
use Rattle.plan.specs.Plan.{plan_of}
use Rattle.scheduler.specs.Event.{Event}
use Rattle.scheduler.specs.Scheduler.{Seen, mark_of}
use Rattle.machine.specs.Model.{Model, Outcome}
use Rattle.machine.specs.Machine.{machine_step, runner_of, observed, machine_seen, machine_after}
use Rattle.isolation.specs.Above.{NamesAbove, AllNameAbove, Answer, answer, answers_above}
use Rattle.isolation.specs.Models.{SameModel}
use Rattle.isolation.proofs.Models.Dispatch.{SameOutcome, Follows}
use Rattle.isolation.proofs.Models.Event.{event_same}

module _ (c : Config) (ok : Configuration.Accepted c) (shaped : Configuration.Shaped c) (L : ℕ) where
  abbrev next : Model → Event → Outcome
  next m e = machine_step c (plan_of c) m e

  abbrev shown : Model → Event → Seen
  shown m e = observed c (plan_of c) m e (next m e)

  step_same : {m m' : Model} → SameModel c L m m' → (e : Event) → NamesAbove c L e → L ≤ m.core.level
      → Follows c L (next m e) (next m' e)
  step_same {m} {m'} same e u high =
      subst (λ (x : Model). Follows c L (next m e) (next x e)) (sym same.rest)
      (event_same c ok shaped L m m'.core.request m'.losses same.requests same.losses e u high)

  -- models that are the same are at one level, and the same body runs
  answer_same : (m m' : Model) (e : Event) → SameOutcome c L (next m e) (next m' e)
      → answer (shown m e) ≡ answer (shown m' e)
  answer_same m m' e same =
      ap₂ (λ (st : ℕ) (b : Bool). record {
        status = st;
        runner = runner_of (plan_of c) (next m e).model;
        level = (next m e).model.core.level;
        begun = mark_of b;
      }) same.status same.begun
      ∙ ap (λ (x : Model). record {
        status = (next m' e).status;
        runner = runner_of (plan_of c) x;
        level = x.core.level;
        begun = mark_of (next m' e).begun;
      }) (sym same.model.rest)

  pub isolation_models : (es : List Event) {m m' : Model} → SameModel c L m m' → L ≤ m.core.level
      → AllNameAbove c L es
      → answers_above L (machine_seen c (plan_of c) m es) (machine_seen c (plan_of c) m' es)
      ≡ answers_above L (machine_seen c (plan_of c) m' es) (machine_seen c (plan_of c) m es)
  unfolding machine_seen answers_above
  isolation_models [] same high u = refl
  isolation_models (e ∷ es) {m} {m'} same high u =
      by_test (leb L (shown m e).level)
      (λ h. by_test (leb L (shown m' e).level)
      (λ h'.
      let up = leb-true L (next m e).model.core.level h in
      let now = step_same same e u.0 high up (leb-true L (next m' e).model.core.level h') in
      rw (h, h')
      (ap₂ (λ (x : Answer) (xs : List Answer). x ∷ xs) (answer_same m m' e now)
      (isolation_models es now.model up u.1)))
      (λ h'. rw (h, h')))
      (λ h. by_test (leb L (shown m' e).level) (λ h'. rw (h, h')) (λ h'. rw (h, h')))

  -- where no level falls below L, the models stay the same above it
  pub same_after : (es : List Event) {m m' : Model} → SameModel c L m m' → L ≤ m.core.level → AllNameAbove c L es
      → length (answers_above L (machine_seen c (plan_of c) m es) (machine_seen c (plan_of c) m' es)) ≡ length es
      → SameModel c L (machine_after c (plan_of c) m es) (machine_after c (plan_of c) m' es)
  unfolding machine_seen machine_after answers_above
  same_after [] same high u all = same
  same_after (e ∷ es) {m} {m'} same high u all =
      by_test (leb L (shown m e).level)
      (λ h. by_test (leb L (shown m' e).level)
      (λ h'.
      let up = leb-true L (next m e).model.core.level h in
      let now = step_same same e u.0 high up (leb-true L (next m' e).model.core.level h') in
      same_after es now.model up u.1 (omega (arith, rw (h, h') at all)))
      (λ h'. absurd (omega (arith, rw (h, h') at all))))
      (λ h. absurd (omega (arith, rw h at all)))
