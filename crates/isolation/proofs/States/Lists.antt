-- Isolation of the plain scheduler's states: one event, and over lists of events `isolation_states`.
use Prim.Native.Nat.{ℕ, ◌≤◌}
use mathlib.Core.Path.{◌≡◌, refl, sym, ap, ap₂, subst, ◌∙◌}
use mathlib.Core.Bool.{true, false, true≢false}
use mathlib.Core.List.{List, [], ◌∷◌}
use borrow.Author.Tests.{leb-true}
use lib.Dec.{leb}
use Rattle.number.proofs.Cases.{by_test, neither}
use Rattle.config.specs.declared.Config.{Config}
use Rattle.config.specs.Accepted as Configuration
use Rattle.scheduler.specs.Body.{is_suspended, has_begun}
use Rattle.scheduler.specs.Choice.{Candidate, is_nobody, by_holding, chosen}
use Rattle.scheduler.specs.State.{State, body_of, runner}
use Rattle.scheduler.specs.Event.{Event}
use Rattle.scheduler.specs.Call.{no_caller}
use Rattle.scheduler.specs.Scheduler.{begins, mark_of, dispatched_to, status_for, leaves_for, leaves, step, step_by, seen, seen_by}
use Rattle.scheduler.proofs.Body.{competes_active}
use Rattle.scheduler.proofs.Choice.Runner.{Taken, no_one, body, chosen_from_lem, candidate_active, runner_timed, runner_untimed}
use Rattle.scheduler.proofs.Members.{among_head}
use Rattle.scheduler.proofs.Choice.Dispatch.{begins_some}
use Rattle.scheduler.proofs.Choice.Dispatch as Dispatch
use Rattle.isolation.specs.Above.{NamesAbove, AllNameAbove, Answer, answer, answers_above}
use Rattle.isolation.specs.States.{SameState, Sound}
use Rattle.isolation.proofs.Conservation.Event.{caller_begun}
use Rattle.isolation.proofs.States.Invariant.{Timed, kept_of, kept_leaves, timed_leaves, sound_step}
use Rattle.isolation.proofs.States.Choice.{runner_same}
use Rattle.isolation.proofs.States.Change.{status_same, leaves_same, Begins, alike, active, dispatched_same}

-- who is chosen by priority is not suspended
chosen_active : (c : Config) (x : State) → x.order ≡ [] → is_nobody (runner c x) ≡ false
    → is_suspended (body_of x (runner c x).number).phase ≡ false
chosen_active c x o some = go (chosen_from_lem by_holding refl c x.bodies)
  where
    go : Taken c x.bodies (chosen c x.bodies) → is_suspended (body_of x (runner c x).number).phase ≡ false
    go (no_one z) = absurd (true≢false (sym (ap is_nobody (runner_untimed c x o ∙ z)) ∙ some))
    go (body k h p z) =
        let is = runner_untimed c x o ∙ z ∙ candidate_active c k (body_of x k) (body_of x k).phase p in
        ap (λ (n : ℕ). is_suspended (body_of x n).phase) (ap (λ (y : Candidate). y.number) is)
        ∙ competes_active (body_of x k).phase p

module _ (c : Config) (ok : Configuration.Accepted c) (L : ℕ) where
  -- a body that is to begin is above L, being time-triggered, or in neither state suspended
  begins_same : {x x' : State} → SameState c L x x' → Timed c x → runner c x ≡ runner c x' → begins (runner c x) ≡ true
      → Begins c L x x' (runner c x)
  begins_same {x} {x'} same timed e b = go x.order refl
    where
      some : is_nobody (runner c x) ≡ false
      some = (begins_some (runner c x) b).0

      go : (js : List ℕ) → x.order ≡ js → Begins c L x x' (runner c x)
      go [] o =
          active (chosen_active c x o some)
          (rw (sym e) at (chosen_active c x' (sym same.order ∙ o) (rw (sym e) some)))
      go (j ∷ js) o =
          let n : (runner c x).number ≡ j = ap (λ (y : Candidate). y.number) (runner_timed c x j js o) in
          alike (rw n (same.high j (rw (timed j (rw o (among_head j js))))))

  -- one event, where both levels are at least L before it
  module _ {s s' : State} (sound : Sound c s) (sound' : Sound c s') (same : SameState c L s s')
      (high : L ≤ (runner c s).level) (high' : L ≤ (runner c s').level) (e : Event) (u : NamesAbove c L e) where
    runs_same : runner c s ≡ runner c s'
    runs_same = runner_same c ok L same (kept_of c sound) (kept_of c sound') sound.order_timed high high'

    begun : no_caller (runner c s) ≡ false → has_begun (body_of s (runner c s).number).phase ≡ true
    begun h =
        caller_begun c s sound.nobody_left_to_begin (neither (is_nobody (runner c s)) (runner c s).timed h).0

    left_same : SameState c L (leaves c s e) (leaves c s' e)
    left_same =
        subst (λ (k : Candidate). SameState c L (leaves c s e) (leaves_for c k s' e)) runs_same
        (leaves_same c L same sound.size (runner c s) begun e u)

    status_is : status_for c (runner c s) s e ≡ status_for c (runner c s') s' e
    status_is =
        status_same c L same sound.size (runner c s) begun e u
        ∙ ap (λ (k : Candidate). status_for c k s' e) runs_same

    -- and after it
    module _ (then : L ≤ (runner c (leaves c s e)).level) (then' : L ≤ (runner c (leaves c s' e)).level) where
      next_same : runner c (leaves c s e) ≡ runner c (leaves c s' e)
      next_same =
          runner_same c ok L left_same (kept_leaves c ok sound e) (kept_leaves c ok sound' e)
          (timed_leaves c s e sound.order_timed) then then'

      answer_same : answer (step c s e).seen ≡ answer (step c s' e).seen
      unfolding step_by
      answer_same =
          ap₂ (λ (st : ℕ) (k : Candidate). record {
            status = st;
            runner = k.number;
            level = k.level;
            begun = mark_of (begins k);
          }) status_is next_same

      state_same : SameState c L (step c s e).state (step c s' e).state
      unfolding step_by
      state_same =
          subst
          (λ (k : Candidate). SameState c L (dispatched_to (runner c (leaves c s e)) (leaves c s e))
          (dispatched_to k (leaves c s' e)))
          next_same
          (dispatched_same c L (runner c (leaves c s e)) left_same
          (begins_same left_same (timed_leaves c s e sound.order_timed) next_same))

  -- the level that is seen is that of the runner of the state after it
  level_seen : (s : State) (e : Event) → (step c s e).seen.level ≡ (runner c (step c s e).state).level
  unfolding step_by
  level_seen s e = sym (Dispatch.runner_same c (leaves c s e)).1

  level_left : (s : State) (e : Event) → (step c s e).seen.level ≡ (runner c (leaves c s e)).level
  unfolding step_by
  level_left s e = refl

  pub isolation_states : (es : List Event) {s s' : State} → Sound c s → Sound c s' → SameState c L s s'
      → L ≤ (runner c s).level
      → L ≤ (runner c s').level
      → AllNameAbove c L es
      → answers_above L (seen c s es) (seen c s' es) ≡ answers_above L (seen c s' es) (seen c s es)
  unfolding seen_by answers_above
  isolation_states [] sound sound' same high high' u = refl
  isolation_states (e ∷ es) {s} {s'} sound sound' same high high' u =
      by_test (leb L (step c s e).seen.level)
      (λ h. by_test (leb L (step c s' e).seen.level)
      (λ h'.
      let then = leb-true L (step c s e).seen.level h in
      let then' = leb-true L (step c s' e).seen.level h' in
      let now : L ≤ (runner c (leaves c s e)).level = rw (level_left s e) at then in
      let now' : L ≤ (runner c (leaves c s' e)).level = rw (level_left s' e) at then' in
      rw (h, h')
      (ap₂ (λ (x : Answer) (xs : List Answer). x ∷ xs)
      (answer_same sound sound' same high high' e u.0 now now')
      (isolation_states es (sound_step c ok sound e) (sound_step c ok sound' e)
      (state_same sound sound' same high high' e u.0 now now')
      (rw (level_seen s e) at then) (rw (level_seen s' e) at then') u.1)))
      (λ h'. rw (h, h')))
      (λ h. by_test (leb L (step c s' e).seen.level) (λ h'. rw (h, h')) (λ h'. rw (h, h')))
