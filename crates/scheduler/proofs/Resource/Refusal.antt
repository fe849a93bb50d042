-- A declared user is refused a resource only where it holds it itself: `declared_refused`, at the end of the file.
--
-- In order: the runner's own priority is above the current priority of every other body that holds a resource
-- (`holder_below`), where no time-triggered task is started; so above that resource's ceiling, and no user's is.
use Prim.Native.Nat.{ℕ, ◌<◌}
use mathlib.Core.Path.{◌≡◌, refl, sym, ap, ◌∙◌}
use mathlib.Core.Bool.{Bool, true, false, true≢false, cond}
use mathlib.Core.List.{List, [], ◌∷◌}
use mathlib.Core.Logic.{◌≢◌}
use native.Mathlib.Omega.{arith}
use borrow.Author.Tests.{ltb-true, lt-leb}
use lib.Dec.{ltb}
use lib.ListN.{length, get_or-eq_default}
use Rattle.number.proofs.Cases.{by_test, by_lt, by_eq, and_true}
use Rattle.config.specs.declared.Config.{Config}
use Rattle.config.specs.Meaning.{is_user, priority_of, ceiling}
use Rattle.config.specs.Accepted.{Accepted, Shaped}
use Rattle.config.proofs.Theorems.{user_ceiling, timed_no_user}
use Rattle.scheduler.specs.Status.{first_given}
use Rattle.scheduler.specs.Body.{Body, competes, holds, current}
use Rattle.scheduler.specs.Choice.{Candidate, by_holding, chosen, is_nobody}
use Rattle.scheduler.specs.State.{State, no_body, body_of, runner, among, held_in}
use Rattle.scheduler.specs.Event.{Event, Get}
use Rattle.scheduler.specs.Call.{nobody_runs, caller, calling, no_caller}
use Rattle.scheduler.specs.Scheduler.{step, step_by, fresh, after}
use Rattle.scheduler.proofs.Body.{started_competes}
use Rattle.scheduler.proofs.Choice.Runner.{Taken, no_one, body, chosen_from_lem, chosen_someone, candidate_active, current_held, runner_timed, runner_untimed}
use Rattle.scheduler.proofs.Choice.Separation.{Kept, holder, holders, set_holds, outranks, reached_kept}
use Rattle.scheduler.proofs.Order.Invariant.{orderly_fresh, orderly_after}
use Rattle.scheduler.proofs.Members.{none_among, among_head}
use Rattle.scheduler.proofs.Resource.Users.{held_by}

-- who holds a resource holds something
among_holds : (r : ℕ) (rs : List ℕ) → among r rs ≡ true → holds rs ≡ true
unfolding among
among_holds r [] h = h
among_holds r (x ∷ xs) h = refl

module _ (c : Config) (ok : Accepted c) (shaped : Shaped c) (es : List Event) where
  abbrev now : State
  now = after c (fresh c) es

  kept : Kept c holder now.bodies
  kept = reached_kept c ok holders (set_holds c) shaped es

  -- who runs where no time-triggered task is started
  runs : now.order ≡ [] → nobody_runs c now ≡ false → (caller c now < c.bodies)
      × ((j : ℕ) → j < c.bodies → j ≢ caller c now → holds (body_of now j).held ≡ true
      → current c j (body_of now j) < priority_of c (caller c now))
  runs o some = go (chosen_from_lem by_holding refl c now.bodies)
    where
      go : Taken c now.bodies (chosen c now.bodies) → (caller c now < c.bodies)
          × ((j : ℕ) → j < c.bodies → j ≢ caller c now → holds (body_of now j).held ≡ true
          → current c j (body_of now j) < priority_of c (caller c now))
      go (no_one z) = absurd (true≢false (sym (ap is_nobody (runner_untimed c now o ∙ z)) ∙ some))
      go (body k h p z) =
          let is = runner_untimed c now o ∙ z ∙ candidate_active c k (body_of now k) (body_of now k).phase p in
          let at : caller c now ≡ k = ap (λ (x : Candidate). x.number) is in
          let k< : k < c.bodies = rw kept.size at h in
          rw at (k<, outranks c ok holders kept k k< p z)

  -- who holds a resource is one of the bodies, and may run
  holder_there : (i r : ℕ) → among r (body_of now i).held ≡ true
      → (i < c.bodies) × (competes (body_of now i).phase ≡ true)
  holder_there i r h = (
    by_lt i (length now.bodies)
        (λ l. rw kept.size at l)
        (λ l. none_among r
        (sym (ap (λ (b : Body). among r b.held) (get_or-eq_default now.bodies no_body l)) ∙ h)),
    started_competes (body_of now i).phase (kept.steady i (among_holds r (body_of now i).held h)),
  )

  pub holder_below : now.order ≡ [] → (i r : ℕ) → i ≢ caller c now → among r (body_of now i).held ≡ true
      → current c i (body_of now i) < priority_of c (caller c now)
  holder_below o i r d h = (runs o some).1 i there.0 d (among_holds r (body_of now i).held h)
    where
      there : (i < c.bodies) × (competes (body_of now i).phase ≡ true)
      there = holder_there i r h

      some : nobody_runs c now ≡ false
      some =
          ap is_nobody (runner_untimed c now o)
          ∙ chosen_someone by_holding refl c now.bodies i there.1 (ok.priority_low i there.0)

  pub ceiling_below : now.order ≡ [] → (i r : ℕ) → i ≢ caller c now → among r (body_of now i).held ≡ true
      → ceiling c r < priority_of c (caller c now)
  ceiling_below o i r d h = omega (arith, holder_below o i r d h, current_held c i (body_of now i) r h)

  -- no time-triggered task is a declared user
  user_untimed : (r : ℕ) → is_user c r (caller c now) ≡ true → now.order ≡ []
  user_untimed r user = go now.order refl
    where
      go : (js : List ℕ) → now.order ≡ js → js ≡ []
      go [] o = refl
      go (j ∷ js) o =
          let at : caller c now ≡ j = ap (λ (x : Candidate). x.number) (runner_timed c now j js o) in
          let order = orderly_after c ok shaped es (orderly_fresh c ok shaped) in
          let timed = order.started_timed j (rw o (among_head j js)) in
          absurd (true≢false (sym user ∙ ap (is_user c r) at ∙ timed_no_user c ok r j timed))

  pub declared_refused : (r : ℕ) → nobody_runs c now ≡ false → is_user c r (caller c now) ≡ true
      → (step c now (Get r)).seen.status ≢ 0
      → ((step c now (Get r)).seen.status ≡ 1) × (among r (calling c now).held ≡ true)
  unfolding step_by first_given
  declared_refused r some user refused =
      by_test (held_in r now.bodies)
      (λ h. (checked true h, own h))
      (λ h. absurd (refused (checked false h)))
    where
      none : now.order ≡ []
      none = user_untimed r user

      free : no_caller (runner c now) ≡ false
      free = go (chosen_from_lem by_holding refl c now.bodies)
        where
          go : Taken c now.bodies (chosen c now.bodies) → no_caller (runner c now) ≡ false
          go (no_one z) = absurd (true≢false (sym (ap is_nobody (runner_untimed c now none ∙ z)) ∙ some))
          go (body k h p z) =
              let is = runner_untimed c now none ∙ z ∙ candidate_active c k (body_of now k) (body_of now k).phase p in
              rw (some, ap (λ (x : Candidate). x.timed) is)

      there : r < c.resources
      there = ltb-true r c.resources (and_true (ltb r c.resources) _ user).0

      checked : (b : Bool) → held_in r now.bodies ≡ b → (step c now (Get r)).seen.status ≡ cond b 1 0
      checked b h = rw (free, lt-leb c.resources r there, user, h)

      own : held_in r now.bodies ≡ true → among r (calling c now).held ≡ true
      own h =
          let x = held_by r now.bodies h in
          by_eq x.0 (caller c now)
          (λ same. rw same at x.2)
          (λ d. absurd (omega (
            arith,
            ceiling_below none x.0 r d x.2,
            user_ceiling c ok shaped r (caller c now) (runs none some).0 user,
          )))
