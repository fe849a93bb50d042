-- The dispatch makes the body that it chooses begin, by a request that waits, and no other:
-- `dispatched_begins`.
use Prim.Native.Nat.{ℕ, ◌<◌}
use mathlib.Core.Path.{◌≡◌, refl, sym, ap, ◌∙◌}
use mathlib.Core.Bool.{Bool, true, false, true≢false, cond, ◌&&◌}
use mathlib.Core.List.{List, [], ◌∷◌}
use borrow.Author.Tests.{eq-eqb, ne_eqb}
use lib.Dec.{eqb}
use lib.ListN.{length}
use Rattle.number.proofs.Cases.{by_test, by_eq}
use Rattle.config.specs.declared.Config.{Config}
use Rattle.config.specs.Accepted as Configuration
use Rattle.scheduler.specs.Status.{done, first_given}
use Rattle.scheduler.specs.Body.{Phase, suspended, ready, started, waiting, triggered, is_suspended, is_started, has_begun, competes, become}
use Rattle.scheduler.specs.Choice.{Candidate, is_nobody, by_holding, chosen}
use Rattle.scheduler.specs.State.{State, body_of, runner, among}
use Rattle.scheduler.specs.Event.{Event}
use Rattle.scheduler.specs.Tick.{ticked}
use Rattle.scheduler.specs.Call.{status_of}
use Rattle.scheduler.specs.Scheduler.{begins, phase_begun, mark_of, dispatched, leaves, step_by}
use Rattle.scheduler.proofs.Choice.Runner.{Taken, no_one, body, chosen_from_lem, candidate_active, runner_timed, runner_untimed}
use Rattle.scheduler.proofs.Event.Effects.{body_of_changing_same, body_of_changing_other, by_tick, no_tick}
use Rattle.scheduler.proofs.Choice.Dispatch.{begins_some}
use Rattle.scheduler.proofs.Kind.{timed_body}
use Rattle.scheduler.proofs.Members.{among_head}
use Rattle.scheduler.proofs.Order.Invariant.{Orderly, TickOrder, order_same, starts, tick_order, effect_orderly, refusal_orderly}
use Rattle.isolation.proofs.Conservation.Body.{Second, Begun, unbegun, begins_once}

-- the latest time-triggered task that is started is a body, and not suspended
abbrev pub Headed : State → Type 0
Headed x =
    (j : ℕ) (js : List ℕ) → x.order ≡ j ∷ js → (j < length x.bodies) × (is_suspended (body_of x j).phase ≡ false)

-- who is to begin is a body that has not begun, and not suspended
pub record Beginning (c : Config) (x : State) : Type 0 where
  pub there : (runner c x).number < length x.bodies
  pub unbegun : has_begun (body_of x (runner c x).number).phase ≡ false
  pub active : is_suspended (body_of x (runner c x).number).phase ≡ false

module _ (c : Config) (x : State) (headed : Headed x) where
  beginning_at : (n : ℕ) → (runner c x).number ≡ n → n < length x.bodies → has_begun (body_of x n).phase ≡ false
      → is_suspended (body_of x n).phase ≡ false
      → Beginning c x
  beginning_at n e there unbegun active =
      record { there = rw e there; unbegun = rw e unbegun; active = rw e active }

  pub beginning : begins (runner c x) ≡ true → Beginning c x
  beginning b = by_order x.order refl
    where
      is_ready : (p : Phase) → competes p ≡ true → is_started p ≡ false
          → (has_begun p ≡ false) × (is_suspended p ≡ false)
      is_ready suspended h e = absurd (true≢false (sym h))
      is_ready ready h e = (refl, refl)
      is_ready started h e = absurd (true≢false e)
      is_ready (waiting w) h e = absurd (true≢false (sym h))
      is_ready (triggered y) h e = absurd (true≢false (sym h))

      go : x.order ≡ [] → Taken c x.bodies (chosen c x.bodies) → Beginning c x
      go o (no_one z) =
          absurd (true≢false (sym (ap is_nobody (runner_untimed c x o ∙ z)) ∙ (begins_some (runner c x) b).0))
      go o (body k h p z) =
          let is = runner_untimed c x o ∙ z ∙ candidate_active c k (body_of x k) (body_of x k).phase p in
          let r =
          is_ready (body_of x k).phase p
          (sym (ap (λ (y : Candidate). y.began) is) ∙ (begins_some (runner c x) b).1) in
          beginning_at k (ap (λ (y : Candidate). y.number) is) h r.0 r.1

      by_order : (js : List ℕ) → x.order ≡ js → Beginning c x
      by_order [] o = go o (chosen_from_lem by_holding refl c x.bodies)
      by_order (j ∷ js) o =
          let is = runner_timed c x j js o in
          let h = headed j js o in
          beginning_at j (ap (λ (y : Candidate). y.number) is) h.0
          (sym (ap (λ (y : Candidate). y.began) is) ∙ (begins_some (runner c x) b).1)
          h.1

  phase_begun_lem : (t : Bool) → has_begun (cond t (triggered true) started) ≡ true
  phase_begun_lem true = refl
  phase_begun_lem false = refl

  pub dispatched_begins : ((i : ℕ) → Second c i (body_of x i)) → (b : ℕ)
      → Begun c b (body_of x b) (body_of (dispatched c x) b)
      (mark_of (begins (runner c x) && eqb (runner c x).number b))
  dispatched_begins second b =
      by_test (begins (runner c x))
      (λ h. rw h
      (by_eq (runner c x).number b
      (λ e. let a = beginning h in
      rw (
        eq-eqb (runner c x).number b e,
        e,
        body_of_changing_same b (become (phase_begun (runner c x))) x (rw e at a.there),
      )
      (begins_once c b (phase_begun (runner c x)) (body_of x b) (phase_begun_lem (runner c x).timed) (rw e at a.unbegun)
      (rw e at a.active) (second b)))
      (λ d. rw (
        ne_eqb (runner c x).number b d,
        body_of_changing_other (runner c x).number (become (phase_begun (runner c x))) x b (λ f. d (sym f)),
      )
      (unbegun c b (body_of x b) (second b)))))
      (λ h. rw h (unbegun c b (body_of x b) (second b)))

pub orderly_headed : (c : Config) {x : State} → Orderly c x → Headed x
orderly_headed c {x} o j js e =
    let m : among j x.order ≡ true = rw e (among_head j js) in
    (rw o.bodies_there (timed_body c j (o.started_timed j m)), ap is_suspended (o.started_begun j m))

-- what an event leaves before its dispatch
pub leaves_headed : (c : Config) → Configuration.Accepted c → Configuration.Shaped c → {s : State} → Orderly c s
    → (e : Event)
    → Headed (leaves c s e)
unfolding step_by first_given
leaves_headed c ok shaped {s} o e =
    by_eq (status_of c s e) done
    (λ z. rw (eq-eqb (status_of c s e) done z)
    (by_tick e
    (λ q. rw q (ticks (tick_order c ok shaped o)))
    (λ n. orderly_headed c (effect_orderly c o e (no_tick e n) z))))
    (λ n. rw (ne_eqb (status_of c s e) done n) (orderly_headed c (refusal_orderly c o (status_of c s e) e)))
  where
    ticks : TickOrder c s → Headed (ticked c s)
    ticks (order_same q y) = orderly_headed c y
    ticks (starts j y) =
        λ i is e.
        let same : j ≡ i = cc y.order_is in (
          rw y.placed.bodies_there (rw same at y.in_range),
          rw same at (ap is_suspended y.to_begin),
        )
