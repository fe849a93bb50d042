-- What a state in order (crate scheduler, `Orderly`) says of its bodies, in the words of the relation.
--
--   untriggered  no other body is triggered
--   kinds_of     who bids for the processor by priority is no time-triggered task
use Prim.Native.Nat.{ℕ, ◌<◌}
use mathlib.Core.Path.{◌≡◌, refl, sym, ap, ◌∙◌}
use mathlib.Core.Logic.{◌≢◌}
use mathlib.Core.Bool.{Bool, true, false, true≢false}
use mathlib.Core.List.{List, [], ◌∷◌}
use Rattle.number.proofs.Cases.{by_test, refuted}
use Rattle.config.specs.declared.Config.{Config}
use Rattle.config.specs.Meaning.{is_timed}
use Rattle.scheduler.specs.Body.{Phase, suspended, ready, started, waiting, triggered, has_begun, competes}
use Rattle.scheduler.specs.State.{State, among}
use Rattle.scheduler.proofs.Kind.{timed_body}
use Rattle.scheduler.proofs.Order.Invariant.{Orderly}
use Rattle.scheduler.proofs.Members.{among_head}
use Rattle.machine.proofs.Relation.Words.{at}
use Rattle.machine.proofs.Relation.Kinds.{is_bidding, Kinds}

module _ {c : Config} {s : State} (o : Orderly c s) where
  -- the latest time-triggered task that is started
  module _ (j : ℕ) (js : List ℕ) (e : s.order ≡ j ∷ js) where
    first : among j s.order ≡ true
    first = rw e (among_head j js)

    pub latest_timed : is_timed c j ≡ true
    latest_timed = o.started_timed j first

    pub latest_exists : j < c.bodies
    latest_exists = timed_body c j latest_timed

    pub latest_begun : (at s.bodies j).phase ≡ triggered true
    latest_begun = o.started_begun j first

    pub latest_free : (at s.bodies j).held ≡ []
    latest_free = o.timed_free j latest_timed

  -- who is not time-triggered is not triggered
  pub untriggered : (i : ℕ) → is_timed c i ≡ false → (x : Bool) → (at s.bodies i).phase ≢ triggered x
  untriggered i plain x e = true≢false (sym (o.started_timed i (o.triggered_started i x e)) ∙ plain)

  -- who may run by priority is not time-triggered
  pub plain_competes : (i : ℕ) → competes (at s.bodies i).phase ≡ true → is_timed c i ≡ false
  plain_competes i h = refuted (is_timed c i) (λ t. true≢false (sym h ∙ asleep t))
    where
      asleep : is_timed c i ≡ true → competes (at s.bodies i).phase ≡ false
      asleep t =
          by_test (among i s.order)
          (λ e. ap competes (o.started_begun i e))
          (λ e. ap competes (o.timed_suspended i t e))

  pub kinds_of : Kinds c s.bodies
  kinds_of = record { entered = λ b _ h. go b (at s.bodies b).phase refl h; untimed = λ b _ h. plain_competes b h }
    where
      go : (b : ℕ) (q : Phase) → (at s.bodies b).phase ≡ q → is_bidding q ≡ true → competes q ≡ true
      go b suspended e h = h
      go b ready e h = h
      go b started e h = h
      go b (waiting w) e h = h
      go b (triggered true) e h = h
      go b (triggered false) e h =
          let begun = o.started_begun b (o.triggered_started b false e) in
          absurd (true≢false (ap has_begun (sym begun ∙ e)))
