-- Every started time-triggered task is one of the configuration's bodies: `named_after`, at the end of the file.
--
-- Only a due entry adds to the order, and only the number of a time-triggered task.
use Prim.Native.Nat.{ℕ, ◌<◌}
use mathlib.Core.Path.{◌≡◌}
use mathlib.Core.Bool.{true}
use mathlib.Core.List.{List, [], ◌∷◌}
use borrow.Author.Tests.{ne_eqb}
use lib.Dec.{eqb}
use Rattle.number.proofs.Cases.{by_test, by_eq, cond_either}
use Rattle.config.specs.declared.Config.{Config}
use Rattle.config.specs.Meaning.{is_timed}
use Rattle.scheduler.specs.Status.{done}
use Rattle.scheduler.specs.Body.{is_suspended, loses}
use Rattle.scheduler.specs.State.{State, body_of, changing, runner, among}
use Rattle.scheduler.specs.Event.{Event, Activate, Finish, Chain, Get, Release, Tick, Line, Start, Stop, Wait, Set, Clear}
use Rattle.scheduler.specs.Tick.{counted, dues, starting, enter}
use Rattle.scheduler.specs.Call.{caller, finish, finish_timed, status_of, effect_of, else_of}
use Rattle.scheduler.specs.Scheduler.{dispatched, unstarted, leaves, step, step_by, fresh, after, after_by}
use Rattle.scheduler.proofs.Kind.{timed_body}
use Rattle.scheduler.proofs.Members.{none_among, among_rest}
use Rattle.scheduler.proofs.Event.Effects.{enters_keep, dispatched_keeps, else_of_keeps}

module _ (c : Config) where
  abbrev pub Named : State → Type 0
  Named s = (j : ℕ) → among j s.order ≡ true → j < c.bodies

  named_starting : (t : ℕ) (s : State) → is_timed c t ≡ true → Named s → Named (starting t s)
  unfolding among
  named_starting t s h n j a =
      by_eq j t
      (λ same. rw same (timed_body c t h))
      (λ other. n j (rw (ne_eqb j t other) at a))

  named_enter : (t : ℕ) (s : State) → Named s → Named (enter c t s)
  named_enter t s n =
      by_test (is_timed c t)
      (λ h. rw h
      (cond_either Named (is_suspended (body_of s t).phase) (starting t s) (changing t loses s)
      (named_starting t s h n) n))
      (λ h. rw h n)

  named_effect : (s : State) (e : Event) → Named s → Named (effect_of c s e)
  named_effect s (Activate t) n = n
  named_effect s Finish n =
      cond_either Named (runner c s).timed (finish_timed (caller c s) s) (finish (caller c s) s)
      (λ j h. n j (among_rest j s.order h))
      n
  named_effect s (Chain t) n = n
  named_effect s (Get r) n = n
  named_effect s (Release r) n = n
  named_effect s Tick n = enters_keep c Named named_enter (dues c (counted s)) c.task (counted s) n
  named_effect s (Line i) n = n
  named_effect s (Start t d) n = n
  named_effect s (Stop t) n = n
  named_effect s (Wait w) n = n
  named_effect s (Set t w) n = n
  named_effect s (Clear w) n = n

  named_leaves : (s : State) (e : Event) → Named s → Named (leaves c s e)
  named_leaves s e n =
      cond_either Named (eqb (status_of c s e) done) (effect_of c s e) (else_of c s (status_of c s e) e)
      (named_effect s e n)
      (else_of_keeps c s Named n (status_of c s e) e (λ i _ _ _. n))

  named_dispatched : (s : State) → Named s → Named (dispatched c s)
  named_dispatched s n = dispatched_keeps Named (λ i f x h. h) c s n

  named_step : (s : State) (e : Event) → Named s → Named (step c s e).state
  unfolding step_by
  named_step s e n = named_dispatched (leaves c s e) (named_leaves s e n)

  pub named_fresh : Named (fresh c)
  named_fresh = named_dispatched (unstarted c) (λ j h. none_among j h)

  pub named_after : (es : List Event) (s : State) → Named s → Named (after c s es)
  unfolding after_by
  named_after [] s n = n
  named_after (e ∷ es) s n = named_after es (step c s e).state (named_step s e n)
