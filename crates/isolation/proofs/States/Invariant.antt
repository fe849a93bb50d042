-- The invariant holds at the fresh start and every event keeps it: `sound_fresh`, `sound_step`, `sound_after`.
--
-- In order: who is in the order is time-triggered; the invariant as the scheduler's laws have it.
use Prim.Native.Nat.{ℕ}
use mathlib.Core.Path.{◌≡◌, sym, ◌∙◌}
use mathlib.Core.Bool.{true, true≢false}
use mathlib.Core.List.{List, [], ◌∷◌}
use borrow.Author.Tests.{ne_eqb}
use lib.Dec.{eqb}
use Rattle.number.proofs.Cases.{by_test, by_eq, cond_either}
use Rattle.config.specs.declared.Config.{Config}
use Rattle.config.specs.Meaning.{is_timed}
use Rattle.config.specs.Accepted as Configuration
use Rattle.scheduler.specs.Status.{done}
use Rattle.scheduler.specs.Body.{is_suspended, loses}
use Rattle.scheduler.specs.State.{State, body_of, changing, runner, among}
use Rattle.scheduler.specs.Event.{Event, Activate, Finish, Chain, Get, Release, Tick, Line, Start, Stop, Wait, Set, Clear}
use Rattle.scheduler.specs.Tick.{counted, dues, starting, enter}
use Rattle.scheduler.specs.Call.{caller, finish, finish_timed, status_of, effect_of, else_of}
use Rattle.scheduler.specs.Scheduler.{dispatched, unstarted, leaves, step, step_by, fresh, after, after_by}
use Rattle.scheduler.proofs.Members.{none_among, among_rest}
use Rattle.scheduler.proofs.Event.Effects.{enters_keep, dispatched_keeps, else_of_keeps}
use Rattle.scheduler.proofs.Choice.Dispatch.{Underway, underway_named, underway_step, underway_fresh}
use Rattle.scheduler.proofs.Kind.{timed_body}
use Rattle.scheduler.proofs.Choice.Separation.{Kept, holder, holders, set_holds, step_kept, leaves_kept, fresh_kept}
use Rattle.isolation.specs.States.{Sound}

module _ (c : Config) where
  abbrev pub Timed : State → Type 0
  Timed s = (j : ℕ) → among j s.order ≡ true → is_timed c j ≡ true

  timed_starting : (t : ℕ) (s : State) → is_timed c t ≡ true → Timed s → Timed (starting t s)
  unfolding among
  timed_starting t s h n j a =
      by_eq j t
      (λ same. rw same h)
      (λ other. n j (rw (ne_eqb j t other) at a))

  timed_enter : (t : ℕ) (s : State) → Timed s → Timed (enter c t s)
  timed_enter t s n =
      by_test (is_timed c t)
      (λ h. rw h
      (cond_either Timed (is_suspended (body_of s t).phase) (starting t s) (changing t loses s)
      (timed_starting t s h n) n))
      (λ h. rw h n)

  timed_effect : (s : State) (e : Event) → Timed s → Timed (effect_of c s e)
  timed_effect s (Activate t) n = n
  timed_effect s Finish n =
      cond_either Timed (runner c s).timed (finish_timed (caller c s) s) (finish (caller c s) s)
      (λ j h. n j (among_rest j s.order h))
      n
  timed_effect s (Chain t) n = n
  timed_effect s (Get r) n = n
  timed_effect s (Release r) n = n
  timed_effect s Tick n = enters_keep c Timed timed_enter (dues c (counted s)) c.task (counted s) n
  timed_effect s (Line i) n = n
  timed_effect s (Start t d) n = n
  timed_effect s (Stop t) n = n
  timed_effect s (Wait w) n = n
  timed_effect s (Set t w) n = n
  timed_effect s (Clear w) n = n

  pub timed_leaves : (s : State) (e : Event) → Timed s → Timed (leaves c s e)
  timed_leaves s e n =
      cond_either Timed (eqb (status_of c s e) done) (effect_of c s e) (else_of c s (status_of c s e) e)
      (timed_effect s e n)
      (else_of_keeps c s Timed n (status_of c s e) e (λ i _ _ _. n))

  timed_dispatched : (s : State) → Timed s → Timed (dispatched c s)
  timed_dispatched s n = dispatched_keeps Timed (λ i f x h. h) c s n

  module _ {s : State} (sound : Sound c s) where
    pub kept_of : Kept c holder s.bodies
    kept_of = record { size = sound.size; steady = sound.holder_started; apart = sound.holders_apart }

    pub underway_of : Underway c s
    underway_of e = absurd (true≢false (sym e ∙ sound.nobody_left_to_begin))

  sound_of : {s : State} → Kept c holder s.bodies → Underway c s → Timed s → Sound c s
  sound_of {s} kept underway timed =
      record {
        size = kept.size;
        holder_started = kept.steady;
        holders_apart = kept.apart;
        nobody_left_to_begin = underway_named c s underway (λ j h. rw kept.size (timed_body c j (timed j h)));
        order_timed = timed;
      }

  module _ (ok : Configuration.Accepted c) where
    pub kept_leaves : {s : State} → Sound c s → (e : Event) → Kept c holder (leaves c s e).bodies
    kept_leaves {s} a e = leaves_kept c ok holders (set_holds c) s (kept_of a) (underway_of a) e

    pub sound_step : {s : State} → Sound c s → (e : Event) → Sound c (step c s e).state
    unfolding step_by
    sound_step {s} a e =
        sound_of (step_kept c ok holders (set_holds c) s (kept_of a) (underway_of a) e) (underway_step c s e)
        (timed_dispatched (leaves c s e) (timed_leaves s e a.order_timed))

    pub sound_after : (es : List Event) {s : State} → Sound c s → Sound c (after c s es)
    unfolding after_by
    sound_after [] a = a
    sound_after (e ∷ es) a = sound_after es (sound_step a e)

    pub sound_fresh : Configuration.Shaped c → Sound c (fresh c)
    sound_fresh shaped =
        sound_of (fresh_kept c ok holders (set_holds c) shaped) (underway_fresh c)
        (timed_dispatched (unstarted c) (λ j h. none_among j h))
