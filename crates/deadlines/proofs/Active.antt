-- A body that isn't suspended stays so until an event ends it (`active_until_end`).
use Prim.Native.Nat.{ℕ}
use mathlib.Core.Path.{◌≡◌, refl, sym, ap, ◌∙◌}
use mathlib.Core.Bool.{Bool, true, false, true≢false, cond, not, ◌||◌, or-true}
use mathlib.Core.List.{List}
use mathlib.Core.Logic.{◌≢◌}
use borrow.Author.Tests.{eq-eqb, not-true}
use lib.Dec.{eqb}
use lib.ListN.{length, get_or}
use lib.Seq.{set_out}
use Rattle.number.proofs.Cases.{by_test, by_eq, by_lt, cond_either}
use Rattle.config.specs.declared.Config.{Config}
use Rattle.scheduler.specs.Bits.{any_set}
use Rattle.scheduler.specs.Status.{done}
use Rattle.scheduler.specs.Body.{Phase, suspended, ready, started, waiting, triggered, is_suspended, has_begun, Body, become, activated, finished, requested, gets, releases, loses, resumed, waits, receives, clears}
use Rattle.scheduler.specs.State.{State, no_body, body_of, changing, runner}
use Rattle.scheduler.specs.Event.{Event, Activate, Finish, Chain, Get, Release, Tick, Line, Start, Stop, Wait, Set, Clear}
use Rattle.scheduler.specs.Call.{active, request_waits, caller, finish, finish_timed, status_of, effect_of, else_of}
use Rattle.scheduler.specs.Tick.{counted, dues}
use Rattle.scheduler.specs.Scheduler.{begins, phase_begun, step_by, leaves, dispatched}
use Rattle.scheduler.specs.History.{next}
use Rattle.scheduler.proofs.Event.Effects.{body_of_changing_same, body_of_changing_other, else_of_keeps, entered, activating_due_keeps}
use Rattle.deadlines.specs.Activation.{is_end, ends_at}

-- the body b isn't suspended
abbrev pub Awake : ℕ → State → Type 0
Awake b s = is_suspended (body_of s b).phase ≡ false

-- a change of a body that suspends none
abbrev Wakeful : (Body → Body) → Type 0
Wakeful f = (x : Body) → is_suspended x.phase ≡ false → is_suspended (f x).phase ≡ false

-- the effects' changes
requested_wakes : Wakeful requested
requested_wakes x h = cond_either (λ (y : Body). is_suspended y.phase ≡ false) (has_begun x.phase) _ _ h refl

waits_wakes : (w : ℕ) → Wakeful (waits w)
waits_wakes w x h = cond_either (λ (y : Body). is_suspended y.phase ≡ false) (any_set x.bits w) _ _ h refl

resumed_wakes : (bits : ℕ) (p : Phase) → is_suspended p ≡ false → is_suspended (resumed bits p) ≡ false
resumed_wakes bits suspended h = h
resumed_wakes bits ready h = refl
resumed_wakes bits started h = refl
resumed_wakes bits (waiting w) h =
    cond_either (λ (p : Phase). is_suspended p ≡ false) (any_set bits w) started (waiting w) refl refl
resumed_wakes bits (triggered x) h = refl

entered_wakes : (t : Bool) → Wakeful (entered t)
entered_wakes true x h = cond_either (λ (y : Body). is_suspended y.phase ≡ false) (is_suspended x.phase) _ _ refl h
entered_wakes false x h = cond_either (λ (y : Body). is_suspended y.phase ≡ false) (is_suspended x.phase) _ _ refl h

begun_awake : (t : Bool) → is_suspended (cond t (triggered true) started) ≡ false
begun_awake true = refl
begun_awake false = refl

module _ (b : ℕ) where
  changing_other : (i : ℕ) (f : Body → Body) (s : State) → b ≢ i → Awake b s → Awake b (changing i f s)
  changing_other i f s d h = ap (λ (x : Body). is_suspended x.phase) (body_of_changing_other i f s b d) ∙ h

  changing_awake : (i : ℕ) (f : Body → Body) (s : State) → Wakeful f → Awake b s → Awake b (changing i f s)
  changing_awake i f s wakes h = by_eq b i (λ e. same i (sym e)) (λ d. changing_other i f s d h)
    where
      itself : Awake b (changing b f s)
      itself =
          by_lt b (length s.bodies)
          (λ fits. ap (λ (x : Body). is_suspended x.phase) (body_of_changing_same b f s fits) ∙ wakes (body_of s b) h)
          (λ past.
          ap (λ (bs : List Body). is_suspended (get_or bs b no_body).phase) (set_out s.bodies b (f (body_of s b)) past) ∙ h)

      same : (i : ℕ) → i ≡ b → Awake b (changing i f s)
      same i e = rw e itself

  pub dispatched_awake : (c : Config) (s : State) → Awake b s → Awake b (dispatched c s)
  dispatched_awake c s h =
      cond_either (Awake b) (begins (runner c s)) _ s
      (changing_awake (runner c s).number (become (phase_begun (runner c s))) s (λ x w. begun_awake (runner c s).timed) h)
      h

  -- an effect keeps b awake unless it ends the caller, and b is that
  effect_awake : (c : Config) (s : State) (e : Event) → (is_end e ≡ true → b ≢ caller c s) → Awake b s
      → Awake b (effect_of c s e)
  effect_awake c s (Activate t) other h = changing_awake t activated s (λ x w. refl) h
  effect_awake c s Finish other h =
      cond_either (Awake b) (runner c s).timed (finish_timed (caller c s) s) (finish (caller c s) s)
      (changing_other (caller c s) finished s (other refl) h)
      (changing_other (caller c s) finished s (other refl) h)
  effect_awake c s (Chain t) other h =
      changing_awake t activated (finish (caller c s) s) (λ x w. refl)
      (changing_other (caller c s) finished s (other refl) h)
  effect_awake c s (Get r) other h = changing_awake (caller c s) (gets r) s (λ x w. w) h
  effect_awake c s (Release r) other h = changing_awake (caller c s) releases s (λ x w. w) h
  effect_awake c s Tick other h =
      activating_due_keeps c (Awake b) (λ js x w. w) (λ t y x w. changing_awake t (entered y) x (entered_wakes y) w)
      (dues c (counted s)) c.task (counted s) h
  effect_awake c s (Line i) other h = changing_awake i requested s requested_wakes h
  effect_awake c s (Start t d) other h = h
  effect_awake c s (Stop t) other h = h
  effect_awake c s (Wait w) other h = changing_awake (caller c s) (waits w) s (waits_wakes w) h
  effect_awake c s (Set t w) other h =
      changing_awake t (receives w) s (λ x v. resumed_wakes _ x.phase v) h
  effect_awake c s (Clear w) other h = changing_awake (caller c s) (clears w) s (λ x v. v) h

  refusal_awake : (c : Config) (s : State) (st : ℕ) (e : Event) → Awake b s → Awake b (else_of c s st e)
  refusal_awake c s st e h =
      else_of_keeps c s (Awake b) h st e (λ i _ _ _. changing_awake i loses s (λ x w. w) h)

  step_awake : (c : Config) (s : State) (e : Event) → ends_at c s e b ≡ false → Awake b s → Awake b (next c s e)
  unfolding step_by ends_at
  step_awake c s e none h =
      dispatched_awake c (leaves c s e)
      (by_test (eqb (status_of c s e) done)
      (λ ok. rw ok (effect_awake c s e
      (λ ends same. true≢false (sym (simp (ends, ok, eq-eqb (caller c s) b (sym same))) ∙ none)) h))
      (λ bad. rw bad (refusal_awake c s (status_of c s e) e h)))

  pub active_until_end : (c : Config) (s : State) (e : Event) → active s b ≡ true → ends_at c s e b ≡ false
      → active (next c s e) b ≡ true
  active_until_end c s e h none = ap not (step_awake c s e none (not-true _ h))

-- a body isn't suspended exactly if a request of it waits, or it has begun: what the machine's words say
pub active_words : (s : State) (b : ℕ)
    → active s b ≡ request_waits (body_of s b) (body_of s b).phase || has_begun (body_of s b).phase
active_words s b = go (body_of s b) (body_of s b).phase
  where
    go : (x : Body) (p : Phase) → not (is_suspended p) ≡ request_waits x p || has_begun p
    go x suspended = refl
    go x ready = refl
    go x started = sym (or-true x.pending)
    go x (waiting w) = sym (or-true x.pending)
    go x (triggered true) = refl
    go x (triggered false) = refl
