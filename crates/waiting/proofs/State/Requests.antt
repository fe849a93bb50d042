-- Only an ISR has a request waiting while it is started, after every list of events: `pending_isr`.
-- So the `jobs` of a body that count twice are those of "a started ISR requested again", whatever
-- the kinds of the others.
use Prim.Native.Nat.{ℕ, ◌≤◌}
use mathlib.Core.Path.{◌≡◌, refl, sym, ap, ◌∙◌}
use mathlib.Core.Bool.{Bool, true, false, true≢false, cond}
use mathlib.Core.List.{List, [], ◌∷◌}
use borrow.Author.Tests.{eq-eqb, ne_eqb}
use lib.Dec.{eqb}
use lib.ListN.{length, get_or, take, get_or-eq_default, get_or-map}
use Rattle.number.proofs.Cases.{by_lt, by_eq, cond_either}
use Rattle.config.specs.declared.Config.{Config}
use Rattle.config.specs.Meaning.{is_isr}
use Rattle.scheduler.specs.Status.{done}
use Rattle.scheduler.specs.Bits.{any_set}
use Rattle.scheduler.specs.Body.{waiting, is_suspended, Body, become, activated, triggers, ended, finished, requested, gets, releases, loses, waits, receives, clears}
use Rattle.scheduler.specs.State.{State, no_body, body_of, changing, runner}
use Rattle.scheduler.specs.Event.{Event, Activate, Finish, Chain, Get, Release, Tick, Line, Start, Stop, Wait, Set, Clear}
use Rattle.scheduler.specs.Tick.{counted, dues}
use Rattle.scheduler.specs.Call.{caller, finish, finish_timed, status_of, effect_of}
use Rattle.scheduler.specs.Scheduler.{begins, phase_begun, dispatched, new_body, unstarted, leaves, step, step_by, fresh, after, after_by}
use Rattle.scheduler.specs.History.{AcceptedIn}
use Rattle.scheduler.proofs.Event.Checks.{line_passed}
use Rattle.scheduler.proofs.Event.Effects.{body_of_changing_same, body_of_changing_other, length_changing, else_of_keeps, entered, activating_due_keeps}

module _ (c : Config) where
  abbrev IsrsOnly : State → Type 0
  IsrsOnly s = (i : ℕ) → (body_of s i).pending ≡ true → is_isr c i ≡ true

  isrs_only_changing : (k : ℕ) (f : Body → Body) (s : State) → IsrsOnly s
      → ((f (body_of s k)).pending ≡ true → is_isr c k ≡ true)
      → IsrsOnly (changing k f s)
  isrs_only_changing k f s r h i p =
      by_eq i k
      (λ same. by_lt k (length s.bodies)
      (λ fits. rw same (h (rw (same, body_of_changing_same k f s fits) at p)))
      (λ past.
      let beyond : length (changing k f s).bodies ≤ i = rw (length_changing k f s, same) past in
      absurd (true≢false
      (sym p ∙ ap (λ (x : Body). x.pending) (get_or-eq_default (changing k f s).bodies no_body beyond)))))
      (λ other. r i (rw (body_of_changing_other k f s i other) at p))

  finished_settled : {C : Type 0} (x : Body) → (finished x).pending ≡ true → C
  finished_settled x h =
      absurd (true≢false (sym h
      ∙ cond_either (λ (y : Body). y.pending ≡ false) x.pending (activated (ended x)) (ended x) refl refl))

  entered_same : (t : Bool) (x : Body) → (entered t x).pending ≡ x.pending
  entered_same true x =
      cond_either (λ (y : Body). y.pending ≡ x.pending) (is_suspended x.phase) (triggers x) (loses x) refl refl
  entered_same false x =
      cond_either (λ (y : Body). y.pending ≡ x.pending) (is_suspended x.phase) (activated x) (loses x) refl refl

  isrs_only_finish : (k : ℕ) (s : State) → IsrsOnly s → IsrsOnly (finish k s)
  isrs_only_finish k s r = isrs_only_changing k finished s r (finished_settled (body_of s k))

  isrs_only_effect : (s : State) → IsrsOnly s → (e : Event) → AcceptedIn c s e → IsrsOnly (effect_of c s e)
  unfolding step_by
  isrs_only_effect s r (Activate t) a = isrs_only_changing t activated s r (r t)
  isrs_only_effect s r Finish a =
      cond_either IsrsOnly (runner c s).timed (finish_timed (caller c s) s) (finish (caller c s) s)
      (isrs_only_finish (caller c s) s r)
      (isrs_only_finish (caller c s) s r)
  isrs_only_effect s r (Chain t) a =
      let ends = isrs_only_finish (caller c s) s r in
      isrs_only_changing t activated (finish (caller c s) s) ends (ends t)
  isrs_only_effect s r (Get q) a = isrs_only_changing (caller c s) (gets q) s r (r (caller c s))
  isrs_only_effect s r (Release q) a = isrs_only_changing (caller c s) releases s r (r (caller c s))
  isrs_only_effect s r Tick a =
      activating_due_keeps c IsrsOnly (λ js x h. h)
      (λ t z x h. isrs_only_changing t (entered z) x h (λ p. h t (sym (entered_same z (body_of x t)) ∙ p)))
      (dues c (counted s)) c.task (counted s) r
  isrs_only_effect s r (Line i) a = isrs_only_changing i requested s r (λ p. (line_passed c s i a).0)
  isrs_only_effect s r (Start t d) a = r
  isrs_only_effect s r (Stop t) a = r
  isrs_only_effect s r (Wait w) a =
      isrs_only_changing (caller c s) (waits w) s r
      (λ p. r (caller c s)
      (sym (cond_either (λ (y : Body). y.pending ≡ (body_of s (caller c s)).pending)
      (any_set (body_of s (caller c s)).bits w) (body_of s (caller c s)) (become (waiting w) (body_of s (caller c s)))
      refl refl) ∙ p))
  isrs_only_effect s r (Set t w) a = isrs_only_changing t (receives w) s r (r t)
  isrs_only_effect s r (Clear w) a = isrs_only_changing (caller c s) (clears w) s r (r (caller c s))

  isrs_only_dispatched : (s : State) → IsrsOnly s → IsrsOnly (dispatched c s)
  isrs_only_dispatched s r =
      cond_either IsrsOnly (begins (runner c s))
      (changing (runner c s).number (become (phase_begun (runner c s))) s) s
      (isrs_only_changing (runner c s).number (become (phase_begun (runner c s))) s r (r (runner c s).number))
      r

  isrs_only_step : (s : State) → IsrsOnly s → (e : Event) → IsrsOnly (step c s e).state
  unfolding step_by
  isrs_only_step s r e =
      isrs_only_dispatched (leaves c s e)
      (by_eq (status_of c s e) done
      (λ a. rw (eq-eqb (status_of c s e) done a) (isrs_only_effect s r e a))
      (λ n. rw (ne_eqb (status_of c s e) done n)
      (else_of_keeps c s IsrsOnly r (status_of c s e) e (λ i _ _ _. isrs_only_changing i loses s r (r i)))))

  isrs_only_from : (es : List Event) (s : State) → IsrsOnly s → IsrsOnly (after c s es)
  unfolding after_by
  isrs_only_from [] s r = r
  isrs_only_from (e ∷ es) s r = isrs_only_from es (step c s e).state (isrs_only_step s r e)

  pub pending_isr : (es : List Event) → IsrsOnly (after c (fresh c) es)
  pending_isr es =
      isrs_only_from es (fresh c)
      (isrs_only_dispatched (unstarted c) (λ i p. absurd (true≢false (sym p ∙ quiet i))))
    where
      new : (x : Bool) → (cond x (activated no_body) no_body).pending ≡ false
      new true = refl
      new false = refl

      quiet : (i : ℕ) → (body_of (unstarted c) i).pending ≡ false
      quiet i =
          ap (λ (x : Body). x.pending) (get_or-map new_body (take c.bodies c.autostart) i 0)
          ∙ new (eqb (get_or (take c.bodies c.autostart) i 0) 1)
