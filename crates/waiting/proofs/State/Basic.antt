-- Where no task is extended or time-triggered: every body is suspended, ready or started, only a
-- started one has a request waiting besides, and no time-triggered task is started. After every
-- list of events, by `reached_basic`.
--
-- In order: one body; what each change of a body keeps; each event, from the fresh start on.
use Prim.Native.Nat.{ℕ, ◌≤◌}
use mathlib.Core.Path.{◌≡◌, refl, sym, ap, ◌∙◌}
use mathlib.Core.Bool.{Bool, true, false, true≢false, cond, not}
use mathlib.Core.List.{List, [], ◌∷◌}
use mathlib.Core.Logic.{◌≢◌}
use borrow.Author.Tests.{eq-eqb, ne_eqb}
use lib.Dec.{eqb}
use lib.ListN.{length, get_or, take, get_or-eq_default, get_or-map}
use Rattle.number.proofs.Cases.{by_test, by_lt, by_eq, cond_either}
use Rattle.config.specs.declared.Config.{Config}
use Rattle.scheduler.specs.Status.{done}
use Rattle.scheduler.specs.Body.{Phase, suspended, ready, started, waiting, triggered, is_started, Body, become, activated, ended, finished, requested, gets, releases, loses, activated_by_entry, receives, clears}
use Rattle.scheduler.specs.Choice.{Candidate, by_holding, chosen}
use Rattle.scheduler.specs.State.{State, no_body, body_of, changing, runner}
use Rattle.scheduler.specs.Event.{Event, Activate, Finish, Chain, Get, Release, Tick, Line, Start, Stop, Wait, Set, Clear}
use Rattle.scheduler.specs.Tick.{counted, dues, enter}
use Rattle.scheduler.specs.Call.{caller, finish, finish_timed, status_of, effect_of}
use Rattle.scheduler.specs.Scheduler.{begins, phase_begun, dispatched, new_body, unstarted, leaves, step, step_by, fresh, after, after_by}
use Rattle.scheduler.specs.History.{AcceptedIn}
use Rattle.scheduler.proofs.Body.{finished_used}
use Rattle.scheduler.proofs.Choice.Runner.{Taken, no_one, body, chosen_from_lem, candidate_active, runner_untimed}
use Rattle.scheduler.proofs.Event.Checks.{activate_passed, chain_passed, wait_passed}
use Rattle.scheduler.proofs.Event.Effects.{body_of_changing_same, body_of_changing_other, length_changing, else_of_keeps, enters_keep}
use Rattle.waiting.proofs.State.BasicKinds.{Basic}

-- suspended, ready or started, and only a started one has a request waiting besides
abbrev pub basic_phase : Phase → Bool → Bool
basic_phase suspended pending = not pending
basic_phase ready pending = not pending
basic_phase started pending = true
basic_phase (waiting w) pending = false
basic_phase (triggered x) pending = false

abbrev pub BasicBody : Body → Type 0
BasicBody x = basic_phase x.phase x.pending ≡ true

-- a body that is not started has no request waiting besides
pub unstarted_quiet : (p : Phase) (pending : Bool) → basic_phase p pending ≡ true → is_started p ≡ false
    → pending ≡ false
unstarted_quiet suspended true h n = absurd (true≢false (sym h))
unstarted_quiet suspended false h n = refl
unstarted_quiet ready true h n = absurd (true≢false (sym h))
unstarted_quiet ready false h n = refl
unstarted_quiet started pending h n = absurd (true≢false n)
unstarted_quiet (waiting w) pending h n = absurd (true≢false (sym h))
unstarted_quiet (triggered x) pending h n = absurd (true≢false (sym h))

-- the changes of a body
activated_basic : (x : Body) → x.pending ≡ false → BasicBody (activated x)
activated_basic x q = rw q

suspended_quiet : (x : Body) → BasicBody x → x.phase ≡ suspended → x.pending ≡ false
suspended_quiet x h e = unstarted_quiet x.phase x.pending h (rw e)

pub finished_basic : (x : Body) → BasicBody (finished x)
finished_basic x = cond_either BasicBody x.pending (activated (ended x)) (ended x) refl refl

requested_basic : (x : Body) → BasicBody x → BasicBody (requested x)
requested_basic x h = go x.phase refl h
  where
    go : (p : Phase) → x.phase ≡ p → basic_phase p x.pending ≡ true → BasicBody (requested x)
    go suspended e r = rw e (activated_basic x (unstarted_quiet suspended x.pending r refl))
    go ready e r = rw e (activated_basic x (unstarted_quiet ready x.pending r refl))
    go started e r = rw e
    go (waiting w) e r = absurd (true≢false (sym r))
    go (triggered y) e r = absurd (true≢false (sym r))

entry_basic : (x : Body) → BasicBody x → BasicBody (activated_by_entry x)
entry_basic x h = go x.phase refl h
  where
    go : (p : Phase) → x.phase ≡ p → basic_phase p x.pending ≡ true → BasicBody (activated_by_entry x)
    go suspended e r = rw e (activated_basic x (unstarted_quiet suspended x.pending r refl))
    go ready e r = rw e r
    go started e r = rw e
    go (waiting w) e r = absurd (true≢false (sym r))
    go (triggered y) e r = absurd (true≢false (sym r))

receives_basic : (w : ℕ) (x : Body) → BasicBody x → BasicBody (receives w x)
receives_basic w x h = go x.phase refl h
  where
    go : (p : Phase) → x.phase ≡ p → basic_phase p x.pending ≡ true → BasicBody (receives w x)
    go suspended e r = rw e r
    go ready e r = rw e r
    go started e r = rw e
    go (waiting v) e r = absurd (true≢false (sym r))
    go (triggered y) e r = absurd (true≢false (sym r))

pub record BasicState (s : State) : Type 0 where
  pub untimed : s.order ≡ []
  pub bodies : (i : ℕ) → BasicBody (body_of s i)

-- one body is changed
pub changing_basic : {s : State} → BasicState s → (k : ℕ) (f : Body → Body) → BasicBody (f (body_of s k))
    → BasicState (changing k f s)
changing_basic {s} r k f h = record { untimed = r.untimed; bodies = at }
  where
    at : (i : ℕ) → BasicBody (body_of (changing k f s) i)
    at i =
        by_eq i k
        (λ same. by_lt i (length s.bodies)
        (λ fits. rw (← same, body_of_changing_same i f s fits) (rw same h))
        (λ past.
        let beyond : length (changing k f s).bodies ≤ i = rw (length_changing k f s) past in
        rw (get_or-eq_default (changing k f s).bodies no_body beyond) refl))
        (λ other. rw (body_of_changing_other k f s i other) (r.bodies i))

module _ (c : Config) where
  pub dispatched_basic : {s : State} → BasicState s → BasicState (dispatched c s)
  dispatched_basic {s} r =
      by_test (begins (runner c s))
      (λ e. rw e (changing_basic r (runner c s).number (become (phase_begun (runner c s)))
      (go (chosen_from_lem by_holding refl c s.bodies))))
      (λ e. rw e r)
    where
      untimed : (runner c s).timed ≡ false
          → BasicBody (become (phase_begun (runner c s)) (body_of s (runner c s).number))
      untimed e = rw e

      go : Taken c s.bodies (chosen c s.bodies)
          → BasicBody (become (phase_begun (runner c s)) (body_of s (runner c s).number))
      go (no_one z) = untimed (ap (λ (x : Candidate). x.timed) (runner_untimed c s r.untimed ∙ z))
      go (body k h p z) =
          untimed
          (ap (λ (x : Candidate). x.timed)
          (runner_untimed c s r.untimed ∙ z ∙ candidate_active c k (body_of s k) (body_of s k).phase p))

  module _ (basic : Basic c) where
    enter_basic : (t : ℕ) (s : State) → BasicState s → BasicState (enter c t s)
    enter_basic t s r =
        rw (basic.no_timed t) (changing_basic r t activated_by_entry (entry_basic (body_of s t) (r.bodies t)))

    -- the task that a Chain names, once its caller has ended
    chained_quiet : {s : State} → BasicState s → (t : ℕ) → (t ≢ caller c s → (body_of s t).phase ≡ suspended)
        → (body_of (finish (caller c s) s) t).pending ≡ false
    chained_quiet {s} r t other =
        by_eq t (caller c s)
        (λ same. by_lt (caller c s) (length s.bodies)
        (λ fits. rw (same, body_of_changing_same (caller c s) finished s fits)
        (finished_used (body_of s (caller c s))))
        (λ past.
        let beyond : length (finish (caller c s) s).bodies ≤ t =
        rw (same, length_changing (caller c s) finished s) past in
        rw (get_or-eq_default (finish (caller c s) s).bodies no_body beyond) refl))
        (λ d. rw (body_of_changing_other (caller c s) finished s t d)
        (suspended_quiet (body_of s t) (r.bodies t) (other d)))

    effect_basic : {s : State} → BasicState s → (e : Event) → AcceptedIn c s e → BasicState (effect_of c s e)
    unfolding step_by
    effect_basic {s} r (Activate t) a =
        changing_basic r t activated
        (activated_basic (body_of s t) (suspended_quiet (body_of s t) (r.bodies t) (activate_passed c s t a).2))
    effect_basic {s} r Finish a =
        cond_either BasicState (runner c s).timed (finish_timed (caller c s) s) (finish (caller c s) s)
        (record { untimed = rw r.untimed; bodies = ends.bodies }) ends
      where
        ends : BasicState (finish (caller c s) s)
        ends = changing_basic r (caller c s) finished (finished_basic (body_of s (caller c s)))
    effect_basic {s} r (Chain t) a =
        changing_basic
        (changing_basic r (caller c s) finished (finished_basic (body_of s (caller c s)))) t activated
        (activated_basic (body_of (finish (caller c s) s) t) (chained_quiet r t (chain_passed c s t a).4))
    effect_basic {s} r (Get q) a = changing_basic r (caller c s) (gets q) (r.bodies (caller c s))
    effect_basic {s} r (Release q) a = changing_basic r (caller c s) releases (r.bodies (caller c s))
    effect_basic {s} r Tick a =
        enters_keep c BasicState enter_basic (dues c (counted s)) c.task (counted s)
        (record { untimed = r.untimed; bodies = r.bodies })
    effect_basic {s} r (Line i) a =
        changing_basic r i requested (requested_basic (body_of s i) (r.bodies i))
    effect_basic {s} r (Start t d) a = record { untimed = r.untimed; bodies = r.bodies }
    effect_basic {s} r (Stop t) a = record { untimed = r.untimed; bodies = r.bodies }
    effect_basic {s} r (Wait w) a =
        absurd (true≢false (sym (wait_passed c s w a).1 ∙ basic.no_extended (caller c s)))
    effect_basic {s} r (Set t w) a =
        changing_basic r t (receives w) (receives_basic w (body_of s t) (r.bodies t))
    effect_basic {s} r (Clear w) a = changing_basic r (caller c s) (clears w) (r.bodies (caller c s))

    step_basic : {s : State} → BasicState s → (e : Event) → BasicState (step c s e).state
    unfolding step_by
    step_basic {s} r e =
        dispatched_basic {s = leaves c s e}
        (by_eq (status_of c s e) done
        (λ a. rw (eq-eqb (status_of c s e) done a) (effect_basic r e a))
        (λ n. rw (ne_eqb (status_of c s e) done n)
        (else_of_keeps c s BasicState r (status_of c s e) e
        (λ i _ _ _. changing_basic r i loses (r.bodies i)))))

    after_basic : (es : List Event) (s : State) → BasicState s → BasicState (after c s es)
    unfolding after_by
    after_basic [] s r = r
    after_basic (e ∷ es) s r = after_basic es (step c s e).state (step_basic r e)

    unstarted_basic : BasicState (unstarted c)
    unstarted_basic =
        record {
          untimed = refl;
          bodies = λ i. rw (get_or-map new_body (take c.bodies c.autostart) i 0)
              (new (eqb (get_or (take c.bodies c.autostart) i 0) 1));
        }
      where
        new : (a : Bool) → BasicBody (cond a (activated no_body) no_body)
        new true = refl
        new false = refl

    pub reached_basic : (es : List Event) → BasicState (after c (fresh c) es)
    reached_basic es = after_basic es (fresh c) (dispatched_basic unstarted_basic)
