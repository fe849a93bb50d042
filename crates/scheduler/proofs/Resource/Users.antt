-- Who holds a resource is one of its declared users: after every list of events, by `declared_after`. First, what it is
-- to be held by anyone.
--
-- Only a Get adds to what a body holds, and it is accepted of a declared user alone.
use Prim.Native.Nat.{ℕ, zero, suc, ◌≤◌, ◌<◌}
use mathlib.Core.Path.{◌≡◌, refl, sym, ap, ◌∙◌}
use mathlib.Core.Bool.{Bool, true, false, true≢false, cond, or-true}
use mathlib.Core.List.{List, [], ◌∷◌}
use native.Mathlib.Omega.{arith}
use borrow.Author.Tests.{eq-eqb, ne_eqb}
use lib.Dec.{eqb}
use lib.ListN.{length, get_or, get_or-eq_default, get_or-map, take}
use Rattle.number.proofs.Cases.{by_test, by_lt, by_eq, cond_either}
use Rattle.config.specs.declared.Config.{Config}
use Rattle.config.specs.Meaning.{is_user}
use Rattle.scheduler.specs.Bits.{any_set}
use Rattle.scheduler.specs.Status.{done}
use Rattle.scheduler.specs.Body.{Body, waiting, is_suspended, has_begun, become, activated, triggers, ended, finished, requested, gets, releases, loses, waits, receives, clears}
use Rattle.scheduler.specs.State.{State, no_body, body_of, changing, runner, among, held_in}
use Rattle.scheduler.specs.Event.{Event, Activate, Finish, Chain, Get, Release, Tick, Line, Start, Stop, Wait, Set, Clear}
use Rattle.scheduler.specs.Tick.{dues, counted}
use Rattle.scheduler.specs.Call.{caller, finish, finish_timed, status_of, effect_of}
use Rattle.scheduler.specs.Scheduler.{begins, phase_begun, dispatched, new_body, unstarted, leaves, step, step_by, fresh, after, after_by}
use Rattle.scheduler.specs.History.{AcceptedIn}
use Rattle.scheduler.proofs.Event.Checks.{get_passed}
use Rattle.scheduler.proofs.Event.Effects.{body_of_changing_same, body_of_changing_other, length_changing, else_of_keeps, entered, activating_due_keeps}
use Rattle.scheduler.proofs.Members.{none_among, among_rest}

-- "held by anyone" is held by some body of the list
pub held_at : (r : ℕ) (bs : List Body) (i : ℕ) → i < length bs → among r (get_or bs i no_body).held ≡ true → held_in r bs ≡ true
unfolding held_in
held_at r [] i h a = absurd (omega arith)
held_at r (b ∷ bs) zero h a = rw a
held_at r (b ∷ bs) (suc i) h a = rw (held_at r bs i (omega arith) a) (or-true (among r b.held))

pub held_by : (r : ℕ) (bs : List Body) → held_in r bs ≡ true
    → (i : ℕ) × (i < length bs) × (among r (get_or bs i no_body).held ≡ true)
unfolding held_in
held_by r [] h = absurd (true≢false (sym h))
held_by r (b ∷ bs) h =
    by_test (among r b.held)
    (λ e. (zero, omega arith, e))
    (λ e. let x = held_by r bs (rw e at h) in (suc x.0, omega (arith, x.1), x.2))

-- nothing is held of an empty list
module _ (c : Config) where
  abbrev pub Declared : State → Type 0
  Declared s = (i r : ℕ) → among r (body_of s i).held ≡ true → is_user c r i ≡ true

  -- a body k that is changed holds no resource of which it is no declared user
  declared_changing : (k : ℕ) (f : Body → Body) (s : State)
      → ((r : ℕ) → among r (f (body_of s k)).held ≡ true → is_user c r k ≡ true) → Declared s
      → Declared (changing k f s)
  declared_changing k f s fine d i r h =
      by_eq i k
      (λ same. by_lt i (length s.bodies)
      (λ fits. rw same (fine r (rw (same, body_of_changing_same k f s (rw same at fits)) at h)))
      (λ past. none_among r (rw (beyond past) at h)))
      (λ other. d i r (rw (body_of_changing_other k f s i other) at h))
    where
      beyond : length s.bodies ≤ i → body_of (changing k f s) i ≡ no_body
      beyond past = get_or-eq_default (changing k f s).bodies no_body (rw (length_changing k f s) past)

  -- a change that takes no resource
  abbrev TakesNone : (Body → Body) → Type 0
  TakesNone f = (b : Body) (r : ℕ) → among r (f b).held ≡ true → among r b.held ≡ true

  declared_taking_none : (k : ℕ) (f : Body → Body) → TakesNone f → (s : State) → Declared s → Declared (changing k f s)
  declared_taking_none k f none s d = declared_changing k f s (λ r h. d k r (none (body_of s k) r h)) d

  -- of two bodies that hold the same whichever
  cond_held : (p : Bool) (x y : Body) (rs : List ℕ) → x.held ≡ rs → y.held ≡ rs → (cond p x y).held ≡ rs
  cond_held p x y rs = cond_either (λ (b : Body). b.held ≡ rs) p x y

  requested_none : TakesNone requested
  requested_none b r h = sym (ap (among r) (cond_held (has_begun b.phase) _ (activated b) b.held refl refl)) ∙ h

  entry_none : (x : Bool) → TakesNone (entered x)
  entry_none true b r h =
      sym (ap (among r) (cond_held (is_suspended b.phase) (triggers b) (loses b) b.held refl refl)) ∙ h
  entry_none false b r h =
      sym (ap (among r) (cond_held (is_suspended b.phase) (activated b) (loses b) b.held refl refl)) ∙ h

  finished_none : TakesNone finished
  finished_none b r h =
      sym (ap (among r) (cond_held b.pending (activated (ended b)) (ended b) b.held refl refl)) ∙ h

  waits_none : (w : ℕ) → TakesNone (waits w)
  waits_none w b r h =
      sym (ap (among r) (cond_held (any_set b.bits w) b (become (waiting w) b) b.held refl refl)) ∙ h

  releases_none : TakesNone releases
  releases_none b r h = among_rest r b.held h

  -- what is held after a Get
  gets_declared : (s : State) (r : ℕ) → is_user c r (caller c s) ≡ true → Declared s
      → (q : ℕ) → among q (gets r (body_of s (caller c s))).held ≡ true → is_user c q (caller c s) ≡ true
  unfolding among
  gets_declared s r user d q h =
      by_eq q r
      (λ same. rw same user)
      (λ other. d (caller c s) q (rw (ne_eqb q r other) at h))

  declared_effect : (s : State) (e : Event) → AcceptedIn c s e → Declared s → Declared (effect_of c s e)
  unfolding step_by
  declared_effect s (Activate t) a d = declared_taking_none t activated (λ b r h. h) s d
  declared_effect s Finish a d =
      let ends = declared_taking_none (caller c s) finished finished_none s d in
      cond_either Declared (runner c s).timed (finish_timed (caller c s) s) (finish (caller c s) s) ends ends
  declared_effect s (Chain t) a d =
      declared_taking_none t activated (λ b r h. h) (finish (caller c s) s)
      (declared_taking_none (caller c s) finished finished_none s d)
  declared_effect s (Get r) a d =
      declared_changing (caller c s) (gets r) s (gets_declared s r (get_passed c s r a).2 d) d
  declared_effect s (Release r) a d = declared_taking_none (caller c s) releases releases_none s d
  declared_effect s Tick a d =
      activating_due_keeps c Declared (λ js x h. h) (λ t b. declared_taking_none t (entered b) (entry_none b))
      (dues c (counted s)) c.task
      (counted s) d
  declared_effect s (Line i) a d = declared_taking_none i requested requested_none s d
  declared_effect s (Start t x) a d = d
  declared_effect s (Stop t) a d = d
  declared_effect s (Wait w) a d = declared_taking_none (caller c s) (waits w) (waits_none w) s d
  declared_effect s (Set t w) a d = declared_taking_none t (receives w) (λ b r h. h) s d
  declared_effect s (Clear w) a d = declared_taking_none (caller c s) (clears w) (λ b r h. h) s d

  declared_dispatched : (s : State) → Declared s → Declared (dispatched c s)
  declared_dispatched s d =
      cond_either Declared (begins (runner c s)) _ s
      (declared_taking_none (runner c s).number (become (phase_begun (runner c s))) (λ b r h. h) s d)
      d

  declared_step : (s : State) (e : Event) → Declared s → Declared (step c s e).state
  unfolding step_by
  declared_step s e d =
      declared_dispatched (leaves c s e)
      (by_eq (status_of c s e) done
      (λ ok. rw (eq-eqb (status_of c s e) done ok) (declared_effect s e ok d))
      (λ bad.
      rw (ne_eqb (status_of c s e) done bad)
      (else_of_keeps c s Declared d (status_of c s e) e (λ i _ _ _. declared_taking_none i loses (λ b r h. h) s d))))

  pub declared_fresh : Declared (fresh c)
  declared_fresh = declared_dispatched (unstarted c) (λ i r h. none_among r (rw (nothing i) at h))
    where
      none : (a : Bool) → (cond a (activated no_body) no_body).held ≡ []
      none a = cond_held a (activated no_body) no_body [] refl refl

      nothing : (i : ℕ) → (body_of (unstarted c) i).held ≡ []
      nothing i =
          ap (λ (b : Body). b.held) (get_or-map new_body (take c.bodies c.autostart) i 0)
          ∙ none (eqb (get_or (take c.bodies c.autostart) i 0) 1)

  pub declared_after : (es : List Event) (s : State) → Declared s → Declared (after c s es)
  unfolding after_by
  declared_after [] s d = d
  declared_after (e ∷ es) s d = declared_after es (step c s e).state (declared_step s e d)
