-- Requests that wait: a body that has begun begins again only after its end, a started ISR's second request too, and a
-- Stop leaves them all.
--
-- In order: who begins had not begun; what ends a body that has begun (`begun_stays`); the laws.
use Prim.Native.Nat.{ℕ}
use mathlib.Core.Path.{◌≡◌, refl, sym, ap, ◌∙◌}
use mathlib.Core.Bool.{Bool, true, false, true≢false}
use mathlib.Core.List.{List, [], ◌∷◌}
use mathlib.Core.Logic.{◌≢◌, ◌⊎◌, inl, inr, ⊎_elim}
use native.Mathlib.Omega.{arith}
use borrow.Author.Tests.{eq-eqb, ne_eqb}
use lib.Dec.{eqb}
use lib.ListN.{length, get_or-eq_default}
use Rattle.number.proofs.Cases.{by_lt, by_eq, cond_either}
use Rattle.config.specs.declared.Config.{Config}
use Rattle.config.specs.Meaning.{is_isr}
use Rattle.scheduler.specs.Status.{done}
use Rattle.scheduler.specs.Body.{Body, Phase, suspended, ready, started, waiting, triggered, is_started, has_begun, competes, become, activated, loses, requested, gets, releases, finished, waits, receives, clears}
use Rattle.scheduler.specs.Bits.{any_set, with_bits}
use Rattle.scheduler.specs.Choice.{by_holding, chosen}
use Rattle.scheduler.specs.State.{State, no_body, body_of, changing, runner}
use Rattle.scheduler.specs.Event.{Event, Activate, Finish, Chain, Get, Release, Tick, Line, Start, Stop, Wait, Set, Clear}
use Rattle.scheduler.specs.Tick.{dues, counted}
use Rattle.scheduler.specs.Call.{caller, finish, finish_timed, stop, status_of, effect_of, else_of}
use Rattle.scheduler.specs.Scheduler.{begins, mark_of, leaves, step, step_by}
use Rattle.scheduler.specs.History.{AcceptedIn, Ends}
use Rattle.scheduler.proofs.Body.{begun_active}
use Rattle.scheduler.proofs.Event.Masks.{resumed_begun}
use Rattle.scheduler.proofs.Choice.Runner.{Taken, no_one, body, chosen_from_lem, candidate_active, runner_timed, runner_untimed}
use Rattle.scheduler.proofs.Event.Checks.{activate_passed, chain_passed}
use Rattle.scheduler.proofs.Event.Effects.{body_of_changing_same, body_of_changing_other, else_of_keeps, entered, activating_due_keeps}
use Rattle.scheduler.proofs.Choice.Dispatch.{begins_some, Underway, dispatched_same}

-- the body that begins had not begun
begins_unbegun : (c : Config) (s : State) → begins (runner c s) ≡ true
    → has_begun (body_of s (runner c s).number).phase ≡ false
begins_unbegun c s b = by_order s.order refl
  where
    unbegun : (p : Phase) → competes p ≡ true → is_started p ≡ false → has_begun p ≡ false
    unbegun suspended h e = refl
    unbegun ready h e = refl
    unbegun started h e = e
    unbegun (waiting w) h e = absurd (true≢false (sym h))
    unbegun (triggered x) h e = absurd (true≢false (sym h))

    go : s.order ≡ [] → Taken c s.bodies (chosen c s.bodies)
        → has_begun (body_of s (runner c s).number).phase ≡ false
    go o (no_one z) = absurd (true≢false (rw (runner_untimed c s o ∙ z) at (begins_some (runner c s) b).0))
    go o (body k h p z) =
        let is = runner_untimed c s o ∙ z ∙ candidate_active c k (body_of s k) (body_of s k).phase p in
        ap (λ n. has_begun (body_of s n).phase) (ap (λ x. x.number) is)
        ∙ unbegun (body_of s k).phase p (sym (ap (λ x. x.began) is) ∙ (begins_some (runner c s) b).1)

    by_order : (js : List ℕ) → s.order ≡ js → has_begun (body_of s (runner c s).number).phase ≡ false
    by_order [] o = go o (chosen_from_lem by_holding refl c s.bodies)
    by_order (j ∷ js) o =
        let is = runner_timed c s j js o in
        ap (λ n. has_begun (body_of s n).phase) (ap (λ x. x.number) is) ∙ sym (ap (λ x. x.began) is)
        ∙ (begins_some (runner c s) b).1

marked : (b : Bool) → mark_of b ≡ 1 → b ≡ true
marked true e = refl
marked false e = absurd (omega arith)

-- a change that leaves a body begun
abbrev KeepsBegun : (Body → Body) → Type 0
KeepsBegun f = (b : Body) → has_begun b.phase ≡ true → has_begun (f b).phase ≡ true

requested_begun : KeepsBegun requested
requested_begun b h = rw h h

waits_begun : (w : ℕ) → KeepsBegun (waits w)
waits_begun w b h =
    cond_either (λ (x : Body). has_begun x.phase ≡ true) (any_set b.bits w) b (become (waiting w) b) h refl

receives_begun : (w : ℕ) → KeepsBegun (receives w)
receives_begun w b h = resumed_begun (with_bits b.bits w) b.phase ∙ h

entry_begun : (x : Bool) → KeepsBegun (entered x)
entry_begun true b h = rw (begun_active b.phase h) h
entry_begun false b h = rw (begun_active b.phase h) h

module _ (i : ℕ) where
  begun_changing : (k : ℕ) (f : Body → Body) (s : State) → KeepsBegun f → has_begun (body_of s i).phase ≡ true
      → has_begun (body_of (changing k f s) i).phase ≡ true
  begun_changing k f s keeps h =
      by_eq i k
      (λ same. by_lt i (length s.bodies)
      (λ fits. rw (← same, body_of_changing_same i f s fits) (keeps (body_of s i) h))
      (λ past. absurd
      (true≢false (sym h ∙ ap (λ b. has_begun b.phase) (get_or-eq_default s.bodies no_body past)))))
      (λ other. rw (body_of_changing_other k f s i other) h)

  begun_other : (k : ℕ) (f : Body → Body) (s : State) → k ≢ i → has_begun (body_of s i).phase ≡ true
      → has_begun (body_of (changing k f s) i).phase ≡ true
  begun_other k f s other h = rw (body_of_changing_other k f s i (λ e. other (sym e))) h

-- the body i has begun, and stays so but for its own end
module _ (c : Config) (s : State) (i : ℕ) (begun : has_begun (body_of s i).phase ≡ true) where
  -- a suspended body is another
  other : (t : ℕ) → (body_of s t).phase ≡ suspended → t ≢ i
  other t h e = true≢false (sym begun ∙ ap (λ k. has_begun (body_of s k).phase) (sym e) ∙ ap has_begun h)

  begun_stays : (e : Event) → AcceptedIn c s e
      → (Ends e × (caller c s ≡ i)) ⊎ (has_begun (body_of (effect_of c s e) i).phase ≡ true)
  unfolding step_by
  begun_stays (Activate t) a = inr (begun_other i t activated s (other t (activate_passed c s t a).2) begun)
  begun_stays Finish a =
      by_eq (caller c s) i
      (λ same. inl (inl refl, same))
      (λ d.
      let stays = begun_other i (caller c s) finished s d begun in
      inr
      (cond_either (λ x. has_begun (body_of x i).phase ≡ true) (runner c s).timed (finish_timed (caller c s) s)
      (finish (caller c s) s) stays stays))
  begun_stays (Chain t) a =
      let p = chain_passed c s t a in
      by_eq (caller c s) i
      (λ same. inl (inr (t, refl), same))
      (λ d. let not_t : t ≢ i = by_eq t (caller c s) (λ same e. d (sym same ∙ e)) (λ n. other t (p.4 n)) in
      inr (begun_other i t activated (finish (caller c s) s) not_t (begun_other i (caller c s) finished s d begun)))
  begun_stays (Get r) a = inr (begun_changing i (caller c s) (gets r) s (λ b h. h) begun)
  begun_stays (Release r) a = inr (begun_changing i (caller c s) releases s (λ b h. h) begun)
  begun_stays Tick a =
      inr
      (activating_due_keeps c (λ x. has_begun (body_of x i).phase ≡ true) (λ js x h. h)
      (λ t b x. begun_changing i t (entered b) x (entry_begun b))
      (dues c (counted s)) c.task (counted s) begun)
  begun_stays (Line j) a = inr (begun_changing i j requested s requested_begun begun)
  begun_stays (Start t d) a = inr begun
  begun_stays (Stop t) a = inr begun
  begun_stays (Wait w) a = inr (begun_changing i (caller c s) (waits w) s (waits_begun w) begun)
  begun_stays (Set t w) a = inr (begun_changing i t (receives w) s (receives_begun w) begun)
  begun_stays (Clear w) a = inr (begun_changing i (caller c s) (clears w) s (λ b h. h) begun)

  pub begins_after_end : (e : Event) → (step c s e).seen.begun ≡ 1 → (step c s e).seen.runner ≡ i
      → Ends e × (caller c s ≡ i) × AcceptedIn c s e
  unfolding step_by
  begins_after_end e b r =
      by_eq (status_of c s e) done
      (λ ok. ⊎_elim
      (λ p. (p.0, p.1, ok))
      (λ h. absurd (true≢false (sym h ∙ rw (eq-eqb (status_of c s e) done ok) at unbegun)))
      (begun_stays e ok))
      (λ bad. absurd (true≢false (sym refused_stays ∙ rw (ne_eqb (status_of c s e) done bad) at unbegun)))
    where
      unbegun : has_begun (body_of (leaves c s e) i).phase ≡ false
      unbegun = rw r at (begins_unbegun c (leaves c s e) (marked _ b))

      refused_stays : has_begun (body_of (else_of c s (status_of c s e) e) i).phase ≡ true
      refused_stays =
          else_of_keeps c s (λ x. has_begun (body_of x i).phase ≡ true) begun (status_of c s e) e
          (λ j _ _ _. begun_changing i j loses s (λ x h. h) begun)

  -- an ISR may not chain
  pub begins_after_finish : is_isr c i ≡ true → (e : Event) → (step c s e).seen.begun ≡ 1 → (step c s e).seen.runner ≡ i
      → (e ≡ Finish) × (caller c s ≡ i) × AcceptedIn c s e
  unfolding step_by
  begins_after_finish irq e b r =
      let p = begins_after_end e b r in
      ⊎_elim
      (λ f. (f, p.1, p.2))
      (λ f. absurd
      (true≢false (sym irq ∙ ap (is_isr c) (sym p.1) ∙ (chain_passed c s f.0 (rw f.1 at p.2)).1)))
      p.0

-- a Stop changes no body, so whatever waits to begin still waits
pub stop_bodies : (c : Config) (s : State) (t : ℕ) → Underway c s → (step c s (Stop t)).state.bodies ≡ s.bodies
unfolding step_by
stop_bodies c s t underway =
    ap (λ x. x.bodies)
    (dispatched_same c (leaves c s (Stop t))
    (cond_either (Underway c) (eqb (status_of c s (Stop t)) done) (stop t s) s underway underway))
    ∙ cond_either (λ x. x.bodies ≡ s.bodies) (eqb (status_of c s (Stop t)) done) (stop t s) s refl refl
