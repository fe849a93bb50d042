-- What each event makes of the event bits, and of who waits for them, in any state.
--
-- In order: who calls and who is named is one of the state's bodies; changes that keep the bits; Clear, Set and Wait;
-- what an activation clears; every other event keeps the bits of whoever is not suspended.
use Prim.Native.Nat.{ℕ, ◌≤◌, ◌<◌}
use mathlib.Core.Path.{◌≡◌, refl, sym, ap, ◌∙◌}
use mathlib.Core.Bool.{Bool, true, false, true≢false, not, ◌&&◌, ◌||◌}
use mathlib.Core.List.{List, []}
use mathlib.Core.Logic.{◌≢◌, inl, inr}
use native.Mathlib.Omega.{arith}
use borrow.Author.Tests.{eq-eqb, ne_eqb}
use lib.Dec.{eqb}
use lib.ListN.{length, get_or, set, take, get_or-map, get_or-eq_default}
use lib.Seq.{map-set_same, set-get_or}
use Rattle.number.proofs.Cases.{by_lt, by_eq, cond_either}
use Rattle.config.specs.declared.Config.{Config}
use Rattle.config.specs.Meaning.{is_timed}
use Rattle.scheduler.specs.Status.{done, first_given}
use Rattle.scheduler.specs.Bits.{bit_set, with_bits}
use Rattle.scheduler.specs.Body.{Phase, suspended, ready, started, waiting, triggered, is_suspended, Body, activated, become, loses, finished, requested, gets, releases, waits, resumed, receives, clears}
use Rattle.scheduler.specs.Choice.{Candidate, by_holding, is_nobody, chosen}
use Rattle.scheduler.specs.State.{State, no_body, body_of, changing, runner}
use Rattle.scheduler.specs.Event.{Event, Activate, Finish, Chain, Get, Release, Tick, Line, Start, Stop, Wait, Set, Clear}
use Rattle.scheduler.specs.Tick.{counted, dues, enter, ticked}
use Rattle.scheduler.specs.Call.{nobody_runs, caller, calling, request_waits, finish, status_of, effect_of}
use Rattle.scheduler.specs.Scheduler.{begins, phase_begun, dispatched, new_body, unstarted, fresh, leaves, step_by}
use Rattle.scheduler.specs.History.{AcceptedIn, Ends, next}
use Rattle.scheduler.proofs.Event.Masks.{clears_bit, receives_bit, waits_bits, waits_on, waits_for, resumed_on, resumed_not, activated_bits, new_bits}
use Rattle.scheduler.proofs.Choice.Runner.{Taken, no_one, body, chosen_from_lem, candidate_active, runner_untimed}
use Rattle.scheduler.proofs.Event.Checks.{accepted_untimed, activate_passed, chain_passed, set_passed, clear_passed, wait_passed, line_passed}
use Rattle.scheduler.proofs.Event.Effects.{body_of_changing_same, body_of_changing_other, length_changing, else_of_keeps, entered, enter_bodies, enters_keep}

-- who runs, where no time-triggered task does, is a body of the state
caller_there : (c : Config) (s : State) → s.order ≡ [] → nobody_runs c s ≡ false → caller c s < length s.bodies
caller_there c s none some = go (chosen_from_lem by_holding refl c s.bodies)
  where
    go : Taken c s.bodies (chosen c s.bodies) → caller c s < length s.bodies
    go (no_one e) = absurd (true≢false (sym (ap is_nobody (runner_untimed c s none ∙ e)) ∙ some))
    go (body k h p e) =
        let is = runner_untimed c s none ∙ e ∙ candidate_active c k (body_of s k) (body_of s k).phase p in
        omega (arith, ap (λ (x : Candidate). x.number) is)

-- and so is whoever is not suspended
pub there : (s : State) (t : ℕ) → is_suspended (body_of s t).phase ≡ false → t < length s.bodies
there s t h =
    by_lt t (length s.bodies) (λ l. l)
    (λ past. absurd (true≢false (sym (ap (λ (b : Body). is_suspended b.phase) (get_or-eq_default s.bodies no_body past)) ∙ h)))

-- a change that keeps the bits of the body that it changes keeps all
bits_changing : (i : ℕ) (f : Body → Body) (s : State) → (f (body_of s i)).bits ≡ (body_of s i).bits
    → (b : ℕ) → (body_of (changing i f s) b).bits ≡ (body_of s b).bits
bits_changing i f s keeps b =
    sym (get_or-map (λ (x : Body). x.bits) (changing i f s).bodies b no_body)
    ∙ ap (λ l. get_or l b 0) (map-set_same (λ (x : Body). x.bits) s.bodies i (f (body_of s i)) no_body keeps)
    ∙ get_or-map (λ (x : Body). x.bits) s.bodies b no_body

module _ (c : Config) where
  bits_dispatched : (s : State) (b : ℕ) → (body_of (dispatched c s) b).bits ≡ (body_of s b).bits
  bits_dispatched s b =
      cond_either (λ x. (body_of x b).bits ≡ (body_of s b).bits) (begins (runner c s)) _ s
      (bits_changing (runner c s).number (become (phase_begun (runner c s))) s refl b)
      refl

  bits_next : (s : State) (e : Event) (b : ℕ) → (body_of (next c s e) b).bits ≡ (body_of (leaves c s e) b).bits
  unfolding step_by
  bits_next s e = bits_dispatched (leaves c s e)

  pub accepted_leaves : (s : State) (e : Event) → AcceptedIn c s e → leaves c s e ≡ effect_of c s e
  unfolding step_by
  accepted_leaves s e a = rw (eq-eqb (status_of c s e) done a)

  -- what the effect keeps, and every refusal does, the event keeps
  leaves_keep : (s : State) (e : Event) (b : ℕ)
      → (AcceptedIn c s e → (body_of (effect_of c s e) b).bits ≡ (body_of s b).bits)
      → (body_of (leaves c s e) b).bits ≡ (body_of s b).bits
  unfolding step_by
  leaves_keep s e b keeps =
      by_eq (status_of c s e) done
      (λ a. rw (eq-eqb (status_of c s e) done a) (keeps a))
      (λ n. rw (ne_eqb (status_of c s e) done n)
      (else_of_keeps c s (λ x. (body_of x b).bits ≡ (body_of s b).bits) refl (status_of c s e) e
      (λ i _ _ _. bits_changing i loses s refl b)))

  -- Clear
  module _ (s : State) (w : ℕ) where
    pub clear_bit : AcceptedIn c s (Clear w) → (i : ℕ)
        → bit_set (body_of (next c s (Clear w)) (caller c s)).bits i ≡ bit_set (calling c s).bits i && not (bit_set w i)
    unfolding step_by
    clear_bit a i =
        ap (λ n. bit_set n i)
        (bits_next s (Clear w) (caller c s)
        ∙ ap (λ (x : State). (body_of x (caller c s)).bits) (accepted_leaves s (Clear w) a)
        ∙ ap (λ (b : Body). b.bits)
        (body_of_changing_same (caller c s) (clears w) s
        (caller_there c s (accepted_untimed c s (Clear w) refl a) (clear_passed c s w a).0)))
        ∙ clears_bit w (calling c s) i

    pub clear_others : (b : ℕ) → b ≢ caller c s → (body_of (next c s (Clear w)) b).bits ≡ (body_of s b).bits
    clear_others b d =
        bits_next s (Clear w) b
        ∙ leaves_keep s (Clear w) b
        (λ a. ap (λ (x : Body). x.bits) (body_of_changing_other (caller c s) (clears w) s b d))

  -- Set
  module _ (s : State) (t w : ℕ) where
    set_there : AcceptedIn c s (Set t w) → t < length s.bodies
    unfolding step_by
    set_there a = there s t (quiet (is_suspended (body_of s t).phase) (set_passed c s t w a).3)
      where
        quiet : (p : Bool) → not p ≡ true → p ≡ false
        quiet true h = absurd (true≢false (sym h))
        quiet false h = refl

    set_body : AcceptedIn c s (Set t w) → body_of (leaves c s (Set t w)) t ≡ receives w (body_of s t)
    set_body a =
        ap (λ (x : State). body_of x t) (accepted_leaves s (Set t w) a)
        ∙ body_of_changing_same t (receives w) s (set_there a)

    pub set_bit : AcceptedIn c s (Set t w) → (i : ℕ)
        → bit_set (body_of (next c s (Set t w)) t).bits i ≡ bit_set (body_of s t).bits i || bit_set w i
    set_bit a i =
        ap (λ n. bit_set n i) (bits_next s (Set t w) t ∙ ap (λ (b : Body). b.bits) (set_body a))
        ∙ receives_bit w (body_of s t) i

    pub set_others : (b : ℕ) → b ≢ t → (body_of (next c s (Set t w)) b).bits ≡ (body_of s b).bits
    set_others b d =
        bits_next s (Set t w) b
        ∙ leaves_keep s (Set t w) b
        (λ a. ap (λ (x : Body). x.bits) (body_of_changing_other t (receives w) s b d))

    -- who waits goes on exactly if a waited bit is set then
    pub set_resumes : AcceptedIn c s (Set t w) → (v i : ℕ) → (body_of s t).phase ≡ waiting v
        → (bit_set (body_of s t).bits i || bit_set w i) && bit_set v i ≡ true
        → (body_of (leaves c s (Set t w)) t).phase ≡ started
    set_resumes a v i q h =
        ap (λ (b : Body). b.phase) (set_body a)
        ∙ ap (resumed (with_bits (body_of s t).bits w)) q
        ∙ resumed_on v (body_of s t) (with_bits (body_of s t).bits w) i
        (ap (λ x. x && bit_set v i) (receives_bit w (body_of s t) i) ∙ h)

    pub set_waits_on : AcceptedIn c s (Set t w) → (v : ℕ) → (body_of s t).phase ≡ waiting v
        → ((i : ℕ) → (bit_set (body_of s t).bits i || bit_set w i) && bit_set v i ≡ false)
        → (body_of (leaves c s (Set t w)) t).phase ≡ waiting v
    set_waits_on a v q none =
        ap (λ (b : Body). b.phase) (set_body a)
        ∙ ap (resumed (with_bits (body_of s t).bits w)) q
        ∙ resumed_not v (body_of s t) (with_bits (body_of s t).bits w)
        (λ i. ap (λ x. x && bit_set v i) (receives_bit w (body_of s t) i) ∙ none i)

    -- nobody else is touched
    pub set_alone : (b : ℕ) → b ≢ t → body_of (leaves c s (Set t w)) b ≡ body_of s b
    set_alone b d =
        cond_either (λ (x : State). body_of x b ≡ body_of s b) (eqb (status_of c s (Set t w)) done) _ _
        (body_of_changing_other t (receives w) s b d)
        refl

  -- Wait
  module _ (s : State) (w : ℕ) where
    pub wait_bits : (b : ℕ) → (body_of (next c s (Wait w)) b).bits ≡ (body_of s b).bits
    wait_bits b =
        bits_next s (Wait w) b
        ∙ leaves_keep s (Wait w) b (λ a. bits_changing (caller c s) (waits w) s (waits_bits w (calling c s)) b)

    pub wait_goes_on : AcceptedIn c s (Wait w) → (i : ℕ) → bit_set (calling c s).bits i && bit_set w i ≡ true
        → leaves c s (Wait w) ≡ s
    wait_goes_on a i h =
        accepted_leaves s (Wait w) a
        ∙ ap (λ (bs : List Body). record { bodies = bs; tables = s.tables; order = s.order })
        (ap (set s.bodies (caller c s)) (waits_on w (calling c s) i h)
        ∙ set-get_or s.bodies (caller c s) no_body)

    pub wait_waits : AcceptedIn c s (Wait w) → ((i : ℕ) → bit_set (calling c s).bits i && bit_set w i ≡ false)
        → body_of (leaves c s (Wait w)) (caller c s) ≡ become (waiting w) (calling c s)
    unfolding step_by
    wait_waits a none =
        ap (λ (x : State). body_of x (caller c s)) (accepted_leaves s (Wait w) a)
        ∙ body_of_changing_same (caller c s) (waits w) s
        (caller_there c s (accepted_untimed c s (Wait w) refl a) (wait_passed c s w a).0)
        ∙ waits_for w (calling c s) none

    pub wait_alone : (b : ℕ) → b ≢ caller c s → body_of (leaves c s (Wait w)) b ≡ body_of s b
    wait_alone b d =
        cond_either (λ (x : State). body_of x b ≡ body_of s b) (eqb (status_of c s (Wait w)) done) _ _
        (body_of_changing_other (caller c s) (waits w) s b d)
        refl

  -- "cleared when it is activated from suspended": also where the body is not there
  activating_bits : (t : ℕ) (s : State) → (body_of (changing t activated s) t).bits ≡ 0
  activating_bits t s =
      by_lt t (length s.bodies)
      (λ h. ap (λ (b : Body). b.bits) (body_of_changing_same t activated s h) ∙ activated_bits (body_of s t))
      (λ past.
      let beyond : length (changing t activated s).bodies ≤ t = rw (length_changing t activated s) past in
      ap (λ (b : Body). b.bits) (get_or-eq_default (changing t activated s).bodies no_body beyond))

  pub activate_bits : (s : State) (t : ℕ) → AcceptedIn c s (Activate t) → (body_of (next c s (Activate t)) t).bits ≡ 0
  activate_bits s t a =
      bits_next s (Activate t) t
      ∙ ap (λ (x : State). (body_of x t).bits) (accepted_leaves s (Activate t) a)
      ∙ activating_bits t s

  pub chain_bits : (s : State) (t : ℕ) → AcceptedIn c s (Chain t) → (body_of (next c s (Chain t)) t).bits ≡ 0
  chain_bits s t a =
      bits_next s (Chain t) t
      ∙ ap (λ (x : State). (body_of x t).bits) (accepted_leaves s (Chain t) a)
      ∙ activating_bits t (finish (caller c s) s)

  pub fresh_bits : (b : ℕ) → (body_of (fresh c) b).bits ≡ 0
  fresh_bits b =
      bits_dispatched (unstarted c) b
      ∙ ap (λ (x : Body). x.bits) (get_or-map new_body (take c.bodies c.autostart) b 0)
      ∙ new_bits (get_or (take c.bodies c.autostart) b 0)

  -- a Tick leaves the bits that its due entries left
  pub tick_bits : (s : State) (b : ℕ) → (body_of (next c s Tick) b).bits ≡ (body_of (ticked c s) b).bits
  unfolding step_by first_given
  tick_bits s b = bits_next s Tick b

  -- an entry keeps the bits of a body that is not suspended, and it stays so
  module _ (s : State) (b : ℕ) where
    abbrev Keeps : State → Type 0
    Keeps x = ((body_of x b).bits ≡ (body_of s b).bits) × (is_suspended (body_of x b).phase ≡ false)

    entered_keeps : (y : Bool) (x : Body) → is_suspended x.phase ≡ false
        → ((entered y x).bits ≡ x.bits) × (is_suspended (entered y x).phase ≡ false)
    entered_keeps true x h = rw h (refl, h)
    entered_keeps false x h = rw h (refl, h)

    enter_keeps : (t : ℕ) (x : State) → Keeps x → Keeps (enter c t x)
    enter_keeps t x k = rw (enter_bodies c t x) (go (body_of_changing_other t f x b) (body_of_changing_same t f x))
      where
        f : Body → Body
        f = entered (is_timed c t)

        go : (b ≢ t → body_of (changing t f x) b ≡ body_of x b)
            → (t < length x.bodies → body_of (changing t f x) t ≡ f (body_of x t))
            → ((get_or (changing t f x).bodies b no_body).bits ≡ (body_of s b).bits)
            × (is_suspended (get_or (changing t f x).bodies b no_body).phase ≡ false)
        go other it =
            by_eq b t
            (λ q.
            let h : is_suspended (body_of x t).phase ≡ false = rw q at k.1 in
            let p = entered_keeps (is_timed c t) (body_of x t) h in
            let is = it (there x t h) in
            rw q (rw is (p.0 ∙ rw q at k.0, p.1)))
            (λ d. rw (other d) k)

    ticked_keeps : is_suspended (body_of s b).phase ≡ false → (body_of (ticked c s) b).bits ≡ (body_of s b).bits
    ticked_keeps h = (enters_keep c Keeps enter_keeps (dues c (counted s)) c.task (counted s) (refl, h)).0

  -- neither a Wait nor a resumption clears a bit, nor does any other event: of a body that is not suspended a Clear of
  -- its own, a Set that names it and its own end alone change them
  pub bits_kept : (s : State) (b : ℕ) → (body_of s b).phase ≢ suspended → (e : Event) → (Ends e → caller c s ≢ b)
      → ((w : ℕ) → e ≢ Set b w)
      → ((w : ℕ) → e ≡ Clear w → caller c s ≢ b)
      → (body_of (next c s e) b).bits ≡ (body_of s b).bits
  unfolding step_by
  bits_kept s b begun e ends unset unclear =
      bits_next s e b ∙ leaves_keep s e b (λ a. effect e a ends unset unclear)
    where
      unsuspended : is_suspended (body_of s b).phase ≡ false
      unsuspended = go (body_of s b).phase refl
        where
          go : (p : Phase) → (body_of s b).phase ≡ p → is_suspended (body_of s b).phase ≡ false
          go suspended q = absurd (begun q)
          go ready q = ap is_suspended q
          go started q = ap is_suspended q
          go (waiting w) q = ap is_suspended q
          go (triggered x) q = ap is_suspended q

      other : (i : ℕ) (f : Body → Body) (x : State) → b ≢ i → (body_of (changing i f x) b).bits ≡ (body_of x b).bits
      other i f x d = ap (λ (y : Body). y.bits) (body_of_changing_other i f x b d)

      -- a Line finds its ISR suspended, or begun
      lined : (x : Body) (p : Phase) → x.phase ≡ p → is_suspended p ≡ false → request_waits x p ≡ false
          → (requested x).bits ≡ x.bits
      lined x suspended q h r = absurd (true≢false h)
      lined x ready q h r = absurd (true≢false r)
      lined x started q h r = rw q
      lined x (waiting w) q h r = rw q
      lined x (triggered true) q h r = rw q
      lined x (triggered false) q h r = absurd (true≢false r)

      effect : (e : Event) → AcceptedIn c s e → (Ends e → caller c s ≢ b) → ((w : ℕ) → e ≢ Set b w)
          → ((w : ℕ) → e ≡ Clear w → caller c s ≢ b)
          → (body_of (effect_of c s e) b).bits ≡ (body_of s b).bits
      effect (Activate t) a ends unset unclear =
          other t activated s (λ q. begun (ap (λ n. (body_of s n).phase) q ∙ (activate_passed c s t a).2))
      effect Finish a ends unset unclear =
          let d = ends (inl refl) in
          cond_either (λ (x : State). (body_of x b).bits ≡ (body_of s b).bits) (runner c s).timed _ _
          (other (caller c s) finished s (λ q. d (sym q)))
          (other (caller c s) finished s (λ q. d (sym q)))
      effect (Chain t) a ends unset unclear =
          let d = ends (inr (t, refl)) in
          other t activated (finish (caller c s) s)
          (λ q. begun (ap (λ n. (body_of s n).phase) q
          ∙ (chain_passed c s t a).4 (λ z. d (sym (q ∙ z)))))
          ∙ other (caller c s) finished s (λ q. d (sym q))
      effect (Get r) a ends unset unclear = bits_changing (caller c s) (gets r) s refl b
      effect (Release r) a ends unset unclear = bits_changing (caller c s) releases s refl b
      effect Tick a ends unset unclear = ticked_keeps s b unsuspended
      effect (Line i) a ends unset unclear =
          by_eq b i
          (λ q. bits_changing i requested s
          (lined (body_of s i) (body_of s i).phase refl (rw q at unsuspended) (line_passed c s i a).1) b)
          (λ d. other i requested s d)
      effect (Start t d) a ends unset unclear = refl
      effect (Stop t) a ends unset unclear = refl
      effect (Wait w) a ends unset unclear = bits_changing (caller c s) (waits w) s (waits_bits w (calling c s)) b
      effect (Set t w) a ends unset unclear =
          other t (receives w) s (λ q. unset w (ap (λ n. Set n w) (sym q)))
      effect (Clear w) a ends unset unclear = other (caller c s) (clears w) s (λ q. unclear w refl (sym q))
