-- Wait, Set and Clear do the same to the model as to the state.
use Prim.Native.Nat.{ℕ}
use mathlib.Core.Path.{◌≡◌, refl, sym, ap, ◌∙◌}
use mathlib.Core.Bool.{Bool, true, false, cond, not, not-not}
use mathlib.Core.List.{List, [], ◌∷◌}
use native.Mathlib.Omega.{arith}
use borrow.Author.Tests.{not-false, not-true, ne_eqb, lt-ltb, le-ltb}
use lib.Dec.{eqb}
use lib.ListN.{length, get_or, set, length-set}
use lib.Seq.{get_or-set_same, get_or-set_other, set-get_or}
use Rattle.number.proofs.Cases.{by_lt}
use Rattle.config.specs.declared.Config.{Config}
use Rattle.config.specs.Meaning.{isr, extended, time_triggered, is_task, is_isr, is_extended, is_timed}
use Rattle.plan.specs.declared.Plan.{Plan}
use Rattle.word.specs.Word.{has, without}
use Rattle.scheduler.specs.Status.{done, call_level, no_such, access, holds_resource, wrong_state}
use Rattle.scheduler.specs.Bits.{any_set, without_bits}
use Rattle.scheduler.specs.Body.{waiting, is_suspended, competes, Body, become, receives, clears}
use Rattle.scheduler.specs.State.{State, no_body, changing}
use Rattle.scheduler.specs.Call.{caller, wait_status, set_status, clear_status, wait, set_event, clear}
use Rattle.scheduler.specs.Tick.{dues}
use Rattle.scheduler.specs.Scheduler.{Wait, Set, Clear, step_by}
use Rattle.scheduler.proofs.Kind.{of_one_kind}
use Rattle.scheduler.proofs.Body.{nothing_held}
use Rattle.scheduler.proofs.Body.{competes_active, started_competes}
use Rattle.scheduler.proofs.Event.Checks.{wait_passed, set_passed}
use Rattle.scheduler.proofs.Order.Invariant.{Orderly}
use Rattle.machine.specs.Model.{Core, Model, no_rank, with_begun, done_with}
use Rattle.machine.specs.Arbiter.{settled}
use Rattle.machine.specs.Events as Machine
use Rattle.machine.specs.Events.{bits_at, pausing, receiving, clearing}
use Rattle.machine.specs.Machine.{status_of, effect_of, else_of}
use Rattle.plan.proofs.Fitted.{Fitted}
use Rattle.machine.proofs.Relation.Words.{at, busy_is, words_changed, marks_same, unmoved_same}
use Rattle.machine.proofs.Relation.Losses.{lost_same}
use Rattle.machine.proofs.Relation.Bits.{NotedOf, noted_changed}
use Rattle.machine.proofs.Relation.Whole.{Tied, Sim}
use Rattle.machine.proofs.Relation.Order.{untriggered}
use Rattle.machine.proofs.Arbitration.Dispatch.{rank_below}
use Rattle.machine.proofs.Change.Request.{touched_tied, event_bits_tied}
use Rattle.machine.proofs.Change.End.{pause_tied}
use Rattle.machine.proofs.Change.Bits.{bits_of, receive_tied, receive_noted, clear_noted}
use Rattle.machine.proofs.Event.Agrees.{kept, first_same, Agrees, Done, Keeps, Runs, call_same, by_call, caller_same, untimed_tied, settled_done, calm_done, agrees_attempt}
use Rattle.machine.proofs.Event.Bodies.{task_exists, holding_same}

module _ {c : Config} {p : Plan} {rk : ℕ → ℕ} (fit : Fitted c p rk) {m : Model} {s : State} (sim : Sim c p rk m s)
    (keeps : Keeps c s) (long : length (dues c s) ≡ p.count) where
  abbrev bs : List Body
  bs = s.bodies

  -- "not extended", of the runner
  extended_same : {b : ℕ} {ns : List ℕ} → Runs c rk m s b ns
      → has p.extended m.core.runner ≡ is_extended c (caller c s)
  extended_same {b} k = rw k.rank (fit.extended_at b k.exists) ∙ ap (is_extended c) (sym k.calls)

  runner_active : {b : ℕ} {ns : List ℕ} → Runs c rk m s b ns → is_suspended (at bs b).phase ≡ false
  runner_active {b} k = competes_active (at bs b).phase (started_competes (at bs b).phase k.started_now)

  runner_bits : {b : ℕ} {ns : List ℕ} → Runs c rk m s b ns → bits_at m m.core.runner ≡ (at bs b).bits
  runner_bits {b} k = ap (bits_at m) k.rank ∙ bits_of m sim.noted b k.exists (runner_active k)

  -- Wait
  wait_status_lem : (w : ℕ) → Machine.wait_status p.extended m ≡ wait_status c s w
  wait_status_lem w =
      call_same fit sim _ _
      (λ b ns k. first_same access _ _ (ap not (extended_same k))
      (λ _. first_same holds_resource _ _ (holding_same fit sim keeps long k) (λ _. refl)))

  -- where no waited bit is set the runner waits
  paused_noted : {b : ℕ} {ns : List ℕ} → Runs c rk m s b ns → (w : ℕ)
      → NotedOf c rk (pausing w m) (set bs b (become (waiting w) (at bs b)))
  paused_noted {b} k w =
      noted_changed fit sim.noted sim.tied.size b k.exists (become (waiting w) (at bs b)) _ _ _
      sim.noted.bits_long
      (length-set m.waited m.core.runner w ∙ sim.noted.masks_long)
      (bits_of m sim.noted b k.exists (runner_active k))
      (λ v h. waits_for ∙ mask w v h)
      (λ r d. refl)
      (λ r d. get_or-set_other m.waited m.core.runner r w 0 (λ e. d (e ∙ k.rank)))
    where
      -- the mask at its rank is that of the Wait
      waits_for : get_or (pausing w m).waited (rk b) 0 ≡ w
      waits_for =
          ap (λ (r : ℕ). get_or (set m.waited r w) (rk b) 0) k.rank
          ∙ get_or-set_same m.waited (rk b) w 0 (omega (arith, sim.noted.masks_long, rank_below fit b k.exists))

      mask : (u v : ℕ) → waiting u ≡ waiting v → u ≡ v
      mask u v h = cc

  -- the runner b goes on where z, and else waits
  abbrev waits : ℕ → ℕ → Bool → State
  waits b w z = changing b (λ x. cond z x (become (waiting w) x)) s

  wait_done : {b : ℕ} {ns : List ℕ} → Runs c rk m s b ns → is_isr c b ≡ false → (w : ℕ) → (at bs b).held ≡ [] → (z : Bool)
      → Orderly c (waits b w z)
      → Done c p rk (cond z (done_with m false) (settled p.priority (pausing w m))) (waits b w z)
  wait_done {b} k task w free true mid =
      rw (set-get_or bs b no_body)
      (calm_done fit sim.orderly sim.tied sim.row sim.cells sim.lost sim.noted sim.calm)
  wait_done {b} k task w free false mid =
      settled_done fit mid
      (untimed_tied fit k.none_timed (pause_tied fit k.tied free task w))
      sim.row
      sim.cells
      (lost_same (kept (λ x. x.losses) (become (waiting w)) (λ x. refl) bs b) sim.lost)
      (paused_noted k w)

  pub agrees_wait : (w : ℕ) → Agrees c p rk m s (Wait w)
  unfolding status_of effect_of else_of step_by
  agrees_wait w =
      agrees_attempt fit sim keeps long (Wait w) (Machine.wait_effect p.priority m w) (wait (caller c s) w s)
      refl refl refl (wait_status_lem w)
      (λ z.
      let a = wait_passed c s w z in
      let mid = keeps.effect (Wait w) refl z in
      by_call fit sim _ z
      (λ b ns k.
      let free = nothing_held (at bs b).held (rw k.calls at a.2) in
      let extends : is_extended c b ≡ true = rw k.calls at a.1 in
      let task : is_isr c b ≡ false = of_one_kind c b extended isr (λ e. absurd (omega (arith, e))) extends in
      rw k.calls
      (rw (runner_bits k)
      (wait_done k task w free (any_set (at bs b).bits w) (rw k.calls at mid)))))

  -- the event bits that an accepted Wait finds
  pub caller_bits : (w : ℕ) → wait_status c s w ≡ done → bits_at m m.core.runner ≡ (at bs (caller c s)).bits
  caller_bits w z = by_call fit sim _ z (λ b ns k. rw k.calls (runner_bits k))

  -- Set
  no_task_is : (t : ℕ) → Machine.no_task p.isrs (get_or p.rank t no_rank) ≡ not (is_task c t)
  no_task_is t =
      by_lt t c.bodies
      (λ h.
      let some = ne_eqb (rk t) no_rank (λ z. absurd (omega (arith, z, rank_below fit t h))) in
      rw (fit.body_rank t h, some, fit.isr_at t h, lt-ltb t c.bodies h)
      (sym (not-not (eqb (get_or c.kind t 0) isr))))
      (λ h. rw (fit.rank_none t h, le-ltb t c.bodies h))

  set_status_lem : (t w : ℕ) → Machine.set_status p.isrs p.extended p.rank m t ≡ set_status c s t w
  set_status_lem t w =
      first_same call_level _ _ (caller_same fit sim)
      (λ _. first_same no_such _ _ (no_task_is t)
      (λ h. let t< = task_exists c t (not-false (is_task c t) h) in
      first_same access _ _ (rw (fit.body_rank t t<) (ap not (fit.extended_at t t<)))
      (λ _. first_same wrong_state _ _ (rw (fit.body_rank t t<) (ap not (busy_is sim.tied.words t t<)))
      (λ _. refl))))

  pub agrees_set : (t w : ℕ) → Agrees c p rk m s (Set t w)
  unfolding status_of effect_of else_of step_by
  agrees_set t w =
      agrees_attempt fit sim keeps long (Set t w)
      (settled p.priority (receiving (get_or p.rank t no_rank) w m)) (set_event t w s)
      refl refl refl (set_status_lem t w)
      (λ z.
      let a = set_passed c s t w z in
      let t< = task_exists c t a.1 in
      let untimed : is_timed c t ≡ false =
      of_one_kind c t extended time_triggered (λ e. absurd (omega (arith, e))) a.2 in
      let act : is_suspended (at bs t).phase ≡ false = not-true (is_suspended (at bs t).phase) a.3 in
      rw (fit.body_rank t t<)
      (settled_done fit (keeps.effect (Set t w) refl z)
      (receive_tied fit m t t< sim.noted act w sim.tied (untriggered sim.orderly t untimed))
      sim.row
      sim.cells
      (lost_same (kept (λ x. x.losses) (receives w) (λ x. refl) bs t) sim.lost)
      (receive_noted fit m t t< sim.noted act w sim.tied.size)))

  -- Clear
  clear_status_lem : (w : ℕ) → Machine.clear_status p.extended m ≡ clear_status c s w
  clear_status_lem w =
      call_same fit sim _ _ (λ b ns k. first_same access _ _ (ap not (extended_same k)) (λ _. refl))

  clear_tied : {b : ℕ} {ns : List ℕ} → Runs c rk m s b ns → (w : ℕ)
      → Tied c rk (clearing w m) (set bs b (clears w (at bs b))) [] (b ∷ ns)
  clear_tied {b} k w =
      event_bits_tied
      (touched_tied k.tied fit b k.exists (clears w (at bs b)) refl (λ _. refl) same
      (words_changed fit k.tied.words k.tied.size b k.exists (clears w (at bs b)) same
      (k.tied.words.suits b)
      (marks_same k.tied.words b k.exists (clears w (at bs b)) refl refl m.core.runner m.core.level)
      (unmoved_same k.tied.words m.core.runner m.core.level (rk b)))
      refl
      refl)
      (without m.cleared m.core.runner)
      (set m.bits m.core.runner (without_bits (bits_at m m.core.runner) w))
      m.waited
    where
      same : Core
      same = with_begun m.core m.core.started m.core.aside

  pub agrees_clear : (w : ℕ) → Agrees c p rk m s (Clear w)
  unfolding status_of effect_of else_of step_by
  agrees_clear w =
      agrees_attempt fit sim keeps long (Clear w) (done_with (clearing w m) false) (clear (caller c s) w s)
      refl refl refl (clear_status_lem w)
      (λ z. by_call fit sim _ z
      (λ b ns k. rw k.calls
      (calm_done fit (rw k.calls at (keeps.effect (Clear w) refl z))
      (untimed_tied fit k.none_timed (clear_tied k w))
      sim.row
      sim.cells
      (lost_same (kept (λ x. x.losses) (clears w) (λ x. refl) bs b) sim.lost)
      (rw k.rank (clear_noted fit m b k.exists sim.noted (runner_active k) w sim.tied.size))
      (λ i i< u. sim.calm i i< (sym (kept (λ x. competes x.phase) (clears w) (λ x. refl) bs b i) ∙ u)))))
