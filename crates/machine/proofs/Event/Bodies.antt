-- Activate, Line, Finish and Chain do the same to the model as to the state.
use Prim.Native.Nat.{ℕ, ◌<◌}
use mathlib.Core.Path.{◌≡◌, refl, sym, ap, ap₂, subst, ◌∙◌}
use mathlib.Core.Logic.{◌≢◌}
use mathlib.Core.Bool.{Bool, true, false, true≢false, cond, not, ◌&&◌, and-false}
use mathlib.Core.List.{List, ◌∷◌, map}
use native.Mathlib.Omega.{arith}
use borrow.Author.Tests.{eq-eqb, ne_eqb, ltb-true, not-false}
use lib.Dec.{ltb, eqb}
use lib.ListN.{length, get_or, set, length-set}
use lib.Seq.{get_or-set_same, get_or-set_other}
use Rattle.number.proofs.Cases.{by_test, by_eq, and_true, neither, cond_either}
use Rattle.config.specs.declared.Config.{Config}
use Rattle.config.specs.Meaning.{counts_lines, is_task, is_osek_task, is_isr}
use Rattle.plan.specs.declared.Plan.{Plan}
use Rattle.word.specs.Word.{has}
use Rattle.stack.specs.Stack.{pop_row, row_bytes}
use Rattle.word.proofs.Theorems.{has_with_same, has_with_other}
use Rattle.scheduler.specs.Status.{first_given, call_level, no_such, limit_reached, holds_resource}
use Rattle.scheduler.specs.Body.{Phase, suspended, ready, started, waiting, triggered, is_started, is_waiting, has_begun, competes, Body, holds, activated, finished, rest, requested, loses}
use Rattle.scheduler.specs.State.{State, no_body, among, body_of, changing, runner}
use Rattle.scheduler.specs.Call.{nobody_calls, caller, calling, finish_status, chain_status, line_status, activate, finish, finish_timed, chain, line}
use Rattle.scheduler.specs.Call as Plain
use Rattle.scheduler.specs.Tick.{dues}
use Rattle.scheduler.specs.Scheduler.{Activate, Finish, Chain, Line, step_by}
use Rattle.scheduler.proofs.Body.{nothing_held}
use Rattle.scheduler.proofs.Kind.{timed_body}
use Rattle.scheduler.proofs.Event.Effects.{finished_losses}
use Rattle.scheduler.proofs.Order.Invariant.{Orderly}
use Rattle.scheduler.proofs.Event.Checks.{activate_passed, finish_passed, chain_passed, line_passed}
use Rattle.scheduler.proofs.Members.{among_tail}
use Rattle.machine.specs.Model.{Model, no_rank, with_losses}
use Rattle.machine.specs.Arbiter.{settled, leaving, requesting, timed, returning}
use Rattle.machine.specs.Resources.{holding}
use Rattle.machine.specs.Cells.{one_lost}
use Rattle.machine.specs.Events as Machine
use Rattle.machine.specs.Machine.{status_of, effect_of, else_of}
use Rattle.plan.proofs.Fitted.{Fitted}
use Rattle.machine.proofs.Relation.Words.{at, wants, is_aside, busy_is}
use Rattle.machine.proofs.Relation.Rows.{Shows, row_shows_popped}
use Rattle.machine.proofs.Relation.Order.{latest_free}
use Rattle.machine.proofs.Relation.Losses.{lost_same, lost_one}
use Rattle.machine.proofs.Relation.Bits.{event_bits, Noted, NotedOf, noted_touched, noted_changed}
use Rattle.machine.proofs.Relation.Whole.{Tied, Sim}
use Rattle.machine.proofs.Arbitration.Dispatch.{rank_below}
use Rattle.machine.proofs.Change.Request.{elsewhere, activate_tied, loss_tied, line_tied}
use Rattle.machine.proofs.Change.End.{end_tied}
use Rattle.machine.proofs.Change.Hold.{holding_is, holding_timed}
use Rattle.machine.proofs.Change.Return.{return_tied}
use Rattle.machine.proofs.Event.Agrees.{kept, first_same, first_passed, Agrees, Done, Keeps, Runs, Enters, by_runner, by_caller, caller_same, untimed_tied, settled_done, agrees_either, agrees_attempt}

module _ (c : Config) where
  pub task_exists : (t : ℕ) → is_task c t ≡ true → t < c.bodies
  task_exists t e = ltb-true t c.bodies (and_true (ltb t c.bodies) _ e).0

  osek_exists : (t : ℕ) → is_osek_task c t ≡ true → t < c.bodies
  osek_exists t e = task_exists t (and_true (is_task c t) _ e).0

  isr_exists : (i : ℕ) → is_isr c i ≡ true → i < c.bodies
  isr_exists i e = ltb-true i c.bodies (and_true (ltb i c.bodies) _ e).0

module _ {c : Config} {p : Plan} {rk : ℕ → ℕ} (fit : Fitted c p rk) where
  -- a test that both sides make: whether a body has a rank among those of its kind
  missing_rank : (exists : ℕ → Bool) → ((b : ℕ) → exists b ≡ true → b < c.bodies)
      → (t : ℕ) {r : ℕ} → r ≡ cond (exists t) (rk t) no_rank → eqb r no_rank ≡ not (exists t)
  missing_rank exists real t e = rw e (go (exists t) refl)
    where
      go : (b : Bool) → exists t ≡ b → eqb (cond b (rk t) no_rank) no_rank ≡ not b
      go true h = ne_eqb (rk t) no_rank (λ z. absurd (omega (arith, z, rank_below fit t (real t h))))
      go false h = refl

  no_task_lem : (t : ℕ) → eqb (get_or p.callable t no_rank) no_rank ≡ not (is_osek_task c t)
  no_task_lem t = missing_rank (is_osek_task c) (osek_exists c) t (fit.callable_rank_lem t)

  callable_rank_is : (t : ℕ) → is_osek_task c t ≡ true → get_or p.callable t no_rank ≡ rk t
  callable_rank_is t h = fit.callable_rank_lem t ∙ rw h

  line_rank_is : (i : ℕ) → is_isr c i ≡ true → get_or p.line i no_rank ≡ rk i
  line_rank_is i h = fit.line_rank_lem i ∙ rw h

  -- a body that is activated has no event bits afterwards, and had none that count
  activated_noted : {x : ℕ} {es ws : List ℕ} {bs : List Body} → Noted c rk x es ws bs → length bs ≡ c.bodies
      → (b : ℕ) → b < c.bodies
      → event_bits (at bs b) ≡ 0 → Noted c rk x es ws (set bs b (activated (at bs b)))
  activated_noted {bs = bs} n size b b< none =
      noted_touched fit n size b b< (activated (at bs b)) none (λ w h. absurd (true≢false (sym (ap is_waiting h))))

  module _ {m : Model} {s : State} (sim : Sim c p rk m s) (keeps : Keeps c s)
      (long : length (dues c s) ≡ p.count) where
    abbrev bs : List Body
    bs = s.bodies

    -- Activate
    pub agrees_activate : (t : ℕ) → Agrees c p rk m s (Activate t)
    unfolding status_of effect_of else_of step_by
    agrees_activate t =
        agrees_attempt fit sim keeps long (Activate t)
        (settled p.priority (requesting (get_or p.callable t no_rank) m)) (activate t s)
        refl refl refl
        (first_same call_level _ _ (caller_same fit sim)
        (λ _. first_same no_such _ _ (no_task_lem t)
        (λ h. let k = not-false (is_osek_task c t) h in
        first_same limit_reached _ _
        (rw (callable_rank_is t k) (busy_is sim.tied.words t (osek_exists c t k)))
        (λ _. refl))))
        (λ z.
        let a = activate_passed c s t z in
        let t< = osek_exists c t a.1 in
        rw (callable_rank_is t a.1)
        (settled_done fit (keeps.effect (Activate t) refl z)
        (activate_tied sim.tied fit t t< (ap is_started a.2) (ap is_aside a.2))
        sim.row
        sim.cells
        (lost_same (kept (λ x. x.losses) activated (λ x. refl) bs t) sim.lost)
        (activated_noted sim.noted sim.tied.size t t< (rw a.2))))

    -- Line
    line_status_lem : (i : ℕ) → Machine.line_status p.line m i ≡ line_status c s i
    line_status_lem i =
        first_same no_such _ _ (missing_rank (is_isr c) (isr_exists c) i (fit.line_rank_lem i))
        (λ h. let k = not-false (is_isr c i) h in
        first_same limit_reached _ _
        (rw (line_rank_is i k) (sim.tied.words.asks i (isr_exists c i k)))
        (λ _. refl))

    -- a body loses one more, on both sides
    lost_sim : (i : ℕ) → i < c.bodies → Orderly c (changing i loses s)
        → Sim c p rk (with_losses m (one_lost (rk i) m.losses)) (changing i loses s)
    lost_sim i i< mid =
        record {
          nest = sim.nest;
          tied = elsewhere (loss_tied sim.tied fit i i<)
              m.counter m.on m.turning (one_lost (rk i) m.losses);
          calm = λ b b< h. sim.calm b b< (sym (kept (λ x. competes x.phase) loses (λ x. refl) bs i b) ∙ h);
          cells = sim.cells;
          lost = lost_one fit sim.tied.size sim.lost i i<;
          noted = noted_touched fit sim.noted sim.tied.size i i< (loses (at bs i)) refl (λ w h. h);
          orderly = mid;
          row = sim.row;
        }

    -- who is no ISR has no line to lose
    no_line : (i : ℕ) → is_isr c i ≡ false → line_status c s i ≡ no_such
    unfolding first_given
    no_line i e = rw e

    -- what a refused Line leaves on the two sides
    abbrev line_left : ℕ → Model
    line_left i = Machine.line_else (counts_lines c) p.line m i (line_status c s i)

    abbrev plain_left : ℕ → State
    plain_left i = Plain.else_of c s (line_status c s i) (Line i)

    line_refused : (i : ℕ) → Sim c p rk (line_left i) (plain_left i)
    line_refused i = by_test (is_isr c i) of_isr (λ e. rw (no_line i e) (rw (and-false (counts_lines c)) sim))
      where
        counts : Bool
        counts = counts_lines c && eqb (line_status c s i) limit_reached

        loss : ℕ → Model
        loss r = with_losses m (one_lost r m.losses)

        counted : (b : Bool) → i < c.bodies → Orderly c (cond b (changing i loses s) s)
            → Sim c p rk (cond b (loss (rk i)) m) (cond b (changing i loses s) s)
        counted true i< o = lost_sim i i< o
        counted false i< o = sim

        of_isr : is_isr c i ≡ true → Sim c p rk (line_left i) (plain_left i)
        of_isr e =
            subst (λ (r : ℕ). Sim c p rk (cond counts (loss r) m) (plain_left i)) (sym (line_rank_is i e))
            (counted counts (isr_exists c i e) (keeps.refusal (Line i)))

    -- a Line that is accepted finds no body ready
    line_noted : (i : ℕ) → i < c.bodies → (q : Phase) → (at bs i).phase ≡ q → wants (at bs i) ≡ false
        → NotedOf c rk m (line i s).bodies
    line_noted i i< suspended e h = rw (ap has_begun e) (activated_noted sim.noted sim.tied.size i i< (rw e))
    line_noted i i< ready e h = absurd (true≢false (rw e at h))
    line_noted i i< started e h =
        rw (ap has_begun e) (noted_touched fit sim.noted sim.tied.size i i< _ refl (λ w z. z))
    line_noted i i< (waiting v) e h =
        rw (ap has_begun e) (noted_touched fit sim.noted sim.tied.size i i< _ refl (λ w z. z))
    line_noted i i< (triggered true) e h =
        rw (ap has_begun e) (noted_touched fit sim.noted sim.tied.size i i< _ refl (λ w z. z))
    line_noted i i< (triggered false) e h = absurd (true≢false (rw e at h))

    pub agrees_line : (i : ℕ) → Agrees c p rk m s (Line i)
    unfolding status_of effect_of else_of step_by
    agrees_line i =
        agrees_either fit sim keeps long (Line i)
        (settled p.priority (requesting (get_or p.line i no_rank) m)) (line i s)
        (Machine.line_else (counts_lines c) p.line m i (Machine.line_status p.line m i)) (plain_left i)
        refl refl refl (line_status_lem i)
        (λ z.
        let a = line_passed c s i z in
        let i< = isr_exists c i a.0 in
        rw (line_rank_is i a.0)
        (settled_done fit (keeps.effect (Line i) refl z)
        (line_tied sim.tied fit i i< a.0)
        sim.row
        sim.cells
        (lost_same (kept (λ x. x.losses) requested (λ x. same_losses x (has_begun x.phase)) bs i) sim.lost)
        (line_noted i i< (at bs i).phase refl a.1)))
        (λ _. rw (line_status_lem i) (line_refused i))
      where
        same_losses : (x : Body) (b : Bool)
            → (cond b (record { phase = x.phase; pending = true; held = x.held; losses = x.losses; bits = x.bits })
            (activated x)).losses ≡ x.losses
        same_losses x true = refl
        same_losses x false = refl

    -- "the runner holds a resource"
    pub holding_same : {b : ℕ} {ns : List ℕ} → Runs c rk m s b ns → holding m ≡ holds (calling c s).held
    holding_same k = holding_is fit k.tied ∙ ap (λ (i : ℕ). holds (body_of s i).held) (sym k.calls)

    -- Finish
    finish_status_lem : Machine.finish_status m ≡ finish_status c s
    unfolding first_given
    finish_status_lem =
        by_runner fit sim
        (λ i n. rw (i, n))
        (λ b ns k. rw (k.not_idle, k.somebody) (rw (holding_same k)))
        (λ j js k.
        let free = holding_timed fit sim.tied k.rank k.exists (ap is_started k.phase) in
        rw (k.not_idle, k.somebody) (rw (free, k.calls, latest_free sim.orderly j js k.order_is)))

    finish_tied : {b : ℕ} {ns : List ℕ} → Runs c rk m s b ns → holds (calling c s).held ≡ false
        → Tied c rk (leaving m) (finish (caller c s) s).bodies s.order ns
    finish_tied {b} k h =
        let free = nothing_held (at bs b).held (rw k.calls at h) in
        untimed_tied fit k.none_timed (rw k.calls (end_tied fit k.tied free))

    finish_losses : (i : ℕ) → (at (finish (caller c s) s).bodies i).losses ≡ (at bs i).losses
    finish_losses = kept (λ x. x.losses) finished finished_losses bs (caller c s)

    -- the bits of the one that ended count as 0
    finish_noted : (b : ℕ) → caller c s ≡ b → m.core.runner ≡ rk b → b < c.bodies
        → NotedOf c rk (leaving m) (finish (caller c s) s).bodies
    finish_noted b calls rank exists =
        rw calls
        (noted_changed fit sim.noted sim.tied.size b exists (finished (at bs b)) _ _ _
        sim.noted.bits_long sim.noted.masks_long
        (rw gone (sym none))
        (λ w h. absurd (true≢false (sym (ap is_waiting h) ∙ awake)))
        (λ r n. ap (λ (z : Bool). cond z 0 (get_or m.bits r 0)) (others r n))
        (λ r n. refl))
      where
        -- the bits of its rank are cleared, and no others
        gone : has (leaving m).cleared (rk b) ≡ true
        gone = rw rank (has_with_same m.cleared (rk b) (rank_below fit b exists))

        others : (r : ℕ) → r ≢ rk b → has (leaving m).cleared r ≡ has m.cleared r
        others r n = has_with_other m.cleared m.core.runner r (λ e. n (e ∙ rank))

        none : event_bits (finished (at bs b)) ≡ 0
        none = cond_either (λ (x : Body). event_bits x ≡ 0) (at bs b).pending _ _ refl refl

        awake : is_waiting (finished (at bs b)).phase ≡ false
        awake = cond_either (λ (x : Body). is_waiting x.phase ≡ false) (at bs b).pending _ _ refl refl

    -- a runner of OSEK's ends
    ended_done : {b : ℕ} {ns : List ℕ} → Runs c rk m s b ns → holds (calling c s).held ≡ false
        → Orderly c (finish (caller c s) s) → Done c p rk (settled p.priority (leaving m)) (finish (caller c s) s)
    ended_done {b} k free mid =
        settled_done fit mid (finish_tied k free)
        sim.row
        sim.cells
        (lost_same finish_losses sim.lost)
        (finish_noted b k.calls k.rank k.exists)

    -- a time-triggered task ends
    returned_done : {j : ℕ} {js : List ℕ} → Enters c rk m s j js → Orderly c (finish_timed (caller c s) s)
        → Done c p rk (settled p.priority (returning m)) (finish_timed (caller c s) s)
    returned_done {j} {js} k mid =
        settled_done fit mid left
        (subst (λ (js : List ℕ). Shows (row_bytes (pop_row m.triggered)) (map rk (rest js))) (sym k.order_is)
        (row_shows_popped m.triggered (rk j) (map rk js) row))
        sim.cells
        (lost_same finish_losses sim.lost)
        (finish_noted j k.calls k.rank k.exists)
      where
        row : Shows (row_bytes m.triggered) (rk j ∷ map rk js)
        row = subst (λ (js : List ℕ). Shows (row_bytes m.triggered) (map rk js)) k.order_is sim.row

        exist : (i : ℕ) → among i js ≡ true → i < c.bodies
        exist i h = timed_body c i (sim.orderly.started_timed i (rw k.order_is (among_tail i j js h)))

        left : Tied c rk (returning m) (finish_timed (caller c s) s).bodies (rest s.order) sim.nest
        left =
            subst (λ (js : List ℕ). Tied c rk (returning m) (finish_timed (caller c s) s).bodies (rest js) sim.nest)
            (sym k.order_is)
            (rw k.calls
            (return_tied fit js (rw k.order_is at sim.tied) k.exists k.phase
            (latest_free sim.orderly j js k.order_is) row exist))

    pub agrees_finish : Agrees c p rk m s Finish
    unfolding status_of effect_of else_of step_by
    agrees_finish =
        agrees_attempt fit sim keeps long Finish
        (Machine.finish_effect p.priority m) (effect (runner c s).timed)
        refl refl refl finish_status_lem
        (λ z.
        let a = finish_passed c s z in
        let mid = keeps.effect Finish refl z in
        by_runner fit sim
        (λ i n. absurd (true≢false (sym n ∙ a.0)))
        (λ b ns k. both_finish k.plainly k.untimed
        (ended_done k a.1 (subst (λ (x : Bool). Orderly c (effect x)) k.untimed mid)))
        (λ j js k. both_finish k.runs k.timed_now
        (returned_done k (subst (λ (x : Bool). Orderly c (effect x)) k.timed_now mid))))
      where
        effect : Bool → State
        effect x = cond x (finish_timed (caller c s) s) (finish (caller c s) s)

        leaves : Bool → Model
        leaves x = cond x (returning m) (leaving m)

        -- both sides ask whether the runner is time-triggered
        both_finish : {x y : Bool} → timed m ≡ x → (runner c s).timed ≡ y
            → Done c p rk (settled p.priority (leaves x)) (effect y)
            → Done c p rk (settled p.priority (leaves (timed m))) (effect (runner c s).timed)
        both_finish {x} {y} e f a =
            subst (λ (z : Bool). Done c p rk (settled p.priority (leaves (timed m))) (effect z)) (sym f)
            (subst (λ (z : Bool). Done c p rk (settled p.priority (leaves z)) (effect y)) (sym e) a)

    -- Chain
    same_task : {b : ℕ} {ns : List ℕ} → Runs c rk m s b ns → (t : ℕ) → t < c.bodies
        → eqb (rk t) m.core.runner ≡ eqb t (caller c s)
    same_task {b} k t h =
        rw (k.rank, k.calls)
        (by_eq t b
        (λ e. eq-eqb (rk t) (rk b) (ap rk e) ∙ sym (eq-eqb t b e))
        (λ n. ne_eqb (rk t) (rk b) (λ e. n (fit.rank_inj t b h k.exists e)) ∙ sym (ne_eqb t b n)))

    chain_status_lem : (t : ℕ) → Machine.chain_status p.isrs p.callable m t ≡ chain_status c s t
    chain_status_lem t =
        by_caller fit sim
        (λ i n. first_same call_level _ _ (rw (i, n)) (λ h. absurd (true≢false (rw n at h))))
        (λ b ns k.
        first_same call_level _ _
        (rw (k.may_call, k.calls_there) (rw k.rank (fit.isr_at b k.exists) ∙ ap (is_isr c) (sym k.calls)))
        (λ _. first_same no_such _ _ (no_task_lem t)
        (λ h. let t< = osek_exists c t (not-false (is_osek_task c t) h) in
        first_same holds_resource _ _ (holding_same k)
        (λ _. first_same limit_reached _ _
        (rw (callable_rank_is t (not-false (is_osek_task c t) h))
        (ap₂ (λ (x y : Bool). x && not y) (busy_is sim.tied.words t t<) (same_task k t t<)))
        (λ _. refl)))))

    -- after the runner's end the chained task is suspended, and has no event bits that count
    module _ {b : ℕ} {ns : List ℕ} (k : Runs c rk m s b ns) (t : ℕ)
        (asleep : t ≢ caller c s → (body_of s t).phase ≡ suspended) where
      -- the bodies then
      abbrev then : List Body
      then = (finish (caller c s) s).bodies

      at_caller : at then (caller c s) ≡ finished (calling c s)
      at_caller =
          get_or-set_same bs (caller c s) (finished (calling c s)) no_body (rw (k.calls, sim.tied.size) k.exists)

      at_task : t ≢ caller c s → at then t ≡ at bs t
      at_task n = get_or-set_other bs (caller c s) t (finished (calling c s)) no_body n

      chained_asleep : (is_started (at then t).phase ≡ false) × (is_aside (at then t).phase ≡ false)
      chained_asleep =
          by_eq t (caller c s)
          (λ e. rw e (rw at_caller out))
          (λ n. rw (at_task n) (ap is_started (asleep n), ap is_aside (asleep n)))
        where
          Asleep : Body → Type 0
          Asleep x = (is_started x.phase ≡ false) × (is_aside x.phase ≡ false)

          out : Asleep (finished (calling c s))
          out = cond_either Asleep (calling c s).pending _ _ (refl, refl) (refl, refl)

      chained_none : event_bits (at then t) ≡ 0
      chained_none =
          by_eq t (caller c s)
          (λ e. rw e (ap event_bits at_caller ∙ out))
          (λ n. ap event_bits (at_task n) ∙ rw (asleep n))
        where
          out : event_bits (finished (calling c s)) ≡ 0
          out = cond_either (λ (x : Body). event_bits x ≡ 0) (calling c s).pending _ _ refl refl

    pub agrees_chain : (t : ℕ) → Agrees c p rk m s (Chain t)
    unfolding status_of effect_of else_of step_by
    agrees_chain t =
        agrees_attempt fit sim keeps long (Chain t)
        (settled p.priority (requesting (get_or p.callable t no_rank) (leaving m))) (chain (caller c s) t s)
        refl refl refl (chain_status_lem t)
        (λ z.
        let a = chain_passed c s t z in
        let t< = osek_exists c t a.2 in
        let passed = first_passed _ call_level _ (λ e. absurd (omega (arith, e))) z in
        by_caller fit sim
        (λ i n. absurd (true≢false (sym n ∙ (neither (nobody_calls c s) (is_isr c (caller c s)) passed).0)))
        (λ b ns k.
        let q = chained_asleep k t a.4 in
        rw (callable_rank_is t a.2)
        (settled_done fit (keeps.effect (Chain t) refl z)
        (activate_tied (finish_tied k a.3) fit t t< q.0 q.1)
        sim.row
        sim.cells
        (lost_same
        (λ i. kept (λ x. x.losses) activated (λ x. refl) (finish (caller c s) s).bodies t i ∙ finish_losses i)
        sim.lost)
        (activated_noted (finish_noted b k.calls k.rank k.exists)
        (length-set bs (caller c s) (finished (calling c s)) ∙ sim.tied.size) t t< (chained_none k t a.4)))))
