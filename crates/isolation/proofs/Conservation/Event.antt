-- What an event makes of a body's requests and begins before the dispatch: `leaves_moves`.
--
-- In order: a change of one body; the due entries; who calls has begun; each event.
use Prim.Native.Nat.{ℕ, zero, suc, ◌+◌, ◌<◌}
use mathlib.Core.Path.{◌≡◌, refl, sym, ap, subst, ◌∙◌}
use mathlib.Core.Logic.{◌≢◌}
use mathlib.Core.Bool.{Bool, true, false, true≢false, not, ◌&&◌, and-true, and-false}
use mathlib.Core.List.{List, [], ◌∷◌}
use native.Mathlib.Omega.{arith}
use borrow.Author.Tests.{eq-eqb, ne_eqb, lt-ltb}
use lib.Dec.{ltb, eqb}
use lib.ListN.{length, get_or, replicate}
use Rattle.number.proofs.Cases as Cases
use Rattle.number.proofs.Cases.{by_eq, cond_either}
use Rattle.config.specs.declared.Config.{Config}
use Rattle.config.specs.Meaning.{isr, time_triggered, is_timed, is_isr}
use Rattle.scheduler.specs.Status.{done, first_given}
use Rattle.scheduler.specs.Body.{Phase, suspended, ready, started, waiting, triggered, is_suspended, is_started, has_begun, Body, activated, finished, requested, gets, releases, loses, waits, receives, clears}
use Rattle.scheduler.specs.Choice.{Candidate, is_nobody, by_holding, chosen}
use Rattle.scheduler.specs.State.{State, no_body, body_of, changing, runner}
use Rattle.scheduler.specs.Event.{Event, Activate, Finish, Chain, Get, Release, Tick, Line, Start, Stop, Wait, Set, Clear, is_tick}
use Rattle.scheduler.specs.Tick.{counted, dues, enter, activating_due, ticked, naming}
use Rattle.scheduler.specs.Call.{caller, finish, finish_timed, status_of, effect_of, else_of}
use Rattle.scheduler.specs.Scheduler.{begins, mark_of, leaves, step, step_by}
use Rattle.scheduler.proofs.Choice.Runner.{Taken, no_one, body, chosen_from_lem, candidate_active, runner_timed, runner_untimed}
use Rattle.scheduler.proofs.Event.Checks.{activate_passed, finish_passed, chain_passed, line_passed, wait_passed}
use Rattle.scheduler.proofs.Event.Effects.{body_of_changing_same, body_of_changing_other, length_changing, else_of_keeps, entered, enter_bodies, by_tick}
use Rattle.scheduler.proofs.Order.Invariant.{Orderly}
use Rattle.scheduler.proofs.Kind.{of_one_kind}
use Rattle.isolation.specs.Requests.{asks_for, ends_runner, requests_at, ends_at}
use Rattle.isolation.proofs.Conservation.Body.{Second, Moves, stays, then, quiet, activated_moves, finished_moves, waits_moves, receives_moves, requested_moves, entered_moves, entered_active}

naming_none : (b n : ℕ) (ts : List ℕ) → naming b (replicate n false) ts ≡ 0
unfolding naming
naming_none b zero ts = refl
naming_none b (suc n) [] = refl
naming_none b (suc n) (t ∷ ts) = naming_none b n ts

-- the body b, of those that there are
module _ (c : Config) (b : ℕ) where
  at_same : (k : ℕ) (f : Body → Body) (s : State) (r d : ℕ) → b < length s.bodies → k ≡ b
      → Moves c b (body_of s b) (f (body_of s b)) r d
      → Moves c b (body_of s b) (body_of (changing k f s) b) r d
  at_same k f s r d fits e m = rw (e, body_of_changing_same b f s fits) m

  at_other : (k : ℕ) (f : Body → Body) (s : State) → k ≢ b → Moves c b (body_of s b) (body_of (changing k f s) b) 0 0
  at_other k f s d = rw (body_of_changing_other k f s b (λ e. d (sym e))) (stays c b (body_of s b))

  -- a change that is neither a request nor an end
  unasked : (k : ℕ) (f : Body → Body) (s : State) → b < length s.bodies
      → (k ≡ b → Moves c b (body_of s b) (f (body_of s b)) 0 0)
      → Moves c b (body_of s b) (body_of (changing k f s) b) 0 0
  unasked k f s fits m = by_eq k b (λ e. at_same k f s 0 0 fits e (m e)) (λ d. at_other k f s d)

  -- a request of k, and an end of k
  asked : (k : ℕ) (f : Body → Body) (s : State) → b < length s.bodies
      → (k ≡ b → Moves c b (body_of s b) (f (body_of s b)) 1 0)
      → Moves c b (body_of s b) (body_of (changing k f s) b) (mark_of (eqb k b)) 0
  asked k f s fits m =
      by_eq k b
      (λ e. rw (eq-eqb k b e) (at_same k f s 1 0 fits e (m e)))
      (λ d. rw (ne_eqb k b d) (at_other k f s d))

  left : (k : ℕ) (f : Body → Body) (s : State) → b < length s.bodies
      → (k ≡ b → Moves c b (body_of s b) (f (body_of s b)) 0 1)
      → Moves c b (body_of s b) (body_of (changing k f s) b) 0 (mark_of (eqb k b))
  left k f s fits m =
      by_eq k b
      (λ e. rw (eq-eqb k b e) (at_same k f s 0 1 fits e (m e)))
      (λ d. rw (ne_eqb k b d) (at_other k f s d))

  entered_here : (t : ℕ) (s : State) → b < length s.bodies → t ≡ b
      → body_of (enter c t s) b ≡ entered (is_timed c t) (body_of s b)
  entered_here t s fits e =
      ap (λ (bs : List Body). get_or bs b no_body) (enter_bodies c t s)
      ∙ ap (λ (k : ℕ). body_of (changing k (entered (is_timed c t)) s) b) e
      ∙ body_of_changing_same b (entered (is_timed c t)) s fits

  entered_there : (t : ℕ) (s : State) → t ≢ b → body_of (enter c t s) b ≡ body_of s b
  entered_there t s d =
      ap (λ (bs : List Body). get_or bs b no_body) (enter_bodies c t s)
      ∙ body_of_changing_other t (entered (is_timed c t)) s b (λ e. d (sym e))

  enter_fits : (t : ℕ) (s : State) → b < length s.bodies → b < length (enter c t s).bodies
  enter_fits t s fits = rw (enter_bodies c t s, length_changing t (entered (is_timed c t)) s) fits

  found : (v : Bool) (n : ℕ) → mark_of (v && ltb 0 (suc n)) ≡ mark_of v + 0
  found true n = rw (lt-ltb 0 (suc n) (omega arith))
  found false n = refl

  -- the due entries that name b: the first finds it suspended, if any does
  due_moves : (ds : List Bool) (ts : List ℕ) (s : State) → b < length s.bodies
      → Moves c b (body_of s b) (body_of (activating_due c ds ts s) b)
      (mark_of (is_suspended (body_of s b).phase && ltb 0 (naming b ds ts)))
      0
  unfolding activating_due naming
  due_moves [] ts s fits = rw (and-false) (stays c b (body_of s b))
  due_moves (true ∷ ds) [] s fits = rw (and-false) (stays c b (body_of s b))
  due_moves (false ∷ ds) [] s fits = rw (and-false) (stays c b (body_of s b))
  due_moves (false ∷ ds) (t ∷ ts) s fits = due_moves ds ts s fits
  due_moves (true ∷ ds) (t ∷ ts) s fits =
      let later = due_moves ds ts (enter c t s) (enter_fits t s fits) in
      by_eq t b
      (λ e.
      let now : Moves c b (entered (is_timed c t) (body_of s b)) (body_of (activating_due c ds ts (enter c t s)) b)
      (mark_of (is_suspended (entered (is_timed c t) (body_of s b)).phase && ltb 0 (naming b ds ts))) 0 =
      subst
      (λ (x : Body). Moves c b x (body_of (activating_due c ds ts (enter c t s)) b)
      (mark_of (is_suspended x.phase && ltb 0 (naming b ds ts))) 0)
      (entered_here t s fits e)
      later in
      rw (eq-eqb t b e)
      (then c b (body_of s b) (entered (is_timed c t) (body_of s b)) (body_of (activating_due c ds ts (enter c t s)) b)
      (mark_of (is_suspended (body_of s b).phase && ltb 0 (suc (naming b ds ts))))
      (mark_of (is_suspended (body_of s b).phase)) 0 0 0 0
      (found (is_suspended (body_of s b).phase) (naming b ds ts))
      (omega arith)
      (entered_moves c b (is_timed c t) (body_of s b))
      (rw (entered_active c b (is_timed c t) (body_of s b)) at now)))
      (λ d. rw (ne_eqb t b d)
      (subst
      (λ (x : Body). Moves c b x (body_of (activating_due c ds ts (enter c t s)) b)
      (mark_of (is_suspended x.phase && ltb 0 (naming b ds ts))) 0)
      (entered_there t s d)
      later))

-- who runs and is not left to begin has begun
pub caller_begun : (c : Config) (s : State) → begins (runner c s) ≡ false → is_nobody (runner c s) ≡ false
    → has_begun (body_of s (caller c s)).phase ≡ true
caller_begun c s underway some = by_order s.order refl
  where
    began : (x : Candidate) → begins x ≡ false → is_nobody x ≡ false → x.began ≡ true
    began x u n = go (is_nobody x) x.began u n
      where
        go : (p q : Bool) → (not p && not q) ≡ false → p ≡ false → q ≡ true
        go true q e f = absurd (true≢false f)
        go false true e f = refl
        go false false e f = absurd (true≢false e)

    begun : (p : Phase) → is_started p ≡ true → has_begun p ≡ true
    begun suspended h = absurd (true≢false (sym h))
    begun ready h = absurd (true≢false (sym h))
    begun started h = refl
    begun (waiting w) h = refl
    begun (triggered x) h = absurd (true≢false (sym h))

    go : s.order ≡ [] → Taken c s.bodies (chosen c s.bodies) → has_begun (body_of s (caller c s)).phase ≡ true
    go o (no_one z) = absurd (true≢false (sym (ap is_nobody (runner_untimed c s o ∙ z)) ∙ some))
    go o (body k h p z) =
        let is = runner_untimed c s o ∙ z ∙ candidate_active c k (body_of s k) (body_of s k).phase p in
        ap (λ (n : ℕ). has_begun (body_of s n).phase) (ap (λ (x : Candidate). x.number) is)
        ∙ begun (body_of s k).phase (sym (ap (λ (x : Candidate). x.began) is) ∙ began (runner c s) underway some)

    by_order : (js : List ℕ) → s.order ≡ js → has_begun (body_of s (caller c s)).phase ≡ true
    by_order [] o = go o (chosen_from_lem by_holding refl c s.bodies)
    by_order (j ∷ js) o =
        let is = runner_timed c s j js o in
        ap (λ (n : ℕ). has_begun (body_of s n).phase) (ap (λ (x : Candidate). x.number) is)
        ∙ sym (ap (λ (x : Candidate). x.began) is)
        ∙ began (runner c s) underway some

-- an ISR is not time-triggered
isr_untimed : (c : Config) (i : ℕ) → is_isr c i ≡ true → is_timed c i ≡ true → ⊥
isr_untimed c i p q = true≢false (sym q ∙ of_one_kind c i isr time_triggered (λ e. omega arith) p)

-- what holds between events
pub record Between (c : Config) (s : State) : Type 0 where
  pub orderly : Orderly c s
  pub underway : begins (runner c s) ≡ false
  pub second : (i : ℕ) → Second c i (body_of s i)

module _ (c : Config) (s : State) (a : Between c s) (b : ℕ) (fits : b < length s.bodies) where
  begun_here : is_nobody (runner c s) ≡ false → caller c s ≡ b → has_begun (body_of s b).phase ≡ true
  begun_here some e = rw e at (caller_begun c s a.underway some)

  finish_moves : is_nobody (runner c s) ≡ false
      → Moves c b (body_of s b) (body_of (finish (caller c s) s) b) 0 (mark_of (eqb (caller c s) b))
  finish_moves some =
      left c b (caller c s) finished s fits (λ e. finished_moves c b (body_of s b) (begun_here some e))

  -- a task that ends is suspended: no second request of it waits
  ended_here : caller c s ≡ b → is_isr c (caller c s) ≡ false → (body_of (finish (caller c s) s) b).phase ≡ suspended
  ended_here e task =
      rw (e, body_of_changing_same b finished s fits)
      (rw (Cases.refuted (body_of s b).pending (λ h. true≢false (sym (a.second b h).0 ∙ rw e at task))))

  effect_moves : (e : Event) → status_of c s e ≡ done → is_tick e ≡ false
      → Moves c b (body_of s b) (body_of (effect_of c s e) b) (mark_of (asks_for b e))
      (mark_of (ends_runner e && eqb (caller c s) b))
  effect_moves (Activate t) z n =
      asked c b t activated s fits
      (λ e. activated_moves c b (body_of s b) (rw e at (activate_passed c s t z).2))
  effect_moves Finish z n =
      let m = finish_moves (finish_passed c s z).0 in
      cond_either (λ (x : State). Moves c b (body_of s b) (body_of x b) 0 (mark_of (eqb (caller c s) b)))
      (runner c s).timed (finish_timed (caller c s) s) (finish (caller c s) s) m m
  effect_moves (Chain t) z n =
      let p = chain_passed c s t z in
      then c b (body_of s b) (body_of (finish (caller c s) s) b) (body_of (effect_of c s (Chain t)) b)
      (mark_of (eqb t b)) 0 (mark_of (eqb t b)) (mark_of (eqb (caller c s) b)) (mark_of (eqb (caller c s) b)) 0
      (omega arith)
      (omega arith)
      (finish_moves p.0)
      (asked c b t activated (finish (caller c s) s) (rw (length_changing (caller c s) finished s) fits)
      (λ e. activated_moves c b (body_of (finish (caller c s) s) b)
      (by_eq (caller c s) b
      (λ same. ended_here same p.1)
      (λ d. rw (body_of_changing_other (caller c s) finished s b (λ f. d (sym f)))
      (rw e at (p.4 (λ f. d (sym f ∙ e))))))))
  effect_moves (Get r) z n =
      unasked c b (caller c s) (gets r) s fits (λ e. quiet c b (body_of s b) (gets r (body_of s b)) refl refl)
  effect_moves (Release r) z n =
      unasked c b (caller c s) releases s fits (λ e. quiet c b (body_of s b) (releases (body_of s b)) refl refl)
  effect_moves Tick z n = absurd (true≢false n)
  effect_moves (Line i) z n =
      asked c b i requested s fits
      (λ e.
      let isr_b : is_isr c b ≡ true = rw e at (line_passed c s i z).0 in
      requested_moves c b (body_of s b) isr_b
      (λ x h. isr_untimed c b isr_b (a.orderly.started_timed b (a.orderly.triggered_started b x h)))
      (rw e at (line_passed c s i z).1))
  effect_moves (Start t d) z n = stays c b (body_of s b)
  effect_moves (Stop t) z n = stays c b (body_of s b)
  effect_moves (Wait w) z n =
      unasked c b (caller c s) (waits w) s fits
      (λ e. waits_moves c b w (body_of s b) (begun_here (wait_passed c s w z).0 e))
  effect_moves (Set t w) z n =
      unasked c b t (receives w) s fits (λ e. receives_moves c b w (body_of s b))
  effect_moves (Clear w) z n =
      unasked c b (caller c s) (clears w) s fits (λ e. quiet c b (body_of s b) (clears w (body_of s b)) refl refl)

  refused_moves : (st : ℕ) (e : Event) → Moves c b (body_of s b) (body_of (else_of c s st e) b) 0 0
  refused_moves st e =
      else_of_keeps c s (λ x. Moves c b (body_of s b) (body_of x b) 0 0) (stays c b (body_of s b)) st e
      (λ i _ _ _. unasked c b i loses s fits (λ f. quiet c b (body_of s b) (loses (body_of s b)) refl refl))

  recount : (y : State) (r p d q : ℕ) → r ≡ p → d ≡ q → Moves c b (body_of s b) (body_of y b) r d
      → Moves c b (body_of s b) (body_of y b) p q
  recount y r p d q e f m h =
      let v = m h in
      record { second = v.second; waits = omega (arith, v.waits); begun = omega (arith, v.begun) }

  -- before the dispatch; o: how many of the requests of b had not ended
  pub leaves_moves : (o : ℕ) → eqb o 0 ≡ is_suspended (body_of s b).phase → (e : Event)
      → Moves c b (body_of s b) (body_of (leaves c s e) b) (requests_at c b o e (step c s e).seen)
      (ends_at b (caller c s) e (step c s e).seen)
  unfolding step_by first_given
  leaves_moves o is e =
      by_tick e
      (λ q. rw (q, is)
      (recount (ticked c s)
      (mark_of (is_suspended (body_of s b).phase && ltb 0 (naming b (dues c (counted s)) c.task)))
      (0 + mark_of (is_suspended (body_of s b).phase && ltb 0 (naming b (dues c (counted s)) c.task))) 0 0
      (omega arith)
      refl
      (due_moves c b (dues c (counted s)) c.task (counted s) fits)))
      (λ n. by_eq (status_of c s e) done
      (λ z. simp (n, eq-eqb (status_of c s e) done z, naming_none b (length (dues c s)) c.task, and-false, and-true)
      (recount (effect_of c s e) (mark_of (asks_for b e)) (mark_of (asks_for b e) + 0)
      (mark_of (ends_runner e && eqb (caller c s) b)) (mark_of (ends_runner e && eqb (caller c s) b)) (omega arith) refl
      (effect_moves e z n)))
      (λ z. simp (n, ne_eqb (status_of c s e) done z, naming_none b (length (dues c s)) c.task, and-false)
      (refused_moves (status_of c s e) e)))
