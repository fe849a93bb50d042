-- With nothing held, each Finish takes one from the closed count, and the body begins where nothing
-- is left of it.
--
-- In order: what a Finish and a dispatch make of the count; who runs, by the count; a Finish as a
-- whole; `until_ahead`, by induction on the count. b is the body that waits.
use Prim.Native.Nat.{ℕ, zero, suc, ◌≤◌, ◌<◌}
use mathlib.Core.Path.{◌≡◌, refl, sym, ap, subst⁻¹, ◌∙◌}
use mathlib.Core.Bool.{Bool, true, false, true≢false, cond, not}
use mathlib.Core.List.{List}
use mathlib.Core.Logic.{◌≢◌}
use native.Mathlib.Omega.{arith}
use borrow.Author.Tests.{eq-eqb, ne_eqb, not-false}
use lib.Dec.{eqb}
use lib.ListN.{length}
use Rattle.number.proofs.Cases.{by_test, by_lt, by_eq, refuted}
use Rattle.config.specs.declared.Config.{Config}
use Rattle.config.specs.Meaning.{priority_of}
use Rattle.config.specs.Accepted as Configuration
use Rattle.config.proofs.Theorems.{priority_inj}
use Rattle.scheduler.specs.Status.{done, first_given}
use Rattle.scheduler.specs.Body.{Phase, suspended, ready, started, waiting, triggered, is_started, competes, Body, become, finished}
use Rattle.scheduler.specs.Choice.{Candidate}
use Rattle.scheduler.specs.State.{State, body_of, changing, runner}
use Rattle.scheduler.specs.Event.{Finish}
use Rattle.scheduler.specs.Call.{request_waits, finish}
use Rattle.scheduler.specs.Scheduler.{Stepped, begins, mark_of, dispatched, dispatched_to, ending_to, ending, none_due, status_for, leaves_for, step, step_by}
use Rattle.scheduler.proofs.Event.Effects.{body_of_changing_same, body_of_changing_other}
use Rattle.scheduler.proofs.Choice.Dispatch.{Underway, underway_untimed, underway_step}
use Rattle.waiting.specs.Conditions.{waits_to_begin}
use Rattle.waiting.specs.Finishes.{begins_in}
use Rattle.waiting.specs.Jobs.{jobs, jobs_before, jobs_ahead}
use Rattle.waiting.proofs.Count.Sum.{jobs_some, before_own, before_above, before_some, ahead_set, ahead_part, ahead_some}
use Rattle.waiting.proofs.State.Basic.{basic_phase, unstarted_quiet}
use Rattle.waiting.proofs.State.NoHolder.{NoHolder, changing_free, finish_free, Leads, active_fits, leads}

-- who waits to begin may run
waiting_active : (x : Body) (p : Phase) → basic_phase p x.pending ≡ true → request_waits x p ≡ true
    → competes p ≡ true
waiting_active x suspended r h = absurd (true≢false (sym h))
waiting_active x ready r h = refl
waiting_active x started r h = refl
waiting_active x (waiting w) r h = absurd (true≢false (sym r))
waiting_active x (triggered y) r h = absurd (true≢false (sym r))

-- a started one that waits has a request waiting
waiting_pending : (x : Body) (p : Phase) → is_started p ≡ true → request_waits x p ≡ true → x.pending ≡ true
waiting_pending x suspended s h = absurd (true≢false (sym s))
waiting_pending x ready s h = absurd (true≢false (sym s))
waiting_pending x started s h = h
waiting_pending x (waiting w) s h = absurd (true≢false (sym s))
waiting_pending x (triggered y) s h = absurd (true≢false (sym s))

-- who may run and is not started is ready
ready_is : (p : Phase) → competes p ≡ true → is_started p ≡ false → p ≡ ready
ready_is suspended h n = absurd (true≢false (sym h))
ready_is ready h n = refl
ready_is started h n = absurd (true≢false n)
ready_is (waiting w) h n = absurd (true≢false (sym h))
ready_is (triggered y) h n = absurd (true≢false (sym h))

jobs_started : (p : Phase) (pending : Bool) → is_started p ≡ true → jobs p pending ≡ cond pending 2 1
jobs_started suspended pending h = absurd (true≢false (sym h))
jobs_started ready pending h = absurd (true≢false (sym h))
jobs_started started pending h = refl
jobs_started (waiting w) pending h = absurd (true≢false (sym h))
jobs_started (triggered y) pending h = absurd (true≢false (sym h))

-- an end takes one turn
jobs_finished : (x : Body) → is_started x.phase ≡ true
    → jobs x.phase x.pending ≡ suc (jobs (finished x).phase (finished x).pending)
jobs_finished x h = jobs_started x.phase x.pending h ∙ by_test x.pending (λ e. rw e) (λ e. rw e)

module _ (c : Config) (ok : Configuration.Accepted c) (b : ℕ) where
  module _ {s : State} (a : NoHolder c s) (waits : waits_to_begin s b ≡ true) where
    b_active : competes (body_of s b).phase ≡ true
    b_active = waiting_active (body_of s b) (body_of s b).phase (a.basic.bodies b) waits

    pub b_fits : b < c.bodies
    b_fits = active_fits c ok a b b_active

  module _ {s : State} (a : NoHolder c s) (waits : waits_to_begin s b ≡ true) {k : ℕ} (l : Leads c s k) where
    fits : k < length s.bodies
    fits = rw a.size l.fits

    -- another one that runs has greater priority
    above : k ≢ b → priority_of c b < priority_of c k
    above d =
        by_lt (priority_of c b) (priority_of c k)
        (λ h. h)
        (λ h. absurd (d (priority_inj c ok k b l.fits (b_fits a waits)
        (omega (arith, l.top b (b_active a waits))))))

    -- nothing is left before it: it runs, and has yet to begin
    none_ahead : jobs_ahead c s b ≡ 0 → (k ≡ b) × (is_started (body_of s b).phase ≡ false)
    none_ahead e = (
      by_eq k b (λ h. h)
          (λ d. absurd (omega (
            arith,
            ahead_part c b s.bodies k fits,
            before_above c b k (body_of s k) d (above d),
            jobs_some (body_of s k).phase (body_of s k).pending l.active,
          ))),
      refuted (is_started (body_of s b).phase)
          (λ h.
          let own : jobs_before c b b (body_of s b) ≡ 1 = before_own c b (body_of s b) ∙ ap mark_of h in
          omega (arith, ahead_part c b s.bodies b (rw a.size (b_fits a waits)))),
    )

    -- something is left: it does not begin
    some_ahead : 1 ≤ jobs_ahead c s b → k ≡ b → is_started (body_of s b).phase ≡ false → ⊥
    some_ahead h e n =
        let r = ahead_some c b s.bodies h in
        by_eq r.0 b
        (λ same.
        let own : jobs_before c b r.0 (body_of s r.0) ≡ 0 =
        rw same (before_own c b (body_of s b) ∙ ap mark_of n) in
        omega (arith, r.2))
        (λ d.
        let q = before_some c b r.0 (body_of s r.0) d r.2 in
        let p : priority_of c k ≡ priority_of c b = ap (priority_of c) e in
        omega (arith, q.0, l.top r.0 q.1))

    -- the runner ends
    module _ (begun : is_started (body_of s k).phase ≡ true) where
      before_finished : jobs_before c b k (body_of s k) ≡ suc (jobs_before c b k (finished (body_of s k)))
      before_finished =
          by_eq k b
          (λ e. rw e (own e))
          (λ d. before_above c b k (body_of s k) d (above d) ∙ jobs_finished (body_of s k) begun
          ∙ ap suc (sym (before_above c b k (finished (body_of s k)) d (above d))))
        where
          own : k ≡ b → jobs_before c b b (body_of s b) ≡ suc (jobs_before c b b (finished (body_of s b)))
          own e =
              let h : is_started (body_of s b).phase ≡ true = rw (← e) begun in
              before_own c b (body_of s b) ∙ ap mark_of h
              ∙ ap suc (sym (before_own c b (finished (body_of s b))
              ∙ rw (waiting_pending (body_of s b) (body_of s b).phase h waits)))

      finish_ahead : suc (jobs_ahead c (finish k s) b) ≡ jobs_ahead c s b
      finish_ahead = omega (arith, ahead_set c b s.bodies k (finished (body_of s k)) fits, before_finished)

      finish_waits : waits_to_begin (finish k s) b ≡ true
      finish_waits =
          by_eq b k
          (λ e.
          let h : (body_of s k).pending ≡ true =
          waiting_pending (body_of s k) (body_of s k).phase begun (rw (← e) waits) in
          rw (e, body_of_changing_same k finished s fits) (rw h))
          (λ d. rw (body_of_changing_other k finished s b d) waits)

  -- who leads begins, if it is not started
  module _ {s : State} {k : ℕ} (l : Leads c s k) where
    some_level : eqb (priority_of c k) 0 ≡ false
    some_level = ne_eqb (priority_of c k) 0 (λ e. omega (arith, ok.priority_low k l.fits))

    runner_begins : begins (runner c s) ≡ not (is_started (body_of s k).phase)
    runner_begins = ap begins l.is ∙ rw some_level

    dispatched_is : dispatched c s
        ≡ cond (not (is_started (body_of s k).phase)) (changing k (become started) s) s
    dispatched_is = ap (λ (x : Candidate). dispatched_to x s) l.is ∙ rw some_level

  module _ {s : State} (a : NoHolder c s) (waits : waits_to_begin s b ≡ true) {k : ℕ} (l : Leads c s k) where
    record Next (x : State) : Type 0 where
      free : NoHolder c x
      waiting : waits_to_begin x b ≡ true
      count : jobs_ahead c x b ≡ jobs_ahead c s b

    -- the dispatch in which b does not begin leaves the count
    dispatched_next : (k ≡ b → is_started (body_of s b).phase ≡ false → ⊥) → Next (dispatched c s)
    dispatched_next other =
        subst⁻¹ Next (dispatched_is l)
        (by_test (is_started (body_of s k).phase)
        (λ e. rw e (record { free = a; waiting = waits; count = refl }))
        (λ n. rw n (begun n)))
      where
        begun : is_started (body_of s k).phase ≡ false → Next (changing k (become started) s)
        begun n =
            record {
              free = changing_free a k (become started) refl (a.free k);
              waiting = rw (body_of_changing_other k (become started) s b (λ e. d (sym e))) waits;
              count = omega (
                arith,
                ahead_set c b s.bodies k (become started (body_of s k)) (rw a.size l.fits),
                before_same,
              );
            }
          where
            d : k ≢ b
            d e = other e (sym (ap (λ (i : ℕ). is_started (body_of s i).phase) e) ∙ n)

            quiet : (body_of s k).pending ≡ false
            quiet = unstarted_quiet (body_of s k).phase (body_of s k).pending (a.basic.bodies k) n

            one_step : jobs started (body_of s k).pending ≡ jobs (body_of s k).phase (body_of s k).pending
            one_step = rw (quiet, ready_is (body_of s k).phase l.active n)

            before_same : jobs_before c b k (become started (body_of s k)) ≡ jobs_before c b k (body_of s k)
            before_same =
                before_above c b k (become started (body_of s k)) d (above a waits l d)
                ∙ one_step ∙ sym (before_above c b k (body_of s k) d (above a waits l d))

  -- A Finish, as a whole: accepted, the runner ends, and the next one is chosen
  finish_step : {s : State} → NoHolder c s → {k : ℕ} → Leads c s k
      → step c s Finish ≡ ending c done (none_due c s) (finish k s)
  unfolding step_by first_given
  finish_step {s} a {k} l =
      ap (λ (x : Candidate). ending_to (runner c (leaves_for c x s Finish)) (status_for c x s Finish) (none_due c s)
      (leaves_for c x s Finish)) l.is
      ∙ rw (some_level l, a.free k)

  -- n Finish events are accepted before one in which b begins, and it begins in none of them
  pub data Until : State → ℕ → Type 0 where
    last : {s : State} → (step c s Finish).seen.status ≡ done
        → begins_in b (step c s Finish).seen ≡ true
        → Until s 0
    before : {s : State} {n : ℕ} → (step c s Finish).seen.status ≡ done
        → begins_in b (step c s Finish).seen ≡ false
        → Until (step c s Finish).state n
        → Until s (suc n)

  -- b begins where nothing is left ahead of it once the runner has ended
  module _ {s : State} (a : NoHolder c s) (waits : waits_to_begin s b ≡ true) {k : ℕ} (l : Leads c s k) where
    begins_none : jobs_ahead c s b ≡ 0 → (st : ℕ) (ds : List Bool)
        → begins_in b (ending c st ds s).seen ≡ true
    begins_none e st ds =
        let q = none_ahead a waits l e in
        let n : is_started (body_of s k).phase ≡ false = rw q.0 q.1 in
        simp (runner_begins l, n, ap (λ (x : Candidate). x.number) l.is, eq-eqb k b q.0)

    begins_some : 1 ≤ jobs_ahead c s b → (st : ℕ) (ds : List Bool)
        → begins_in b (ending c st ds s).seen ≡ false
    begins_some h st ds =
        by_test (is_started (body_of s k).phase)
        (λ e. simp (runner_begins l, e))
        (λ n. simp (
          runner_begins l,
          n,
          ap (λ (x : Candidate). x.number) l.is,
          ne_eqb k b (λ e. some_ahead a waits l h e (rw e at n)),
        ))

  -- where nobody is left to begin the runner is started
  runner_started : {s : State} → NoHolder c s → Underway c s → {k : ℕ} → Leads c s k
      → is_started (body_of s k).phase ≡ true
  runner_started {s} a u {k} l =
      not-false (is_started (body_of s k).phase) (sym (runner_begins l) ∙ underway_untimed c s u a.basic.untimed)

  -- so somebody goes before b
  pub ahead_low : {s : State} → NoHolder c s → Underway c s → waits_to_begin s b ≡ true → 1 ≤ jobs_ahead c s b
  ahead_low {s} a u w =
      let r = leads c ok a b (b_active a w) in
      by_lt 0 (jobs_ahead c s b)
      (λ h. h)
      (λ h.
      let q = none_ahead a w r.1 (omega arith) in
      absurd (true≢false
      (sym (runner_started a u r.1) ∙ ap (λ (i : ℕ). is_started (body_of s i).phase) q.0 ∙ q.1)))

  pub until_ahead : (n : ℕ) (s : State) → NoHolder c s → Underway c s → waits_to_begin s b ≡ true
      → jobs_ahead c s b ≡ suc n
      → Until s n
  until_ahead zero s a u w e =
      let r = leads c ok a b (b_active a w) in
      let begun = runner_started a u r.1 in
      let z = finish_free a r.0 in
      let v = finish_waits a w r.1 begun in
      let q = leads c ok z b (b_active z v) in
      let is = finish_step a r.1 in
      let none : jobs_ahead c (finish r.0 s) b ≡ 0 = omega (arith, finish_ahead a w r.1 begun) in
      last (ap (λ (x : Stepped). x.seen.status) is)
      (ap (λ (x : Stepped). begins_in b x.seen) is ∙ begins_none z v q.1 none done (none_due c s))
  until_ahead (suc n) s a u w e =
      let r = leads c ok a b (b_active a w) in
      let begun = runner_started a u r.1 in
      let z = finish_free a r.0 in
      let v = finish_waits a w r.1 begun in
      let q = leads c ok z b (b_active z v) in
      let is = finish_step a r.1 in
      let left : jobs_ahead c (finish r.0 s) b ≡ suc n = omega (arith, finish_ahead a w r.1 begun) in
      let some : 1 ≤ jobs_ahead c (finish r.0 s) b = omega arith in
      let next = subst⁻¹ (Next z v q.1) (ap (λ (x : Stepped). x.state) is)
      (dispatched_next z v q.1 (some_ahead z v q.1 some)) in
      before (ap (λ (x : Stepped). x.seen.status) is)
      (ap (λ (x : Stepped). begins_in b x.seen) is ∙ begins_some z v q.1 some done (none_due c s))
      (until_ahead n (step c s Finish).state next.free (underway_step c s Finish) next.waiting
      (next.count ∙ left))
