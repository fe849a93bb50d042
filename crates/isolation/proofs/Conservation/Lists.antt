-- Conservation over lists of events: `conservation` and `begins_conserved`, at the end of the file.
--
-- In order: what an event keeps; one event; a list from any state between events; the fresh start.
use Prim.Native.Nat.{ℕ, ◌+◌, ◌-◌, ◌≤◌, ◌<◌}
use mathlib.Core.Path.{◌≡◌, refl, sym, ap, ap₂, ◌∙◌}
use mathlib.Core.Bool.{Bool, true, false, true≢false, cond, not, ◌&&◌}
use mathlib.Core.List.{List, [], ◌∷◌}
use native.Mathlib.Omega.{arith}
use borrow.Author.Tests.{eq-eqb, ne_eqb}
use lib.Dec.{eqb}
use lib.ListN.{length, get_or, take, get_or-eq_default}
use lib.Seq.{get_or-take}
use Rattle.number.proofs.Cases.{by_lt, by_eq, cond_either}
use Rattle.config.specs.declared.Config.{Config}
use Rattle.config.specs.Accepted as Configuration
use Rattle.scheduler.specs.Status.{done}
use Rattle.scheduler.specs.Body.{is_suspended, has_begun, Body, activated, loses}
use Rattle.scheduler.specs.Choice.{Candidate, idle, by_holding}
use Rattle.scheduler.specs.State.{State, no_body, body_of, runner}
use Rattle.scheduler.specs.Event.{Event}
use Rattle.scheduler.specs.Tick.{counted, dues}
use Rattle.scheduler.specs.Call.{caller, status_of, effect_of, else_of}
use Rattle.scheduler.specs.Scheduler.{begins, mark_of, new_body, unstarted, leaves, step, step_by, seen, seen_by, fresh, after, after_by}
use Rattle.scheduler.proofs.Body.{unbegun_unstarted}
use Rattle.scheduler.proofs.Choice.Runner.{Taken, no_one, body, chosen_from_lem, candidate_active, current_own}
use Rattle.scheduler.proofs.Event.Effects.{length_changing, new_body_lem, effect_of_keeps, else_of_keeps, activating_due_keeps, entered}
use Rattle.scheduler.proofs.Choice.Dispatch.{runner_same, underway_named, underway_step, underway_fresh}
use Rattle.scheduler.proofs.Kind.{timed_body}
use Rattle.scheduler.proofs.Order.Invariant.{orderly_step, orderly_unstarted, orderly_fresh}
use Rattle.isolation.specs.Requests.{requests_at, ends_at, requests, ends, mark_at, marks, autostarted, fresh_runner, fresh_mark, waits_to_begin, under_way}
use Rattle.isolation.proofs.Conservation.Body.{Second, wait_mark, begun_mark, left_none, Begun}
use Rattle.isolation.proofs.Conservation.Event.{Between, leaves_moves}
use Rattle.isolation.proofs.Conservation.Dispatch.{dispatched_begins, orderly_headed, leaves_headed}

-- a body that is past the last
past_second : (c : Config) (s : State) (i : ℕ) → length s.bodies ≤ i → Second c i (body_of s i)
past_second c s i past h =
    absurd (true≢false (sym h ∙ ap (λ (x : Body). x.pending) (get_or-eq_default s.bodies no_body past)))

-- no event adds a body
leaves_long : (s : State) (e : Event) (c : Config) → length (leaves c s e).bodies ≡ length s.bodies
leaves_long s e c =
    cond_either Long (eqb (status_of c s e) done) (effect_of c s e) (else_of c s (status_of c s e) e)
    (effect_of_keeps c s Long (λ i f x k h. length_changing i f x ∙ h) (λ js x h. h) (λ t y. refl) refl e
    (λ q. activating_due_keeps c Long (λ js x h. h) (λ t v x h. length_changing t (entered v) x ∙ h)
    (dues c (counted s)) c.task (counted s) refl))
    (else_of_keeps c s Long refl (status_of c s e) e (λ i _ _ _. length_changing i loses s))
  where
    Long : State → Type 0
    Long x = length x.bodies ≡ length s.bodies

marked : (v w : Bool) → mark_of (eqb (mark_of v) 1 && w) ≡ mark_of (v && w)
marked true w = refl
marked false w = refl

-- from event to event, of a configuration that the reader accepts
module _ (c : Config) (ok : Configuration.Accepted c) (shaped : Configuration.Shaped c) where
  module _ {s : State} (a : Between c s) (e : Event) where
    left_second : (i : ℕ) → Second c i (body_of (leaves c s e) i)
    left_second i =
        by_lt i (length s.bodies)
        (λ fits. (leaves_moves c s a i fits (wait_mark (body_of s i) + begun_mark (body_of s i)) (left_none (body_of s i)) e
        (a.second i)).second)
        (λ past. past_second c (leaves c s e) i (rw (leaves_long s e c) past))

    stepped : (b : ℕ)
        → Begun c b (body_of (leaves c s e) b) (body_of (step c s e).state b)
        (mark_of (begins (runner c (leaves c s e)) && eqb (runner c (leaves c s e)).number b))
    unfolding step_by
    stepped b = dispatched_begins c (leaves c s e) (leaves_headed c ok shaped a.orderly e) left_second b

    between_step : Between c (step c s e).state
    between_step =
        let o = orderly_step c ok shaped a.orderly e in
        record {
          orderly = o;
          underway = underway_named c (step c s e).state (underway_step c s e)
              (λ j h. rw o.bodies_there (timed_body c j (o.started_timed j h)));
          second = λ i. (stepped i).second;
        }

    runner_seen : (step c s e).seen.runner ≡ (runner c (step c s e).state).number
    unfolding step_by
    runner_seen = sym (runner_same c (leaves c s e)).0

    module _ (b : ℕ) (fits : b < c.bodies) (o : ℕ) (left : o ≡ waits_to_begin s b + under_way s b) where
      -- the requests, marks and ends of b that are seen of the event
      abbrev asked : ℕ
      asked = requests_at c b o e (step c s e).seen

      abbrev gone : ℕ
      gone = ends_at b (caller c s) e (step c s e).seen

      record Counted : Type 0 where
        requests_are : asked + waits_to_begin s b ≡ mark_at b (step c s e).seen + waits_to_begin (step c s e).state b
        begins_are : mark_at b (step c s e).seen + under_way s b ≡ gone + under_way (step c s e).state b
        left_after : o + asked - gone ≡ waits_to_begin (step c s e).state b + under_way (step c s e).state b

      counted_step : Counted
      unfolding step_by
      counted_step =
          let there : b < length s.bodies = rw a.orderly.bodies_there fits in
          let none = ap (λ (n : ℕ). eqb n 0) left ∙ left_none (body_of s b) in
          let m = leaves_moves c s a b there o none e (a.second b) in
          let n = stepped b in
          let mark = marked (begins (runner c (leaves c s e))) (eqb (runner c (leaves c s e)).number b) in
          record {
            requests_are = omega (arith, m.waits, n.waits, mark);
            begins_are = omega (arith, m.begun, n.begun, mark);
            left_after = omega (arith, m.waits, n.waits, m.begun, n.begun, mark, left);
          }

  -- what is seen of a list of events, from a state s on
  record Counts (s : State) (es : List Event) (b r o : ℕ) : Type 0 where
    requests_are : requests c b r o es (seen c s es) + waits_to_begin s b
        ≡ marks b (seen c s es) + waits_to_begin (after c s es) b
    begins_are : marks b (seen c s es) + under_way s b ≡ ends b r es (seen c s es) + under_way (after c s es) b

  from : (es : List Event) {s : State} → Between c s → (b : ℕ) → b < c.bodies → (r o : ℕ) → r ≡ caller c s
      → o ≡ waits_to_begin s b + under_way s b
      → Counts s es b r o
  unfolding requests ends marks seen_by after_by
  from [] a b fits r o runs left = record { requests_are = refl; begins_are = refl }
  from (e ∷ es) {s} a b fits r o runs left =
      let now = counted_step a e b fits o left in
      let next = from es (between_step a e) b fits (step c s e).seen.runner
      (o + requests_at c b o e (step c s e).seen - ends_at b (caller c s) e (step c s e).seen)
      (runner_seen a e) now.left_after in
      rw runs
      (record {
        requests_are = omega (arith, now.requests_are, next.requests_are);
        begins_are = omega (arith, now.begins_are, next.begins_are);
      })

  -- a new body has no second request, and has not begun
  new_second : (i : ℕ) → Second c i (body_of (unstarted c) i)
  new_second i = rw (new_body_lem c i) (go (eqb (get_or (take c.bodies c.autostart) i 0) 1))
    where
      go : (v : Bool) → Second c i (cond v (activated no_body) no_body)
      go true h = absurd (true≢false (sym h))
      go false h = absurd (true≢false (sym h))

  new_unbegun : (i : ℕ) → has_begun (body_of (unstarted c) i).phase ≡ false
  new_unbegun i = rw (new_body_lem c i) (go (eqb (get_or (take c.bodies c.autostart) i 0) 1))
    where
      go : (v : Bool) → has_begun (cond v (activated no_body) no_body).phase ≡ false
      go true = refl
      go false = refl

  new_waits : (b : ℕ) → b < c.bodies → wait_mark (body_of (unstarted c) b) ≡ autostarted c b
  new_waits b fits =
      ap wait_mark (new_body_lem c b ∙ ap new_body (get_or-take c.bodies c.autostart b 0 fits))
      ∙ go (eqb (get_or c.autostart b 0) 1)
    where
      go : (v : Bool) → wait_mark (cond v (activated no_body) no_body) ≡ mark_of v
      go true = refl
      go false = refl

  begun_fresh : (b : ℕ)
      → Begun c b (body_of (unstarted c) b) (body_of (fresh c) b)
      (mark_of (begins (runner c (unstarted c)) && eqb (runner c (unstarted c)).number b))
  begun_fresh b = dispatched_begins c (unstarted c) (orderly_headed c (orderly_unstarted c ok shaped)) new_second b

  between_fresh : Between c (fresh c)
  between_fresh =
      let o = orderly_fresh c ok shaped in
      record {
        orderly = o;
        underway = underway_named c (fresh c) (underway_fresh c)
            (λ j h. rw o.bodies_there (timed_body c j (o.started_timed j h)));
        second = λ i. (begun_fresh i).second;
      }

  -- who runs at the fresh start began at it
  fresh_begins : Taken c (unstarted c).bodies (runner c (unstarted c)) → (b : ℕ) → b < c.bodies
      → mark_of (begins (runner c (unstarted c)) && eqb (runner c (unstarted c)).number b)
      ≡ mark_of (eqb (runner c (unstarted c)).number b)
  fresh_begins (no_one z) b fits =
      let few = ok.few_bodies in
      rw z (rw (ne_eqb idle b (λ e. absurd (omega arith))))
  fresh_begins (body k h p z) b fits =
      let there : k < c.bodies = rw (orderly_unstarted c ok shaped).bodies_there at h in
      let is = z ∙ candidate_active c k (body_of (unstarted c) k) (body_of (unstarted c) k).phase p in
      let level = ap (λ (y : Candidate). y.level) is in
      let some = ne_eqb (runner c (unstarted c)).level 0
      (λ e. absurd (omega (arith, ok.priority_low k there, current_own c k (body_of (unstarted c) k), level, e))) in
      let began = ap (λ (y : Candidate). y.began) is ∙ unbegun_unstarted (body_of (unstarted c) k).phase (new_unbegun k) in
      ap₂ (λ (v w : Bool). mark_of ((not v && not w) && eqb (runner c (unstarted c)).number b)) some began

  fresh_mark_lem : (b : ℕ) → b < c.bodies
      → mark_of (begins (runner c (unstarted c)) && eqb (runner c (unstarted c)).number b) ≡ fresh_mark c b
  fresh_mark_lem b fits =
      fresh_begins (chosen_from_lem by_holding refl c (unstarted c).bodies) b fits
      ∙ ap (λ (n : ℕ). mark_of (eqb n b)) (sym (runner_same c (unstarted c)).0)

  module _ (es : List Event) (b : ℕ) (fits : b < c.bodies) where
    start : (autostarted c b ≡ fresh_mark c b + waits_to_begin (fresh c) b)
        × (fresh_mark c b ≡ under_way (fresh c) b)
    start =
        let g = begun_fresh b in
        let z : begun_mark (body_of (unstarted c) b) ≡ 0 = ap mark_of (new_unbegun b) in (
          omega (arith, new_waits b fits, g.waits, fresh_mark_lem b fits),
          omega (arith, z, g.begun, fresh_mark_lem b fits),
        )

    counts : Counts (fresh c) es b (fresh_runner c) (autostarted c b)
    counts =
        from es between_fresh b fits (fresh_runner c) (autostarted c b) refl (omega (arith, start.0, start.1))

    pub conservation : autostarted c b + requests c b (fresh_runner c) (autostarted c b) es (seen c (fresh c) es)
        ≡ fresh_mark c b + marks b (seen c (fresh c) es) + waits_to_begin (after c (fresh c) es) b
    conservation = omega (arith, start.0, counts.requests_are)

    pub begins_conserved : fresh_mark c b + marks b (seen c (fresh c) es)
        ≡ ends b (fresh_runner c) es (seen c (fresh c) es) + under_way (after c (fresh c) es) b
    begins_conserved = omega (arith, start.1, counts.begins_are)

    -- the number that `requests` carries along tells who is suspended
    pub suspended_when_ended :
        eqb (autostarted c b + requests c b (fresh_runner c) (autostarted c b) es (seen c (fresh c) es))
        (ends b (fresh_runner c) es (seen c (fresh c) es))
        ≡ is_suspended (body_of (after c (fresh c) es) b).phase
    suspended_when_ended =
        go (autostarted c b + requests c b (fresh_runner c) (autostarted c b) es (seen c (fresh c) es))
        (ends b (fresh_runner c) es (seen c (fresh c) es))
        (waits_to_begin (after c (fresh c) es) b + under_way (after c (fresh c) es) b)
        (omega (arith, conservation, begins_conserved))
        ∙ left_none (body_of (after c (fresh c) es) b)
      where
        go : (m n k : ℕ) → m ≡ n + k → eqb m n ≡ eqb k 0
        go m n k e =
            by_eq k 0
            (λ z. eq-eqb m n (omega arith) ∙ sym (eq-eqb k 0 z))
            (λ z. ne_eqb m n (λ f. absurd (omega arith)) ∙ sym (ne_eqb k 0 z))
