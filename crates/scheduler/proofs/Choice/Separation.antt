-- Bodies that are apart, one's current priority being below the other's own:
-- so after every list of events, by `reached_kept`.
--
-- In order: bodies that are apart; what a change of one body leaves of it; the runner's own priority is above the
-- current priority of the others (`outranks`); every event keeps it, from the fresh start on. Which bodies are apart is
-- a question asked of a body, so that all is proved once: of those that hold a resource, always; of those that are
-- started, where no task is extended.
use Prim.Native.Nat.{ℕ, zero, suc, ◌+◌, ◌*◌, max, ◌≤◌, ◌<◌}
use mathlib.Core.Path.{◌≡◌, refl, sym, ap, subst⁻¹, ◌∙◌}
use mathlib.Core.Bool.{Bool, true, false, true≢false, cond}
use mathlib.Core.List.{List, [], ◌∷◌, foldr, map}
use mathlib.Core.Logic.{◌≢◌, ◌⊎◌, inl, inr, ⊎_elim}
use native.Mathlib.Omega.{arith}
use borrow.Author.Tests.{eq-eqb, ne_eqb, not-false}
use lib.Dec.{eqb}
use lib.ListN.{length, get_or, set, length-set, take, length-map, get_or-map, get_or-eq_default}
use lib.Seq.{get_or-set_same, get_or-set_other, set_out, length-take-le}
use Rattle.number.proofs.Cases.{by_test, by_lt, by_eq, cond_either, refuted}
use Rattle.config.specs.declared.Config.{Config}
use Rattle.config.specs.Meaning.{priority_of, ceiling}
use Rattle.config.specs.Accepted as Configuration
use Rattle.config.proofs.Theorems.{priority_inj}
use Rattle.scheduler.specs.Status.{done}
use Rattle.scheduler.specs.Bits.{any_set, with_bits}
use Rattle.scheduler.specs.Body.{Phase, suspended, ready, started, waiting, triggered, is_suspended, is_started, has_begun, competes, Body, holds, current, become, activated, triggers, ended, finished, requested, gets, releases, loses, waits, resumed, receives, clears}
use Rattle.scheduler.specs.Choice.{Candidate, is_nobody, by_holding, chosen_by, chosen}
use Rattle.scheduler.specs.State.{State, no_body, body_of, changing, runner}
use Rattle.scheduler.specs.Event.{Event, Activate, Finish, Chain, Get, Release, Tick, Line, Start, Stop, Wait, Set, Clear}
use Rattle.scheduler.specs.Tick.{counted, dues}
use Rattle.scheduler.specs.Call.{caller, finish, finish_timed, status_of, effect_of}
use Rattle.scheduler.specs.Scheduler.{begins, phase_begun, mark_of, dispatched, new_body, leaves, unstarted, fresh, step, step_by, after, after_by}
use Rattle.scheduler.specs.History.{AcceptedIn}
use Rattle.scheduler.proofs.Body.{started_competes, unbegun_unstarted}
use Rattle.scheduler.proofs.Choice.Runner.{contender, weight, chosen_weight, chosen_from_lem, candidate_active, current_own, current_free, Taken, no_one, body, runner_timed, runner_untimed}
use Rattle.scheduler.proofs.Event.Checks.{activate_passed, finish_passed, chain_passed, get_passed, release_passed, wait_passed, accepted_untimed}
use Rattle.scheduler.proofs.Event.Effects.{entered, activating_due_keeps, else_of_keeps}
use Rattle.scheduler.proofs.Choice.Dispatch.{begins_some, Underway, underway_untimed, underway_fresh, underway_step}
use Rattle.scheduler.proofs.Event.Losses.{entered_active}

-- a body of a list
abbrev pub at : List Body → ℕ → Body
at bs i = get_or bs i no_body

-- what holds between each body and itself, and between body k and y,
-- holds between each body and what it is after body k became y
each : (P : Body → Body → Type 0) → ((x : Body) → P x x) → (bs : List Body) (k : ℕ) (y : Body) → P (at bs k) y → (i : ℕ)
    → P (at bs i) (at (set bs k y) i)
each P same [] k y h i = same no_body
each P same (b ∷ bs) zero y h zero = h
each P same (b ∷ bs) zero y h (suc i) = same (at bs i)
each P same (b ∷ bs) (suc k) y h zero = same b
each P same (b ∷ bs) (suc k) y h (suc i) = each P same bs k y h i

-- who holds a resource is started
abbrev pub Steady : Body → Type 0
Steady b = holds b.held ≡ true → is_started b.phase ≡ true

abbrev pub Apart : Config → (Body → Bool) → List Body → Type 0
Apart c In bs =
    (i j : ℕ) → i < c.bodies → j < c.bodies → i ≢ j → In (at bs i) ≡ true → In (at bs j) ≡ true
    → (current c i (at bs i) < priority_of c j) ⊎ (current c j (at bs j) < priority_of c i)

pub record Kept (c : Config) (In : Body → Bool) (bs : List Body) : Type 0 where
  pub size : length bs ≡ c.bodies
  pub steady : (i : ℕ) → Steady (at bs i)
  pub apart : Apart c In bs

-- a change that the bodies that are apart do not notice
record Quiet (In : Body → Bool) (x y : Body) : Type 0 where
  held : x.held ≡ y.held
  among : In y ≡ true → In x ≡ true
  steady : Steady x → Steady y

-- which bodies are kept apart: those that hold a resource are among them, all of them are started, and nobody else
-- comes to be one but by a dispatch, a Get, and for the last one a Set
pub record Question (In : Body → Bool) : Type 0 where
  pub holding : (b : Body) → Steady b → holds b.held ≡ true → In b ≡ true
  pub begun : (b : Body) → Steady b → In b ≡ true → is_started b.phase ≡ true
  pub by_activation : (b : Body) → is_started b.phase ≡ false → In (activated b) ≡ true → In b ≡ true
  pub by_end : (b : Body) → In (ended b) ≡ true → In b ≡ true
  pub by_loss : (b : Body) → In (loses b) ≡ true → In b ≡ true
  pub by_request : (b : Body)
      → In (record { phase = b.phase; pending = true; held = b.held; losses = b.losses; bits = b.bits }) ≡ true
      → In b ≡ true
  pub by_wait : (b : Body) (w : ℕ) → In (become (waiting w) b) ≡ true → In b ≡ true
  pub by_trigger : (b : Body) (x : Bool) → In (become (triggered x) b) ≡ true → In b ≡ true
  pub by_clear : (b : Body) (w : ℕ) → In (clears w b) ≡ true → In b ≡ true
  pub new : In no_body ≡ false

abbrev pub holder : Body → Bool
holder b = holds b.held

abbrev pub begun_body : Body → Bool
begun_body b = is_started b.phase

pub holders : Question holder
holders =
    record {
      holding = λ b s h. h;
      begun = λ b s h. s h;
      by_activation = λ b n h. h;
      by_end = λ b h. h;
      by_loss = λ b h. h;
      by_request = λ b h. h;
      by_wait = λ b w h. h;
      by_trigger = λ b x h. h;
      by_clear = λ b w h. h;
      new = refl;
    }

pub begun_bodies : Question begun_body
begun_bodies =
    record {
      holding = λ b s h. s h;
      begun = λ b s h. h;
      by_activation = λ b n h. absurd (true≢false (sym h));
      by_end = λ b h. absurd (true≢false (sym h));
      by_loss = λ b h. h;
      by_request = λ b h. h;
      by_wait = λ b w h. absurd (true≢false (sym h));
      by_trigger = λ b x h. absurd (true≢false (sym h));
      by_clear = λ b w h. h;
      new = refl;
    }

module _ {c : Config} {In : Body → Bool} where
  quiet_kept : {bs : List Body} → Kept c In bs → (k : ℕ) (y : Body) → Quiet In (at bs k) y → Kept c In (set bs k y)
  quiet_kept {bs} a k y q =
      record {
        size = length-set bs k y ∙ a.size;
        steady = λ i. (all i).steady (a.steady i);
        apart = λ i j i< j< d hi hj.
            rw (same i, same j) (a.apart i j i< j< d ((all i).among hi) ((all j).among hj));
      }
    where
      all : (i : ℕ) → Quiet In (at bs i) (at (set bs k y) i)
      all = each (Quiet In) (λ x. record { held = refl; among = λ h. h; steady = λ s. s }) bs k y q

      same : (i : ℕ) → current c i (at (set bs k y) i) ≡ current c i (at bs i)
      same i = ap (λ (rs : List ℕ). foldr max (priority_of c i) (map (ceiling c) rs)) (sym (all i).held)

  -- a body whose own priority is above the others' becomes y
  raised_kept : {bs : List Body} → Kept c In bs → (k : ℕ) → k < c.bodies → (y : Body) → Steady y
      → ((j : ℕ) → j < c.bodies → j ≢ k → In (at bs j) ≡ true → current c j (at bs j) < priority_of c k)
      → Kept c In (set bs k y)
  raised_kept {bs} a k k< y steady_y below =
      record {
        size = length-set bs k y ∙ a.size;
        steady = λ i. by_eq i k (λ e. rw (e, at_k) steady_y) (λ n. rw (at_other i n) (a.steady i));
        apart = λ i j i< j< d hi hj. by_eq i k
            (λ e. by_eq j k
            (λ f. absurd (d (e ∙ sym f)))
            (λ n. rw (at_other j n, e) (inr (below j j< n (sym (ap In (at_other j n)) ∙ hj)))))
            (λ n. by_eq j k
            (λ f. rw (at_other i n, f) (inl (below i i< n (sym (ap In (at_other i n)) ∙ hi))))
            (λ m. rw (at_other i n, at_other j m)
            (a.apart i j i< j< d (sym (ap In (at_other i n)) ∙ hi) (sym (ap In (at_other j m)) ∙ hj))));
      }
    where
      at_k : at (set bs k y) k ≡ y
      at_k = get_or-set_same bs k y no_body (rw a.size k<)

      at_other : (i : ℕ) → i ≢ k → at (set bs k y) i ≡ at bs i
      at_other i n = get_or-set_other bs k i y no_body n

-- what the changes of one body are to those that are apart
module _ {In : Body → Bool} (K : Question In) where
  activated_quiet : (b : Body) → is_started b.phase ≡ false → Quiet In b (activated b)
  activated_quiet b n =
      record { held = refl; among = K.by_activation b n; steady = λ s h. absurd (true≢false (sym (s h) ∙ n)) }

  loses_quiet : (b : Body) → Quiet In b (loses b)
  loses_quiet b = record { held = refl; among = K.by_loss b; steady = λ s. s }

  ended_quiet : (b : Body) → holds b.held ≡ false → Quiet In b (ended b)
  ended_quiet b free = record { held = refl; among = K.by_end b; steady = λ s h. absurd (true≢false (sym h ∙ free)) }

  then : (x y z : Body) → Quiet In x y → Quiet In y z → Quiet In x z
  then x y z p q =
      record { held = p.held ∙ q.held; among = λ h. p.among (q.among h); steady = λ s. q.steady (p.steady s) }

  finished_quiet : (b : Body) → holds b.held ≡ false → Quiet In b (finished b)
  finished_quiet b free =
      cond_either (Quiet In b) b.pending (activated (ended b)) (ended b)
      (then b (ended b) (activated (ended b)) (ended_quiet b free) (activated_quiet (ended b) refl))
      (ended_quiet b free)

  -- a body that is not started is triggered: it holds nothing
  becomes_triggered : (b : Body) (x : Bool) → is_started b.phase ≡ false → Quiet In b (become (triggered x) b)
  becomes_triggered b x n =
      record { held = refl; among = K.by_trigger b x; steady = λ s h. absurd (true≢false (sym (s h) ∙ n)) }

  triggers_quiet : (b : Body) → is_started b.phase ≡ false → Quiet In b (triggers b)
  triggers_quiet b n =
      then b (activated b) (triggers b) (activated_quiet b n) (becomes_triggered (activated b) false refl)

  entry_quiet : (x : Bool) (b : Body) → Quiet In b (entered x b)
  entry_quiet x b = by_test (is_suspended b.phase) (λ e. first x e) (λ e. rw (entered_active x b e) (loses_quiet b))
    where
      asleep : (p : Phase) → is_suspended p ≡ true → is_started p ≡ false
      asleep suspended e = refl
      asleep ready e = refl
      asleep started e = absurd (true≢false (sym e))
      asleep (waiting w) e = refl
      asleep (triggered y) e = refl

      first : (y : Bool) → is_suspended b.phase ≡ true → Quiet In b (entered y b)
      first true e = rw e (triggers_quiet b (asleep b.phase e))
      first false e = rw e (activated_quiet b (asleep b.phase e))

  requested_quiet : (b : Body) → Quiet In b (requested b)
  requested_quiet b = go b.phase refl
    where
      again : Quiet In b
          (record { phase = b.phase; pending = true; held = b.held; losses = b.losses; bits = b.bits })
      again = record { held = refl; among = K.by_request b; steady = λ s. s }

      go : (q : Phase) → b.phase ≡ q → Quiet In b (requested b)
      go suspended e = rw (ap has_begun e) (activated_quiet b (ap is_started e))
      go ready e = rw (ap has_begun e) (activated_quiet b (ap is_started e))
      go started e = rw (ap has_begun e) again
      go (waiting w) e = rw (ap has_begun e) again
      go (triggered x) e = asked x e
        where
          asked : (y : Bool) → b.phase ≡ triggered y → Quiet In b (requested b)
          asked true z = rw (ap has_begun z) again
          asked false z = rw (ap has_begun z) (activated_quiet b (ap is_started z))

  waits_quiet : (w : ℕ) (b : Body) → holds b.held ≡ false → Quiet In b (waits w b)
  waits_quiet w b free =
      cond_either (Quiet In b) (any_set b.bits w) b (become (waiting w) b)
      (record { held = refl; among = λ h. h; steady = λ s. s })
      (record { held = refl; among = K.by_wait b w; steady = λ s h. absurd (true≢false (sym h ∙ free)) })

  clears_quiet : (w : ℕ) (b : Body) → Quiet In b (clears w b)
  clears_quiet w b = record { held = refl; among = K.by_clear b w; steady = λ s. s }

receives_steady : (w : ℕ) (b : Body) → Steady b → Steady (receives w b)
receives_steady w b s h = go b.phase (s h)
  where
    go : (q : Phase) → is_started q ≡ true → is_started (resumed (with_bits b.bits w) q) ≡ true
    go suspended e = absurd (true≢false (sym e))
    go ready e = absurd (true≢false (sym e))
    go started e = refl
    go (waiting v) e = absurd (true≢false (sym e))
    go (triggered x) e = absurd (true≢false (sym e))

-- of a configuration that the reader accepts
module _ (c : Config) (ok : Configuration.Accepted c) where
  pub weighs : (bs : List Body) (i : ℕ) → competes (at bs i).phase ≡ true
      → weight by_holding (contender c bs i) ≡ 2 * current c i (at bs i) + mark_of (holds (at bs i).held)
  weighs bs i a = ap (weight by_holding) (candidate_active c i (at bs i) (at bs i).phase a)

  -- the body k is chosen
  module _ {In : Body → Bool} (K : Question In) {bs : List Body} (a : Kept c In bs) (k : ℕ) (k< : k < c.bodies)
      (active : competes (at bs k).phase ≡ true) (taken : chosen_by by_holding c bs ≡ contender c bs k) where
    heaviest : (j : ℕ) → competes (at bs j).phase ≡ true
        → 2 * current c j (at bs j) + mark_of (holds (at bs j).held)
        ≤ 2 * current c k (at bs k) + mark_of (holds (at bs k).held)
    heaviest j h =
        let w = ap (weight by_holding) taken in
        omega (arith, w, weighs bs j h, weighs bs k active, chosen_weight by_holding refl c bs j)

    -- every other one of those that are apart runs below its own priority
    pub outranks : (j : ℕ) → j < c.bodies → j ≢ k → In (at bs j) ≡ true → current c j (at bs j) < priority_of c k
    outranks j j< d h = go (at bs k).held refl
      where
        up : competes (at bs j).phase ≡ true
        up = started_competes (at bs j).phase (K.begun (at bs j) (a.steady j) h)

        le : (r q : Bool) → 2 * current c j (at bs j) + mark_of r ≤ 2 * current c k (at bs k) + mark_of q
            → current c j (at bs j) ≤ current c k (at bs k)
        le true true e = omega arith
        le true false e = omega arith
        le false true e = omega arith
        le false false e = omega arith

        below : current c j (at bs j) ≤ current c k (at bs k)
        below = le (holds (at bs j).held) (holds (at bs k).held) (heaviest j up)

        -- where it holds nothing and the other holds something, or nothing either
        free : (at bs k).held ≡ [] → (rs : List ℕ) → (at bs j).held ≡ rs → current c j (at bs j) < priority_of c k
        free e [] f =
            let ne : priority_of c j ≢ priority_of c k = λ z. d (priority_inj c ok j k j< k< z) in
            omega (arith, below, current_free c k (at bs k) e, current_free c j (at bs j) f)
        free e (r ∷ rs) f =
            let x : mark_of (holds (at bs j).held) ≡ 1 = ap (λ (q : List ℕ). mark_of (holds q)) f in
            let z : mark_of (holds (at bs k).held) ≡ 0 = ap (λ (q : List ℕ). mark_of (holds q)) e in
            omega (arith, heaviest j up, current_free c k (at bs k) e)

        go : (rs : List ℕ) → (at bs k).held ≡ rs → current c j (at bs j) < priority_of c k
        go [] e = free e (at bs j).held refl
        go (r ∷ rs) e =
            ⊎_elim
            (λ (l : current c k (at bs k) < priority_of c j). absurd (omega (arith, below, current_own c j (at bs j))))
            (λ (l : current c j (at bs j) < priority_of c k). l)
            (a.apart k j k< j< (λ z. d (sym z)) (K.holding (at bs k) (a.steady k) (rw e)) h)

  -- who runs where no time-triggered task is started: nobody, or a body
  data Runs (s : State) : Type 0 where
    nobody_runs_lem : is_nobody (runner c s) ≡ true → Runs s
    runs : (k : ℕ) → k < length s.bodies → competes (at s.bodies k).phase ≡ true
        → chosen c s.bodies ≡ contender c s.bodies k
        → caller c s ≡ k → (runner c s).began ≡ is_started (at s.bodies k).phase → (runner c s).timed ≡ false → Runs s

  who_runs : (s : State) → s.order ≡ [] → Runs s
  who_runs s o = go (chosen_from_lem by_holding refl c s.bodies)
    where
      go : Taken c s.bodies (chosen c s.bodies) → Runs s
      go (no_one e) = nobody_runs_lem (ap is_nobody (runner_untimed c s o ∙ e))
      go (body k h p e) =
          let is = runner_untimed c s o ∙ e ∙ candidate_active c k (at s.bodies k) (at s.bodies k).phase p in
          runs k h p e (ap (λ (x : Candidate). x.number) is) (ap (λ (x : Candidate). x.began) is)
          (ap (λ (x : Candidate). x.timed) is)

  module _ {In : Body → Bool} (K : Question In)
      (on_set : (s : State) (t w : ℕ) → AcceptedIn c s (Set t w) → (b : Body) → In (receives w b) ≡ true
      → In b ≡ true) where
    quiet : (s : State) → Kept c In s.bodies → (k : ℕ) (f : Body → Body) → Quiet In (body_of s k) (f (body_of s k))
        → Kept c In (changing k f s).bodies
    quiet s a k f q = quiet_kept a k (f (body_of s k)) q

    -- the runner becomes y: its own priority is above the others'
    runner_becomes : (s : State) → Kept c In s.bodies → s.order ≡ [] → is_nobody (runner c s) ≡ false
        → (f : Body → Body)
        → ((k : ℕ) → caller c s ≡ k → (runner c s).began ≡ is_started (at s.bodies k).phase → Steady (f (body_of s k)))
        → Kept c In (changing (caller c s) f s).bodies
    runner_becomes s a none some f steady_f = go (who_runs s none)
      where
        go : Runs s → Kept c In (changing (caller c s) f s).bodies
        go (nobody_runs_lem n) = absurd (true≢false (sym n ∙ some))
        go (runs k h p e z b _) =
            let k< : k < c.bodies = rw a.size at h in
            rw z (raised_kept a k k< (f (body_of s k)) (steady_f k z b) (outranks K a k k< p e))

    -- a state whose runner has begun
    module _ (s : State) (a : Kept c In s.bodies) (underway : Underway c s) where
      has_begun_lem : s.order ≡ [] → is_nobody (runner c s) ≡ false → (runner c s).began ≡ true
      has_begun_lem none some = not-false (runner c s).began (rw some at (underway_untimed c s underway none))

      effect_kept : (e : Event) → AcceptedIn c s e → Kept c In (effect_of c s e).bodies
      unfolding step_by
      effect_kept (Activate t) z =
          quiet s a t activated (activated_quiet K (body_of s t) (ap is_started (activate_passed c s t z).2))
      effect_kept Finish z =
          let still = finished_quiet K (body_of s (caller c s)) (finish_passed c s z).1 in
          let ends = quiet s a (caller c s) finished still in
          cond_either (λ x. Kept c In x.bodies) (runner c s).timed (finish_timed (caller c s) s)
          (finish (caller c s) s) ends ends
      effect_kept (Chain t) z =
          let p = chain_passed c s t z in
          quiet (finish (caller c s) s)
          (quiet s a (caller c s) finished (finished_quiet K (body_of s (caller c s)) p.3)) t activated
          (activated_quiet K (body_of (finish (caller c s) s) t) (asleep t p.4))
        where
          out : (b : Bool)
              → is_started (cond b (activated (ended (body_of s (caller c s)))) (ended (body_of s (caller c s)))).phase
              ≡ false
          out true = refl
          out false = refl

          -- the chained task is suspended, or has just ended
          asleep : (t : ℕ) → (t ≢ caller c s → (body_of s t).phase ≡ suspended)
              → is_started (body_of (finish (caller c s) s) t).phase ≡ false
          asleep t h =
              by_eq t (caller c s)
              (λ e. by_lt (caller c s) (length s.bodies)
              (λ l. rw e
              (ap (λ (x : Body). is_started x.phase)
              (get_or-set_same s.bodies (caller c s) (finished (body_of s (caller c s))) no_body l)
              ∙ out (body_of s (caller c s)).pending))
              (λ l. rw (
                e,
                set_out s.bodies (caller c s) (finished (body_of s (caller c s))) l,
                get_or-eq_default
                    s.bodies no_body {n = caller c s} l,
              ) refl))
              (λ n. ap (λ (x : Body). is_started x.phase)
              (get_or-set_other s.bodies (caller c s) t (finished (body_of s (caller c s))) no_body n)
              ∙ ap is_started (h n))
      effect_kept (Get r) z =
          let some = (get_passed c s r z).0 in
          let none = accepted_untimed c s (Get r) refl z in
          runner_becomes s a none some (gets r) (λ k e b h. sym b ∙ has_begun_lem none some)
      effect_kept (Release r) z =
          let some = (release_passed c s r z).0 in
          let none = accepted_untimed c s (Release r) refl z in
          runner_becomes s a none some releases (λ k e b h. sym b ∙ has_begun_lem none some)
      effect_kept Tick z =
          activating_due_keeps c (λ x. Kept c In x.bodies) (λ js x h. h)
          (λ t b x k. quiet x k t (entered b) (entry_quiet K b (body_of x t)))
          (dues c (counted s)) c.task (counted s) a
      effect_kept (Line i) z = quiet s a i requested (requested_quiet K (body_of s i))
      effect_kept (Start t d) z = a
      effect_kept (Stop t) z = a
      effect_kept (Wait w) z =
          quiet s a (caller c s) (waits w) (waits_quiet K w (body_of s (caller c s)) (wait_passed c s w z).2)
      effect_kept (Set t w) z =
          quiet s a t (receives w)
          (record { held = refl; among = on_set s t w z (body_of s t); steady = receives_steady w (body_of s t) })
      effect_kept (Clear w) z = quiet s a (caller c s) (clears w) (clears_quiet K w (body_of s (caller c s)))

      pub leaves_kept : (e : Event) → Kept c In (leaves c s e).bodies
      unfolding step_by
      leaves_kept e =
          by_eq (status_of c s e) done
          (λ z. rw (eq-eqb (status_of c s e) done z) (effect_kept e z))
          (λ n. rw (ne_eqb (status_of c s e) done n)
          (else_of_keeps c s (λ x. Kept c In x.bodies) a (status_of c s e) e
          (λ i _ _ _. quiet s a i loses (loses_quiet K (body_of s i)))))

    -- the dispatch: who begins held nothing
    dispatched_kept : (s : State) → Kept c In s.bodies → Kept c In (dispatched c s).bodies
    dispatched_kept s a = by_test (begins (runner c s)) (λ e. rw e (by_order e s.order refl)) (λ e. rw e a)
      where
        by_order : begins (runner c s) ≡ true → (js : List ℕ) → s.order ≡ js
            → Kept c In (changing (caller c s) (become (phase_begun (runner c s))) s).bodies
        by_order e [] o =
            runner_becomes s a o (begins_some (runner c s) e).0 (become (phase_begun (runner c s)))
            (λ k _ _ h. begun_phase_lem (who_runs s o))
          where
            begun_phase_lem : Runs s → is_started (phase_begun (runner c s)) ≡ true
            begun_phase_lem (nobody_runs_lem n) = absurd (true≢false (sym n ∙ (begins_some (runner c s) e).0))
            begun_phase_lem (runs k h p z y b t) = rw t
        by_order e (j ∷ js) o =
            let is = runner_timed c s j js o in
            subst⁻¹ (λ (x : Candidate). Kept c In (changing x.number (become (phase_begun x)) s).bodies) is
            (quiet s a j (become (triggered true))
            (becomes_triggered K (body_of s j) true
            (unbegun_unstarted (body_of s j).phase (sym (ap (λ (x : Candidate). x.began) is) ∙ (begins_some (runner c s) e).1))))

    pub step_kept : (s : State) → Kept c In s.bodies → Underway c s → (e : Event)
        → Kept c In (step c s e).state.bodies
    unfolding step_by
    step_kept s a underway e = dispatched_kept (leaves c s e) (leaves_kept s a underway e)

    after_kept : (es : List Event) (s : State) → Kept c In s.bodies → Underway c s → Kept c In (after c s es).bodies
    unfolding after_by
    after_kept [] s a underway = a
    after_kept (e ∷ es) s a underway =
        after_kept es (step c s e).state (step_kept s a underway e) (underway_step c s e)

    pub unstarted_kept : Configuration.Shaped c → Kept c In (unstarted c).bodies
    unstarted_kept shaped =
        record {
          size = length-map (take c.bodies c.autostart) new_body
              ∙ length-take-le c.bodies c.autostart (omega (arith, ok.few_bodies, shaped.autostarts));
          steady = λ i h. absurd (true≢false (sym h ∙ empty i));
          apart = λ i j i< j< d hi hj. absurd (true≢false (sym hi ∙ out i));
        }
      where
        at_new : (i : ℕ) → at (unstarted c).bodies i ≡ new_body (get_or (take c.bodies c.autostart) i 0)
        at_new i = get_or-map new_body (take c.bodies c.autostart) i 0

        none : (x : Bool) → holds (cond x (activated no_body) no_body).held ≡ false
        none x = cond_either (λ (b : Body). holds b.held ≡ false) x (activated no_body) no_body refl refl

        empty : (i : ℕ) → holds (at (unstarted c).bodies i).held ≡ false
        empty i =
            ap (λ (b : Body). holds b.held) (at_new i) ∙ none (eqb (get_or (take c.bodies c.autostart) i 0) 1)

        -- a new body is none of those that are apart
        outside : (x : Bool) → In (cond x (activated no_body) no_body) ≡ false
        outside true =
            refuted (In (activated no_body)) (λ h. true≢false (sym (K.by_activation no_body refl h) ∙ K.new))
        outside false = K.new

        out : (i : ℕ) → In (at (unstarted c).bodies i) ≡ false
        out i = ap In (at_new i) ∙ outside (eqb (get_or (take c.bodies c.autostart) i 0) 1)

    pub fresh_kept : Configuration.Shaped c → Kept c In (fresh c).bodies
    fresh_kept shaped = dispatched_kept (unstarted c) (unstarted_kept shaped)

    pub reached_kept : Configuration.Shaped c → (es : List Event) → Kept c In (after c (fresh c) es).bodies
    reached_kept shaped es = after_kept es (fresh c) (fresh_kept shaped) (underway_fresh c)

-- a Set makes nobody hold
pub set_holds : (c : Config) (s : State) (t w : ℕ) → AcceptedIn c s (Set t w) → (b : Body)
    → holder (receives w b) ≡ true → holder b ≡ true
set_holds c s t w z b h = h
