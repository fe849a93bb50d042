-- Ties: no two candidates are equal to the choice (`decided`),
-- and without an extended task the old rule for ties chooses the same (`old_rule`).
--
-- In order: two that tie; of two that may run one goes before the other; the old rule and the new one agree where the
-- started bodies are apart, from the fresh start on.
use Prim.Native.Nat.{ℕ, ◌+◌, ◌*◌, ◌<◌}
use mathlib.Core.Path.{◌≡◌, refl, sym, ap, ap₂, ◌∙◌}
use mathlib.Core.Bool.{Bool, true, false, true≢false, not, ◌&&◌, ◌||◌}
use mathlib.Core.List.{List, [], ◌∷◌}
use mathlib.Core.Logic.{◌≢◌, ◌⊎◌, inl, inr, ⊎_elim}
use native.Mathlib.Omega.{arith}
use borrow.Author.Tests.{lt-ltb, ne_eqb, not-false}
use lib.Dec.{ltb, eqb}
use Rattle.number.proofs.Cases.{by_lt, by_eq, refuted}
use Rattle.config.specs.declared.Config.{Config}
use Rattle.config.specs.Meaning.{is_extended, priority_of}
use Rattle.config.specs.Accepted as Configuration
use Rattle.config.proofs.Theorems.{priority_inj}
use Rattle.scheduler.specs.Body.{is_started, competes, Body, holds, current, receives}
use Rattle.scheduler.specs.Choice.{Candidate, by_holding, by_begun, goes_before, chosen_by}
use Rattle.scheduler.specs.State.{State, body_of, latest_of, runner_by, runner}
use Rattle.scheduler.specs.Event.{Event, Set}
use Rattle.scheduler.specs.Call.{status_of}
use Rattle.scheduler.specs.Scheduler.{Seen, mark_of, dispatched_to, ending_to, dues_at, status_for, leaves_for, leaves, unstarted, fresh, fresh_by, step, step_by, seen, seen_by, after, after_by}
use Rattle.scheduler.specs.History.{AcceptedIn}
use Rattle.scheduler.proofs.Choice.Runner.{contender, weight, weight_before, chosen_tie, chosen_same, candidate_active, current_own, current_free, Taken, no_one, body, runner_timed, runner_untimed}
use Rattle.scheduler.proofs.Event.Checks.{set_passed}
use Rattle.scheduler.proofs.Choice.Dispatch.{Underway, underway_named, underway_fresh, underway_step, underway_after}
use Rattle.scheduler.proofs.Order.Range.{named_fresh, named_after}
use Rattle.scheduler.proofs.Choice.Separation.{at, Kept, Question, holder, begun_body, holders, begun_bodies, weighs, set_holds, leaves_kept, step_kept, unstarted_kept, fresh_kept, reached_kept}

-- of a configuration that the reader accepts
module _ (c : Config) (ok : Configuration.Accepted c) where
  -- the level of one that may run
  level_is : (bs : List Body) (i : ℕ) → competes (at bs i).phase ≡ true
      → (contender c bs i).level ≡ current c i (at bs i)
  level_is bs i a = ap (λ (x : Candidate). x.level) (candidate_active c i (at bs i) (at bs i).phase a)

  -- two that tie: not both hold, and one does
  module _ {In : Body → Bool} (K : Question In) {bs : List Body} (a : Kept c In bs) (i j : ℕ)
      (i< : i < c.bodies) (j< : j < c.bodies) (d : i ≢ j)
      (equal : current c i (at bs i) ≡ current c j (at bs j)) where
    not_apart : In (at bs i) ≡ true → In (at bs j) ≡ true → ⊥
    not_apart hi hj =
        ⊎_elim
        (λ (l : current c i (at bs i) < priority_of c j). omega (arith, current_own c j (at bs j)))
        (λ (l : current c j (at bs j) < priority_of c i). omega (arith, current_own c i (at bs i)))
        (a.apart i j i< j< d hi hj)

    one_holds : holds (at bs i).held ≡ not (holds (at bs j).held)
    one_holds = go (at bs i).held (at bs j).held refl refl
      where
        go : (rs qs : List ℕ) → (at bs i).held ≡ rs → (at bs j).held ≡ qs → holds rs ≡ not (holds qs)
        go [] [] e f =
            absurd (d
            (priority_inj c ok i j i< j< (sym (current_free c i (at bs i) e) ∙ equal ∙ current_free c j (at bs j) f)))
        go [] (q ∷ qs) e f = refl
        go (r ∷ rs) [] e f = refl
        go (r ∷ rs) (q ∷ qs) e f =
            absurd (not_apart (K.holding (at bs i) (a.steady i) (rw e)) (K.holding (at bs j) (a.steady j) (rw f)))

  -- of two that may run one goes before the other
  decided : {bs : List Body} → Kept c holder bs → (i j : ℕ) → i < c.bodies → j < c.bodies → i ≢ j
      → competes (at bs i).phase ≡ true
      → competes (at bs j).phase ≡ true
      → (goes_before by_holding (contender c bs i) (contender c bs j) ≡ true)
      ⊎ (goes_before by_holding (contender c bs j) (contender c bs i) ≡ true)
  decided {bs} a i j i< j< d p q =
      by_lt (weight by_holding (contender c bs i)) (weight by_holding (contender c bs j))
      (λ l. inr (weight_before by_holding (contender c bs j) (contender c bs i) l))
      (λ l. by_lt (weight by_holding (contender c bs j)) (weight by_holding (contender c bs i))
      (λ m. inl (weight_before by_holding (contender c bs i) (contender c bs j) m))
      (λ m. absurd (differ (holds (at bs i).held) (holds (at bs j).held) refl refl
      (omega (arith, weighs c ok bs i p, weighs c ok bs j q)))))
    where
      same_level : (x y : Bool) → 2 * current c i (at bs i) + mark_of x ≡ 2 * current c j (at bs j) + mark_of y
          → current c i (at bs i) ≡ current c j (at bs j)
      same_level true true e = omega arith
      same_level true false e = absurd (omega arith)
      same_level false true e = absurd (omega arith)
      same_level false false e = omega arith

      differ : (x y : Bool) → holds (at bs i).held ≡ x → holds (at bs j).held ≡ y
          → 2 * current c i (at bs i) + mark_of (holds (at bs i).held)
          ≡ 2 * current c j (at bs j) + mark_of (holds (at bs j).held) → ⊥
      differ x y e f w =
          let l = same_level (holds (at bs i).held) (holds (at bs j).held) w in
          let o = one_holds holders a i j i< j< d l in
          go x y (sym e ∙ o ∙ ap not f) (sym (ap mark_of e) ∙ marks l ∙ ap mark_of f)
        where
          marks : current c i (at bs i) ≡ current c j (at bs j)
              → mark_of (holds (at bs i).held) ≡ mark_of (holds (at bs j).held)
          marks l = omega arith

          go : (x y : Bool) → x ≡ not y → mark_of x ≡ mark_of y → ⊥
          go true true e m = true≢false e
          go true false e m = omega arith
          go false true e m = omega arith
          go false false e m = true≢false (sym e)

  -- where the started bodies are apart the old rule and the new one agree
  module _ {bs : List Body} (a : Kept c begun_body bs) where
    -- in a tie, who holds has begun and who does not hold has not
    begun_holds : (i j : ℕ) → i < c.bodies → j < c.bodies → i ≢ j → current c i (at bs i) ≡ current c j (at bs j)
        → is_started (at bs i).phase ≡ holds (at bs i).held
    begun_holds i j i< j< d equal = go (holds (at bs i).held) refl
      where
        other : holds (at bs i).held ≡ false → holds (at bs j).held ≡ true
        other e = flip (holds (at bs j).held) (sym e ∙ one_holds begun_bodies a i j i< j< d equal)
          where
            flip : (b : Bool) → false ≡ not b → b ≡ true
            flip true h = refl
            flip false h = absurd (true≢false (sym h))

        go : (b : Bool) → holds (at bs i).held ≡ b → is_started (at bs i).phase ≡ b
        go true e = a.steady i e
        go false e =
            refuted (is_started (at bs i).phase)
            (λ h. not_apart begun_bodies a i j i< j< d equal h (a.steady j (other e)))

    agree : (x y : Candidate) → Taken c bs x → Taken c bs y → goes_before by_begun x y ≡ goes_before by_holding x y
    agree x y (no_one e) (no_one f) = rw (e, f)
    agree x y (no_one e) (body j h p f) = rw e
    agree x y (body i h p e) (no_one f) = rw f (rw (lt-ltb 0 x.level some))
      where
        level : x.level ≡ current c i (at bs i)
        level = ap (λ (z : Candidate). z.level) e ∙ level_is bs i p

        some : 0 < x.level
        some = omega (arith, level, current_own c i (at bs i), ok.priority_low i (rw a.size at h))
    agree x y (body i hi p e) (body j hj q f) =
        rw (e, f)
        (by_eq i j
        (λ z. rw z (self (contender c bs j)))
        (λ d. by_eq (contender c bs i).level (contender c bs j).level
        (λ l. let k = sym (level_is bs i p) ∙ l ∙ level_is bs j q in
        ap₂ (λ (u v : Bool). ltb (contender c bs j).level (contender c bs i).level ||
        (eqb (contender c bs j).level (contender c bs i).level && (u && not v)))
        (answers i p (begun_holds i j i< j< d k))
        (answers j q (begun_holds j i j< i< (λ z. d (sym z)) (sym k))))
        (λ n. rw (ne_eqb (contender c bs j).level (contender c bs i).level (λ z. n (sym z))))))
      where
        i< : i < c.bodies
        i< = rw a.size at hi

        j< : j < c.bodies
        j< = rw a.size at hj

        never : (b : Bool) → b && not b ≡ false
        never true = refl
        never false = refl

        self : (z : Candidate) → goes_before by_begun z z ≡ goes_before by_holding z z
        self z = rw (never z.began, never z.holder)

        answers : (k : ℕ) → competes (at bs k).phase ≡ true → is_started (at bs k).phase ≡ holds (at bs k).held
            → (contender c bs k).began ≡ (contender c bs k).holder
        answers k r h =
            let is = candidate_active c k (at bs k) (at bs k).phase r in
            ap (λ (z : Candidate). z.began) is ∙ h ∙ sym (ap (λ (z : Candidate). z.holder) is)

    same_choice : chosen_by by_begun c bs ≡ chosen_by by_holding c bs
    same_choice = chosen_same by_begun by_holding c bs agree

  same_runner : (s : State) → Kept c begun_body s.bodies → runner_by by_begun c s ≡ runner c s
  same_runner s a = ap (latest_of s.bodies s.order) (same_choice a)

  -- no task is extended
  module _ (shaped : Configuration.Shaped c) (basic : (b : ℕ) → is_extended c b ≡ false) where
    no_set : (s : State) (t w : ℕ) → AcceptedIn c s (Set t w) → (b : Body) → begun_body (receives w b) ≡ true
        → begun_body b ≡ true
    unfolding step_by
    no_set s t w z b h = absurd (true≢false (sym (set_passed c s t w z).2 ∙ basic t))

    old_step : (s : State) → Kept c begun_body s.bodies → Underway c s → (e : Event)
        → step_by by_begun c s e ≡ step c s e
    unfolding step_by
    old_step s a underway e =
        ap (λ (k : Candidate). ending_to (runner_by by_begun c (leaves_for c k s e)) (status_for c k s e) (dues_at c s e)
        (leaves_for c k s e)) (same_runner s a)
        ∙ ap (λ (k : Candidate). ending_to k (status_of c s e) (dues_at c s e) (leaves c s e))
        (same_runner (leaves c s e) (leaves_kept c ok begun_bodies no_set s a underway e))

    old_from : (es : List Event) (s : State) → Kept c begun_body s.bodies → Underway c s
        → (seen_by by_begun c s es ≡ seen c s es) × (after_by by_begun c s es ≡ after c s es)
    unfolding seen_by after_by
    old_from [] s a underway = (refl, refl)
    old_from (e ∷ es) s a underway =
        let kept = step_kept c ok begun_bodies no_set s a underway e in
        let rest = old_from es (step c s e).state kept (underway_step c s e) in
        rw (old_step s a underway e) (ap (λ (xs : List Seen). (step c s e).seen ∷ xs) rest.0, rest.1)

    old_fresh : fresh_by by_begun c ≡ fresh c
    old_fresh =
        ap (λ (k : Candidate). dispatched_to k (unstarted c))
        (same_runner (unstarted c) (unstarted_kept c ok begun_bodies no_set shaped))

    pub old_rule : (es : List Event)
        → (seen_by by_begun c (fresh_by by_begun c) es ≡ seen c (fresh c) es)
        × (after_by by_begun c (fresh_by by_begun c) es ≡ after c (fresh c) es)
    old_rule es = rw old_fresh (old_from es (fresh c) (fresh_kept c ok begun_bodies no_set shaped) (underway_fresh c))

    -- "on equal priorities the one that already began goes first"
    pub runner_began : (es : List Event) (k : ℕ) → competes (body_of (after c (fresh c) es) k).phase ≡ true
        → is_started (body_of (after c (fresh c) es) k).phase ≡ true
        → current c k (body_of (after c (fresh c) es) k) ≡ (runner c (after c (fresh c) es)).level
        → (runner c (after c (fresh c) es)).began ≡ true
    runner_began es k active begun equal = by_order s.order refl
      where
        s : State
        s = after c (fresh c) es

        a : Kept c begun_body s.bodies
        a = reached_kept c ok begun_bodies no_set shaped es

        chosen_began : s.order ≡ [] → (runner c s).began ≡ true
        chosen_began o =
            let is = sym (same_choice a) in
            let now = runner_untimed c s o in
            ap (λ (x : Candidate). x.began) (now ∙ is)
            ∙ chosen_tie by_begun refl c s.bodies k active
            (ap (λ (x : Candidate). x.began) (candidate_active c k (body_of s k) (body_of s k).phase active) ∙ begun)
            (equal ∙ ap (λ (x : Candidate). x.level) (now ∙ is))

        -- a started time-triggered task has begun
        by_order : (js : List ℕ) → s.order ≡ js → (runner c s).began ≡ true
        by_order [] o = chosen_began o
        by_order (j ∷ js) o =
            let is = runner_timed c s j js o in
            not-false (runner c s).began
            (sym (ap (λ (n : ℕ). not (eqb n 0) && not (runner c s).began) (ap (λ (x : Candidate). x.level) is))
            ∙ underway_named c s (underway_after c es (fresh c) (underway_fresh c))
            (λ i h. rw a.size (named_after c es (fresh c) (named_fresh c) i h)))

  -- where the choice is made: at the fresh start, after every list of events, and after the event that comes next
  module _ (shaped : Configuration.Shaped c) where
    pub decided_fresh : (i j : ℕ) → i < c.bodies → j < c.bodies → i ≢ j
        → competes (body_of (unstarted c) i).phase ≡ true
        → competes (body_of (unstarted c) j).phase ≡ true
        → (goes_before by_holding (contender c (unstarted c).bodies i) (contender c (unstarted c).bodies j) ≡ true)
        ⊎ (goes_before by_holding (contender c (unstarted c).bodies j) (contender c (unstarted c).bodies i) ≡ true)
    decided_fresh = decided (unstarted_kept c ok holders (set_holds c) shaped)

    kept : (es : List Event) → Kept c holder (after c (fresh c) es).bodies
    kept = reached_kept c ok holders (set_holds c) shaped

    pub decided_after : (es : List Event) (i j : ℕ) → i < c.bodies → j < c.bodies → i ≢ j
        → competes (body_of (after c (fresh c) es) i).phase ≡ true
        → competes (body_of (after c (fresh c) es) j).phase ≡ true
        → (goes_before by_holding (contender c (after c (fresh c) es).bodies i)
        (contender c (after c (fresh c) es).bodies j) ≡ true)
        ⊎ (goes_before by_holding (contender c (after c (fresh c) es).bodies j)
        (contender c (after c (fresh c) es).bodies i) ≡ true)
    decided_after es = decided (kept es)

    pub decided_at : (es : List Event) (e : Event) (i j : ℕ) → i < c.bodies → j < c.bodies → i ≢ j
        → competes (body_of (leaves c (after c (fresh c) es) e) i).phase ≡ true
        → competes (body_of (leaves c (after c (fresh c) es) e) j).phase ≡ true
        → (goes_before by_holding (contender c (leaves c (after c (fresh c) es) e).bodies i)
        (contender c (leaves c (after c (fresh c) es) e).bodies j) ≡ true)
        ⊎ (goes_before by_holding (contender c (leaves c (after c (fresh c) es) e).bodies j)
        (contender c (leaves c (after c (fresh c) es) e).bodies i) ≡ true)
    decided_at es e =
        decided
        (leaves_kept c ok holders (set_holds c) (after c (fresh c) es) (kept es)
        (underway_after c es (fresh c) (underway_fresh c)) e)
