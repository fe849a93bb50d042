-- Who runs is the same in two states that are the same above L, where both levels are at least L:
-- `runner_same`.
--
-- In order: two candidates that are equal or both too light to count; so are the choices among them; a body
-- that is not above L and has not begun is too light; who runs.
use Prim.Native.Nat.{ℕ, zero, suc, ◌+◌, ◌*◌, ◌≤◌, ◌<◌, max}
use mathlib.Core.Path.{◌≡◌, refl, sym, ap, ap₂, ◌∙◌}
use mathlib.Core.Bool.{Bool, true, false, true≢false}
use mathlib.Core.List.{List, [], ◌∷◌, foldr, map}
use native.Mathlib.Nat.{zero-add, add-zero}
use native.Mathlib.Omega.{arith}
use borrow.Author.Tests.{ltb-false, eq-eqb}
use lib.Dec.{ltb}
use lib.ListN.{length, get_or}
use Rattle.number.proofs.Cases.{by_test, by_lt, neither}
use Rattle.config.specs.declared.Config.{Config}
use Rattle.config.specs.Meaning.{is_timed, execution_level, priority_of, ceiling}
use Rattle.config.specs.Accepted as Configuration
use Rattle.config.proofs.Theorems.{priority_inj}
use Rattle.scheduler.specs.Body.{Phase, suspended, ready, started, waiting, triggered, is_started, competes, has_begun, Body, holds, current}
use Rattle.scheduler.specs.Choice.{Candidate, candidate, by_holding, preferred, chosen_from, chosen}
use Rattle.scheduler.specs.State.{State, no_body, body_of, among, runner}
use Rattle.scheduler.specs.Scheduler.{mark_of}
use Rattle.scheduler.proofs.Body.{started_competes}
use Rattle.scheduler.proofs.Choice.Runner.{contender, weight, mark_of_le, weight_before, weight_after, candidate_active, candidate_none, current_free, Taken, no_one, body, chosen_from_lem, runner_timed, runner_untimed}
use Rattle.scheduler.proofs.Choice.Separation.{Steady, Kept, holder}
use Rattle.isolation.specs.Above.{above}
use Rattle.isolation.specs.States.{begun_phase, SameState}

-- what counts of a candidate beside others
abbrev pub heavy : Candidate → ℕ
heavy x = weight by_holding x

-- equal, or neither is more than a body of priority L that holds nothing
pub data Near (L : ℕ) (x y : Candidate) : Type 0 where
  equal : x ≡ y → Near L x y
  light : heavy x ≤ 2 * L → heavy y ≤ 2 * L → Near L x y

module _ (L : ℕ) where
  light_preferred : (x y : Candidate) → heavy x ≤ 2 * L → heavy y ≤ 2 * L → heavy (preferred by_holding x y) ≤ 2 * L
  light_preferred x y p q =
      by_lt (heavy x) (heavy y)
      (λ h. rw (weight_before by_holding y x h) q)
      (λ h. rw (weight_after by_holding y x h) p)

  left_preferred : (x y : Candidate) → heavy y ≤ heavy x → preferred by_holding x y ≡ x
  left_preferred x y h = rw (weight_after by_holding y x h)

  right_preferred : (x y : Candidate) → heavy x < heavy y → preferred by_holding x y ≡ y
  right_preferred x y h = rw (weight_before by_holding y x h)

  preferred_near : {x y x' y' : Candidate} → Near L x x' → Near L y y'
      → Near L (preferred by_holding x y) (preferred by_holding x' y')
  preferred_near (equal p) (equal q) = equal (ap₂ (preferred by_holding) p q)
  preferred_near {x} {y} {x'} {y'} (equal p) (light q q') =
      by_lt (2 * L) (heavy x)
      (λ h. let w : heavy x ≡ heavy x' = ap heavy p in
      equal (left_preferred x y (omega arith) ∙ p ∙ sym (left_preferred x' y' (omega arith))))
      (λ h. let w : heavy x ≡ heavy x' = ap heavy p in
      light (light_preferred x y h q) (light_preferred x' y' (omega arith) q'))
  preferred_near {x} {y} {x'} {y'} (light p p') (equal q) =
      by_lt (2 * L) (heavy y)
      (λ h. let w : heavy y ≡ heavy y' = ap heavy q in
      equal (right_preferred x y (omega arith) ∙ q ∙ sym (right_preferred x' y' (omega arith))))
      (λ h. let w : heavy y ≡ heavy y' = ap heavy q in
      light (light_preferred x y p h) (light_preferred x' y' p' (omega arith)))
  preferred_near {x} {y} {x'} {y'} (light p p') (light q q') =
      light (light_preferred x y p q) (light_preferred x' y' p' q')

  shift : (i k : ℕ) → i + suc k ≡ suc i + k
  shift i k = omega arith

  chosen_from_near : (c : Config) (i : ℕ) (bs bs' : List Body) → length bs ≡ length bs'
      → ((k : ℕ) → Near L (candidate c (i + k) (get_or bs k no_body) (get_or bs k no_body).phase)
      (candidate c (i + k) (get_or bs' k no_body) (get_or bs' k no_body).phase))
      → Near L (chosen_from by_holding c i bs) (chosen_from by_holding c i bs')
  unfolding chosen_from
  chosen_from_near c i [] [] e all = equal refl
  chosen_from_near c i [] (b ∷ bs) e all = absurd (omega arith)
  chosen_from_near c i (b ∷ bs) [] e all = absurd (omega arith)
  chosen_from_near c i (b ∷ bs) (b' ∷ bs') e all =
      preferred_near (rw add-zero at (all zero))
      (chosen_from_near c (suc i) bs bs' (omega arith) (λ k. rw (shift i k) at (all (suc k))))

-- a body that is not above L
module _ (c : Config) (L i : ℕ) (below : above c L i ≡ false) where
  priority_le : priority_of c i ≤ L
  priority_le = ltb-false L (priority_of c i) (neither (is_timed c i) (ltb L (priority_of c i)) below).1

  -- that has not begun
  unbegun_light : (b : Body) → Steady b → is_started b.phase ≡ false → heavy (candidate c i b b.phase) ≤ 2 * L
  unbegun_light b steady n =
      by_test (competes b.phase)
      (λ p. rw (candidate_active c i b b.phase p)
      (go b.held refl))
      (λ p. rw (candidate_none c i b b.phase p) (omega arith))
    where
      go : (rs : List ℕ) → b.held ≡ rs → 2 * current c i b + mark_of (holds b.held) ≤ 2 * L
      go [] e = rw e (omega (arith, priority_le))
      go (r ∷ rs) e = absurd (true≢false (sym (steady (rw e)) ∙ n))

-- a body that is chosen at the level L and weighs no more than that: its priority is L
at_level : (c : Config) (L : ℕ) (bs : List Body) (k : ℕ) (x : Candidate) → x ≡ contender c bs k
    → competes (get_or bs k no_body).phase ≡ true
    → L ≤ x.level
    → heavy x ≤ 2 * L
    → priority_of c k ≡ L
at_level c L bs k x z p lo hi =
    let is = z ∙ candidate_active c k (get_or bs k no_body) (get_or bs k no_body).phase p in
    go (get_or bs k no_body).held refl (ap heavy is) (ap (λ (y : Candidate). y.level) is)
  where
    go : (rs : List ℕ) → (get_or bs k no_body).held ≡ rs
        → heavy x ≡ 2 * current c k (get_or bs k no_body) + mark_of (holds (get_or bs k no_body).held)
        → x.level ≡ current c k (get_or bs k no_body)
        → priority_of c k ≡ L
    go [] e w l =
        let f : current c k (get_or bs k no_body) ≡ priority_of c k = current_free c k (get_or bs k no_body) e in
        omega (arith, w, l, f, mark_of_le (holds (get_or bs k no_body).held), mark_of_le x.holder)
    go (r ∷ rs) e w l =
        let one : mark_of (holds (get_or bs k no_body).held) ≡ 1 = ap (λ (m : List ℕ). mark_of (holds m)) e in
        absurd (omega arith)

begun_started : (p : Phase) → is_started (begun_phase p) ≡ is_started p
begun_started suspended = refl
begun_started ready = refl
begun_started started = refl
begun_started (waiting w) = refl
begun_started (triggered true) = refl
begun_started (triggered false) = refl

module _ (c : Config) (L : ℕ) {s s' : State} (same : SameState c L s s') where
  pub held_same : (i : ℕ) → (body_of s i).held ≡ (body_of s' i).held
  held_same i = ap (λ (b : Body). b.held) (same.low i)

  started_same : (i : ℕ) → is_started (body_of s i).phase ≡ is_started (body_of s' i).phase
  started_same i =
      sym (begun_started (body_of s i).phase) ∙ ap (λ (b : Body). is_started b.phase) (same.low i)
      ∙ begun_started (body_of s' i).phase

  -- two that may run and have begun alike
  candidate_same : (i : ℕ) → competes (body_of s i).phase ≡ true → competes (body_of s' i).phase ≡ true
      → contender c s.bodies i ≡ contender c s'.bodies i
  candidate_same i p p' =
      candidate_active c i (body_of s i) (body_of s i).phase p
      ∙ ap₂ (λ (rs : List ℕ) (b : Bool). record {
        number = i;
        level = foldr max (priority_of c i) (map (ceiling c) rs);
        began = b;
        holder = holds rs;
        timed = false;
      }) (held_same i) (started_same i)
      ∙ sym (candidate_active c i (body_of s' i) (body_of s' i).phase p')

  module _ (kept : Kept c holder s.bodies) (kept' : Kept c holder s'.bodies) where
    contenders_near : (i : ℕ) → Near L (contender c s.bodies i) (contender c s'.bodies i)
    contenders_near i =
        by_test (above c L i)
        (λ a. equal (ap (λ (b : Body). candidate c i b b.phase) (same.high i a)))
        (λ a. by_test (is_started (body_of s i).phase)
        (λ h. equal
        (candidate_same i (started_competes (body_of s i).phase h)
        (started_competes (body_of s' i).phase (sym (started_same i) ∙ h))))
        (λ n. light (unbegun_light c L i a (body_of s i) (kept.steady i) n)
        (unbegun_light c L i a (body_of s' i) (kept'.steady i) (sym (started_same i) ∙ n))))

    chosen_near : Near L (chosen c s.bodies) (chosen c s'.bodies)
    chosen_near =
        chosen_from_near L c 0 s.bodies s'.bodies same.size (λ k. rw zero-add (contenders_near k))

    module _ (ok : Configuration.Accepted c) (high : L ≤ (chosen c s.bodies).level)
        (high' : L ≤ (chosen c s'.bodies).level) where
      pub chosen_same : chosen c s.bodies ≡ chosen c s'.bodies
      chosen_same = go chosen_near
        where
          go : Near L (chosen c s.bodies) (chosen c s'.bodies) → chosen c s.bodies ≡ chosen c s'.bodies
          go (equal e) = e
          go (light p p') =
              settle (chosen_from_lem by_holding refl c s.bodies) (chosen_from_lem by_holding refl c s'.bodies)
            where
              settle : Taken c s.bodies (chosen c s.bodies) → Taken c s'.bodies (chosen c s'.bodies)
                  → chosen c s.bodies ≡ chosen c s'.bodies
              settle (no_one z) (no_one z') = z ∙ sym z'
              settle (no_one z) (body k h q z') =
                  absurd (omega (
                    arith,
                    at_level c L s'.bodies k (chosen c s'.bodies) z' q high' p',
                    ok.priority_low k (rw kept'.size at h),
                    ap (λ (y : Candidate). y.level) z,
                  ))
              settle (body k h q z) (no_one z') =
                  absurd (omega (
                    arith,
                    at_level c L s.bodies k (chosen c s.bodies) z q high p,
                    ok.priority_low k (rw kept.size at h),
                    ap (λ (y : Candidate). y.level) z',
                  ))
              settle (body k h q z) (body k' h' q' z') =
                  let k_is = at_level c L s.bodies k (chosen c s.bodies) z q high p in
                  let k'_is = at_level c L s'.bodies k' (chosen c s'.bodies) z' q' high' p' in
                  let e : k ≡ k' =
                  priority_inj c ok k k' (rw kept.size at h) (rw kept'.size at h') (k_is ∙ sym k'_is) in
                  z ∙ ap (contender c s.bodies) e ∙ candidate_same k' (rw e at q) q' ∙ sym z'

-- who runs: a started time-triggered task is the same in both
pub runner_same : (c : Config) → Configuration.Accepted c → (L : ℕ) {s s' : State} → SameState c L s s'
    → Kept c holder s.bodies
    → Kept c holder s'.bodies
    → ((j : ℕ) → among j s.order ≡ true → is_timed c j ≡ true)
    → L ≤ (runner c s).level
    → L ≤ (runner c s').level
    → runner c s ≡ runner c s'
unfolding among
runner_same c ok L {s} {s'} same kept kept' timed high high' = go s.order refl
  where
    go : (js : List ℕ) → s.order ≡ js → runner c s ≡ runner c s'
    go [] o =
        let o' = sym same.order ∙ o in
        runner_untimed c s o
        ∙ chosen_same c L same kept kept' ok (rw (runner_untimed c s o) at high) (rw (runner_untimed c s' o') at high')
        ∙ sym (runner_untimed c s' o')
    go (j ∷ js) o =
        let o' = sym same.order ∙ o in
        let t : is_timed c j ≡ true = timed j (rw o (rw (eq-eqb j j refl))) in
        runner_timed c s j js o
        ∙ ap (λ (b : Body). record {
          number = j;
          level = execution_level;
          began = has_begun b.phase;
          holder = false;
          timed = true;
        }) (same.high j (rw t))
        ∙ sym (runner_timed c s' j js o')
