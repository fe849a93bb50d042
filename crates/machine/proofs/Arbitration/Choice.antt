-- Who is chosen by priority, from how the bodies stand: the first of the nest, nobody, or a body above the level; no
-- time-triggered task is started.
--
--   chosen_seated  no body is above the level: the first of the nest is chosen
--   chosen_none    the same where nobody is in it
--   chosen_above   the highest of those above the level is chosen
use Prim.Native.Nat.{ℕ, ◌+◌, ◌*◌, ◌≤◌, ◌<◌}
use mathlib.Core.Path.{◌≡◌, refl, ap, ◌∙◌}
use mathlib.Core.Logic.{◌≢◌}
use mathlib.Core.Bool.{Bool, true, false}
use mathlib.Core.List.{List, [], ◌∷◌}
use native.Mathlib.Omega.{arith}
use borrow.Author.Tests.{ne_eqb}
use Rattle.number.proofs.Cases.{by_test}
use Rattle.config.specs.declared.Config.{Config}
use Rattle.config.specs.Meaning.{priority_of}
use Rattle.plan.specs.declared.Plan.{Plan}
use Rattle.scheduler.specs.Body.{Phase, suspended, ready, started, waiting, triggered, is_started, competes, Body, holds, current}
use Rattle.scheduler.specs.Choice.{Candidate, by_holding, nobody, chosen}
use Rattle.scheduler.specs.State.{among}
use Rattle.scheduler.specs.Scheduler.{mark_of}
use Rattle.scheduler.proofs.Body.{started_competes}
use Rattle.scheduler.proofs.Choice.Runner.{contender, weight, mark_of_le, weight_before, chosen_best, chosen_nobody, current_own, current_free, candidate_active}
use Rattle.scheduler.proofs.Members.{by_among}
use Rattle.machine.specs.Model.{Model}
use Rattle.plan.proofs.Fitted.{Fitted}
use Rattle.machine.proofs.Relation.Words.{at}
use Rattle.machine.proofs.Relation.Nest.{level_at, Nested, Seats, nest_level}
use Rattle.machine.proofs.Relation.Whole.{Tied, Calm}

-- body i as the choice by priority sees it
abbrev pub bidder : ℕ → ℕ → Bool → Bool → Candidate
bidder i level began holder = record { number = i; level = level; began = began; holder = holder; timed = false }

module _ {c : Config} {p : Plan} {rk : ℕ → ℕ} (fit : Fitted c p rk) {m : Model} {bs : List Body} {ns : List ℕ}
    (t : Tied c rk m bs [] ns) where
  -- what a body that is ready or started is to the choice
  contends : (i : ℕ) → competes (at bs i).phase ≡ true
      → contender c bs i ≡ bidder i (current c i (at bs i)) (is_started (at bs i).phase) (holds (at bs i).held)
  contends i a = candidate_active c i (at bs i) (at bs i).phase a

  weighs : (i : ℕ) → competes (at bs i).phase ≡ true
      → weight by_holding (contender c bs i) ≡ 2 * current c i (at bs i) + mark_of (holds (at bs i).held)
  weighs i a = ap (weight by_holding) (contends i a)

  -- the current priority of a body outside the nest is its own
  own_outside : (i : ℕ) → among i ns ≡ false → current c i (at bs i) ≡ priority_of c i
  own_outside i h = current_free c i (at bs i) (t.loose i h)

  -- the level is that of the nest
  pub level_is : m.core.level ≡ level_at c bs ns
  unfolding Seats level_at
  level_is = go ns t.seats
    where
      go : (ns : List ℕ) → Seats c rk bs [] m.core.runner m.core.level ns → m.core.level ≡ level_at c bs ns
      go [] k = k.1
      go (b ∷ ns) k = k.1.0

  module _ (calm : Calm c m.core.level bs) where
    -- no body is above the level, so the first of the nest is chosen
    pub chosen_seated : (b : ℕ) (rest : List ℕ) → ns ≡ b ∷ rest
        → chosen c bs ≡ bidder b (current c b (at bs b)) true (holds (at bs b).held)
    unfolding Nested level_at
    chosen_seated b rest e =
        chosen_best by_holding refl c bs b
        (rw (contends b act) (ne_eqb (current c b (at bs b)) 0 (λ z. absurd (omega (arith, z, some)))))
        (λ i i< other a. weight_before by_holding (contender c bs b) (contender c bs i)
        (lighter i (rw t.size at i<) other a))
        ∙ contends b act ∙ rw k.1.0
      where
        k : Nested c bs (b ∷ rest)
        k = rw e at t.nested

        act : competes (at bs b).phase ≡ true
        act = started_competes (at bs b).phase k.1.0

        some : 1 ≤ current c b (at bs b)
        some = omega (arith, fit.own_some b k.0, current_own c b (at bs b))

        level : m.core.level ≡ current c b (at bs b)
        level = level_is ∙ ap (level_at c bs) e

        -- a body outside the nest holds nothing: it is below the level, or the first of the nest was raised to it and
        -- holds
        loose_lighter : (i : ℕ) → i < c.bodies → i ≢ b → priority_of c i ≤ current c b (at bs b)
            → (rs : List ℕ) → (at bs b).held ≡ rs
            → 2 * priority_of c i + 0 < 2 * current c b (at bs b) + mark_of (holds rs)
        loose_lighter i i< other le [] h =
            let ne : priority_of c i ≢ priority_of c b = λ z. other (fit.own_inj i b i< k.0 z) in
            omega (arith, current_free c b (at bs b) h)
        loose_lighter i i< other le (r ∷ rs) h = omega arith

        lighter : (i : ℕ) → i < c.bodies → i ≢ b → competes (at bs i).phase ≡ true
            → weight by_holding (contender c bs i) < weight by_holding (contender c bs b)
        lighter i i< other a =
            rw (weighs b act, weighs i a)
            (by_test (among i ns)
            (λ h. by_among i b rest (rw e at h)
            (λ same. absurd (other same))
            (λ _ w.
            let below = nest_level c bs i rest k.1.1.1 w in
            omega (arith, below, k.1.1.0, current_own c b (at bs b), mark_of_le (holds (at bs i).held))))
            (λ h. rw (own_outside i h, ap holds (t.loose i h))
            (loose_lighter i i< other (omega (arith, calm i i< a, level)) (at bs b).held refl)))

    -- nobody is chosen where the nest is empty
    pub chosen_none : ns ≡ [] → chosen c bs ≡ nobody
    unfolding level_at
    chosen_none e = chosen_nobody by_holding refl c bs (λ i i<. asleep i (rw t.size at i<) (at bs i).phase refl)
      where
        idle : m.core.level ≡ 0
        idle = level_is ∙ ap (level_at c bs) e

        asleep : (i : ℕ) → i < c.bodies → (q : Phase) → (at bs i).phase ≡ q → competes q ≡ false
        asleep i i< suspended e = refl
        asleep i i< ready e = absurd (omega (arith, fit.own_some i i<, calm i i< (rw e), idle))
        asleep i i< started e = absurd (omega (arith, fit.own_some i i<, calm i i< (rw e), idle))
        asleep i i< (waiting w) e = refl
        asleep i i< (triggered x) e = refl

  -- a body above the level that is above every other one is chosen
  module _ (w : ℕ) (w< : w < c.bodies) (act : competes (at bs w).phase ≡ true)
      (above : m.core.level < priority_of c w)
      (best : (i : ℕ) → i < c.bodies → i ≢ w → competes (at bs i).phase ≡ true
      → priority_of c i < priority_of c w) where
    -- it is in no nest
    pub outside : among w ns ≡ false
    outside =
        by_test (among w ns)
        (λ h. absurd (omega (arith, nest_level c bs w ns t.nested h, current_own c w (at bs w), level_is)))
        (λ h. h)

    -- every other one runs below its own priority
    current_below : (i : ℕ) → i < c.bodies → i ≢ w → competes (at bs i).phase ≡ true
        → current c i (at bs i) < priority_of c w
    current_below i i< other a =
        by_test (among i ns)
        (λ h. omega (arith, nest_level c bs i ns t.nested h, level_is))
        (λ h. omega (arith, own_outside i h, best i i< other a))

    pub chosen_above : chosen c bs ≡ bidder w (priority_of c w) (is_started (at bs w).phase) false
    chosen_above =
        chosen_best by_holding refl c bs w
        (rw (contends w act, own_outside w outside)
        (ne_eqb (priority_of c w) 0 (λ z. absurd (omega (arith, z, fit.own_some w w<)))))
        (λ i i< other a. weight_before by_holding (contender c bs w) (contender c bs i)
        (lighter i (rw t.size at i<) other a))
        ∙ contends w act ∙ rw (own_outside w outside, t.loose w outside)
      where
        lighter : (i : ℕ) → i < c.bodies → i ≢ w → competes (at bs i).phase ≡ true
            → weight by_holding (contender c bs i) < weight by_holding (contender c bs w)
        lighter i i< other a =
            rw (weighs i a, weighs w act, own_outside w outside)
            (omega (arith, current_below i i< other a, mark_of_le (holds (at bs i).held)))
