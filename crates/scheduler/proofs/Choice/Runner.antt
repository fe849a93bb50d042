-- Who is chosen, from facts that are known body by body.
--
-- In order: the order of candidates as an order of numbers (`weight`); whom the choice takes, and that nobody goes
-- before him; the choice where one body is changed (`chosen_mapped`), and by two rules for ties that agree
-- (`chosen_same`); the choice from above (`chosen_best`, `chosen_nobody`); the current priority; that of the chosen
-- one; who runs where a time-triggered task is started, and where none is. q is the rule for ties.
use Prim.Native.Nat.{ℕ, zero, suc, ◌+◌, ◌*◌, ◌≤◌, ◌<◌, max}
use mathlib.Core.Path.{◌≡◌, refl, sym, ap, ap₂, ◌∙◌}
use mathlib.Core.Logic.{◌≢◌}
use mathlib.Core.Bool.{Bool, true, false, true≢false, cond, not, ◌&&◌, ◌||◌}
use mathlib.Core.List.{List, [], ◌∷◌, foldr, map}
use native.Mathlib.Nat.{zero-add, add-zero}
use native.Mathlib.Omega.{arith}
use borrow.Author.Tests.{ltb-true, lt-ltb, le-ltb, eq-eqb, ne_eqb, eqb-false}
use lib.Dec.{ltb, eqb, lit≤}
use lib.ListN.{length, get_or, set}
use Rattle.number.proofs.Cases.{by_lt, by_eq, cond_either}
use Rattle.config.specs.declared.Config.{Config}
use Rattle.config.specs.Meaning.{priority_of, ceiling}
use Rattle.scheduler.specs.Body.{Phase, suspended, ready, started, waiting, triggered, is_started, competes, Body, holds, current, gets, releases}
use Rattle.scheduler.specs.Choice.{Candidate, nobody, is_nobody, candidate, Tie, by_holding, goes_before, preferred, chosen_from, chosen_by, chosen}
use Rattle.scheduler.specs.State.{State, no_body, among, latest_of, runner}
use Rattle.scheduler.specs.Scheduler.{mark_of}

-- what the k-th of the bodies bs is to the choice
abbrev pub contender : Config → List Body → ℕ → Candidate
contender c bs k = candidate c k (get_or bs k no_body) (get_or bs k no_body).phase

-- "the greatest current priority .. on equal current priority" the one of which the rule's question holds:
-- the greatest of these numbers
abbrev pub weight : Tie → Candidate → ℕ
weight q k = 2 * k.level + mark_of (q k)

pub mark_of_le : (b : Bool) → mark_of b ≤ 1
mark_of_le true = lit≤ tt
mark_of_le false = lit≤ tt

module _ (q : Tie) (j k : Candidate) where
  goes_before_weight : goes_before q j k ≡ ltb (weight q k) (weight q j)
  goes_before_weight = by_level j.level k.level (q j) (q k)
    where
      tie : (m : ℕ) (p q : Bool) → (p && not q) ≡ ltb (2 * m + mark_of q) (2 * m + mark_of p)
      tie m true true = sym (le-ltb (2 * m + 1) (2 * m + 1) (omega arith))
      tie m true false = sym (lt-ltb (2 * m + 0) (2 * m + 1) (omega arith))
      tie m false true = sym (le-ltb (2 * m + 1) (2 * m + 0) (omega arith))
      tie m false false = sym (le-ltb (2 * m + 0) (2 * m + 0) (omega arith))

      by_level : (m n : ℕ) (p q : Bool)
          → (ltb n m || (eqb n m && (p && not q))) ≡ ltb (2 * n + mark_of q) (2 * m + mark_of p)
      by_level m n p q =
          by_lt n m
          (λ h. simp
          (lt-ltb n m h, lt-ltb (2 * n + mark_of q) (2 * m + mark_of p) (omega (arith, mark_of_le p, mark_of_le q))))
          (λ h. by_eq n m
          (λ e. rw e (simp (le-ltb m m (omega arith), eq-eqb m m refl) (tie m p q)))
          (λ d. simp (
            le-ltb n m h,
            ne_eqb n m d,
            le-ltb (2 * n + mark_of q) (2 * m + mark_of p)
                (omega (arith, mark_of_le p, mark_of_le q)),
          )))

  before_weight : goes_before q j k ≡ true → weight q k < weight q j
  before_weight e = ltb-true (weight q k) (weight q j) (sym goes_before_weight ∙ e)

  pub weight_before : weight q k < weight q j → goes_before q j k ≡ true
  weight_before h = goes_before_weight ∙ lt-ltb (weight q k) (weight q j) h

  pub weight_after : weight q j ≤ weight q k → goes_before q j k ≡ false
  weight_after h = goes_before_weight ∙ le-ltb (weight q k) (weight q j) h

preferred_left : (q : Tie) (j k : Candidate) → weight q j ≤ weight q (preferred q j k)
preferred_left q j k =
    by_lt (weight q j) (weight q k)
    (λ h. rw (weight_before q k j h) (omega arith))
    (λ h. rw (weight_after q k j h) (omega arith))

preferred_right : (q : Tie) (j k : Candidate) → weight q k ≤ weight q (preferred q j k)
preferred_right q j k =
    by_lt (weight q j) (weight q k)
    (λ h. rw (weight_before q k j h) (omega arith))
    (λ h. rw (weight_after q k j h) (omega arith))

-- the choice among bodies that are numbered from i on
contender_from : Config → ℕ → List Body → ℕ → Candidate
contender_from c i bs k = candidate c (i + k) (get_or bs k no_body) (get_or bs k no_body).phase

data From (c : Config) (i : ℕ) (bs : List Body) (x : Candidate) : Type 0 where
  none : x ≡ nobody → From c i bs x
  one : (k : ℕ) → k < length bs → competes (get_or bs k no_body).phase ≡ true → x ≡ contender_from c i bs k → From c i bs x

shift : (i k : ℕ) → i + suc k ≡ suc i + k
shift i k = omega arith

from_later : {c : Config} {i : ℕ} {b : Body} {bs : List Body} {x : Candidate} → From c (suc i) bs x
    → From c i (b ∷ bs) x
unfolding contender_from
from_later (none e) = none e
from_later {i = i} (one k h p e) = one (suc k) (omega arith) p (rw (shift i k) e)

from_first : (c : Config) (i : ℕ) (b : Body) (bs : List Body) → From c i (b ∷ bs) (candidate c i b b.phase)
unfolding contender_from candidate
from_first c i b bs = go b.phase refl
  where
    go : (p : Phase) → b.phase ≡ p → From c i (b ∷ bs) (candidate c i b p)
    go suspended e = none refl
    go ready e = one zero (omega arith) (rw e refl) (rw (e, add-zero) refl)
    go started e = one zero (omega arith) (rw e refl) (rw (e, add-zero) refl)
    go (waiting w) e = none refl
    go (triggered x) e = none refl

chosen_from_top : (q : Tie) (c : Config) (i : ℕ) (bs : List Body) (k : ℕ)
    → weight q (contender_from c i bs k) ≤ weight q (chosen_from q c i bs) + mark_of (q nobody)
unfolding contender_from candidate chosen_from
chosen_from_top q c i [] k = omega arith
chosen_from_top q c i (b ∷ bs) zero =
    rw add-zero (omega (arith, preferred_left q (candidate c i b b.phase) (chosen_from q c (suc i) bs)))
chosen_from_top q c i (b ∷ bs) (suc k) =
    rw (shift i k)
    (omega (
      arith,
      chosen_from_top q c (suc i) bs k,
      preferred_right q (candidate c i b b.phase)
          (chosen_from q c (suc i) bs),
    ))

chosen_from_from : (q : Tie) (c : Config) (i : ℕ) (bs : List Body) → From c i bs (chosen_from q c i bs)
unfolding chosen_from
chosen_from_from q c i [] = none refl
chosen_from_from q c i (b ∷ bs) =
    cond_either (From c i (b ∷ bs)) (goes_before q (chosen_from q c (suc i) bs) (candidate c i b b.phase))
    (chosen_from q c (suc i) bs) (candidate c i b b.phase)
    (from_later (chosen_from_from q c (suc i) bs))
    (from_first c i b bs)

-- The body i becomes y, which changes what it is to the choice by g,
-- and g leaves the others and the preferences: the choice is changed by g.
module _ (q : Tie) (c : Config) (g : Candidate → Candidate) (respects : (x y : Candidate)
    → preferred q (g x) (g y) ≡ g (preferred q x y))
    (on_nobody : g nobody ≡ nobody) (i : ℕ)
    (others : (j : ℕ) (b : Body) → j ≢ i → g (candidate c j b b.phase) ≡ candidate c j b b.phase) (y : Body)
  where
    unmapped : (j : ℕ) (bs : List Body) → i < j → g (chosen_from q c j bs) ≡ chosen_from q c j bs
    unfolding chosen_from
    unmapped j [] h = on_nobody
    unmapped j (b ∷ bs) h =
        sym (respects (candidate c j b b.phase) (chosen_from q c (suc j) bs))
        ∙ ap₂ (preferred q) (others j b (λ e. absurd (omega arith))) (unmapped (suc j) bs (omega arith))

    mapped_from : (j : ℕ) (bs : List Body) (k : ℕ) → j + k ≡ i
        → candidate c i y y.phase ≡ g (candidate c i (get_or bs k no_body) (get_or bs k no_body).phase)
        → chosen_from q c j (set bs k y) ≡ g (chosen_from q c j bs)
    unfolding chosen_from
    mapped_from j [] k e h = sym on_nobody
    mapped_from j (b ∷ bs) zero e h =
        let same : j ≡ i = omega arith in
        ap₂ (preferred q) (rw same h) (sym (unmapped (suc j) bs (omega arith)))
        ∙ respects (candidate c j b b.phase) (chosen_from q c (suc j) bs)
    mapped_from j (b ∷ bs) (suc k) e h =
        ap₂ (preferred q) (sym (others j b (λ z. absurd (omega arith)))) (mapped_from (suc j) bs k (omega arith) h)
        ∙ respects (candidate c j b b.phase) (chosen_from q c (suc j) bs)

    pub chosen_mapped : (bs : List Body) → candidate c i y y.phase ≡ g (contender c bs i)
        → chosen_by q c (set bs i y) ≡ g (chosen_by q c bs)
    chosen_mapped bs h = mapped_from 0 bs i (zero-add i) h

-- a body that is to the choice what it was leaves the choice
pub chosen_alike : (q : Tie) (c : Config) (f : Body → Body)
    → ((j : ℕ) (b : Body) → candidate c j (f b) (f b).phase ≡ candidate c j b b.phase)
    → (bs : List Body) (i : ℕ)
    → chosen_by q c (set bs i (f (get_or bs i no_body))) ≡ chosen_by q c bs
chosen_alike q c f same bs i =
    chosen_mapped q c (λ x. x) (λ x y. refl) refl i (λ j b d. refl) (f (get_or bs i no_body)) bs
    (same i (get_or bs i no_body))

-- whom the choice x takes: nobody, or a body that is ready or started
pub data Taken (c : Config) (bs : List Body) (x : Candidate) : Type 0 where
  no_one : x ≡ nobody → Taken c bs x
  body : (k : ℕ) → k < length bs → competes (get_or bs k no_body).phase ≡ true → x ≡ contender c bs k → Taken c bs x

from_taken : {c : Config} {bs : List Body} {x : Candidate} → From c 0 bs x → Taken c bs x
unfolding contender_from
from_taken (none e) = no_one e
from_taken (one k h p e) = body k h p (rw zero-add at e)

-- two rules for ties that agree on everyone who may run choose alike
module _ (q q' : Tie) (c : Config) where
  same_from : (i : ℕ) (bs : List Body)
      → ((x y : Candidate) → From c i bs x → From c i bs y → goes_before q x y ≡ goes_before q' x y)
      → chosen_from q c i bs ≡ chosen_from q' c i bs
  unfolding chosen_from
  same_from i [] agree = refl
  same_from i (b ∷ bs) agree =
      let tail = same_from (suc i) bs (λ x y f g. agree x y (from_later f) (from_later g)) in
      rw tail
      (ap (λ t. cond t (chosen_from q' c (suc i) bs) (candidate c i b b.phase))
      (agree (chosen_from q' c (suc i) bs) (candidate c i b b.phase) (from_later (chosen_from_from q' c (suc i) bs))
      (from_first c i b bs)))

  pub chosen_same : (bs : List Body)
      → ((x y : Candidate) → Taken c bs x → Taken c bs y → goes_before q x y ≡ goes_before q' x y)
      → chosen_by q c bs ≡ chosen_by q' c bs
  chosen_same bs agree = same_from 0 bs (λ x y f g. agree x y (from_taken f) (from_taken g))

module _ (q : Tie) (unasked : q nobody ≡ false) (c : Config) (bs : List Body) where
  pub chosen_from_lem : Taken c bs (chosen_by q c bs)
  chosen_from_lem = from_taken (chosen_from_from q c 0 bs)

  -- no body goes before the chosen one
  pub chosen_weight : (k : ℕ) → weight q (contender c bs k) ≤ weight q (chosen_by q c bs)
  unfolding contender_from
  chosen_weight k =
      let n : mark_of (q nobody) ≡ 0 = ap mark_of unasked in
      let top = rw zero-add at (chosen_from_top q c 0 bs k) in
      omega arith

  chosen_top : (k : ℕ) → goes_before q (contender c bs k) (chosen_by q c bs) ≡ false
  chosen_top k = weight_after q (contender c bs k) (chosen_by q c bs) (chosen_weight k)

  -- a body that goes before every other one that may run is chosen
  pub chosen_best : (k : ℕ) → is_nobody (contender c bs k) ≡ false
      → ((i : ℕ) → i < length bs → i ≢ k → competes (get_or bs i no_body).phase ≡ true
      → goes_before q (contender c bs k) (contender c bs i) ≡ true)
      → chosen_by q c bs ≡ contender c bs k
  chosen_best k some best = settle chosen_from_lem
    where
      settle : Taken c bs (chosen_by q c bs) → chosen_by q c bs ≡ contender c bs k
      settle (no_one e) =
          let w : weight q (chosen_by q c bs) ≡ weight q nobody = ap (weight q) e in
          let n : mark_of (q nobody) ≡ 0 = ap mark_of unasked in
          absurd (omega (arith, chosen_weight k, eqb-false (contender c bs k).level 0 some))
      settle (body i h p e) =
          by_eq i k
          (λ same. e ∙ ap (contender c bs) same)
          (λ other.
          let w : weight q (chosen_by q c bs) ≡ weight q (contender c bs i) = ap (weight q) e in
          absurd (omega
          (arith, chosen_weight k, before_weight q (contender c bs k) (contender c bs i) (best i h other p))))

  -- nobody runs where every body is suspended or waits
  pub chosen_nobody : ((i : ℕ) → i < length bs → competes (get_or bs i no_body).phase ≡ false) → chosen_by q c bs ≡ nobody
  chosen_nobody all = settle chosen_from_lem
    where
      settle : Taken c bs (chosen_by q c bs) → chosen_by q c bs ≡ nobody
      settle (no_one e) = e
      settle (body i h p e) = absurd (true≢false (sym p ∙ all i h))

-- "the greatest of its own priority and the ceilings of the resources it holds"
module _ (c : Config) (i : ℕ) where
  pub current_gets : (r : ℕ) (b : Body) → current c i (gets r b) ≡ max (ceiling c r) (current c i b)
  current_gets r b = refl

  pub current_own : (b : Body) → priority_of c i ≤ current c i b
  current_own b = least b.held
    where
      least : (rs : List ℕ) → priority_of c i ≤ foldr max (priority_of c i) (map (ceiling c) rs)
      least [] = omega arith
      least (r ∷ rs) = omega (arith, least rs)

  -- whoever holds a resource runs at its ceiling at least
  pub current_held : (b : Body) (r : ℕ) → among r b.held ≡ true → ceiling c r ≤ current c i b
  unfolding among
  current_held b r = go b.held
    where
      go : (rs : List ℕ) → among r rs ≡ true → ceiling c r ≤ foldr max (priority_of c i) (map (ceiling c) rs)
      go [] h = absurd (true≢false (sym h))
      go (x ∷ rs) h =
          by_eq r x
          (λ same. rw same (omega arith))
          (λ other. omega (arith, go rs (rw (ne_eqb r x other) at h)))

  pub current_free : (b : Body) → b.held ≡ [] → current c i b ≡ priority_of c i
  current_free b e = rw e

  -- what a body that is ready or started is to the choice
  pub candidate_active : (b : Body) (p : Phase) → competes p ≡ true
      → candidate c i b p
      ≡ record { number = i; level = current c i b; began = is_started p; holder = holds b.held; timed = false }
  unfolding candidate
  candidate_active b suspended h = absurd (true≢false (sym h))
  candidate_active b ready h = refl
  candidate_active b started h = refl
  candidate_active b (waiting w) h = absurd (true≢false (sym h))
  candidate_active b (triggered x) h = absurd (true≢false (sym h))

  -- and one that is neither
  pub candidate_none : (b : Body) (p : Phase) → competes p ≡ false → candidate c i b p ≡ nobody
  unfolding candidate
  candidate_none b suspended h = refl
  candidate_none b ready h = absurd (true≢false h)
  candidate_none b started h = absurd (true≢false h)
  candidate_none b (waiting w) h = refl
  candidate_none b (triggered x) h = refl

-- what is given back is what was taken last, and nothing else
pub releases_gets : (r : ℕ) (b : Body) → releases (gets r b) ≡ b
releases_gets r b = refl

-- "After each event the body with the greatest current priority among ready and started ones runs"
module _ (q : Tie) (unasked : q nobody
    ≡ false) (c : Config) (bs : List Body) (k : ℕ) (active : competes (get_or bs k no_body).phase ≡ true) where
  level_active : (contender c bs k).level ≡ current c k (get_or bs k no_body)
  level_active = ap (λ x. x.level) (candidate_active c k (get_or bs k no_body) (get_or bs k no_body).phase active)

  pub chosen_greatest : current c k (get_or bs k no_body) ≤ (chosen_by q c bs).level
  chosen_greatest = omega (arith, level_active, chosen_weight q unasked c bs k, mark_of_le (q (chosen_by q c bs)))

  -- on equal priorities the one of which the rule's question holds goes first
  pub chosen_tie : q (contender c bs k) ≡ true → current c k (get_or bs k no_body) ≡ (chosen_by q c bs).level
      → q (chosen_by q c bs) ≡ true
  chosen_tie asked equal =
      let m : mark_of (q (contender c bs k)) ≡ 1 = ap mark_of asked in
      marked (q (chosen_by q c bs)) (omega (arith, level_active, chosen_weight q unasked c bs k))
    where
      marked : (b : Bool) → 1 ≤ mark_of b → b ≡ true
      marked true h = refl
      marked false h = absurd (omega arith)

  -- somebody runs where a body may
  pub chosen_someone : 1 ≤ priority_of c k → is_nobody (chosen_by q c bs) ≡ false
  chosen_someone some =
      ne_eqb (chosen_by q c bs).level 0 (omega (arith, current_own c k (get_or bs k no_body), chosen_greatest))

-- a started time-triggered task goes before all others, the latest first
module _ (c : Config) (s : State) where
  -- "one common execution level 201"
  timed_level : (j : ℕ) (js : List ℕ) → s.order ≡ j ∷ js → (runner c s).level ≡ 201
  timed_level j js e = ap (λ (l : List ℕ). (latest_of s.bodies l (chosen c s.bodies)).level) e

  pub runner_timed : (j : ℕ) (js : List ℕ) → s.order ≡ j ∷ js
      → runner c s ≡ latest_of s.bodies (j ∷ js) (chosen c s.bodies)
  runner_timed j js e = ap (λ (l : List ℕ). latest_of s.bodies l (chosen c s.bodies)) e

  pub runner_untimed : s.order ≡ [] → runner c s ≡ chosen c s.bodies
  runner_untimed e = ap (λ (l : List ℕ). latest_of s.bodies l (chosen c s.bodies)) e

-- somebody runs where a body may, by its priority or not
pub runner_someone : (c : Config) (s : State) (k : ℕ) → competes (get_or s.bodies k no_body).phase ≡ true
    → 1 ≤ priority_of c k
    → is_nobody (runner c s) ≡ false
runner_someone c s k active some = go s.order refl
  where
    go : (js : List ℕ) → s.order ≡ js → is_nobody (runner c s) ≡ false
    go [] o =
        ap is_nobody (runner_untimed c s o) ∙ chosen_someone by_holding refl c s.bodies k active some
    go (j ∷ js) o = ap is_nobody (runner_timed c s j js o)
