-- The closed count as a sum of shares, one of each body.
--
-- In order: one body's share; the sum where one body is changed (`ahead_set`); a share is part of
-- the sum, and a sum that is not 0 has one that is not (`ahead_some`); the sum's bound.
use Prim.Native.Nat.{ℕ, zero, suc, ◌+◌, ◌*◌, ◌≤◌, ◌<◌}
use mathlib.Core.Path.{◌≡◌, refl, sym}
use mathlib.Core.Bool.{Bool, true, false, true≢false}
use mathlib.Core.List.{List, [], ◌∷◌}
use mathlib.Core.Logic.{◌≢◌}
use native.Mathlib.Nat.{zero-add, add-zero}
use native.Mathlib.Omega.{arith}
use borrow.Author.Tests.{lt-ltb, le-ltb, eq-eqb, ne_eqb}
use lib.Dec.{lit≤}
use lib.ListN.{length, get_or, set}
use Rattle.number.proofs.Cases.{by_lt, by_eq}
use Rattle.config.specs.declared.Config.{Config}
use Rattle.config.specs.Meaning.{priority_of}
use Rattle.scheduler.specs.Body.{Phase, suspended, ready, started, waiting, triggered, is_started, competes, Body}
use Rattle.scheduler.specs.State.{no_body}
use Rattle.scheduler.specs.Scheduler.{mark_of}
use Rattle.scheduler.proofs.Choice.Runner.{mark_of_le}
use Rattle.waiting.specs.Jobs.{jobs, jobs_before, jobs_ahead_from}

jobs_le : (p : Phase) (pending : Bool) → jobs p pending ≤ 2
jobs_le suspended pending = lit≤ tt
jobs_le ready pending = lit≤ tt
jobs_le started true = lit≤ tt
jobs_le started false = lit≤ tt
jobs_le (waiting w) pending = lit≤ tt
jobs_le (triggered x) pending = lit≤ tt

-- whoever may run has a job, and nobody else
pub jobs_some : (p : Phase) (pending : Bool) → competes p ≡ true → 1 ≤ jobs p pending
jobs_some suspended pending h = absurd (true≢false (sym h))
jobs_some ready pending h = lit≤ tt
jobs_some started true h = lit≤ tt
jobs_some started false h = lit≤ tt
jobs_some (waiting w) pending h = absurd (true≢false (sym h))
jobs_some (triggered x) pending h = absurd (true≢false (sym h))

jobs_none : (p : Phase) (pending : Bool) → 1 ≤ jobs p pending → competes p ≡ true
jobs_none suspended pending h = absurd (omega arith)
jobs_none ready pending h = refl
jobs_none started pending h = refl
jobs_none (waiting w) pending h = absurd (omega arith)
jobs_none (triggered x) pending h = absurd (omega arith)

module _ (c : Config) (b : ℕ) where
  pub before_own : (x : Body) → jobs_before c b b x ≡ mark_of (is_started x.phase)
  unfolding jobs_before
  before_own x = rw (eq-eqb b b refl)

  pub before_above : (i : ℕ) (x : Body) → i ≢ b → priority_of c b < priority_of c i
      → jobs_before c b i x ≡ jobs x.phase x.pending
  unfolding jobs_before
  before_above i x d h = simp (ne_eqb i b d, lt-ltb (priority_of c b) (priority_of c i) h)

  pub before_below : (i : ℕ) (x : Body) → i ≢ b → priority_of c i ≤ priority_of c b → jobs_before c b i x ≡ 0
  unfolding jobs_before
  before_below i x d h = simp (ne_eqb i b d, le-ltb (priority_of c b) (priority_of c i) h)

  before_le : (i : ℕ) (x : Body) → jobs_before c b i x ≤ 2
  before_le i x =
      by_eq i b
      (λ e. rw e (omega (arith, before_own x, mark_of_le (is_started x.phase))))
      (λ d. by_lt (priority_of c b) (priority_of c i)
      (λ h. omega (arith, before_above i x d h, jobs_le x.phase x.pending))
      (λ h. omega (arith, before_below i x d h)))

  -- another body with a share: it has greater priority, and may run
  pub before_some : (i : ℕ) (x : Body) → i ≢ b → 1 ≤ jobs_before c b i x
      → (priority_of c b < priority_of c i) × (competes x.phase ≡ true)
  before_some i x d h =
      by_lt (priority_of c b) (priority_of c i)
      (λ l. (l, jobs_none x.phase x.pending (rw (before_above i x d l) at h)))
      (λ l. absurd (omega (arith, before_below i x d l)))

  -- the body at place k becomes y
  set_from : (i : ℕ) (bs : List Body) (k : ℕ) (y : Body) → k < length bs
      → jobs_ahead_from c b i (set bs k y) + jobs_before c b (i + k) (get_or bs k no_body)
      ≡ jobs_ahead_from c b i bs + jobs_before c b (i + k) y
  unfolding jobs_ahead_from
  set_from i [] k y h = absurd (omega arith)
  set_from i (x ∷ xs) zero y h = rw (add-zero i) (omega arith)
  set_from i (x ∷ xs) (suc k) y h =
      let shift : i + suc k ≡ suc i + k = omega arith in
      let rest = set_from (suc i) xs k y (omega arith) in
      rw shift (omega arith)

  pub ahead_set : (bs : List Body) (k : ℕ) (y : Body) → k < length bs
      → jobs_ahead_from c b 0 (set bs k y) + jobs_before c b k (get_or bs k no_body)
      ≡ jobs_ahead_from c b 0 bs + jobs_before c b k y
  ahead_set bs k y h = rw zero-add at (set_from 0 bs k y h)

  part_from : (i : ℕ) (bs : List Body) (k : ℕ) → k < length bs
      → jobs_before c b (i + k) (get_or bs k no_body) ≤ jobs_ahead_from c b i bs
  unfolding jobs_ahead_from
  part_from i [] k h = absurd (omega arith)
  part_from i (x ∷ xs) zero h = rw (add-zero i) (omega arith)
  part_from i (x ∷ xs) (suc k) h =
      let shift : i + suc k ≡ suc i + k = omega arith in
      let rest = part_from (suc i) xs k (omega arith) in
      rw shift (omega arith)

  pub ahead_part : (bs : List Body) (k : ℕ) → k < length bs
      → jobs_before c b k (get_or bs k no_body) ≤ jobs_ahead_from c b 0 bs
  ahead_part bs k h = rw zero-add at (part_from 0 bs k h)

  -- a body with a share, among those that are numbered from i on
  record Some (i : ℕ) (bs : List Body) : Type 0 where
    place : ℕ
    fits : place < length bs
    share : 1 ≤ jobs_before c b (i + place) (get_or bs place no_body)

  some_from : (i : ℕ) (bs : List Body) → 1 ≤ jobs_ahead_from c b i bs → Some i bs
  unfolding jobs_ahead_from
  some_from i [] h = absurd (omega arith)
  some_from i (x ∷ xs) h =
      by_lt 0 (jobs_before c b i x)
      (λ l. record { place = 0; fits = omega arith; share = rw (add-zero i) (omega arith) })
      (λ l. later (some_from (suc i) xs (omega arith)))
    where
      later : Some (suc i) xs → Some i (x ∷ xs)
      later r =
          let shift : i + suc r.place ≡ suc i + r.place = omega arith in
          record { place = suc r.place; fits = omega (arith, r.fits); share = rw shift r.share }

  pub ahead_some : (bs : List Body) → 1 ≤ jobs_ahead_from c b 0 bs
      → (k : ℕ) × (k < length bs) × (1 ≤ jobs_before c b k (get_or bs k no_body))
  ahead_some bs h =
      let r = some_from 0 bs h in
      (r.place, r.fits, rw zero-add at r.share)

  few_from : (i : ℕ) (bs : List Body) → jobs_ahead_from c b i bs ≤ 2 * length bs
  unfolding jobs_ahead_from
  few_from i [] = omega arith
  few_from i (x ∷ xs) = omega (arith, before_le i x, few_from (suc i) xs)

  fewer_from : (i : ℕ) (bs : List Body) (k : ℕ) → k < length bs → i + k ≡ b
      → suc (jobs_ahead_from c b i bs) ≤ 2 * length bs
  unfolding jobs_ahead_from
  fewer_from i [] k h e = absurd (omega arith)
  fewer_from i (x ∷ xs) zero h e =
      let same : i ≡ b = omega arith in
      let own : jobs_before c b i x ≡ mark_of (is_started x.phase) = rw same (before_own x) in
      omega (arith, mark_of_le (is_started x.phase), few_from (suc i) xs)
  fewer_from i (x ∷ xs) (suc k) h e =
      omega (arith, before_le i x, fewer_from (suc i) xs k (omega arith) (omega arith))

  -- two of each other body, one of its own
  pub ahead_few : (bs : List Body) → b < length bs → suc (jobs_ahead_from c b 0 bs) ≤ 2 * length bs
  ahead_few bs h = fewer_from 0 bs b h (zero-add b)
