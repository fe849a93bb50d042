-- The entries of all tables stand one after the other: where each table's begin, and that an entry is of one table.
-- Last, the tests of an entry as facts: what `rises` says of two entries, and `is_task` of a task.
use Prim.Native.Nat.{ℕ, zero, suc, ◌+◌, ◌≤◌, ◌<◌}
use mathlib.Core.Path.{◌≡◌, refl, sym}
use mathlib.Core.Bool.{true, not, true≢false}
use mathlib.Core.Logic.{◌⊎◌, inl, inr}
use mathlib.Core.List.{List, [], ◌∷◌}
use native.Mathlib.Omega.{arith}
use lib.Dec.{ltb, eqb}
use lib.ListN.{get_or}
use borrow.Author.Tests.{ltb-true, le-ltb, eqb-false, eq-eqb, ne_eqb, not-true}
use Rattle.number.proofs.Cases.{by_lt, by_eq, and_true}
use Rattle.config.specs.declared.Config.{Config}
use Rattle.config.specs.Meaning.{isr, is_task, entries_before, first_of}
use Rattle.config.specs.Draft.{rises}

entries_step : (l : List ℕ) (t : ℕ) → entries_before l (suc t) ≡ entries_before l t + get_or l t 0
unfolding entries_before
entries_step [] zero = refl
entries_step [] (suc t) = refl
entries_step (n ∷ ns) zero = omega arith
entries_step (n ∷ ns) (suc t) = rw (entries_step ns t) (omega arith)

pub first_of_step : (c : Config) (t : ℕ) → first_of c (suc t) ≡ first_of c t + get_or c.entries t 0
first_of_step c t = entries_step c.entries t

pub first_of_zero : (c : Config) → first_of c 0 ≡ 0
unfolding entries_before
first_of_zero c = refl

pub first_of_rises : (c : Config) (s t : ℕ) → s ≤ t → first_of c s ≤ first_of c t
first_of_rises c s zero h = rw (zero_only s h) (omega arith)
  where
    zero_only : (n : ℕ) → n ≤ 0 → n ≡ 0
    zero_only n p = omega arith
first_of_rises c s (suc t) h =
    by_eq s (suc t)
    (λ e. rw e (omega arith))
    (λ e. let p = first_of_rises c s t (omega arith) in omega (arith, first_of_step c t))

-- an entry is of one table
pub one_table : (c : Config) (s t e : ℕ) → first_of c s ≤ e → e < first_of c (suc s)
    → first_of c t ≤ e → e < first_of c (suc t) → s ≡ t
one_table c s t e p q u v =
    by_lt s t
    (λ h. absurd (omega (arith, first_of_rises c (suc s) t h)))
    (λ h. by_lt t s
    (λ k. absurd (omega (arith, first_of_rises c (suc t) s k)))
    (λ k. omega arith))

-- the table of an entry that is there
pub table_there : (c : Config) (t e : ℕ) → e < first_of c c.tables → first_of c t ≤ e → t < c.tables
table_there c t e h low = by_lt t c.tables (λ q. q) (λ q. absurd (omega (arith, first_of_rises c c.tables t q)))

-- an entry before table t is of a table before it
pub table_of_lem : (c : Config) (t e : ℕ) → e < first_of c t
    → (s : ℕ) × (s < t) × (first_of c s ≤ e) × (e < first_of c (suc s))
table_of_lem c zero e h = absurd (omega (arith, first_of_zero c))
table_of_lem c (suc t) e h =
    by_lt e (first_of c t)
    (λ q. let r = table_of_lem c t e q in (r.0, omega (arith, r.1), r.2, r.3))
    (λ q. (t, omega arith, q, h))

-- "Entries rise by offset, then by task, none twice"
pub rises_true : (o t o' t' : ℕ) → rises o t o' t' ≡ true → (o < o') ⊎ ((o ≡ o') × (t < t'))
rises_true o t o' t' =
    by_lt o o'
    (λ h _. inl h)
    (λ h. rw (le-ltb o o' h)
    (by_eq o o'
    (λ e. rw (eq-eqb o o' e) (λ r. inr (e, ltb-true t t' r)))
    (λ e. rw (ne_eqb o o' e) (λ r. absurd (true≢false (sym r))))))

-- "an ISR's number is no task"
pub is_task_true : (c : Config) (b : ℕ) → is_task c b ≡ true → (b < c.bodies) × (get_or c.kind b 0 ≡ isr → ⊥)
is_task_true c b h =
    let p = and_true (ltb b c.bodies) (not (eqb (get_or c.kind b 0) isr)) h in
    (ltb-true b c.bodies p.0, eqb-false (get_or c.kind b 0) isr (not-true (eqb (get_or c.kind b 0) isr) p.1))
