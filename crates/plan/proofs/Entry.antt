-- The entries of all tables, one after the other: table by table, and the table of an entry.
use Prim.Native.Nat.{ℕ, zero, suc, ◌+◌, ◌-◌, ◌≤◌, ◌<◌, min}
use mathlib.Core.Path.{◌≡◌, sym, ap}
use mathlib.Core.List.{List, [], ◌∷◌}
use native.Mathlib.Omega.{arith}
use native.Mathlib.Numerals.{add-one}
use lib.ListN.{length, get_or, drop, drop_of_length-le}
use lib.Seq.{drop-cons}
use borrow.Author.Tests.{lt-ltb, le-ltb}
use Rattle.number.proofs.Cases.{by_lt}
use Rattle.config.specs.Value.{max_entries}
use Rattle.config.specs.Meaning.{entries_before}
use Rattle.plan.specs.Entry.{table_in, first_in}

-- one table more
entries_before_step : (ns : List ℕ) (t : ℕ) → t < length ns
    → entries_before ns (suc t) ≡ entries_before ns t + get_or ns t 0
unfolding entries_before
entries_before_step [] t h = absurd (omega arith)
entries_before_step (n ∷ ns) zero h = omega arith
entries_before_step (n ∷ ns) (suc t) h = omega (arith, entries_before_step ns t (omega arith))

-- a loop over the tables that counts the entries
pub table_passed : (ns : List ℕ) (t e : ℕ) → t < length ns → e ≡ entries_before ns t
    → e + get_or ns t 0 ≡ entries_before ns (t + 1)
table_passed ns t e h p = rw (p, add-one) (sym (entries_before_step ns t h))

-- what is stored of a table whose entries begin at e
module _ (ns : List ℕ) (t e : ℕ) (begins : e ≡ entries_before ns t) where
  pub first_known : (r : ℕ) → r ≡ min e max_entries → r ≡ first_in ns t
  first_known r p = rw begins at p

-- a loop over the tables, `left` entries before the one looked for
module _ (ns : List ℕ) (t left : ℕ) where
  pub table_here : t < length ns → left < get_or ns t 0 → table_in (drop t ns) left ≡ 0
  unfolding table_in
  table_here h l = rw (drop-cons ns t 0 h, lt-ltb left (get_or ns t 0) l)

  pub table_later : t < length ns → get_or ns t 0 ≤ left
      → table_in (drop t ns) left ≡ suc (table_in (drop (suc t) ns) (left - get_or ns t 0))
  unfolding table_in
  table_later h l = rw (drop-cons ns t 0 h, le-ltb left (get_or ns t 0) l)

  pub table_none : length ns ≤ t → table_in (drop t ns) left ≡ 0
  unfolding table_in
  table_none h = rw (drop_of_length-le ns {i = t} h)

-- an entry is of the table whose entries it is among
pub table_found : (ns : List ℕ) (t e : ℕ) → t < length ns → entries_before ns t ≤ e → e < entries_before ns (suc t)
    → table_in ns e ≡ t
unfolding table_in entries_before
table_found [] t e h lo hi = absurd (omega arith)
table_found (n ∷ ns) zero e h lo hi = rw (lt-ltb e n (omega arith))
table_found (n ∷ ns) (suc t) e h lo hi =
    rw (le-ltb e n (omega arith)) (ap suc (table_found ns t (e - n) (omega arith) (omega arith) (omega arith)))

-- more tables have no fewer entries
pub entries_before_le : (ns : List ℕ) (s t : ℕ) → s ≤ t → t ≤ length ns → entries_before ns s ≤ entries_before ns t
unfolding entries_before
entries_before_le ns zero t h l = omega arith
entries_before_le [] (suc s) t h l = absurd (omega arith)
entries_before_le (n ∷ ns) (suc s) zero h l = absurd (omega arith)
entries_before_le (n ∷ ns) (suc s) (suc t) h l = omega (arith, entries_before_le ns s t (omega arith) (omega arith))

-- an entry of the first k tables is of one of them, and among its entries
pub table_among : (ns : List ℕ) (k e : ℕ) → e < entries_before ns k
    → (table_in ns e < k) × (entries_before ns (table_in ns e) ≤ e) × (e < entries_before ns (suc (table_in ns e)))
unfolding table_in entries_before
table_among ns zero e h = absurd (omega arith)
table_among [] (suc k) e h = absurd (omega arith)
table_among (n ∷ ns) (suc k) e h =
    by_lt e n
    (λ l. rw (lt-ltb e n l) (omega arith, omega arith, omega arith))
    (λ l. let p = table_among ns k (e - n) (omega arith) in
    rw (le-ltb e n l) (omega (arith, p.0), omega (arith, p.1), omega (arith, p.2)))
