-- Two entries of kind 3 are never due at one tick: `timed_once`, at the end of the file.
--
-- In order: two entries of one table that are due at the same tick have the same offset; the mark of an entry is its
-- table's; the law, for all entries of kind 3 lie in one table, at different offsets.
use Prim.Native.Nat.{ℕ, suc, ◌+◌, ◌*◌, ◌-◌, ◌%◌, ◌≤◌, ◌<◌}
use mathlib.Core.Path.{◌≡◌, refl, sym, ap, ap₂, ◌∙◌}
use mathlib.Core.Bool.{Bool, true, false, true≢false}
use mathlib.Core.List.{List, [], ◌∷◌, ◌++◌, map}
use mathlib.Core.Logic.{◌≢◌}
use native.Mathlib.Nat.{add-mul-mod_self_right, mod-eq_of_lt}
use native.Mathlib.Omega.{arith}
use lib.ListN.{length, get_or, get_or-append, length-map, drop}
use lib.Seq.{get_or-append-add, get_or-take, get_or-drop}
use Rattle.number.proofs.Cases.{by_lt, by_eq}
use Rattle.cell.specs.Due.{due}
use Rattle.cell.proofs.Due.{due_only}
use Rattle.config.specs.declared.Config.{Config}
use Rattle.config.specs.Meaning.{first_of, offsets, timed_entry}
use Rattle.config.specs.Accepted.{Accepted, Shaped}
use Rattle.config.proofs.Tables.{first_of_step, first_of_zero, first_of_rises, table_of_lem}
use Rattle.config.proofs.Theorems.{timed_one_table, timed_offsets_differ}
use Rattle.scheduler.specs.State.{State, Table, stopped, running, table_of}
use Rattle.scheduler.specs.Tick.{entry_due, dues_from, dues}
use Rattle.scheduler.proofs.Table.Entries.{get_d_map_in, length_offsets}

-- of one period and one start
due_apart : (P d o o' n : ℕ) → o < P → o' < P → due P (d + o) n ≡ true → due P (d + o') n ≡ true → o ≡ o'
due_apart P d o o' n h h' e e' =
    let p = due_only P (d + o) n e in
    let p' = due_only P (d + o') n e' in
    let same : o + p.0 * P ≡ o' + p'.0 * P = omega (arith, p.1, p'.1) in
    sym (mod-eq_of_lt h)
    ∙ sym (add-mul-mod_self_right o p.0 P)
    ∙ ap (λ (m : ℕ). m % P) same
    ∙ add-mul-mod_self_right o' p'.0 P
    ∙ mod-eq_of_lt h'

-- so where the table x has them
entry_due_apart : (P : ℕ) (x : Table) (o o' : ℕ) → o < P → o' < P → entry_due P x o ≡ true → entry_due P x o' ≡ true
    → o ≡ o'
unfolding entry_due
entry_due_apart P stopped o o' h h' e e' = absurd (true≢false (sym e))
entry_due_apart P (running d n) o o' h h' e e' = due_apart P d o o' n h h' e e'

module _ (c : Config) (fit : first_of c c.tables ≤ length c.offset) where
  -- the m-th mark of the tables xs from t on
  dues_from_at : (xs : List Table) (t u j m : ℕ) → t ≤ u → u < c.tables → j < get_or c.entries u 0
      → first_of c t + m ≡ first_of c u + j
      → get_or (dues_from c t xs) m false
      ≡ entry_due (get_or c.period u 0) (get_or xs (u - t) stopped) (get_or c.offset (first_of c u + j) 0)
  unfolding dues_from entry_due
  dues_from_at [] t u j m le lt h q = refl
  dues_from_at (x ∷ xs) t u j m le lt h q =
      by_eq t u
      (λ same.
      let first : m ≡ j = omega (arith, ap (first_of c) same) in
      let none : u - t ≡ 0 = omega arith in
      rw (first, none, ← same) (own t j (omega arith) (rw (← same) at h) x (dues_from c (suc t) xs)))
      (λ other.
      let long = own_long t x (omega arith) in
      let more = first_of_rises c (suc t) u (omega arith) in
      let past : m ≡ length (marks t x) + (m - get_or c.entries t 0) = omega (arith, first_of_step c t, more, long) in
      let back : u - t ≡ suc (u - suc t) = omega arith in
      ap (λ (k : ℕ). get_or (marks t x ++ dues_from c (suc t) xs) k false) past
      ∙ get_or-append-add (marks t x) (dues_from c (suc t) xs) (m - get_or c.entries t 0) false
      ∙ dues_from_at xs (suc t) u j (m - get_or c.entries t 0) (omega arith) lt h (omega (arith, first_of_step c t))
      ∙ ap (λ (k : ℕ). entry_due (get_or c.period u 0) (get_or (x ∷ xs) k stopped) (get_or c.offset (first_of c u + j) 0))
      (sym back))
    where
      marks : ℕ → Table → List Bool
      marks t x = map (entry_due (get_or c.period t 0) x) (offsets c t)

      own_long : (t : ℕ) (x : Table) → t < c.tables → length (marks t x) ≡ get_or c.entries t 0
      own_long t x lt = length-map (offsets c t) (entry_due (get_or c.period t 0) x) ∙ length_offsets c fit t lt

      own : (t j : ℕ) → t < c.tables → j < get_or c.entries t 0 → (x : Table) (rest : List Bool)
          → get_or (marks t x ++ rest) j false ≡ entry_due (get_or c.period t 0) x (get_or c.offset (first_of c t + j) 0)
      own t j lt h x rest =
          let fits : j < length (offsets c t) = omega (arith, length_offsets c fit t lt) in
          get_or-append (marks t x) rest false j
          (rw (length-map (offsets c t) (entry_due (get_or c.period t 0) x)) fits)
          ∙ get_d_map_in (entry_due (get_or c.period t 0) x) (offsets c t) j 0 false fits
          ∙ ap (entry_due (get_or c.period t 0) x)
          (get_or-take (get_or c.entries t 0) (drop (first_of c t) c.offset) j 0 h
          ∙ get_or-drop (first_of c t) c.offset j 0)

  -- the mark of the entry e of the table t
  dues_at_lem : (s : State) (t e : ℕ) → t < c.tables → first_of c t ≤ e → e < first_of c (suc t)
      → get_or (dues c s) e false ≡ entry_due (get_or c.period t 0) (table_of s t) (get_or c.offset e 0)
  dues_at_lem s t e lt low high =
      let k : first_of c t + (e - first_of c t) ≡ e = omega arith in
      let n : t - 0 ≡ t = omega arith in
      dues_from_at s.tables 0 t (e - first_of c t) e (omega arith) lt (omega (arith, first_of_step c t))
      (omega (arith, first_of_zero c))
      ∙ ap₂ (λ (i o : ℕ). entry_due (get_or c.period t 0) (get_or s.tables i stopped) (get_or c.offset o 0)) n k

module _ (c : Config) (ok : Accepted c) (shaped : Shaped c) (s : State) where
  fit : first_of c c.tables ≤ length c.offset
  fit = omega (arith, ok.few_entries, shaped.offsets)

  rising : (e e' : ℕ) → e < e' → e' < first_of c c.tables → timed_entry c e ≡ true → timed_entry c e' ≡ true
      → get_or (dues c s) e false ≡ true
      → get_or (dues c s) e' false ≡ true
      → ⊥
  rising e e' less h' k k' m m' = omega (arith, apart, equal)
    where
      h : e < first_of c c.tables
      h = omega arith

      p : (t : ℕ) × (t < c.tables) × (first_of c t ≤ e) × (e < first_of c (suc t))
      p = table_of_lem c c.tables e h

      p' : (t : ℕ) × (t < c.tables) × (first_of c t ≤ e') × (e' < first_of c (suc t))
      p' = table_of_lem c c.tables e' h'

      same : p.0 ≡ p'.0
      same = timed_one_table c ok p.0 p'.0 e e' h h' p.2 p.3 p'.2 p'.3 k k'

      low : first_of c p.0 ≤ e'
      low = rw same p'.2

      high : e' < first_of c (suc p.0)
      high = rw same p'.3

      apart : get_or c.offset e 0 < get_or c.offset e' 0
      apart = timed_offsets_differ c ok p.0 e e' p.1 p.2 less high k k'

      equal : get_or c.offset e 0 ≡ get_or c.offset e' 0
      equal =
          entry_due_apart (get_or c.period p.0 0) (table_of s p.0) (get_or c.offset e 0) (get_or c.offset e' 0)
          (ok.offset_in_period p.0 e p.1 p.2 p.3)
          (ok.offset_in_period p.0 e' p.1 low high)
          (sym (dues_at_lem c fit s p.0 e p.1 p.2 p.3) ∙ m)
          (sym (dues_at_lem c fit s p.0 e' p.1 low high) ∙ m')

  pub timed_once : (e e' : ℕ) → e < first_of c c.tables → e' < first_of c c.tables → e ≢ e'
      → timed_entry c e ≡ true
      → timed_entry c e' ≡ true
      → get_or (dues c s) e false ≡ true
      → get_or (dues c s) e' false ≡ true
      → ⊥
  timed_once e e' h h' d k k' m m' =
      by_lt e e'
      (λ less. rising e e' less h' k k' m m')
      (λ le. rising e' e (omega (arith, d)) h k' k m' m)
