-- The k-th entry of a configuration whose offsets are all there is that of its k-th offset:
-- `entry_at_lem`, at the end of the file.
use Prim.Native.Nat.{ℕ, zero, suc, ◌+◌, ◌-◌, ◌≤◌, ◌<◌}
use mathlib.Core.Path.{◌≡◌, refl, ap, ◌∙◌}
use mathlib.Core.List.{List, [], ◌∷◌, ◌++◌, map}
use native.Mathlib.Omega.{arith}
use lib.ListN.{length, get_or, get_or-append, length-append, length-take, length-drop, length-map, drop}
use lib.Seq.{get_or-append-add, get_or-take, get_or-drop}
use Rattle.number.proofs.Cases.{by_eq}
use Rattle.config.specs.declared.Config.{Config}
use Rattle.config.specs.Meaning.{first_of, offsets}
use Rattle.config.proofs.Tables.{first_of_step, first_of_zero, first_of_rises}
use Rattle.scheduler.specs.Entries.{Entry, entry_of, entries_from, entries_of, entry_at}

-- an element of a mapped list, whatever stands past its end
pub get_d_map_in : {A B : Type 0} (f : A → B) (l : List A) (n : ℕ) (a : A) (b : B) → n < length l
    → get_or (map f l) n b ≡ f (get_or l n a)
get_d_map_in f [] n a b h = absurd (omega arith)
get_d_map_in f (x ∷ l) zero a b h = refl
get_d_map_in f (x ∷ l) (suc n) a b h = get_d_map_in f l n a b (omega arith)

module _ (c : Config) (fit : first_of c c.tables ≤ length c.offset) where
  pub length_offsets : (t : ℕ) → t < c.tables → length (offsets c t) ≡ get_or c.entries t 0
  length_offsets t h =
      length-take (get_or c.entries t 0) (drop (first_of c t) c.offset)
      ∙ rw (length-drop (first_of c t) c.offset)
      (omega (arith, first_of_step c t, first_of_rises c (suc t) c.tables h))

  entries_from_long : (n t : ℕ) → t + n ≡ c.tables → first_of c t + length (entries_from c n t) ≡ first_of c c.tables
  unfolding entries_from
  entries_from_long zero t e = let q : t ≡ c.tables = omega arith in rw q (omega arith)
  entries_from_long (suc n) t e =
      let r = entries_from_long n (suc t) (omega arith) in
      rw (
        length-append (map (entry_of c t) (offsets c t)) (entries_from c n (suc t)),
        length-map (offsets c t)
            (entry_of c t),
        length_offsets t (omega arith),
      )
      (omega (arith, first_of_step c t))

  pub entries_long : length (entries_of c) ≡ first_of c c.tables
  entries_long = omega (arith, entries_from_long c.tables 0 (omega arith), first_of_zero c)

  -- the j-th of a table's own
  own_entry : (t j : ℕ) → t < c.tables → j < get_or c.entries t 0 → (rest : List Entry) (d : Entry)
      → get_or (map (entry_of c t) (offsets c t) ++ rest) j d ≡ entry_of c t (get_or c.offset (first_of c t + j) 0)
  own_entry t j lt h rest d =
      let fits : j < length (offsets c t) = omega (arith, length_offsets t lt) in
      get_or-append (map (entry_of c t) (offsets c t)) rest d j (rw (length-map (offsets c t) (entry_of c t)) fits)
      ∙ get_d_map_in (entry_of c t) (offsets c t) j 0 d fits
      ∙ ap (entry_of c t)
      (get_or-take (get_or c.entries t 0) (drop (first_of c t) c.offset) j 0 h
      ∙ get_or-drop (first_of c t) c.offset j 0)

  -- the m-th of the entries from the table t on
  entries_from_at : (n t u j m : ℕ) (d : Entry) → t + n ≡ c.tables → t ≤ u → u < c.tables → j < get_or c.entries u 0
      → first_of c t + m ≡ first_of c u + j
      → get_or (entries_from c n t) m d ≡ entry_of c u (get_or c.offset (first_of c u + j) 0)
  unfolding entries_from
  entries_from_at zero t u j m d e le lt h q = absurd (omega arith)
  entries_from_at (suc n) t u j m d e le lt h q =
      by_eq t u
      (λ same.
      let first : m ≡ j = omega (arith, ap (first_of c) same) in
      rw (first, ← same) (own_entry t j (omega arith) (rw (← same) at h) (entries_from c n (suc t)) d))
      (λ other.
      ap (λ k. get_or (own ++ entries_from c n (suc t)) k d) (past other)
      ∙ get_or-append-add own (entries_from c n (suc t)) (m - get_or c.entries t 0) d
      ∙ entries_from_at n (suc t) u j (m - get_or c.entries t 0) d (omega arith) (omega arith) lt h
      (omega (arith, first_of_step c t, after other)))
    where
      own : List Entry
      own = map (entry_of c t) (offsets c t)

      long : length own ≡ get_or c.entries t 0
      long = length-map (offsets c t) (entry_of c t) ∙ length_offsets t (omega arith)

      after : (t ≡ u → ⊥) → first_of c t + get_or c.entries t 0 ≤ first_of c u
      after other = omega (arith, first_of_step c t, first_of_rises c (suc t) u (omega arith))

      past : (t ≡ u → ⊥) → m ≡ length own + (m - get_or c.entries t 0)
      past other = omega (arith, long, after other)

  pub entry_at_lem : (t j : ℕ) → t < c.tables → j < get_or c.entries t 0
      → entry_at c (first_of c t + j) ≡ entry_of c t (get_or c.offset (first_of c t + j) 0)
  entry_at_lem t j lt h =
      entries_from_at c.tables 0 t j (first_of c t + j) (entry_of c 0 0) (omega arith) (omega arith) lt h
      (omega (arith, first_of_zero c))
