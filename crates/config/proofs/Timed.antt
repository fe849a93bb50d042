-- The entries of kind 3: a search for one among tasks; from each entry with the one before it to any two of a table.
use Prim.Native.Nat.{ℕ, zero, suc, ◌+◌, ◌-◌, ◌≤◌, ◌<◌}
use mathlib.Core.Path.{◌≡◌, refl, sym, ap, ◌∙◌}
use mathlib.Core.Bool.{Bool, true, false, cond, not, true≢false}
use mathlib.Core.List.{List, [], ◌∷◌}
use mathlib.Core.Logic.{⊎_elim}
use native.Mathlib.Omega.{arith}
use lib.ListN.{length, get_or, take}
use Rattle.number.proofs.Cases.{by_eq, neither}
use Rattle.config.specs.declared.Config.{Config}
use Rattle.config.specs.Meaning.{is_timed, first_of, timed_entry}
use Rattle.config.specs.Draft.{rises, some_timed}
use Rattle.config.proofs.Tables.{rises_true}

-- none of the first n tasks is of kind 3
pub some_none : (c : Config) (n : ℕ) (l : List ℕ) → n ≤ length l → some_timed c (take n l) ≡ false → (j : ℕ) → j < n
    → is_timed c (get_or l j 0) ≡ false
unfolding some_timed
some_none c zero l fits e j h = absurd (omega arith)
some_none c (suc n) [] fits e j h = absurd (omega arith)
some_none c (suc n) (b ∷ bs) fits e zero h = (neither (is_timed c b) (some_timed c (take n bs)) e).0
some_none c (suc n) (b ∷ bs) fits e (suc j) h =
    some_none c n bs (omega arith) (neither (is_timed c b) (some_timed c (take n bs)) e).1 j (omega arith)

pub none_some : (c : Config) (n : ℕ) (l : List ℕ) → n ≤ length l → ((j : ℕ) → j < n → is_timed c (get_or l j 0) ≡ false)
    → some_timed c (take n l) ≡ false
unfolding some_timed
none_some c zero l fits f = refl
none_some c (suc n) [] fits f = refl
none_some c (suc n) (b ∷ bs) fits f =
    rw (f zero (omega arith), none_some c n bs (omega arith) (λ j h. f (suc j) (omega arith)))

-- two tests that do not differ
pub differ_none : (a b : Bool) → cond a (not b) b ≡ false → a ≡ b
differ_none true true e = refl
differ_none true false e = absurd (true≢false e)
differ_none false true e = absurd (true≢false e)
differ_none false false e = refl

pub none_differ : (a b : Bool) → a ≡ b → cond a (not b) b ≡ false
none_differ true true e = refl
none_differ true false e = absurd (true≢false e)
none_differ false true e = absurd (true≢false (sym e))
none_differ false false e = refl

module _ (c : Config) (t : ℕ) where
  abbrev offset_of : ℕ → ℕ
  offset_of e = get_or c.offset e 0

  -- entries that are each like the one before them are all alike
  module _ (like : (e : ℕ) → first_of c t ≤ e → e + 1 < first_of c (suc t) → timed_entry c (e + 1) ≡ timed_entry c e) where
    as_first : (k : ℕ) → first_of c t + k < first_of c (suc t)
        → timed_entry c (first_of c t + k) ≡ timed_entry c (first_of c t)
    as_first zero h = let q : first_of c t + 0 ≡ first_of c t = omega arith in ap (timed_entry c) q
    as_first (suc k) h =
        let q : first_of c t + suc k ≡ first_of c t + k + 1 = omega arith in
        ap (timed_entry c) q ∙ like (first_of c t + k) (omega arith) (omega arith) ∙ as_first k (omega arith)

    pub alike : (e e' : ℕ) → first_of c t ≤ e → e < first_of c (suc t) → first_of c t ≤ e' → e' < first_of c (suc t)
        → timed_entry c e ≡ timed_entry c e'
    alike e e' low high low' high' =
        let q : first_of c t + (e - first_of c t) ≡ e = omega arith in
        let q' : first_of c t + (e' - first_of c t) ≡ e' = omega arith in
        sym (ap (timed_entry c) q)
        ∙ as_first (e - first_of c t) (omega arith)
        ∙ sym (as_first (e' - first_of c t) (omega arith))
        ∙ ap (timed_entry c) q'

  -- entries that rise: no offset falls, and where none is shared with the one before it, two differ
  module _ (rise : (e : ℕ) → first_of c t ≤ e → e + 1 < first_of c (suc t)
      → rises (offset_of e) (get_or c.task e 0) (offset_of (e + 1)) (get_or c.task (e + 1) 0) ≡ true)
    where
      step : (e : ℕ) → first_of c t ≤ e → e + 1 < first_of c (suc t) → offset_of e ≤ offset_of (e + 1)
      step e low high =
          ⊎_elim
          (λ (less : offset_of e < offset_of (e + 1)). omega arith)
          (λ same. omega (arith, same.0))
          (rises_true (offset_of e) (get_or c.task e 0) (offset_of (e + 1)) (get_or c.task (e + 1) 0) (rise e low high))

      up : (e k : ℕ) → first_of c t ≤ e → e + k < first_of c (suc t) → offset_of e ≤ offset_of (e + k)
      up e zero low high = let q : e + 0 ≡ e = omega arith in rw q (omega arith)
      up e (suc k) low high =
          let q : e + suc k ≡ e + k + 1 = omega arith in
          let before = up e k low (omega arith) in
          rw q (omega (arith, before, step (e + k) (omega arith) (omega arith)))

      pub no_fall : (e e' : ℕ) → first_of c t ≤ e → e ≤ e' → e' < first_of c (suc t) → offset_of e ≤ offset_of e'
      no_fall e e' low le high = let q : e + (e' - e) ≡ e' = omega arith in rw q at (up e (e' - e) low (omega arith))

      pub differ : (e e' : ℕ) → first_of c t ≤ e → e < e' → e' < first_of c (suc t) → (offset_of e ≡ offset_of (e + 1) → ⊥)
          → offset_of e < offset_of e'
      differ e e' low less high apart =
          let one = step e low (omega arith) in
          let more = no_fall (e + 1) e' (omega arith) (omega arith) high in
          by_eq (offset_of e) (offset_of (e + 1)) (λ q. absurd (apart q)) (λ q. omega (arith, one, more, q))
