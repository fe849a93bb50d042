-- Numbers that stand in a list (`among`), and lists in which none stands twice: such a list is no longer than one that
-- has all its numbers (`distinct_fits`).
--
-- In order: what `among` says of a head, a tail, an index and two lists put together; a list without one of its numbers;
-- the law.
use Prim.Native.Nat.{ℕ, zero, suc, ◌≤◌, ◌<◌}
use mathlib.Core.Path.{◌≡◌, refl, sym, ap, ◌∙◌}
use mathlib.Core.Bool.{Bool, true, false, true≢false, cond, ◌||◌, or-true}
use mathlib.Core.List.{List, [], ◌∷◌, ◌++◌}
use mathlib.Core.Logic.{◌≢◌}
use native.Mathlib.Omega.{arith}
use borrow.Author.Tests.{eq-eqb, ne_eqb}
use lib.Dec.{eqb}
use lib.ListN.{length, get_or}
use Rattle.number.proofs.Cases.{by_eq, neither}
use Rattle.scheduler.specs.Body.{rest}
use Rattle.scheduler.specs.State.{among}

abbrev pub Distinct : List ℕ → Type 0
Distinct [] = Unit {0}
Distinct (j ∷ js) = (among j js ≡ false) × Distinct js

distinct_rest : (js : List ℕ) → Distinct js → Distinct (rest js)
distinct_rest [] d = d
distinct_rest (j ∷ js) d = d.1

pub none_among : {C : Type 0} (j : ℕ) → among j [] ≡ true → C
unfolding among
none_among j h = absurd (true≢false (sym h))

pub among_head : (j : ℕ) (js : List ℕ) → among j (j ∷ js) ≡ true
unfolding among
among_head j js = rw (eq-eqb j j refl)

pub among_other : (i j : ℕ) (js : List ℕ) → i ≢ j → among i (j ∷ js) ≡ among i js
unfolding among
among_other i j js d = rw (ne_eqb i j d)

pub among_tail : (i j : ℕ) (js : List ℕ) → among i js ≡ true → among i (j ∷ js) ≡ true
unfolding among
among_tail i j js h = rw h (or-true (eqb i j))

-- i is the first of the list, or stands further on
pub by_among {ℓ} : {C : Type ℓ} (i b : ℕ) (ns : List ℕ) → among i (b ∷ ns) ≡ true
    → (i ≡ b → C) → ((i ≡ b → ⊥) → among i ns ≡ true → C) → C
by_among i b ns h f g = by_eq i b f (λ n. g n (sym (among_other i b ns n) ∙ h))

-- who is neither the first nor further on is not in the list
pub not_among : (i b : ℕ) (ns : List ℕ) → (i ≡ b → ⊥) → among i ns ≡ false → among i (b ∷ ns) ≡ false
not_among i b ns n h = among_other i b ns n ∙ h

pub among_tail_false : (i b : ℕ) (ns : List ℕ) → among i (b ∷ ns) ≡ false → among i ns ≡ false
unfolding among
among_tail_false i b ns h = (neither (eqb i b) (among i ns) h).1

pub among_nil : (i : ℕ) → among i [] ≡ false
unfolding among
among_nil i = refl

or_cases {ℓ} : {C : Type ℓ} (a b : Bool) → a || b ≡ true → (a ≡ true → C) → (b ≡ true → C) → C
or_cases true b h f g = f refl
or_cases false b h f g = g h

-- a number in one of two lists
pub among_append_left : (r : ℕ) (xs ys : List ℕ) → among r xs ≡ true → among r (xs ++ ys) ≡ true
unfolding among
among_append_left r [] ys h = absurd (true≢false (sym h))
among_append_left r (x ∷ xs) ys h =
    or_cases (eqb r x) (among r xs) h (λ e. rw e) (λ q. rw (among_append_left r xs ys q) (or-true (eqb r x)))

pub among_append_right : (r : ℕ) (xs ys : List ℕ) → among r ys ≡ true → among r (xs ++ ys) ≡ true
among_append_right r [] ys h = h
among_append_right r (x ∷ xs) ys h = among_tail r x (xs ++ ys) (among_append_right r xs ys h)

pub by_append {ℓ} : {C : Type ℓ} (r : ℕ) (xs ys : List ℕ) → among r (xs ++ ys) ≡ true
    → (among r xs ≡ true → C) → (among r ys ≡ true → C) → C
unfolding among
by_append r [] ys h f g = g h
by_append r (x ∷ xs) ys h f g =
    or_cases (eqb r x) (among r (xs ++ ys)) h
    (λ e. f (rw e))
    (λ q. by_append r xs ys q (λ a. f (rw a (or-true (eqb r x)))) g)

-- what is left of a list stood in it
pub among_rest : (j : ℕ) (js : List ℕ) → among j (rest js) ≡ true → among j js ≡ true
among_rest j [] h = h
among_rest j (x ∷ xs) h = among_tail j x xs h

-- what stands at a place of a list stands in it
pub among_place : (l : List ℕ) (k : ℕ) → k < length l → among (get_or l k 0) l ≡ true
among_place [] k h = absurd (omega arith)
among_place (x ∷ xs) zero h = among_head x xs
among_place (x ∷ xs) (suc k) h = among_tail (get_or xs k 0) x xs (among_place xs k (omega arith))

-- the list without its first j
removed : ℕ → List ℕ → List ℕ
removed j [] = []
removed j (x ∷ xs) = cond (eqb j x) xs (x ∷ removed j xs)

length_removed : (j : ℕ) (l : List ℕ) → among j l ≡ true → length l ≡ suc (length (removed j l))
unfolding removed
length_removed j [] h = none_among j h
length_removed j (x ∷ xs) h =
    by_eq j x
    (λ same. rw (eq-eqb j x same))
    (λ other. rw (ne_eqb j x other) (ap suc (length_removed j xs (sym (among_other j x xs other) ∙ h))))

among_removed : (i j : ℕ) (l : List ℕ) → i ≢ j → among i l ≡ true → among i (removed j l) ≡ true
unfolding removed
among_removed i j [] d h = h
among_removed i j (x ∷ xs) d h =
    by_eq j x
    (λ same. rw (eq-eqb j x same) (sym (among_other i x xs (λ e. d (e ∙ sym same))) ∙ h))
    (λ other. rw (ne_eqb j x other)
    (by_eq i x
    (λ here. rw here (among_head x (removed j xs)))
    (λ n. among_tail i x (removed j xs) (among_removed i j xs d (sym (among_other i x xs n) ∙ h)))))

pub distinct_fits : (js l : List ℕ) → Distinct js → ((i : ℕ) → among i js ≡ true → among i l ≡ true)
    → length js ≤ length l
distinct_fits [] l d all = omega arith
distinct_fits (j ∷ js) l d all =
    omega (
      arith,
      length_removed j l (all j (among_head j js)),
      distinct_fits js (removed j l) d.1
          (λ i h. among_removed i j l (λ e. true≢false (sym h ∙ ap (λ (k : ℕ). among k js) e ∙ d.0))
          (all i (among_tail i j js h))),
    )
