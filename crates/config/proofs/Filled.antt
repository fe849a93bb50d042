-- Lists as far as they are filled: the first n elements, and zeros after them (`padded`, specs/Accepted.antt).
-- Last, a number that is not among the first n elements.
use Prim.Native.Nat.{ℕ, zero, suc, ◌+◌, ◌-◌, ◌≤◌, ◌<◌}
use mathlib.Core.Path.{◌≡◌, refl, sym, ◌∙◌}
use mathlib.Core.Bool.{false}
use mathlib.Core.List.{List, [], ◌∷◌}
use native.Mathlib.Omega.{arith}
use lib.Dec.{eqb}
use lib.ListN.{length, get_or, take, set, replicate, length-append, length-take, length-set, length-replicate, get_or-replicate, get_or-append, get_or-eq_default}
use lib.Seq.{get_or-append-add, get_or-set_same, get_or-set_other, get_or-take, take-set-le, ext_get_or}
use borrow.Author.Tests.{eqb-false, ne_eqb}
use Rattle.number.proofs.Cases.{by_lt, by_eq, neither}
use Rattle.config.specs.Among.{among}
use Rattle.config.specs.Accepted.{padded}

-- an element of a list of zeros, inside or not
pub get_d_zeros : (n j : ℕ) → ◌≡◌ {A = ℕ} (get_or (replicate n 0) j 0) 0
get_d_zeros n j =
    by_lt j n
    (λ h. get_or-replicate n j 0 0 h)
    (λ h. get_or-eq_default (replicate n 0) 0 {n = j} (rw length-replicate h))

module _ (m : ℕ) (l : List ℕ) (full : length l ≡ m) where
  pub length_padded : (n : ℕ) → length (padded m n l) ≡ m
  length_padded n = simp (length-append, length-take, length-replicate) (omega arith)

  past : (n j : ℕ) → m ≤ j → get_or (padded m n l) j 0 ≡ 0
  past n j h = get_or-eq_default (padded m n l) 0 {n = j} (rw (length_padded n) h)

  -- a filled element is the list's own, any other is 0
  pub get_d_padded : (n j : ℕ) → j < n → get_or (padded m n l) j 0 ≡ get_or l j 0
  get_d_padded n j h =
      by_lt j m
      (λ p. get_or-append (take n l) (replicate (m - n) 0) 0 j (rw length-take (omega arith)) ∙ get_or-take n l j 0 h)
      (λ p. past n j p ∙ sym (get_or-eq_default l 0 {n = j} (omega arith)))

  get_d_unfilled : (n j : ℕ) → n ≤ j → get_or (padded m n l) j 0 ≡ 0
  get_d_unfilled n j h =
      by_lt j m
      (λ p. rw (at p) (get_or-append-add (take n l) (replicate (m - n) 0) (j - n) 0 ∙ get_d_zeros (m - n) (j - n)))
      (λ p. past n j p)
    where
      at : j < m → j ≡ length (take n l) + (j - n)
      at p = rw length-take (omega arith)

  -- one more element is filled
  pub set_padded : (n : ℕ) → set (padded m n l) n (get_or l n 0) ≡ padded m (n + 1) l
  set_padded n =
      ext_get_or 0 filled (padded m (n + 1) l) (rw (length-set, length_padded n, length_padded (n + 1))) same
    where
      filled : List ℕ
      filled = set (padded m n l) n (get_or l n 0)

      same : (j : ℕ) → j < length filled → get_or filled j 0 ≡ get_or (padded m (n + 1) l) j 0
      same j h =
          by_eq j n
          (λ e. rw e
          (get_or-set_same (padded m n l) n (get_or l n 0) 0 (inside e) ∙ sym (get_d_padded (n + 1) n (omega arith))))
          (λ e. get_or-set_other (padded m n l) n j (get_or l n 0) 0 e ∙ other e)
        where
          inside : j ≡ n → n < length (padded m n l)
          inside e = omega (arith, rw length-set at h)

          other : (j ≡ n → ⊥) → get_or (padded m n l) j 0 ≡ get_or (padded m (n + 1) l) j 0
          other e =
              by_lt j n
              (λ p. get_d_padded n j p ∙ sym (get_d_padded (n + 1) j (omega arith)))
              (λ p. get_d_unfilled n j p ∙ sym (get_d_unfilled (n + 1) j (omega arith)))

  -- the filled elements are the list's own
  pub take_padded : (n : ℕ) → take n (padded m n l) ≡ take n l
  take_padded n = ext_get_or 0 (take n (padded m n l)) (take n l) (simp (length-take, length_padded n, full)) same
    where
      same : (j : ℕ) → j < length (take n (padded m n l)) → get_or (take n (padded m n l)) j 0 ≡ get_or (take n l) j 0
      same j h =
          let q : j < n = omega (arith, rw length-take at h) in
          get_or-take n (padded m n l) j 0 q ∙ get_d_padded n j q ∙ sym (get_or-take n l j 0 q)

-- what is filled twice is filled as far as the smaller number says
pub padded_padded : (m : ℕ) (l : List ℕ) → length l ≡ m → (n k : ℕ) → n ≤ k → padded m n (padded m k l) ≡ padded m n l
padded_padded m l full n k h =
    ext_get_or 0 twice (padded m n l) (length_padded m (padded m k l) inner n ∙ sym (length_padded m l full n)) same
  where
    twice : List ℕ
    twice = padded m n (padded m k l)

    inner : length (padded m k l) ≡ m
    inner = length_padded m l full k

    same : (j : ℕ) → j < length twice → get_or twice j 0 ≡ get_or (padded m n l) j 0
    same j _ =
        by_lt j n
        (λ p. get_d_padded m (padded m k l) inner n j p
        ∙ get_d_padded m l full k j (omega arith)
        ∙ sym (get_d_padded m l full n j p))
        (λ p. get_d_unfilled m (padded m k l) inner n j p ∙ sym (get_d_unfilled m l full n j p))

-- what is set after the filled elements does not count
pub padded_set : (m : ℕ) (l : List ℕ) (n v : ℕ) → padded m n (set l n v) ≡ padded m n l
padded_set m l n v = rw (take-set-le n l n v (omega arith))

-- a number that is none of the elements
none_before : (v : ℕ) (l : List ℕ) → among v l ≡ false → (j : ℕ) → j < length l → get_or l j 0 ≡ v → ⊥
unfolding among
none_before v [] e j h q = absurd (omega arith)
none_before v (x ∷ xs) e zero h q = eqb-false v x (neither (eqb v x) (among v xs) e).0 (sym q)
none_before v (x ∷ xs) e (suc j) h q = none_before v xs (neither (eqb v x) (among v xs) e).1 j (omega arith) q

before_none : (v : ℕ) (l : List ℕ) → ((j : ℕ) → j < length l → get_or l j 0 ≡ v → ⊥) → among v l ≡ false
unfolding among
before_none v [] f = refl
before_none v (x ∷ xs) f =
    simp (ne_eqb v x (λ e. f zero (omega arith) (sym e)), before_none v xs (λ j h. f (suc j) (omega arith)))

module _ (v n : ℕ) (l : List ℕ) (fits : n ≤ length l) where
  pub among_none : among v (take n l) ≡ false → (j : ℕ) → j < n → get_or l j 0 ≡ v → ⊥
  among_none e j h q = none_before v (take n l) e j (rw length-take (omega arith)) (get_or-take n l j 0 h ∙ q)

  pub none_among : ((j : ℕ) → j < n → get_or l j 0 ≡ v → ⊥) → among v (take n l) ≡ false
  none_among f = before_none v (take n l) (λ j h q. f j (below j h) (sym (get_or-take n l j 0 (below j h)) ∙ q))
    where
      below : (j : ℕ) → j < length (take n l) → j < n
      below j h = omega (arith, rw length-take at h)
