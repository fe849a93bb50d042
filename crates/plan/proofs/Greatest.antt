-- The greatest of the elements whose bits are set in a mask: element by element, and how large it can be.
use Prim.Native.Nat.{ℕ, zero, suc, ◌+◌, ◌*◌, ◌/◌, ◌%◌, ◌^◌, ◌≤◌, ◌<◌, max}
use mathlib.Core.Path.{◌≡◌, refl, sym, ap, ◌∙◌}
use mathlib.Core.List.{List, [], ◌∷◌}
use native.Mathlib.Omega.{arith}
use native.Mathlib.Nat.{add-zero, mul-one, zero-mul, two-pow-succ}
use lib.ListN.{length, get_or, take, drop, drop_of_length-le}
use lib.Seq.{length-take-le}
use borrow.Author.Tests.{eq-eqb, ne_eqb}
use Rattle.number.proofs.Cases.{by_lt, by_eq}
use Rattle.config.specs.Meaning.{greatest_in}
use Rattle.plan.proofs.Stores.{drop_take_cons}

max_assoc : (a b c : ℕ) → max (max a b) c ≡ max a (max b c)
max_assoc a b c = omega arith

max_zero : (a : ℕ) → max a 0 ≡ a
max_zero a = omega arith

-- the greatest of the elements from b on that the bits of m choose, of the first n of l
abbrev pub left_in : ℕ → List ℕ → ℕ → ℕ → ℕ
left_in n l m b = greatest_in m (drop b (take n l))

-- a loop over a list that keeps the greatest so far of the elements that the bits of a mask choose
module _ (m r n : ℕ) (l : List ℕ) (fits : n ≤ length l) (b : ℕ) where
  pub chosen_next : b < n → m % 2 ≡ 1
      → max (max r (get_or l b 0)) (left_in n l (m / 2) (suc b)) ≡ max r (left_in n l m b)
  unfolding greatest_in
  chosen_next h odd =
      rw (drop_take_cons n l b h fits, eq-eqb (m % 2) 1 odd)
      (max_assoc r (get_or l b 0) (left_in n l (m / 2) (suc b)))

  pub unchosen_next : b < n → (m % 2 ≡ 1 → ⊥) → max r (left_in n l (m / 2) (suc b)) ≡ max r (left_in n l m b)
  unfolding greatest_in
  unchosen_next h even =
      rw (drop_take_cons n l b h fits, ne_eqb (m % 2) 1 even)
      (ap (max r) (zero_max_of (left_in n l (m / 2) (suc b))))
    where
      zero_max_of : (x : ℕ) → x ≡ max 0 x
      zero_max_of x = omega arith

  pub chosen_all : n ≤ b → max r (left_in n l m b) ≡ r
  unfolding greatest_in
  chosen_all h = rw (drop_of_length-le (take n l) {i = b} (rw (length-take-le n l fits) h)) (max_zero r)

-- one step further
pub moved : (b k : ℕ) → suc b + k ≡ b + suc k
moved b k = omega arith

-- zero bits choose nothing: the mask's place may be moved past them
module _ (n : ℕ) (l : List ℕ) (fits : n ≤ length l) where
  past_end : (m b : ℕ) → n ≤ b → left_in n l m b ≡ 0
  past_end m b h = let e = chosen_all m 0 n l fits b h in omega (arith, e)

  left_twice : (x b : ℕ) → left_in n l (2 * x) b ≡ left_in n l x (suc b)
  left_twice x b =
      by_lt b n
      (λ h. let e = unchosen_next (2 * x) 0 n l fits b h (λ o. omega arith) in
      let half : 2 * x / 2 ≡ x = omega arith in
      omega (arith, rw half at e))
      (λ h. past_end (2 * x) b h ∙ sym (past_end x (suc b) (omega arith)))

  pub left_shift : (q k b : ℕ) → left_in n l (q * 2 ^ k) b ≡ left_in n l q (b + k)
  left_shift q zero b = rw (mul-one q, add-zero b) refl
  left_shift q (suc k) b =
      ap (λ (m : ℕ). left_in n l m b) (even q k)
      ∙ left_twice (q * 2 ^ k) b
      ∙ left_shift q k (suc b)
      ∙ ap (left_in n l q) (moved b k)
    where
      even : (q k : ℕ) → q * 2 ^ suc k ≡ 2 * (q * 2 ^ k)
      even q k = rw (two-pow-succ k) (omega arith)

  -- so a mask of zeros chooses nothing at all
  pub left_none : (r b : ℕ) → max r (left_in n l 0 b) ≡ r
  left_none r b =
      let e = left_shift 0 n b in
      let z : 0 * 2 ^ n ≡ 0 = zero-mul (2 ^ n) in
      let s = rw z at e in
      omega (arith, s, past_end 0 (b + n) (omega arith))

  -- one element more, chosen where there is one
  pub chosen_or_past : (q r b : ℕ) → n ≤ b → max r (left_in n l (q / 2) (suc b)) ≡ max r (left_in n l q b)
  chosen_or_past q r b h = omega (arith, past_end (q / 2) (suc b) (omega arith), past_end q b h)

-- it is no greater than the elements
pub greatest_in_le : (m k : ℕ) (ps : List ℕ) → ((b : ℕ) → b < length ps → get_or ps b 0 ≤ k) → greatest_in m ps ≤ k
unfolding greatest_in
greatest_in_le m k [] h = omega arith
greatest_in_le m k (p ∷ ps) h =
    let rest = greatest_in_le (m / 2) k ps (λ b l. h (suc b) (omega arith)) in
    let first : p ≤ k = h 0 (omega arith) in
    by_eq (m % 2) 1
    (λ e. rw (eq-eqb (m % 2) 1 e) (omega arith))
    (λ e. rw (ne_eqb (m % 2) 1 e) (omega arith))
