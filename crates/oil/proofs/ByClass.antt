-- A search class by class: among one class more, among all.
use Rattle.std.proofs.Common.{ℕ, List, ◌%◌, ◌+◌, ◌≤◌, ◌<◌, ◌≡◌, Bool, true, false, ◌&&◌, Option, Some, None, eqb, ltb, unwrap_or, arith}
use Rattle.std.specs.Option.{option_or}
use Rattle.std.proofs.lemmas.Bool.{lt-ltb, le-ltb, ltb-true, eq-eqb, eqb-true}
use Rattle.number.proofs.Cases.{by_lt, by_eq, and_true}
use Rattle.oil.specs.declared.hashing.Class.{Class}
use Rattle.oil.specs.Hash.{hashed}
use Rattle.oil.specs.Names.{in_class, spelled}
use Rattle.oil.specs.Tokens.{First}

module _ (n : ℕ) (p : ℕ → Bool) (class : ℕ → ℕ) where
  -- p holds of the number i, which is of one of the first m classes
  abbrev pub within : ℕ → ℕ → Bool
  within m i = ltb (class i) m && p i

  within_more : (m i : ℕ) → within m i ≡ true → within (m + 1) i ≡ true
  within_more m i e =
      let a = and_true (ltb (class i) m) (p i) e in
      let l = ltb-true (class i) m a.0 in
      rw (lt-ltb (class i) (m + 1) (omega arith)) a.1

  within_new : (m i : ℕ) → (eqb (class i) m && p i) ≡ true → within (m + 1) i ≡ true
  within_new m i e =
      let a = and_true (eqb (class i) m) (p i) e in
      let l = eqb-true (class i) m a.0 in
      rw (lt-ltb (class i) (m + 1) (omega arith)) a.1

  within_none : (m i : ℕ) → within m i ≡ false → (eqb (class i) m && p i) ≡ false → within (m + 1) i ≡ false
  within_none m i e f =
      by_lt (class i) m
      (λ c. rw (lt-ltb (class i) (m + 1) (omega arith)) (rw (lt-ltb (class i) m c) at e))
      (λ c. by_eq (class i) m
      (λ q. rw (lt-ltb (class i) (m + 1) (omega arith)) (rw (eq-eqb (class i) m q) at f))
      (λ d. rw (le-ltb (class i) (m + 1) (omega arith))))

  pub first_step : (m : ℕ) (r u : Option ℕ) → First n (within m) r
      → First (unwrap_or r n) (λ i. eqb (class i) m && p i) u → First n (within (m + 1)) (option_or u r)
  first_step m None None f g = λ i h. within_none m i (f i h) (g i h)
  first_step m None (Some k) f g =
      (g.0, within_new m k g.1, λ i h. within_none m i (f i (let l = g.0 in omega arith)) (g.2 i h))
  first_step m (Some j) None f g = (f.0, within_more m j f.1, λ i h. within_none m i (f.2 i h) (g i h))
  first_step m (Some j) (Some k) f g = (
    (let a = f.0 in let b = g.0 in omega arith),
    within_new m k g.1,
    λ i h. within_none m i (f.2 i (let l = g.0 in omega arith)) (g.2 i h),
  )

  pub first_end : (m : ℕ) (r : Option ℕ) → ((i : ℕ) → class i < m) → First n (within m) r → First n p r
  first_end m None c f = λ i h. rw (lt-ltb (class i) m (c i)) at (f i h)
  first_end m (Some k) c f = (
    f.0,
    rw (lt-ltb (class k) m (c k)) at f.1,
    λ i h. rw (lt-ltb (class i) m (c i)) at (f.2 i h),
  )

  -- what is found bounds the next class
  pub bound_within : (q : ℕ → Bool) (r : Option ℕ) → First n q r → unwrap_or r n ≤ n
  bound_within q None f = omega arith
  bound_within q (Some k) f = let l = f.0 in omega arith

-- the class d is the one of c that has the number m, and u is found below b in it
pub next_class : (t : List ℕ) (n : ℕ) (p : ℕ → Bool) (c d : Class) (m : ℕ) (r u : Option ℕ) {b : ℕ} {o : Option ℕ}
    → (d.key ≡ c.key) × (d.count ≡ c.count) × (d.number ≡ m) → b ≡ unwrap_or r n
    → First n (within n p (λ i. hashed c.key 0 (spelled t i) % c.count) m) r
    → (b ≤ n → First b (λ i. in_class d (spelled t i) && p i) u) → o ≡ option_or u r
    → First n (within n p (λ i. hashed c.key 0 (spelled t i) % c.count) (m + 1)) o
unfolding in_class
next_class t n p c d m r u {b} e q f g z =
    let class : ℕ → ℕ = λ i. hashed c.key 0 (spelled t i) % c.count in
    rw z (first_step n p class m r u f (rw (e.0, e.1, e.2, q) at (g (rw q (bound_within n p class (within n p class m) r f)))))
