-- "its ceiling is the greatest priority among them": no user's is above it, and one user's is it.
--
-- In order: the elements of a list that a mask chooses, bit by bit; a resource's users.
use Prim.Native.Nat.{ℕ, zero, suc, ◌/◌, ◌%◌, ◌^◌, ◌≤◌, ◌<◌}
use mathlib.Core.Path.{◌≡◌, refl, sym, ◌∙◌}
use mathlib.Core.Bool.{true}
use mathlib.Core.List.{List, [], ◌∷◌}
use native.Mathlib.Nat.{pow-suc}
use native.Mathlib.Omega.{arith}
use borrow.Author.Tests.{lt-ltb, eq-eqb, ne_eqb, eqb-true}
use lib.Dec.{ltb}
use lib.ListN.{length, get_or, take}
use lib.Seq.{get_or-take, length-take-le}
use Rattle.number.proofs.Cases.{by_lt, by_eq, and_true}
use Rattle.config.specs.declared.Config.{Config}
use Rattle.config.specs.Meaning.{is_user, priority_of, greatest_in, ceiling}
use Rattle.config.specs.Accepted.{Shaped, Accepted}
use Rattle.config.proofs.Mask.{Set, first_bit, next_bit}

-- no chosen element is greater than the greatest
chosen_le : (m : ℕ) (ps : List ℕ) (b : ℕ) → b < length ps → Set m b → get_or ps b 0 ≤ greatest_in m ps
unfolding greatest_in
chosen_le m [] b h s = absurd (omega arith)
chosen_le m (p ∷ ps) zero h s = rw (eq-eqb (m % 2) 1 (sym (first_bit m) ∙ s)) (omega arith)
chosen_le m (p ∷ ps) (suc b) h s = omega (arith, chosen_le (m / 2) ps b (omega arith) (sym (next_bit m b) ∙ s))

-- of none that are chosen the greatest is 0
none_chosen : (ps : List ℕ) → greatest_in 0 ps ≡ 0
unfolding greatest_in
none_chosen [] = refl
none_chosen (p ∷ ps) = omega (arith, none_chosen ps)

-- a chosen element that is the greatest
abbrev Reached : ℕ → List ℕ → Type 0
Reached m ps = (b : ℕ) × (b < length ps) × (Set m b) × (get_or ps b 0 ≡ greatest_in m ps)

chosen_reached : (m : ℕ) (ps : List ℕ) → 1 ≤ m → m < 2 ^ length ps → Reached m ps
unfolding greatest_in
chosen_reached m [] some few = absurd (omega arith)
chosen_reached m (p ∷ ps) some few =
    by_eq (m % 2) 1
    (λ odd. by_eq (m / 2) 0
    (λ alone. first odd (rw (alone, none_chosen ps) (omega arith)))
    (λ more. either odd (chosen_reached (m / 2) ps (omega arith) half)))
    (λ even. let x = chosen_reached (m / 2) ps (omega (arith, even)) half in
    later x (rw (ne_eqb (m % 2) 1 even) (omega (arith, x.3))))
  where
    half : m / 2 < 2 ^ length ps
    half = omega (arith, pow-suc 2 (length ps))

    first : m % 2 ≡ 1 → greatest_in (m / 2) ps ≤ p → Reached m (p ∷ ps)
    first odd most = (0, omega arith, first_bit m ∙ odd, rw (eq-eqb (m % 2) 1 odd) (omega arith))

    later : (x : Reached (m / 2) ps) → get_or ps x.0 0 ≡ greatest_in m (p ∷ ps) → Reached m (p ∷ ps)
    later x e = (suc x.0, omega (arith, x.1), next_bit m x.0 ∙ x.2, e)

    either : m % 2 ≡ 1 → Reached (m / 2) ps → Reached m (p ∷ ps)
    either odd x =
        by_lt p (greatest_in (m / 2) ps)
        (λ less. later x (rw (eq-eqb (m % 2) 1 odd) (omega (arith, x.3))))
        (λ most. first odd most)

module _ (c : Config) (accepted : Accepted c) (shaped : Shaped c) (r : ℕ) where
  long : length (take c.bodies c.priority) ≡ c.bodies
  long = length-take-le c.bodies c.priority (omega (arith, accepted.few_bodies, shaped.priorities))

  own : (b : ℕ) → b < c.bodies → get_or (take c.bodies c.priority) b 0 ≡ priority_of c b
  own b h = get_or-take c.bodies c.priority b 0 h

  pub user_le : (b : ℕ) → b < c.bodies → is_user c r b ≡ true → priority_of c b ≤ ceiling c r
  user_le b h u =
      rw (← own b h)
      (chosen_le (get_or c.users r 0) (take c.bodies c.priority) b (rw long h) bit)
    where
      bit : get_or c.users r 0 / 2 ^ b % 2 ≡ 1
      bit = eqb-true (get_or c.users r 0 / 2 ^ b % 2) 1 (and_true (ltb r c.resources) _ u).1

  pub ceiling_reached : r < c.resources
      → (b : ℕ) × (b < c.bodies) × (is_user c r b ≡ true) × (priority_of c b ≡ ceiling c r)
  ceiling_reached h = (
    x.0,
    body,
    rw (lt-ltb r c.resources h) (eq-eqb (get_or c.users r 0 / 2 ^ x.0 % 2) 1 x.2),
    sym (own x.0 body) ∙ x.3,
  )
    where
      x : Reached (get_or c.users r 0) (take c.bodies c.priority)
      x =
          chosen_reached (get_or c.users r 0) (take c.bodies c.priority) (accepted.some_user r h)
          (rw long (accepted.users_exist r h))

      body : x.0 < c.bodies
      body = omega (arith, x.1, long)
