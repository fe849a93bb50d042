-- The bits of a mask, lowest first; and the masks that have no bit for a body of kind 3.
use Prim.Native.Nat.{ℕ, zero, suc, ◌/◌, ◌%◌, ◌^◌, ◌<◌}
use mathlib.Core.Path.{◌≡◌, refl, sym, ap, ◌∙◌}
use mathlib.Core.Bool.{true, false, ◌&&◌, true≢false}
use mathlib.Core.List.{List, [], ◌∷◌}
use native.Mathlib.Nat.{div-one}
use native.Mathlib.Numerals.{one-add}
use native.Mathlib.Omega.{arith}
use borrow.Author.Tests.{lt-ltb, ltb-true, eq-eqb, ne_eqb, eqb-true}
use lib.Dec.{ltb, eqb}
use lib.ListN.{get_or, take, length-take, get_or-eq_default}
use lib.Seq.{get_or-take}
use lib.Pow.{shr-shr}
use Rattle.number.proofs.Cases.{by_lt, by_eq, and_true, neither}
use Rattle.config.specs.declared.Config.{Config}
use Rattle.config.specs.Meaning.{time_triggered, is_timed, is_user}
use Rattle.config.specs.Draft.{timed_in, timed_user}

-- the bit b of a mask is set
abbrev pub Set : ℕ → ℕ → Type 0
Set m b = m / 2 ^ b % 2 ≡ 1

pub first_bit : (m : ℕ) → m / 2 ^ 0 % 2 ≡ m % 2
first_bit m = ap (λ (n : ℕ). n % 2) (div-one m)

pub next_bit : (m b : ℕ) → m / 2 ^ suc b % 2 ≡ m / 2 / 2 ^ b % 2
next_bit m b = rw (← one-add b, ← shr-shr m 1 b)

-- no bit of kind 3, said of each bit
timed_in_none : (m : ℕ) (ks : List ℕ) → timed_in m ks ≡ false → (b : ℕ) → get_or ks b 0 ≡ time_triggered → Set m b → ⊥
unfolding timed_in
timed_in_none m [] e b t s = absurd (omega arith)
timed_in_none m (k ∷ ks) e zero t s =
    true≢false (rw (eq-eqb (m % 2) 1 (sym (first_bit m) ∙ s), eq-eqb k time_triggered t) at e)
timed_in_none m (k ∷ ks) e (suc b) t s = timed_in_none (m / 2) ks rest.1 b t (sym (next_bit m b) ∙ s)
  where
    rest : (eqb (m % 2) 1 && eqb k time_triggered ≡ false) × (timed_in (m / 2) ks ≡ false)
    rest = neither (eqb (m % 2) 1 && eqb k time_triggered) (timed_in (m / 2) ks) e

none_timed_in : (m : ℕ) (ks : List ℕ) → ((b : ℕ) → get_or ks b 0 ≡ time_triggered → Set m b → ⊥) → timed_in m ks ≡ false
unfolding timed_in
none_timed_in m [] f = refl
none_timed_in m (k ∷ ks) f =
    let rest = none_timed_in (m / 2) ks (λ b t s. f (suc b) t (next_bit m b ∙ s)) in
    by_eq (m % 2) 1
    (λ odd. by_eq k time_triggered
    (λ t. absurd (f zero t (first_bit m ∙ odd)))
    (λ n. rw (eq-eqb (m % 2) 1 odd, ne_eqb k time_triggered n, rest)))
    (λ even. rw (ne_eqb (m % 2) 1 even, rest))

pub is_timed_true : (c : Config) (b : ℕ) → is_timed c b ≡ true → (b < c.bodies) × (get_or c.kind b 0 ≡ time_triggered)
is_timed_true c b h =
    let p = and_true (ltb b c.bodies) (eqb (get_or c.kind b 0) time_triggered) h in
    (ltb-true b c.bodies p.0, eqb-true (get_or c.kind b 0) time_triggered p.1)

true_is_timed : (c : Config) (b : ℕ) → b < c.bodies → get_or c.kind b 0 ≡ time_triggered → is_timed c b ≡ true
true_is_timed c b h t = rw (lt-ltb b c.bodies h, eq-eqb (get_or c.kind b 0) time_triggered t)

module _ (c : Config) (r : ℕ) (h : r < c.resources) where
  pub timed_user_none : timed_user c (get_or c.users r 0) ≡ false → (b : ℕ) → is_timed c b ≡ true → is_user c r b ≡ false
  timed_user_none e b t =
      rw (lt-ltb r c.resources h)
      (ne_eqb (get_or c.users r 0 / 2 ^ b % 2) 1
      (timed_in_none (get_or c.users r 0) (take c.bodies c.kind) e b timed))
    where
      timed : get_or (take c.bodies c.kind) b 0 ≡ time_triggered
      timed = let q = is_timed_true c b t in get_or-take c.bodies c.kind b 0 q.0 ∙ q.1

  pub none_timed_user : ((b : ℕ) → is_timed c b ≡ true → is_user c r b ≡ false) → timed_user c (get_or c.users r 0) ≡ false
  none_timed_user f = none_timed_in (get_or c.users r 0) (take c.bodies c.kind) no_bit
    where
      no_bit : (b : ℕ) → get_or (take c.bodies c.kind) b 0 ≡ time_triggered → Set (get_or c.users r 0) b → ⊥
      no_bit b t s =
          by_lt b c.bodies
          (λ q. let u = f b (true_is_timed c b q (sym (get_or-take c.bodies c.kind b 0 q) ∙ t)) in
          true≢false (rw (lt-ltb r c.resources h, eq-eqb (get_or c.users r 0 / 2 ^ b % 2) 1 s) at u))
          (λ q. let z = get_or-eq_default (take c.bodies c.kind) 0 {n = b} (rw length-take (omega arith)) in
          absurd (omega (arith, z, t)))
