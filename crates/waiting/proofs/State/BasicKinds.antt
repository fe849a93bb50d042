-- The test of the kinds says what it should: `beyond_basic_lem`.
use Prim.Native.Nat.{ℕ, zero, suc, ◌<◌}
use mathlib.Core.Path.{◌≡◌, refl}
use mathlib.Core.Bool.{false, ◌||◌}
use mathlib.Core.List.{List, [], ◌∷◌}
use mathlib.Core.Logic.{◌↔◌}
use native.Mathlib.Omega.{arith}
use borrow.Author.Tests.{lt-ltb, le-ltb}
use lib.Dec.{eqb}
use lib.ListN.{length, get_or, take, length-take}
use lib.Seq.{get_or-take}
use Rattle.number.proofs.Cases.{by_lt, neither}
use Rattle.config.specs.declared.Config.{Config}
use Rattle.config.specs.Meaning.{extended, time_triggered, is_extended, is_timed}
use Rattle.waiting.specs.Conditions.{some_beyond_basic, beyond_basic}

-- no task is extended or time-triggered
pub record Basic (c : Config) : Type 0 where
  pub no_extended : (b : ℕ) → is_extended c b ≡ false
  pub no_timed : (b : ℕ) → is_timed c b ≡ false

-- a kind that is neither
abbrev OneOf : ℕ → Type 0
OneOf k = (eqb k extended ≡ false) × (eqb k time_triggered ≡ false)

none_beyond : (ks : List ℕ) → some_beyond_basic ks ≡ false → (b : ℕ) → OneOf (get_or ks b 0)
unfolding some_beyond_basic
none_beyond [] h b = (refl, refl)
none_beyond (k ∷ ks) h zero =
    neither (eqb k extended) (eqb k time_triggered)
    (neither (eqb k extended || eqb k time_triggered) (some_beyond_basic ks) h).0
none_beyond (k ∷ ks) h (suc b) =
    none_beyond ks (neither (eqb k extended || eqb k time_triggered) (some_beyond_basic ks) h).1 b

beyond_none : (ks : List ℕ) → ((b : ℕ) → b < length ks → OneOf (get_or ks b 0)) → some_beyond_basic ks ≡ false
unfolding some_beyond_basic
beyond_none [] h = refl
beyond_none (k ∷ ks) h =
    let here : OneOf k = h 0 (omega arith) in
    let rest : some_beyond_basic ks ≡ false = beyond_none ks (λ b l. h (suc b) (omega arith)) in
    simp (here.0, here.1, rest)

module _ (c : Config) where
  pub basic_kinds : beyond_basic c ≡ false → Basic c
  basic_kinds h =
      record {
        no_extended = λ b. by_lt b c.bodies
            (λ l. simp (lt-ltb b c.bodies l, (kind b l).0))
            (λ l. simp (le-ltb b c.bodies l));
        no_timed = λ b. by_lt b c.bodies
            (λ l. simp (lt-ltb b c.bodies l, (kind b l).1))
            (λ l. simp (le-ltb b c.bodies l));
      }
    where
      kind : (b : ℕ) → b < c.bodies → OneOf (get_or c.kind b 0)
      kind b l = rw (get_or-take c.bodies c.kind b 0 l) at (none_beyond (take c.bodies c.kind) h b)

  basic_not_beyond : Basic c → beyond_basic c ≡ false
  basic_not_beyond basic =
      beyond_none (take c.bodies c.kind) (λ b l.
      let fits : b < c.bodies = omega (arith, length-take c.bodies c.kind) in
      rw (get_or-take c.bodies c.kind b 0 fits) (
        simp (lt-ltb b c.bodies fits) at (basic.no_extended b),
        simp (lt-ltb b c.bodies fits) at (basic.no_timed b),
      ))

  pub beyond_basic_lem : (beyond_basic c ≡ false) ↔ Basic c
  beyond_basic_lem = (basic_kinds, basic_not_beyond)
