-- Spellings that are the same.
use Prim.Native.Nat.{ℕ}
use mathlib.Core.Path.{◌≡◌, refl, sym, ◌∙◌}
use mathlib.Core.Bool.{Bool, true, false}
use mathlib.Core.List.{List, [], ◌∷◌}
use native.Mathlib.Omega.{arith}
use borrow.Author.Tests.{eq-eqb, ne_eqb}
use Rattle.number.proofs.Cases.{by_test, by_eq}
use Rattle.oil_grammar.specs.Token.{same}

pub false_true : false ≡ true → ⊥
false_true e = let z : ◌≡◌ {A = ℕ} 0 1 = cc in omega arith

pub same_refl : (x : List ℕ) → same x x ≡ true
unfolding same
same_refl [] = refl
same_refl (b ∷ x) = rw (eq-eqb b b refl) (same_refl x)

pub same_equal : (x y : List ℕ) → same x y ≡ true → x ≡ y
unfolding same
same_equal [] [] e = refl
same_equal [] (c ∷ y) e = absurd (false_true e)
same_equal (b ∷ x) [] e = absurd (false_true e)
same_equal (b ∷ x) (c ∷ y) e =
    by_eq b c
    (λ h. let r : same x y ≡ true = rw (eq-eqb b c h) at e in cong h (same_equal x y r))
    (λ h. absurd (false_true (rw (ne_eqb b c h) at e)))
  where
    cong : {b c : ℕ} {x y : List ℕ} → b ≡ c → x ≡ y → b ∷ x ≡ c ∷ y
    cong h k = cc

-- a test that is true exactly where two lists are equal is `same`
pub same_result : (r : Bool) (x y : List ℕ) → (r ≡ true → x ≡ y) × (x ≡ y → r ≡ true) → r ≡ same x y
same_result true x y h = sym (rw (h.0 refl) (same_refl y))
same_result false x y h = by_test (same x y) (λ e. h.1 (same_equal x y e) ∙ sym e) (λ e. sym e)
