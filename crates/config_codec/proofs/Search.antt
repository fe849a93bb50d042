-- The searches of a list: for a number, which is std's `list_any`, and among its first.
use Prim.Native.Nat.{ℕ, zero, suc}
use mathlib.Core.Path.{◌≡◌, refl, sym, ◌∙◌}
use mathlib.Core.Bool.{false}
use mathlib.Core.List.{List, [], ◌∷◌}
use borrow.Author.Tests.{eq-eqb, ne_eqb}
use lib.Dec.{eqb}
use lib.ListN.{take}
use Rattle.std.specs.List.{list_any}
use Rattle.number.proofs.Cases.{by_eq, neither}
use Rattle.config.specs.Among.{among}

eqb_sym : (x v : ℕ) → eqb x v ≡ eqb v x
eqb_sym x v =
    by_eq x v
    (λ e. eq-eqb x v e ∙ sym (eq-eqb v x (sym e)))
    (λ n. ne_eqb x v n ∙ sym (ne_eqb v x (λ e. n (sym e))))

-- what `contains` answers
pub among_any : (v : ℕ) (l : List ℕ) → list_any (λ x. eqb x v) l ≡ among v l
unfolding among
among_any v [] = refl
among_any v (x ∷ xs) = rw (eqb_sym x v, among_any v xs)

-- what stands nowhere in a list is none of its first n
pub among_take : (v n : ℕ) (l : List ℕ) → among v l ≡ false → among v (take n l) ≡ false
unfolding among
among_take v zero l e = refl
among_take v (suc n) [] e = refl
among_take v (suc n) (x ∷ xs) e =
    let h = neither (eqb v x) (among v xs) e in rw h.0 (among_take v n xs h.1)
