-- An array that a closure made, which no call of it changes: what it has at each index.
use Prim.Native.Nat.{ℕ, zero, suc, ◌+◌, ◌≤◌, ◌<◌}
use mathlib.Core.Path.{◌≡◌, sym, ap, subst, ◌∙◌}
use mathlib.Core.List.{List}
use native.Mathlib.Omega.{arith}
use lib.ListN.{get_or}
use denote.Param.Members.{Mut, Called}
use Rattle.number.proofs.Cases.{by_eq}
use Rattle.std.specs.Array.{IsFromFnResult, IsFromFnResultFrom}

module _ {F B : Type 0} (g : Mut F (ℕ × Unit {0}) B) (f : F) (ys : List B) (h : ℕ → B)
    (call : (x : ℕ) (y : B) (f' : F) → Called g f (x, tt) y f' → (y ≡ h x) × (f' ≡ f)) where
  made_from : (n i : ℕ) → IsFromFnResultFrom g f ys i n → (k : ℕ) (d : B) → i ≤ k → k < i + n → get_or ys k d ≡ h k
  made_from zero i each k d low high = absurd (omega arith)
  made_from (suc n) i each k d low high =
      let here = call i each.1 each.0 each.3 in
      by_eq k i
      (λ e. ap (λ (j : ℕ). get_or ys j d) e ∙ each.2.1 d ∙ here.0 ∙ sym (ap h e))
      (λ other. made_from n (i + 1) (subst (λ (q : F). IsFromFnResultFrom g q ys (i + 1) n) here.1 each.4) k d (omega arith) (omega arith))

-- the elements are those of h, where each call gives that
pub made : {F B : Type 0} {g : Mut F (ℕ × Unit {0}) B} {f : F} {ys : List B} {n : ℕ} → IsFromFnResult g f ys n → (h : ℕ → B)
    → ((x : ℕ) (y : B) (f' : F) → Called g f (x, tt) y f' → (y ≡ h x) × (f' ≡ f))
    → (k : ℕ) (d : B) → k < n → get_or ys k d ≡ h k
made {g = g} {f = f} {ys = ys} {n = n} r h call k d high =
    made_from g f ys h call n 0 r.each k d (omega arith) (omega arith)
