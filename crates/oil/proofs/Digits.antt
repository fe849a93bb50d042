-- A number held as a byte, digit by digit: what is above 255 stays above it.
use Rattle.std.proofs.Common.{◌≡◌, ℕ, ◌+◌, ◌-◌, ◌*◌, min, List, [], ◌∷◌, ◌++◌, refl, arith}
use Rattle.oil_grammar.specs.Token.{decimal}
use Rattle.oil_grammar.specs.Meaning.{held}
use Rattle.oil_grammar.proofs.Theorems.{decimal_last}

held_step : (n v b x w : ℕ) → v ≡ held n → b ≡ min (min (v * 10) 255 + (x - 48)) 255 → w ≡ 10 * n + (x - 48) → b ≡ held w
held_step n v b x w e f g = omega arith

pub held_last : (xs : List ℕ) (v b x : ℕ) → v ≡ held (decimal 0 xs) → b ≡ min (min (v * 10) 255 + (x - 48)) 255
    → b ≡ held (decimal 0 (xs ++ x ∷ []))
held_last xs v b x e f = held_step (decimal 0 xs) v b x _ e f (decimal_last xs 0 x)

pub held_none : ◌≡◌ {A = ℕ} 0 (held (decimal 0 []))
unfolding decimal
held_none = refl
