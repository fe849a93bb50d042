-- A run of a class is what `take_while` takes.
use Rattle.std.proofs.Common.{◌≡◌, ℕ, Bool, cond, List, [], ◌∷◌, refl, ap, arith}
use Rattle.std.specs.List.{prefix_len}
use Rattle.oil_grammar.specs.Byte.{span}

pub span_prefix : (p : ℕ → Bool) (xs : List ℕ) → span p xs ≡ prefix_len p xs
unfolding span
span_prefix p [] = refl
span_prefix p (x ∷ xs) = let h = span_prefix p xs in ap (λ n. cond (p x) n 0) (omega arith)
