-- The word of the ranks of some bodies: those of which a field has one value.
--
--   marked at f v n  the word with the rank at b in it, for each b below n whose field f b is v
use Rattle.std.specs.Prelude.{ℕ, zero, suc, cond, eqb}
use Rattle.word.specs.Word.{with}

unfoldable pub marked : (ℕ → ℕ) → (ℕ → ℕ) → ℕ → ℕ → ℕ
marked at f v zero = 0
marked at f v (suc n) = cond (eqb (f n) v) (with (marked at f v n) (at n)) (marked at f v n)
