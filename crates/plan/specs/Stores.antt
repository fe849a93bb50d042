-- A list of which some elements are stored in turn.
--
--   stored at f n l  l with f i stored at the index at i, for i = 0, .., n - 1 in order
--   listed f n l     the same where each i is its own index: f 0, .., f (n - 1), then as l has it
use Rattle.std.specs.Prelude.{ℕ, zero, suc, List, set}

unfoldable pub stored : (ℕ → ℕ) → (ℕ → ℕ) → ℕ → List ℕ → List ℕ
stored at f zero l = l
stored at f (suc n) l = set (stored at f n l) (at n) (f n)

abbrev pub listed : (ℕ → ℕ) → ℕ → List ℕ → List ℕ
listed f n l = stored (λ i. i) f n l
