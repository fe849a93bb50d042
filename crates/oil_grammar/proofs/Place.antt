-- Lines and columns, byte by byte: xs are the bytes before the place, i of them passed.
use Rattle.std.proofs.Common.{◌≡◌, refl, ℕ, ◌+◌, ◌≤◌, ◌<◌, cond, eqb, List, length, take, drop, get_or}
use native.Mathlib.Omega.{arith}
use lib.ListN.{length-take, drop_of_length-le}
use lib.Seq.{get_or-take}
use Rattle.number.proofs.Cases.{by_test}
use Rattle.oil_grammar.proofs.Span.{drop_next}
use borrow.Author.Tests.{eq-eqb, ne_eqb}
use Rattle.oil_grammar.specs.Byte.{line_feed}
use Rattle.oil_grammar.specs.Reader.{line_after, column_after, line_of}

module _ (xs : List ℕ) (i : ℕ) (n : ℕ) where
  line_next : i < length xs → line_after n (drop i xs) ≡ line_after (cond (eqb (get_or xs i 0) line_feed) (n + 1) n) (drop (i + 1) xs)
  unfolding line_after
  line_next h = rw (drop_next xs i h)

  pub line_more : i < length xs → get_or xs i 0 ≡ line_feed → line_after n (drop i xs) ≡ line_after (n + 1) (drop (i + 1) xs)
  line_more h e = rw (eq-eqb (get_or xs i 0) line_feed e) at (line_next h)

  pub line_same : i < length xs → (get_or xs i 0 ≡ line_feed → ⊥) → line_after n (drop i xs) ≡ line_after n (drop (i + 1) xs)
  line_same h d = rw (ne_eqb (get_or xs i 0) line_feed d) at (line_next h)

  pub line_end : length xs ≤ i → line_after n (drop i xs) ≡ n
  unfolding line_after
  line_end h = rw (drop_of_length-le xs {i = i} h)

  column_next : i < length xs → column_after n (drop i xs) ≡ column_after (cond (eqb (get_or xs i 0) line_feed) 1 (n + 1)) (drop (i + 1) xs)
  unfolding column_after
  column_next h = rw (drop_next xs i h)

  pub column_first : i < length xs → get_or xs i 0 ≡ line_feed → column_after n (drop i xs) ≡ column_after 1 (drop (i + 1) xs)
  column_first h e = rw (eq-eqb (get_or xs i 0) line_feed e) at (column_next h)

  pub column_more : i < length xs → (get_or xs i 0 ≡ line_feed → ⊥) → column_after n (drop i xs) ≡ column_after (n + 1) (drop (i + 1) xs)
  column_more h d = rw (ne_eqb (get_or xs i 0) line_feed d) at (column_next h)

  pub column_end : length xs ≤ i → column_after n (drop i xs) ≡ n
  unfolding column_after
  column_end h = rw (drop_of_length-le xs {i = i} h)

-- the same of a place `at` of a text
module _ (t : List ℕ) (at : ℕ) (all : at ≤ length t) where
  pub line_start : line_after 1 (drop 0 (take at t)) ≡ line_of t at
  line_start = refl

  pub line_step : (l i : ℕ) → i < at
      → line_after l (drop i (take at t)) ≡ line_after (cond (eqb (get_or t i 0) line_feed) (l + 1) l) (drop (i + 1)
      (take at t))
  line_step l i h = rw (get_or-take at t i 0 h) at (line_next (take at t) i l (simp length-take (omega arith)))

  pub column_step : (l i : ℕ) → i < at
      → column_after l (drop i (take at t))
      ≡ column_after (cond (eqb (get_or t i 0) line_feed) 1 (l + 1)) (drop (i + 1) (take at t))
  column_step l i h = rw (get_or-take at t i 0 h) at (column_next (take at t) i l (simp length-take (omega arith)))

-- a line or column grows by 1 at most
pub line_le : (b l i : ℕ) → l ≤ i + 1 → cond (eqb b line_feed) (l + 1) l ≤ i + 1 + 1
line_le b l i h = by_test (eqb b line_feed) (λ e. rw e (omega arith)) (λ e. rw e (omega arith))

pub column_le : (b l i : ℕ) → l ≤ i + 1 → cond (eqb b line_feed) 1 (l + 1) ≤ i + 1 + 1
column_le b l i h = by_test (eqb b line_feed) (λ e. rw e (omega arith)) (λ e. rw e (omega arith))
