-- What the crate shows beyond its contracts, over specs/ alone: which bytes are on a row after a push and a pop.
-- Callers lean on these laws, not on the definitions.
use Prim.Native.Nat.{ℕ, ◌<◌}
use mathlib.Core.Path.{◌≡◌, refl}
use mathlib.Core.List.{[], ◌∷◌, ◌++◌}
use native.Mathlib.Omega.{arith}
use lib.ListN.{length, take, drop, get_or, replicate}
use Rattle.stack.specs.declared.Row.{Row}
use Rattle.stack.specs.Stack.{no_byte, row_size, bytes, row_bytes, empty_row, top_row, second_row, push_row, pop_row}
use Rattle.stack.proofs.RowBytes as RowBytes

-- a row has 16 bytes, its top the first of them
pub length_row_bytes : (r : Row) → length (row_bytes r) ≡ row_size
length_row_bytes = RowBytes.length_row_bytes

pub row_top : (r : Row) → top_row r ≡ get_or (row_bytes r) 0 no_byte
row_top = RowBytes.row_first

pub row_second : (r : Row) → second_row r ≡ get_or (row_bytes r) 1 no_byte
unfolding second_row row_bytes bytes
row_second r = refl

pub row_second_lt : (r : Row) → second_row r < 256
unfolding second_row
row_second_lt r = omega arith

pub row_cons : (r : Row) → row_bytes r ≡ top_row r ∷ drop 1 (row_bytes r)
unfolding top_row row_bytes bytes
row_cons r = refl

-- a push drops the byte at the bottom
pub row_pushed : (r : Row) (x : ℕ) → x < 256 → row_bytes (push_row r x) ≡ x ∷ take 15 (row_bytes r)
row_pushed = RowBytes.row_pushed

-- past the bottom lies 255
pub row_popped : (r : Row) → row_bytes (pop_row r) ≡ drop 1 (row_bytes r) ++ (no_byte ∷ [])
row_popped = RowBytes.row_popped

pub row_empty : row_bytes empty_row ≡ replicate row_size no_byte
unfolding row_bytes bytes empty_row
row_empty = refl
