-- The bytes of a row: its two words are two registers joined.
use Prim.Native.Nat.{ℕ, ◌<◌}
use mathlib.Core.Path.{◌≡◌, refl, ◌∙◌}
use mathlib.Core.List.{[], ◌∷◌, ◌++◌}
use native.Mathlib.Omega.{arith}
use lib.ListN.{length, take, drop, get_or, length-append}
use Rattle.stack.specs.declared.Row.{Row}
use Rattle.stack.specs.Stack.{no_byte, row_size, bytes, row_bytes, first_byte, last_byte, top_row, push_row, pop_row}
use Rattle.stack.proofs.Bytes.{length_bytes, word_first, word_last, word_pushed, word_popped}
use Rattle.stack.proofs.Join.{pushed_join, popped_join}

pub length_row_bytes : (r : Row) → length (row_bytes r) ≡ row_size
unfolding row_bytes
length_row_bytes r = rw length-append (omega (arith, length_bytes 8 r.near, length_bytes 8 r.far))

pub row_first : (r : Row) → top_row r ≡ get_or (row_bytes r) 0 no_byte
unfolding row_bytes top_row bytes
row_first r = refl

pub row_pushed : (r : Row) (x : ℕ) → x < 256 → row_bytes (push_row r x) ≡ x ∷ take 15 (row_bytes r)
unfolding row_bytes push_row
row_pushed r x byte =
    cc (word_pushed r.near x byte, word_pushed r.far (last_byte r.near) (omega arith), word_last r.near)
    ∙ pushed_join (bytes 8 r.near) (bytes 8 r.far) 7 7 x no_byte (length_bytes 8 r.near)

pub row_popped : (r : Row) → row_bytes (pop_row r) ≡ drop 1 (row_bytes r) ++ (no_byte ∷ [])
unfolding row_bytes pop_row
row_popped r =
    cc (
      word_popped r.near (first_byte r.far) (omega arith),
      word_popped r.far no_byte (omega arith),
      word_first r.far,
    )
    ∙ popped_join (bytes 8 r.near) (bytes 8 r.far) no_byte no_byte
    (omega (arith, length_bytes 8 r.near))
    (omega (arith, length_bytes 8 r.far))
