-- The generator: "Marsaglia's xorshift with shifts 13, 17 and 5", on 32 bits (G. Marsaglia, Xorshift RNGs, 2003).
--
--   next x  the value after x; a draw advances the generator and gives the new value
--
-- Main laws: `next_range`, `next_injective`, `next_onto` (proofs/Theorems.antt); check values in proofs/Values.antt.
use Rattle.std.specs.Prelude.{ℕ, ◌*◌, ◌/◌, ◌%◌, ◌^◌}
use Rattle.std.specs.Int.Bits.{bit_xor}

-- a value has so many bits
abbrev pub width : ℕ
width = 32

-- "a 32-bit start value": below this
abbrev pub value_bound : ℕ
value_bound = 2 ^ width

-- x with itself, shifted to the left, xored in; what leaves the 32 bits is lost
unfoldable pub xor_left : ℕ → ℕ → ℕ
xor_left k x = bit_xor x (x * 2 ^ k % 2 ^ width)

-- x with itself, shifted to the right, xored in
unfoldable pub xor_right : ℕ → ℕ → ℕ
xor_right k x = bit_xor x (x / 2 ^ k)

-- to the left by 13, to the right by 17, to the left by 5
unfoldable pub next : ℕ → ℕ
next x = xor_left 5 (xor_right 17 (xor_left 13 x))
