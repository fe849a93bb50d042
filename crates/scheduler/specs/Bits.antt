-- The 32 event bits of an extended task as one number, and what a mask does with them:
-- OSEK's events, and its event masks.
--
--   bit_set bits i    bit i is set, of a task's bits or of a mask
--   any_set bits w    one of the bits that the mask w names is set
--   with_bits bits w  the bits with those of w set; without_bits bits w: with those of w cleared
--
-- Main laws: `any_set_lem`, `with_bit` and `without_bit`, each bit by itself (proofs/Theorems/Bits.antt).
use Rattle.std.specs.Prelude.{ℕ, ◌-◌, ◌/◌, ◌%◌, ◌^◌, Bool, not, eqb}
use Rattle.std.specs.Int.Bits.{bit_and, bit_or}

abbrev pub bit_set : ℕ → ℕ → Bool
bit_set bits i = eqb (bits / 2 ^ i % 2) 1

unfoldable pub any_set : ℕ → ℕ → Bool
any_set bits w = not (eqb (bit_and bits w) 0)

unfoldable pub with_bits : ℕ → ℕ → ℕ
with_bits bits w = bit_or bits w

unfoldable pub without_bits : ℕ → ℕ → ℕ
without_bits bits w = bits - bit_and bits w
