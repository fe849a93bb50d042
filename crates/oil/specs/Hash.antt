-- The hash of a name.
--
--   hashed k h xs  the hash h of some bytes, gone on with xs: a polynomial at k modulo a prime
use Rattle.std.specs.Prelude.{ℕ, ◌+◌, ◌*◌, ◌%◌, List, [], ◌∷◌}

-- the greatest prime below 2 ^ 32
abbrev pub prime : ℕ
prime = 4294967291

unfoldable pub hashed : ℕ → ℕ → List ℕ → ℕ
hashed k h [] = h
hashed k h (b ∷ bs) = hashed k ((h * k + b) % prime) bs
