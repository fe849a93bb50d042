-- Refusals that every reader or writer of the format can give. A refusal is document 01's word for an error code.
use Rattle.std.specs.Prelude.{ℕ}

-- no refusal: the call did what was asked
abbrev pub none : ℕ
none = 0

-- "input ends before a last or fifth group"
abbrev pub cut : ℕ
cut = 1

-- "a fifth byte above 15, or not shortest"
abbrev pub malformed : ℕ
malformed = 2

-- "output too short"
abbrev pub no_room : ℕ
no_room = 30
