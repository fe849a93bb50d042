-- Which bytes decide a refusal: "the configuration in reading order".
--
--   OfNumber r     the refusal r is that of a number
--   decisive bs r  how many bytes of bs decide its reading r, where that is the refusal of a number
--
-- Main laws: `fault_decided` and `fault_cut_before` (proofs/Theorems.antt).
use Rattle.std.specs.Prelude.{ℕ, List, ◌≢◌, eqb}
use Rattle.number.specs.Refusal.{none, cut, malformed}
use Rattle.number.specs.Number as Number
use Rattle.config.specs.Reader.{ConfigRead}
use Rattle.config.specs.Refusal.{left_over, too_long}

-- a number is at fault, and not the input's end, bytes left over or the length
abbrev pub OfNumber : ℕ → Type 0
OfNumber r = (r ≢ none) × (r ≢ cut) × (r ≢ left_over) × (r ≢ too_long)

abbrev pub decisive : List ℕ → ConfigRead → ℕ
decisive bs r = Number.decisive (eqb r.refusal malformed) bs r.place
