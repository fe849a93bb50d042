-- What stands in a text from a place on.
use Rattle.std.proofs.Common.{◌≡◌, ℕ, ◌-◌, List, length, take, drop, arith}
use Rattle.std.proofs.lemmas.Grind.{common_steps}

-- `&text[at..]`
pub rest_of : (t : List ℕ) (at : ℕ) → take (length t - at) (drop at t) ≡ drop at t
rest_of t at = grind (arith, common_steps)
