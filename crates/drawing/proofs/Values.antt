-- Check values of the generator, computed.
use mathlib.Core.Path.{◌≡◌, refl}
use Rattle.drawing.specs.Xorshift.{xor_left, xor_right, next}

pub from_one : (next 1 ≡ 270369) × (next 270369 ≡ 67634689)
unfolding xor_left xor_right next
from_one = (refl, refl)

-- Marsaglia's own start value
pub from_published : next 2463534242 ≡ 723471715
unfolding xor_left xor_right next
from_published = refl
