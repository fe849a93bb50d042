-- A damaged trace, worked out by hand and computed; and one whose list of stretches is as long as a list can be.
use Prim.Native.Nat.{ℕ, zero, suc}
use mathlib.Core.Path.{◌≡◌, refl}
use mathlib.Core.List.{List, [], ◌∷◌, ◌++◌}
use lib.ListN.{length, replicate}
use Rattle.number.specs.Number.{continued, fifth_group, groups, read_number, group_bytes, number_bytes}
use Rattle.event.specs.Event.{known, arguments, after_number, read_arguments, read_event}
use Rattle.recording.specs.Fate.{covered, belonging, fate_of, fates_from, selected, kept_bytes}
use Rattle.recording.specs.Stretch.{closed, stretches_from, stretch_bytes, list_bytes}

-- Get 0; FF, with which 06 would be code 895; Tick; two bytes 0, a code of no event; Line 2; Start 0, whose delay is
-- cut off
abbrev pub damaged : List ℕ
damaged = 0x04 ∷ 0x00 ∷ 0xff ∷ 0x06 ∷ 0x00 ∷ 0x00 ∷ 0x07 ∷ 0x02 ∷ 0x08 ∷ 0x00 ∷ []

pub damaged_kept : kept_bytes damaged ≡ 0x04 ∷ 0x00 ∷ 0x06 ∷ 0x07 ∷ 0x02 ∷ []
unfolding continued fifth_group groups read_number known arguments after_number read_arguments read_event covered belonging
    fate_of fates_from selected
damaged_kept = refl

-- one byte from place 2 on, two from 4 and two from 8
pub damaged_listed : list_bytes damaged ≡ 2 ∷ 1 ∷ 4 ∷ 2 ∷ 8 ∷ 2 ∷ []
unfolding continued fifth_group groups read_number group_bytes number_bytes known arguments after_number read_arguments
    read_event covered belonging fate_of fates_from closed stretches_from stretch_bytes
damaged_listed = refl

-- 130 bytes 0, Tick, and one more: an offset and a length of two groups
pub long_listed : list_bytes (replicate 130 0 ++ (0x06 ∷ 0x00 ∷ [])) ≡ 0 ∷ 130 ∷ 1 ∷ 131 ∷ 1 ∷ 1 ∷ []
unfolding continued fifth_group groups read_number group_bytes number_bytes known arguments after_number read_arguments
    read_event covered belonging fate_of fates_from closed stretches_from stretch_bytes
long_listed = refl

-- n times a byte that no event begins with, and then Finish
unfoldable pub alternating : ℕ → List ℕ
alternating zero = []
alternating (suc n) = 0x00 ∷ 0x02 ∷ alternating n

pub longest_list : length (list_bytes (alternating 4096)) ≡ 12224
unfolding alternating continued fifth_group groups read_number group_bytes number_bytes known arguments after_number
    read_arguments read_event covered belonging fate_of fates_from closed stretches_from stretch_bytes
longest_list = refl
