-- The call on a damaged trace, computed: it keeps five bytes and lists six. With a byte less for the events, or for
-- both, it is refused for the events, and with a byte less for the list it is refused for the list; refused, it writes
-- neither.
use Prim.Native.Nat.{ℕ}
use mathlib.Core.Path.{◌≡◌, refl}
use mathlib.Core.List.{List, [], ◌∷◌}
use Rattle.number.specs.Output.{written}
use Rattle.recording.proofs.Example.{damaged, damaged_kept, damaged_listed, alternating}
use Rattle.salvage.specs.Salvage.{salvaged, filled, events_after, stretches_after, result_of}

pub accepted : salvaged damaged 5 6 ≡ record { events = 5; stretches = 6; refusal = 0; place = 0 }
unfolding salvaged
accepted = rw (damaged_kept, damaged_listed)

pub no_room_lem : salvaged damaged 4 5 ≡ record { events = 0; stretches = 0; refusal = 30; place = 5 }
unfolding salvaged
no_room_lem = rw damaged_kept

pub no_list : salvaged damaged 5 5 ≡ record { events = 0; stretches = 0; refusal = 30; place = 6 }
unfolding salvaged
no_list = rw (damaged_kept, damaged_listed)

-- 8,193 bytes are too long, whatever is lent
pub too_long_lem : salvaged (0 ∷ alternating 4096) 0 0 ≡ record { events = 0; stretches = 0; refusal = 20; place = 0 }
unfolding salvaged alternating
too_long_lem = refl

-- for C: 6 × 65,536 + 5, and 30 × 4,294,967,296 + 6
pub result : result_of (salvaged damaged 5 6) ≡ 393221
unfolding result_of
result = rw accepted

pub result_no_list : result_of (salvaged damaged 5 5) ≡ 128849018886
unfolding result_of
result_no_list = rw no_list

-- both slices: the byte that follows stays, and a refusal leaves every byte
abbrev six : List ℕ
six = 91 ∷ 92 ∷ 93 ∷ 94 ∷ 95 ∷ 96 ∷ []

abbrev five : List ℕ
five = 81 ∷ 82 ∷ 83 ∷ 84 ∷ 85 ∷ []

pub outputs : (events_after damaged six six ≡ 0x04 ∷ 0x00 ∷ 0x06 ∷ 0x07 ∷ 0x02 ∷ 96 ∷ [])
    × (stretches_after damaged six six ≡ 2 ∷ 1 ∷ 4 ∷ 2 ∷ 8 ∷ 2 ∷ [])
unfolding filled salvaged written
outputs = (rw (damaged_kept, damaged_listed), rw (damaged_kept, damaged_listed))

pub untouched : (events_after damaged six five ≡ six) × (stretches_after damaged six five ≡ five)
unfolding filled salvaged written
untouched = (rw (damaged_kept, damaged_listed), rw (damaged_kept, damaged_listed))
