-- Draws worked out by hand, computed.
--
-- In order: the first event after the value 1 of each code, which shows each sort of argument; the first and the last
-- value of a share; a weight of 65,535 beside 1; eight events with all weights equal, and their bytes.
use Prim.Native.Nat.{ℕ, ◌-◌}
use mathlib.Core.Path.{◌≡◌, refl}
use mathlib.Core.List.{List, [], ◌∷◌, ◌++◌}
use lib.ListN.{replicate}
use Rattle.number.specs.Number.{group_bytes, number_bytes}
use Rattle.event.specs.Event.{event, arguments, argument_bytes, event_bytes}
use Rattle.event.specs.Trace.{trace_bytes}
use Rattle.drawing.specs.declared.Drawn.{Drawn}
use Rattle.drawing.specs.Xorshift.{xor_left, xor_right, next}
use Rattle.drawing.specs.Weights.{sum, first_above, picked}
use Rattle.drawing.specs.Drawing.{first_sort, second_sort, draw_argument, with_arguments, draw_event, draw_events, draw_bytes}

-- 5 bodies, 3 resources, 2 tables, delays below 100
abbrev pub limits : List ℕ
limits = 5 ∷ 3 ∷ 2 ∷ 100 ∷ []

-- weight 7 for one code, 0 for all others
abbrev alone : ℕ → List ℕ
alone c = replicate (c - 1) 0 ++ (7 ∷ replicate (12 - c) 0)

-- an event and the generator's value after it
abbrev drawn : ℕ → ℕ → ℕ → ℕ → Drawn
drawn code first second value = record { event = event code first second; value = value }

-- After 1 the generator gives 270,369, which picks the code, then 67,634,689 and 2,647,435,461. Finish and Tick take no
-- further value, Start and Set two.
pub each_code : (draw_event (alone 1) limits 1 ≡ drawn 1 4 0 67634689)
    × (draw_event (alone 2) limits 1 ≡ drawn 2 0 0 270369)
    × (draw_event (alone 3) limits 1 ≡ drawn 3 4 0 67634689)
    × (draw_event (alone 4) limits 1 ≡ drawn 4 1 0 67634689)
    × (draw_event (alone 5) limits 1 ≡ drawn 5 1 0 67634689)
    × (draw_event (alone 6) limits 1 ≡ drawn 6 0 0 270369)
    × (draw_event (alone 7) limits 1 ≡ drawn 7 4 0 67634689)
    × (draw_event (alone 8) limits 1 ≡ drawn 8 1 61 2647435461)
    × (draw_event (alone 9) limits 1 ≡ drawn 9 1 0 67634689)
    × (draw_event (alone 10) limits 1 ≡ drawn 10 67634689 0 67634689)
    × (draw_event (alone 11) limits 1 ≡ drawn 11 4 2647435461 2647435461)
    × (draw_event (alone 12) limits 1 ≡ drawn 12 67634689 0 67634689)
unfolding xor_left xor_right next sum first_above first_sort second_sort draw_argument with_arguments draw_event
each_code = (refl, refl, refl, refl, refl, refl, refl, refl, refl, refl, refl, refl)

-- weights 3 for Activate and 2 for Chain: 0 to 2 pick the one, 3 and 4 the other
abbrev three_two : List ℕ
three_two = 3 ∷ 0 ∷ 2 ∷ replicate 9 0

pub shares : (picked three_two 0 ≡ 1) × (picked three_two 2 ≡ 1) × (picked three_two 3 ≡ 3) × (picked three_two 4 ≡ 3)
unfolding sum first_above
shares = (refl, refl, refl, refl)

-- 65,535 for Activate and 1 for Tick: of 65,536 values the last alone picks Tick, here the one that follows 7,619
abbrev rare : List ℕ
rare = 65535 ∷ 0 ∷ 0 ∷ 0 ∷ 0 ∷ 1 ∷ replicate 6 0

pub rarely : (picked rare 0 ≡ 1)
    × (picked rare 65534 ≡ 1)
    × (picked rare 65535 ≡ 6)
    × (draw_events rare limits 7619 3 ≡ event 6 0 0 ∷ event 1 3 0 ∷ event 1 3 0 ∷ [])
unfolding xor_left xor_right next sum first_above first_sort second_sort draw_argument with_arguments draw_event draw_events
rarely = (refl, refl, refl, refl)

-- each code is as likely
abbrev pub equal : List ℕ
equal = replicate 12 1

pub eight : draw_events equal limits 2463534242 8
    ≡ event 8 0 0 ∷ event 7 4 0 ∷ event 3 4 0 ∷ event 6 0 0 ∷ event 12 2653896249 0 ∷ event 6 0 0
    ∷ event 10 2888432806 0 ∷ event 1 1 0 ∷ []
unfolding xor_left xor_right next sum first_above first_sort second_sort draw_argument with_arguments draw_event draw_events
eight = refl

pub eight_bytes : draw_bytes equal limits 2463534242 8
    ≡ 0x08 ∷ 0x00 ∷ 0x00 ∷ 0x07 ∷ 0x04 ∷ 0x03 ∷ 0x04 ∷ 0x06 ∷ 0x0c ∷ 0xb9 ∷ 0xfc ∷ 0xbc ∷ 0xf1 ∷ 0x09 ∷ 0x06 ∷ 0x0a
    ∷ 0xa6 ∷ 0xf9 ∷ 0xa7 ∷ 0xe1 ∷ 0x0a ∷ 0x01 ∷ 0x01 ∷ []
unfolding group_bytes number_bytes arguments argument_bytes event_bytes trace_bytes
eight_bytes = rw eight
