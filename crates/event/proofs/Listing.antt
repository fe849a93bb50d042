-- Document 01's listing trace, computed: its bytes are read as the seventeen events of the listing.
use Prim.Native.Nat.{ℕ}
use mathlib.Core.Path.{◌≡◌, refl}
use mathlib.Core.List.{List, [], ◌∷◌}
use Rattle.number.specs.Refusal.{none}
use Rattle.number.specs.Number.{continued, fifth_group, groups, read_number}
use Rattle.event.specs.declared.Event.{Event}
use Rattle.event.specs.Event.{finish, chain, get, release, tick, line, start, stop, known, arguments, event, after_number, read_arguments, read_event}
use Rattle.event.specs.Trace.{read_from, read_rest, read_trace}

abbrev pub listing : List ℕ
listing =
    0x08 ∷ 0x00 ∷ 0x01 ∷ 0x04 ∷ 0x00 ∷ 0x06 ∷ 0x07 ∷ 0x02 ∷ 0x03 ∷ 0x01 ∷ 0x02 ∷ 0x02 ∷ 0x05 ∷ 0x00 ∷ 0x06 ∷ 0x06 ∷ 0x02
    ∷ 0x02 ∷ 0x06 ∷ 0x06 ∷ 0x09 ∷ 0x00 ∷ 0x02 ∷ 0x02 ∷ []

abbrev pub listing_events : List Event
listing_events =
    event start 0 1 ∷ event get 0 0 ∷ event tick 0 0 ∷ event line 2 0 ∷ event chain 1 0 ∷ event finish 0 0
    ∷ event finish 0 0 ∷ event release 0 0 ∷ event tick 0 0 ∷ event tick 0 0 ∷ event finish 0 0 ∷ event finish 0 0
    ∷ event tick 0 0 ∷ event tick 0 0 ∷ event stop 0 0 ∷ event finish 0 0 ∷ event finish 0 0 ∷ []

pub listing_read : read_trace listing ≡ record { events = listing_events; refusal = none; place = 24 }
unfolding continued fifth_group groups read_number known arguments after_number read_arguments read_event read_from read_rest
listing_read = refl
