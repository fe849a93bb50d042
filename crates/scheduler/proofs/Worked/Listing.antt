-- Document 01's whole listing, computed from the definitions: its 17 rows and its losses.
use Prim.Native.Nat.{ℕ}
use mathlib.Core.Path.{◌≡◌, refl}
use mathlib.Core.List.{List, [], ◌∷◌, map}
use Rattle.number.specs.Number.{read_number, groups, continued, fifth_group}
use Rattle.config.specs.declared.Config.{Config}
use Rattle.config.specs.Draft.{fault_at, put_at, ended, timed_in, some_timed}
use Rattle.config.specs.Reader.{read_config, number_at, read_from}
use Rattle.config.specs.Meaning.{greatest_in, entries_before}
use Rattle.cell.specs.Due.{due}
use Rattle.scheduler.specs.Status.{first_given}
use Rattle.scheduler.specs.Choice.{candidate, chosen_from}
use Rattle.scheduler.specs.State.{among, held_in}
use Rattle.scheduler.specs.Tick.{counting, entry_due, dues_from, activating_due}
use Rattle.scheduler.specs.Scheduler.{Event, Finish, Chain, Get, Release, Tick, Line, Start, Stop, Seen, step_by, fresh, seen, seen_by, after, after_by, losses_of}

-- "Configuration (hex)"
unfoldable pub listing : Config
listing =
    (read_config
    (0x01 ∷ 0x03 ∷ 0x00 ∷ 0x02 ∷ 0x01 ∷ 0x00 ∷ 0x05 ∷ 0x00 ∷ 0x01 ∷ 0x09 ∷ 0x00 ∷ 0x01 ∷ 0x03 ∷ 0x01 ∷ 0x04 ∷ 0x02
    ∷ 0x00 ∷ 0x01 ∷ 0x02 ∷ 0x00 ∷ [])
    ).config

-- "Trace"
pub events : List Event
events =
    Start 0 1 ∷ Get 0 ∷ Tick ∷ Line 2 ∷ Chain 1 ∷ Finish ∷ Finish ∷ Release 0 ∷ Tick ∷ Tick ∷ Finish ∷ Finish ∷ Tick
    ∷ Tick ∷ Stop 0 ∷ Finish ∷ Finish ∷ []

-- status, runner, level and begun mark of a row
pub record Row : Type 0 where
  pub status : ℕ
  pub runner : ℕ
  pub level : ℕ
  pub begun : ℕ

abbrev pub row : ℕ → ℕ → ℕ → ℕ → Row
row s r l b = record { status = s; runner = r; level = l; begun = b }

abbrev pub row_of : Seen → Row
row_of x = row x.status x.runner x.level x.begun

rows : map row_of (seen listing (fresh listing) events)
    ≡ row 0 0 2 0 ∷ row 0 0 5 0 ∷ row 0 0 5 0 ∷ row 0 2 9 1 ∷ row 2 2 9 0 ∷ row 0 0 5 0 ∷ row 6 0 5 0 ∷ row 0 1 5 1
    ∷ row 0 1 5 0 ∷ row 0 1 5 0
    ∷ row 0 0 2 0 ∷ row 0 255 0 0 ∷ row 0 255 0 0 ∷ row 0 1 5 1 ∷ row 0 1 5 0 ∷ row 0 255 0 0 ∷ row 2 255 0 0 ∷ []
unfolding listing events read_config number_at read_from read_number groups continued fifth_group fault_at put_at ended timed_in
    some_timed greatest_in entries_before due first_given candidate chosen_from among held_in counting entry_due dues_from
    activating_due step_by seen_by
rows = refl

losses : losses_of (after listing (fresh listing) events) ≡ 1 ∷ 0 ∷ 0 ∷ []
unfolding listing events read_config number_at read_from read_number groups continued fifth_group fault_at put_at ended timed_in
    some_timed greatest_in entries_before due first_given candidate chosen_from among held_in counting entry_due dues_from
    activating_due step_by after_by
losses = refl
