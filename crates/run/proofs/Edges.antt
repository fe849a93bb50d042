-- Document 01's edges P1 to P13: one statement, a row for each, computed from the definitions that the contracts cite.
use Prim.Native.Nat.{ℕ, suc, ◌-◌}
use mathlib.Core.Path.{◌≡◌, refl}
use mathlib.Core.Bool.{true, false}
use mathlib.Core.List.{List, [], ◌∷◌, map}
use native.Mathlib.Nat.{mod-one}
use lib.Dec.{leb-zero, leb-suc-suc}
use Rattle.number.specs.Refusal.{malformed}
use Rattle.number.specs.Number.{accepted, refused, read_number, groups, continued, fifth_group, number_bytes, group_bytes}
use Rattle.config.specs.declared.Config.{Config}
use Rattle.config.specs.Draft.{fault_at, put_at, ended, timed_in}
use Rattle.config.specs.Reader.{read_config, number_at, read_from}
use Rattle.config.specs.Meaning.{greatest_in, entries_before, smallest_offset}
use Rattle.cell.specs.Cell.{start_cell}
use Rattle.cell.specs.Due.{due}
use Rattle.scheduler.specs.Status.{first_given}
use Rattle.scheduler.specs.Body.{Body, started, loses}
use Rattle.scheduler.specs.Choice.{candidate, chosen_from}
use Rattle.scheduler.specs.State.{among, held_in}
use Rattle.scheduler.specs.Tick.{counting, entry_due, dues_from, activating_due}
use Rattle.scheduler.specs.Scheduler.{Event, Chain, Get, Release, Tick, Line, Start, step_by, fresh, seen, seen_by}
use Rattle.scheduler.proofs.Worked.Listing.{Row, row, row_of, listing}
use Rattle.machine.specs.Cells.{one_more}

-- a configuration by its bytes
abbrev read : List ℕ → Config
read bs = (read_config bs).config

-- what a list of events gives from the fresh start: status, runner, level and begun mark
abbrev rows : Config → List Event → List Row
rows c es = map row_of (seen c (fresh c) es)

-- one task of priority 1, running
abbrev one_task : Config
one_task = read (1 ∷ 1 ∷ 0 ∷ 1 ∷ 1 ∷ 0 ∷ 0 ∷ [])

-- the same, with two resources that it uses
abbrev two_resources : Config
two_resources = read (1 ∷ 1 ∷ 0 ∷ 1 ∷ 1 ∷ 2 ∷ 1 ∷ 1 ∷ 0 ∷ [])

-- one ISR
abbrev one_isr : Config
one_isr = read (1 ∷ 1 ∷ 1 ∷ 1 ∷ 0 ∷ 0 ∷ 0 ∷ [])

-- a running task of priority 1, and one of priority 2 that two tables of period 1 activate
abbrev two_tables : Config
two_tables = read (1 ∷ 2 ∷ 0 ∷ 1 ∷ 1 ∷ 0 ∷ 2 ∷ 0 ∷ 0 ∷ 2 ∷ 1 ∷ 1 ∷ 0 ∷ 1 ∷ 1 ∷ 1 ∷ 0 ∷ 1 ∷ [])

-- a running task of priority 1, and a table of period 4 that activates it at the offsets 2 and 3
abbrev latest_start : Config
latest_start = read (1 ∷ 1 ∷ 0 ∷ 1 ∷ 1 ∷ 0 ∷ 1 ∷ 4 ∷ 2 ∷ 2 ∷ 0 ∷ 3 ∷ 0 ∷ [])

-- a task that has lost as many activations as are counted
abbrev fully_lost : Body
fully_lost = record { phase = started; pending = false; held = []; losses = 65535; bits = 0 }

pub record Edges : Type 0 where
  pub p1 : (number_bytes 127 ≡ 0x7F ∷ []) × (number_bytes 128 ≡ 0x80 ∷ 0x01 ∷ [])
  pub p2 : read_number (0x80 ∷ 0x00 ∷ []) 0 ≡ refused malformed 1
  pub p3 : (read_number (0xFF ∷ 0xFF ∷ 0xFF ∷ 0xFF ∷ 0x0F ∷ []) 0 ≡ accepted 4294967295 5)
      × (read_number (0xFF ∷ 0xFF ∷ 0xFF ∷ 0xFF ∷ 0x10 ∷ []) 0 ≡ refused malformed 4)
  pub p4 : ((start_cell 1 1).counter ≡ 65535) × ((n : ℕ) → due 1 1 (suc n) ≡ true)
  pub p5 : ((start_cell 4 3).counter ≡ 0)
      × (map (due 4 3) (1 ∷ 2 ∷ 3 ∷ 4 ∷ 5 ∷ 6 ∷ 7 ∷ 8 ∷ [])
      ≡ false ∷ false ∷ true ∷ false ∷ false ∷ false ∷ true ∷ false ∷ [])
  pub p6 : (start_cell 4 65535).counter ≡ 4
  pub p7 : (smallest_offset latest_start 0 ≡ 2)
      × (rows latest_start (Start 0 65534 ∷ Start 0 0 ∷ Start 0 65533 ∷ [])
      ≡ row 8 0 1 0 ∷ row 8 0 1 0 ∷ row 0 0 1 0 ∷ [])
  pub p8 : rows listing (Start 0 1 ∷ Get 0 ∷ Tick ∷ []) ≡ row 0 0 2 0 ∷ row 0 0 5 0 ∷ row 0 0 5 0 ∷ []
  pub p9 : rows one_task (Chain 0 ∷ []) ≡ row 0 0 1 1 ∷ []
  pub p10 : (rows two_tables (Start 0 1 ∷ Start 1 1 ∷ Tick ∷ []) ≡ row 0 0 1 0 ∷ row 0 0 1 0 ∷ row 0 1 2 1 ∷ [])
      × (map (λ x. x.losses) (seen two_tables (fresh two_tables) (Start 0 1 ∷ Start 1 1 ∷ Tick ∷ []))
      ≡ (0 ∷ 0 ∷ []) ∷ (0 ∷ 0 ∷ []) ∷ (0 ∷ 1 ∷ []) ∷ [])
  pub p11 : ((loses fully_lost).losses ≡ 65535) × (one_more 65535 ≡ 65535)
  pub p12 : rows one_isr (Line 0 ∷ Line 0 ∷ Line 0 ∷ []) ≡ row 0 0 1 1 ∷ row 0 0 1 0 ∷ row 4 0 1 0 ∷ []
  pub p13 : rows two_resources (Get 0 ∷ Get 1 ∷ Release 0 ∷ []) ≡ row 0 0 1 0 ∷ row 0 0 1 0 ∷ row 5 0 1 0 ∷ []

-- at each tick the remainder by 1 is 0
each_tick : (n : ℕ) → due 1 1 (suc n) ≡ true
unfolding due
each_tick n = simp (leb-suc-suc 0 n, leb-zero n, mod-one (suc n - 1))

pub edges : Edges
unfolding listing number_bytes group_bytes read_number groups continued fifth_group read_config number_at read_from fault_at put_at
    timed_in ended greatest_in entries_before due first_given candidate chosen_from among held_in counting entry_due
    dues_from activating_due step_by seen_by
edges =
    record {
      p1 = (refl, refl);
      p2 = refl;
      p3 = (refl, refl);
      p4 = (refl, each_tick);
      p5 = (refl, refl);
      p6 = refl;
      p7 = (refl, refl);
      p8 = refl;
      p9 = refl;
      p10 = (refl, refl);
      p11 = (refl, refl);
      p12 = refl;
      p13 = refl;
    }
