-- How the cells stand for the tables: each keeps its entry's arithmetic.
use Prim.Native.Nat.{ℕ, suc, ◌+◌, ◌≤◌, ◌<◌}
use mathlib.Core.Path.{◌≡◌}
use mathlib.Core.Bool.{Bool, false}
use mathlib.Core.List.{List}
use lib.ListN.{length, get_or}
use Rattle.config.specs.declared.Config.{Config}
use Rattle.config.specs.Meaning.{first_of}
use Rattle.plan.specs.declared.Plan.{Plan}
use Rattle.cell.specs.declared.Cell.{Cell}
use Rattle.cell.specs.Due.{OnTime}
use Rattle.scheduler.specs.State.{Table, stopped, running}
use Rattle.machine.specs.Model.{Model}
use Rattle.machine.specs.Cells.{is_on, has_turn, cell_at}

-- the cell of an entry at offset o is off while its table is stopped, and else matches exactly when the entry is due
unfoldable pub CellFits : ℕ → ℕ → Cell → Table → Type 0
CellFits P o x stopped = x.on ≡ false
CellFits P o x (running d n) = OnTime x P (d + o) n

-- the cells keep the tables' arithmetic; ns: the counters, on: the switches, w: whether any cell has a turn to pass
pub record CellsTied (c : Config) (p : Plan) (ns on : List ℕ) (w : Bool) (ts : List Table) : Type 0 where
  pub tables_long : length ts ≡ c.tables
  pub counters_long : length ns ≡ 64
  pub switches_long : length on ≡ 64
  pub fits : (t e : ℕ) → t < c.tables → first_of c t ≤ e → e < first_of c (suc t)
      → CellFits (get_or c.period t 0) (get_or c.offset e 0) (cell_at w p.compare on ns e) (get_or ts t stopped)
  -- a cell without an entry is off
  pub spare : (e : ℕ) → first_of c c.tables ≤ e → is_on (get_or on e 0) ≡ false
  pub unturned : w ≡ false → (e : ℕ) → has_turn (get_or on e 0) ≡ false

-- the cells of the model m do
abbrev pub CellsOf : Config → Plan → Model → List Table → Type 0
CellsOf c p m ts = CellsTied c p m.counter m.on m.turning ts
