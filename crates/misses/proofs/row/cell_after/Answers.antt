-- `cell_after` meets its contract: its tests are the definition's, in their order.
use mathlib.Core.Path.{sym}
use Rattle.deadlines.specs.DeadlineCells.{moved_cell}
use Rattle.misses.proofs.row.cell_after.Goals as goal

pub returns-then-turned : goal.returns-then-turned
unfolding moved_cell
returns-then-turned c = rw (sym c.turned.ensures, c.if-turned.true) c.started_cell.ensures

pub returns-then-turned-2 : goal.returns-then-turned-2
unfolding moved_cell
returns-then-turned-2 c = rw (sym c.turned.ensures, c.if-turned.false, sym c.turned-2.ensures, c.if-turned-2.true) c.stop.ensures

pub returns-then-tick : goal.returns-then-tick
unfolding moved_cell
returns-then-tick c = rw (
  sym c.turned.ensures,
  c.if-turned.false,
  sym c.turned-2.ensures,
  c.if-turned-2.false,
  c.if-tick.true,
) c.counted_cell.ensures

pub returns-else-tick : goal.returns-else-tick
unfolding moved_cell
returns-else-tick c = rw (sym c.turned.ensures, c.if-turned.false, sym c.turned-2.ensures, c.if-turned-2.false, c.if-tick.false)
