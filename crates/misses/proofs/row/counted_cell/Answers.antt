-- `counted_cell` meets its contract: its test is the definition's.
use mathlib.Core.Path.{sym}
use Rattle.deadlines.specs.DeadlineCells.{counted_cell}
use Rattle.misses.proofs.row.counted_cell.Goals as goal

pub returns-then-next : goal.returns-then-next
unfolding counted_cell
returns-then-next c = rw (sym c.tick-next.ensures, c.if-next.true) c.stop.ensures

pub returns-else-next : goal.returns-else-next
unfolding counted_cell
returns-else-next c = rw (sym c.tick-next.ensures, c.if-next.false)
