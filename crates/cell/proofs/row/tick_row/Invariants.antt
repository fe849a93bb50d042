-- The cells before the index are ticked, and the others are as they were.
use Rattle.std.proofs.Common.{◌≡◌}
use Rattle.cell.specs.Cell.{tick_cell}
use Rattle.cell.proofs.Progress.{done_below}
use Rattle.cell.proofs.row.tick_row.Given as goal

abbrev pub invariant-loop-cell : goal.invariant-loop-cell
invariant-loop-cell l = l.cell-items ≡ done_below tick_cell l.initial.cell-items l.cell-index
