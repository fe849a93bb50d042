-- `tick_row` meets its contract: each turn of its loop puts one more ticked cell in its place.
use Rattle.std.proofs.Common.{arith}
use Rattle.std.proofs.lemmas.Grind.{common_steps}
use Rattle.cell.proofs.Progress.{done_next}
use Rattle.cell.proofs.row.tick_row.Goals as goal

pub loop-cell-preserved : goal.loop-cell-preserved
loop-cell-preserved c = grind (arith, common_steps, done_next)
