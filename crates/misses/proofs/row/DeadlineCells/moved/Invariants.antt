-- `moved` meets its contract: each turn moves one cell more.
use Rattle.std.proofs.Common.{◌≡◌, length, take}
use Rattle.misses.specs.Change.{row_by}
use Rattle.misses.proofs.row.DeadlineCells.moved.Given as goal

abbrev pub invariant-loop-b : goal.invariant-loop-b
invariant-loop-b l = (length l.cells ≡ 32) × (take l.b l.cells ≡ row_by l.change l.ranks l.deadlines l.b l.met)
