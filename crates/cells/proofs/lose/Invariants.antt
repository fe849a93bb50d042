-- `lose` meets its contract: once its rank is passed, it has lost one more; `below` is its distance on 16 bits.
use Rattle.std.proofs.Common.{◌≡◌, ◌+◌, ◌%◌, cond, ltb}
use Rattle.machine.specs.Cells.{one_lost}
use Rattle.cells.proofs.lose.Given as goal

abbrev pub invariant-loop-r : goal.invariant-loop-r
invariant-loop-r l = ((l.below + l.r) % 65536 ≡ l.rank)
    × (l.losses ≡ cond (ltb l.rank l.r) (one_lost l.rank l.initial.losses) l.initial.losses)
