-- `take_group` meets its contract: the marks of the group that are not taken yet are `Left`, and a turn takes the
-- next that is set.
use Rattle.std.proofs.Common.{◌+◌, ◌-◌, Bool, List, take, drop}
use Rattle.machine.specs.Cells.{requests_due}
use Rattle.cells.specs.Methods.{tally_with, group}
use Rattle.cells.proofs.Marks.{Left}
use Rattle.cells.proofs.take_group.Given as goal

abbrev pub invariant-loop-marks : goal.invariant-loop-marks
invariant-loop-marks l = (bs : List Bool) × Left l.begun l.ranks (l.from + group)
    (requests_due l.begun (take group (drop l.from l.matched)) (drop l.from l.ranks) (tally_with l.request l.initial.losses))
    l.e l.marks (tally_with l.word l.losses) bs

abbrev pub decreases-loop-marks : goal.decreases-loop-marks
decreases-loop-marks l = l.from + group - l.e
