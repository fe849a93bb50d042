-- `take_matches` meets its contract: what is left to do at a group is what the definition does with the marks and ranks
-- from there on.
use Rattle.std.proofs.Common.{◌≡◌, ◌*◌, drop}
use Rattle.machine.specs.Cells.{requests_due}
use Rattle.cells.specs.Methods.{tally_with, group}
use Rattle.cells.proofs.take_matches.Given as goal

abbrev pub invariant-loop-group : goal.invariant-loop-group
invariant-loop-group l =
    requests_due l.begun (drop (l.group * group) l.matched) (drop (l.group * group) l.ranks) (tally_with l.word l.losses)
    ≡ requests_due l.begun l.matched l.ranks (tally_with l.request l.initial.losses)
