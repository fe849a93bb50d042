-- `measure` meets its contract: what is counted and what is left make up both lengths.
use Rattle.salvage.proofs.Totals.{Counts}
use Rattle.salvage.proofs.walk.measure.Given as goal

abbrev pub invariant-loop-at : goal.invariant-loop-at
invariant-loop-at l = Counts l.trace l.at l.left l.gap l.events l.stretches
