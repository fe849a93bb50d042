-- `total` meets its contract: the running sum, weight by weight.
use Rattle.draw.proofs.Sums.{Summed}
use Rattle.draw.proofs.weights.total.Given as goal

abbrev pub invariant-loop-weight : goal.invariant-loop-weight
invariant-loop-weight l = Summed l.weights l.weight-index l.sum
