-- `total` meets its contract: the running sum, weight by weight.
use native.Mathlib.Omega.{arith}
use Rattle.draw.proofs.Sums.{summed_start, summed_step}
use Rattle.draw.proofs.weights.total.Goals as goal

pub loop-weight-init : goal.loop-weight-init
loop-weight-init c = summed_start _

pub loop-weight-preserved : goal.loop-weight-preserved
loop-weight-preserved c =
    summed_step c.loop-weight.invariant c.from-sum.ensures (omega (arith, c.from-sum.ensures))
