-- `pick` meets its contract: the value is at least the running sum so far.
use Prim.Native.Nat.{◌≤◌}
use Rattle.draw.proofs.Sums.{Summed}
use Rattle.draw.proofs.weights.pick.Given as goal

abbrev pub invariant-loop-i : goal.invariant-loop-i
invariant-loop-i l = Summed l.weights l.i l.sum × (l.sum ≤ l.value)
