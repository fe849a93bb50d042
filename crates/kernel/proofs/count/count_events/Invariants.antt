-- `count_events` meets its contract: whatever is left to read, with the events counted, is the whole trace.
use Prim.Native.Nat.{◌-◌}
use lib.ListN.{length}
use Rattle.kernel.proofs.Passes.Count.{Passed}
use Rattle.kernel.proofs.count.count_events.Given as goal

abbrev pub invariant-loop-at : goal.invariant-loop-at
invariant-loop-at l = Passed l.trace l.at l.events

abbrev pub decreases-loop-at : goal.decreases-loop-at
decreases-loop-at l = length l.trace - l.at
