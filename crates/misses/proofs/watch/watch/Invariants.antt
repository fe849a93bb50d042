-- `watch` meets its contract: each turn is the event that was read, with the row of cells beside it.
use Prim.Native.Nat.{◌-◌}
use lib.ListN.{length}
use Rattle.model.specs.View.{view}
use Rattle.misses.proofs.Watching.{Watching}
use Rattle.misses.proofs.watch.watch.Given as goal

abbrev pub invariant-loop-read : goal.invariant-loop-read
invariant-loop-read l = Watching l.config l.plan l.trace (view l.model) l.cells l.misses l.ticks l.at

abbrev pub decreases-loop-read : goal.decreases-loop-read
decreases-loop-read l = length l.trace - l.at
