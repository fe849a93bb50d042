-- `play` meets its contract: each step of the loop is that of the event that was read, and its answer is laid after
-- those before it.
use Prim.Native.Nat.{◌-◌}
use lib.ListN.{length}
use Rattle.model.specs.View.{view}
use Rattle.kernel.proofs.Passes.Play.{Playing}
use Rattle.kernel.proofs.play.play.Given as goal

abbrev pub invariant-loop-at : goal.invariant-loop-at
invariant-loop-at l = Playing l.config l.plan l.trace l.initial.out (view l.initial.o.model) l.at l.to (view l.o.model) l.out

abbrev pub decreases-loop-at : goal.decreases-loop-at
decreases-loop-at l = length l.trace - l.at
