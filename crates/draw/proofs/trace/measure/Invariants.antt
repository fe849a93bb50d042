-- `measure` meets its contract: after i events their bytes are counted.
use Rattle.draw.proofs.Progress.{Reached}
use Rattle.draw.proofs.trace.measure.Given as goal

abbrev pub invariant-loop-i : goal.invariant-loop-i
invariant-loop-i l = Reached l.chances.weights l.chances.limits l.start l.i l.value l.length
