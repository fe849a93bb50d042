-- `write_trace` meets its contract: after i events their bytes stand at the start of the output.
use mathlib.Core.Path.{◌≡◌}
use Rattle.number.specs.Output.{laid}
use Rattle.drawing.specs.Drawing.{draw_bytes}
use Rattle.draw.proofs.Progress.{Reached}
use Rattle.draw.proofs.trace.write_trace.Given as goal

abbrev pub invariant-loop-i : goal.invariant-loop-i
invariant-loop-i l = Reached l.chances.weights l.chances.limits l.start l.i l.value l.at × (l.out ≡ laid 0 (draw_bytes l.chances.weights l.chances.limits l.start l.i) l.initial.out)
