-- `write_both` meets its contract: each kept byte and each stretch is written behind those before it.
use Rattle.salvage.proofs.Outputs.{EventsOn, ListOn}
use Rattle.salvage.proofs.write.write_both.Given as goal

abbrev pub invariant-loop-at : goal.invariant-loop-at
invariant-loop-at l = EventsOn l.trace l.initial.events l.at l.left l.kept l.events × ListOn l.trace l.initial.stretches l.at l.left l.gap l.listed l.stretches
