-- `put_losses` meets its contract: each turn lays the losses of one body more.
use Rattle.std.proofs.Common.{◌≡◌, map, get_or, take}
use Rattle.number.specs.Output.{laid}
use Rattle.run.specs.Run.{loss_bytes}
use Rattle.kernel.proofs.output.put_losses.Given as goal

abbrev pub invariant-loop-b : goal.invariant-loop-b
invariant-loop-b l = l.out ≡ laid l.at (loss_bytes (map (λ r. get_or l.losses r 0) (take l.b l.rank-items))) l.initial.out
