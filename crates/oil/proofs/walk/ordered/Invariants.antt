-- `ordered` meets its contract: the loop keeps `InOrder`. The measure is what is left of the text.
use Rattle.std.proofs.Common.{◌-◌, length}
use Rattle.oil.specs.Answer.{as_progress}
use Rattle.oil.proofs.Order.{InOrder}
use Rattle.oil.proofs.walk.ordered.Given as goal

abbrev pub invariant-loop-refusal : goal.invariant-loop-refusal
invariant-loop-refusal l = InOrder l.text l.at (as_progress l.progress) l.tokens

abbrev pub decreases-loop-refusal : goal.decreases-loop-refusal
decreases-loop-refusal l = length l.text - l.at
