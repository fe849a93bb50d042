-- `listed` meets its contract: at the end of the loop what is past i is past n.
use Rattle.std.proofs.Common.{arith}
use Rattle.planner.proofs.listed.Goals as goal

pub returns-clause-past : goal.returns-clause-past
returns-clause-past g c = λ i d above below. c.loop-i.invariant.2 i d (omega arith) below
