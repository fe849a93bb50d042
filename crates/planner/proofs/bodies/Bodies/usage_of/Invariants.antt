-- `usage_of` meets its contract: the loop keeps `Going`, from set bit to set bit.
use Rattle.std.proofs.Common.{◌-◌}
use Rattle.planner.proofs.Usage.{Going}
use Rattle.planner.proofs.bodies.Bodies.usage_of.Given as goal

abbrev pub invariant-loop-m : goal.invariant-loop-m
invariant-loop-m l = Going l.users l.self.count l.self.priority l.self.rank l.most l.w l.m l.b

abbrev pub decreases-loop-m : goal.decreases-loop-m
decreases-loop-m l = 32 - l.b
