-- `by_resource` meets its contract: each turn stores one ceiling and one word of users more.
use Rattle.std.proofs.Common.{refl}
use Rattle.plan.specs.Stores.{stored}
use Rattle.plan.proofs.Stores.{stored_step}
use Rattle.planner.proofs.bodies.Bodies.by_resource.Goals as goal

pub loop-r-init : goal.loop-r-init
unfolding stored
loop-r-init c = (refl, refl)

pub loop-r-preserved : goal.loop-r-preserved
loop-r-preserved c = let l = c.loop-r in (
  stored_step _ _ _ _ l.invariant.0 refl c.usage_of-usage.ensures.ceiling,
  stored_step _ _ _ _ l.invariant.1 refl c.usage_of-usage.ensures.users,
)
