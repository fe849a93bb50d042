-- `by_resource` meets its contract: each turn stores one ceiling and one word of users more.
use Rattle.std.proofs.Common.{◌≡◌, ◌/◌, ◌%◌, ◌^◌, take, get_or, replicate}
use Rattle.config.specs.Value.{max_resources}
use Rattle.config.specs.Meaning.{greatest_in}
use Rattle.plan.specs.Stores.{listed}
use Rattle.plan.specs.Words.{marked}
use Rattle.planner.proofs.bodies.Bodies.by_resource.Given as goal

abbrev pub invariant-loop-r : goal.invariant-loop-r
invariant-loop-r l =
    (l.ceiling ≡ listed (λ i. greatest_in (get_or l.config.users i 0) (take l.self.count l.self.priority)) l.r (replicate max_resources 0))
    × (l.users ≡ listed (λ i. marked (λ b. get_or l.self.rank b 0) (λ b. get_or l.config.users i 0 / 2 ^ b % 2) 1 l.self.count) l.r (replicate max_resources 0))
