-- `entry_ranks` meets its contract: each element is what the closure gives.
use Rattle.std.proofs.Common.{get_or, rules}
use Rattle.plan.specs.Rank.{no_rank}
use Rattle.planner.proofs.Filled.{listed_made}
use Rattle.planner.proofs.entries.entry_ranks.Goals as goal

pub returns : goal.returns
returns c = let a = c.args in
    listed_made (λ e. get_or a.ranks.now (get_or a.task.now e 0) no_rank) _ _ _ c.listed.result (search rules) (search rules)
    (λ i d h. let e = c.listed.ensures.below i d h in search rules) c.listed.ensures.past
