-- `ended` meets its contract: the seat is left to the latest holder, then arbitration with the requests that it is
-- given.
use mathlib.Core.Path.{◌∙◌}
use Rattle.model.specs.View.{view_with}
use Rattle.model.proofs.Methods.Core.{ended_made}
use Rattle.model.proofs.Registers.ended.Goals as goal

pub returns : goal.returns
returns c = let a = c.args in
    λ x. c.settled.ensures x
    ∙ ended_made a.plan.now.priority (view_with a.self x) a.request c.without.ensures c.with.ensures
    (c.left_with-left.ensures x)
