-- `returned` meets its contract: the seat is left to the time-triggered task that was started before, or to the
-- latest holder, then arbitration.
use mathlib.Core.Path.{◌∙◌}
use Rattle.model.specs.View.{view_with}
use Rattle.model.proofs.Methods.Core.{returned_made}
use Rattle.model.proofs.Registers.returned.Goals as goal

pub returns : goal.returns
returns c = let a = c.args in
    λ x. c.settled.ensures x
    ∙ returned_made a.plan.now.priority (view_with a.self x) c.without.ensures c.with.ensures
    (c.left_with-left.ensures x) c.second-earlier.ensures
    c.select_unpredictable.ensures c.select_unpredictable-2.ensures c.pop-self.ensures
