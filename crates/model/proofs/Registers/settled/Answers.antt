-- `settled` meets its contract: arbitration with the core that it is given.
use mathlib.Core.Path.{◌∙◌}
use Rattle.model.specs.View.{view_core, view_with}
use Rattle.model.proofs.Methods.Core.{settled_made}
use Rattle.model.proofs.Registers.settled.Goals as goal

pub returns : goal.returns
returns c = let a = c.args in
    λ x. c.seated.ensures x
    ∙ settled_made a.plan.now.priority (view_with a.self x) (view_core a.core) c.arbitrated.ensures
