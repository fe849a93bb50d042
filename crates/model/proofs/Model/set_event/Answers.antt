-- `set_event` meets its contract: what the registers make of it with the arrays that they are lent.
use mathlib.Core.Path.{◌∙◌}
use Rattle.model.specs.View.{arrays_of}
use Rattle.model.proofs.Model.set_event.Goals as goal

pub returns : goal.returns
returns c = let a = c.args in
    c.stepped.ensures ∙ c.set_event-step.ensures (arrays_of a.self)
