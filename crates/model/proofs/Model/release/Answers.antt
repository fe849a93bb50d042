-- `release` meets its contract: what the registers make of it with the arrays as they are.
use mathlib.Core.Path.{◌∙◌}
use Rattle.model.specs.View.{arrays_of}
use Rattle.model.proofs.Model.release.Goals as goal

pub returns : goal.returns
returns c = let a = c.args in
    c.stepped.ensures ∙ c.release.ensures (arrays_of a.self)
