-- `some_timed` meets its contract: what `any` answers.
use mathlib.Core.Path.{◌∙◌}
use Rattle.std.proofs.Common.{rules, tests}
use Rattle.std.proofs.lemmas.Iterator.{YieldsList-from_slice}
use Rattle.std.proofs.lemmas.Iterator.Search.{any_from_yields_List}
use Rattle.config.specs.Meaning.{is_timed}
use Rattle.config_codec.specs.Entry.{bodies_of}
use Rattle.config_codec.proofs.Timed.{some_any}
use Rattle.config_codec.proofs.bodies.Bodies.some_timed.Goals as goal

pub returns : goal.returns
returns c =
    let a = c.args in
    let all = bodies_of a.self.count a.self.kind in
    any_from_yields_List (is_timed all) _ _ c.any.result c.any.ensures.ran (YieldsList-from_slice a.tasks.now cc)
    (λ x b q k. search (rules, tests))
    ∙ some_any all a.tasks.now
