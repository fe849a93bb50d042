-- `unborne` meets its contract: by the first use that no RESOURCE bears.
use Rattle.std.proofs.Common.{ap, ◌∙◌}
use Rattle.oil_grammar.specs.Refusal.{no_resource}
use Rattle.oil_grammar.specs.Walk.{refused_at}
use Rattle.oil.proofs.FirstUse.{first_refused, all_borne}
use Rattle.oil.proofs.uses.unborne.Goals as goal

pub returns-in-Some : goal.returns-in-Some
returns-in-Some c = ap (refused_at no_resource) c.token_start.ensures
    ∙ first_refused c.args.text.now c.args.tokens c.in-Some.u c.in-Some.ensures

pub returns-in-None : goal.returns-in-None
returns-in-None c = all_borne c.args.text.now c.args.tokens c.in-None.ensures
