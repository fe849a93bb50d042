-- `borne` meets its contract: a token after another.
use Rattle.std.proofs.Common.{◌&&◌, ◌∙◌, rules, tests}
use Rattle.std.specs.Str.{bytes_eq}
use Rattle.std.proofs.lemmas.Iterator.Search.{any_from_yields_List}
use Rattle.std.proofs.lemmas.Iterator.Consumers.{YieldsList-from_first}
use Rattle.oil_grammar.specs.Automaton.{fresh}
use Rattle.oil_grammar.specs.Walk.{bears}
use Rattle.oil.specs.Tokens.{step_of}
use Rattle.oil.proofs.TokenLists.{borne_any}
use Rattle.oil.proofs.borne.borne.Goals as goal

pub returns : goal.returns
returns c =
    let a = c.args in
    any_from_yields_List (λ p. bears a.resource p.0 && bytes_eq p.2 a.name.now) _ _ _ c.any.ensures.ran
    (YieldsList-from_first step_of (λ steps. steps) _ c.new.ensures) (λ x b q k. search (rules, tests))
    ∙ borne_any a.text.now a.count 0 fresh a.resource a.name.now
