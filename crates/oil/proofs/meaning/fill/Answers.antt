-- `fill` meets its contract: what is left of the tokens gives the configuration.
use Rattle.std.proofs.Common.{◌≡◌, ℕ, List, rules}
use Rattle.oil_grammar.specs.Automaton.{fresh}
use Rattle.oil_grammar.specs.Meaning.{empty}
use Rattle.oil_grammar.specs.Walk.{mask}
use Rattle.oil.specs.Tokens.{tokens_from}
use Rattle.oil.proofs.Steps.{fill_steps}
use Rattle.oil.proofs.meaning.fill.Goals as goal

pub loop-step-init : goal.loop-step-init
loop-step-init c = let a = c.args in
    let e : c.into_iter-step-iterator.result ≡ tokens_from a.tokens a.text.now 0 fresh = search rules in
    rw (e, c.empty-c.ensures)
    (fill_steps a.text.now a.tokens 0 fresh (λ (x : List ℕ). mask a.tokens a.text.now 0 fresh x 0 0) empty)
