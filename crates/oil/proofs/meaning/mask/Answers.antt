-- `mask` meets its contract: what is left of the tokens gives the mask.
use Rattle.std.proofs.Common.{◌≡◌, rules}
use Rattle.oil_grammar.specs.Automaton.{fresh}
use Rattle.oil.specs.Tokens.{tokens_from}
use Rattle.oil.proofs.Steps.{mask_steps}
use Rattle.oil.proofs.meaning.mask.Goals as goal

pub loop-step-init : goal.loop-step-init
loop-step-init c = let a = c.args in
    let e : c.into_iter-step-iterator.result ≡ tokens_from a.tokens a.text.now 0 fresh = search rules in
    rw e (mask_steps a.text.now a.tokens 0 fresh a.name.now 0 0)
