-- `next` meets its contract: the walk's list begins with the token that comes.
use Rattle.std.proofs.Common.{sym, ◌∙◌, arith}
use Rattle.std.proofs.lemmas.Grind.{common_steps}
use Rattle.oil.specs.Tokens.{tokens_from}
use Rattle.oil.proofs.Walks.{token_inside}
use Rattle.oil.proofs.TokenLists.{tokens_more}
use Rattle.oil.proofs.token_walk.TokenWalkIterator.next.Goals as goal

pub returns-in_err-self-inside-clause-steps : goal.returns-in_err-self-inside-clause-steps
unfolding tokens_from
returns-in_err-self-inside-clause-steps c = grind (arith, common_steps)

pub invariant_of-self : goal.invariant_of-self
invariant_of-self c = (token_inside c.self.inside.text.now c.self.inside.at c.self.invariant c.next_token-token.ensures).1

pub spelling-requires : goal.spelling-requires
spelling-requires c = token_inside c.self.inside.text.now c.self.inside.at c.self.invariant c.next_token-token.ensures

pub returns-clause-steps : goal.returns-clause-steps
returns-clause-steps c = let e = c.in_ok-self-inside.ensures in
    sym c.self.view_is
    ∙ tokens_more c.self.inside.text.now c.self.inside.at e.0 e.1 c.next_token-token.ensures c.after-self-inside.ensures
    c.spelling.ensures

pub returns-clause-goes : goal.returns-clause-goes
returns-clause-goes c = let e = c.in_ok-self-inside.ensures in
    let q = sym c.self.view_is
    ∙ tokens_more c.self.inside.text.now c.self.inside.at e.0 e.1 c.next_token-token.ensures
    c.after-self-inside.ensures c.spelling.ensures in
    grind (arith, common_steps)
