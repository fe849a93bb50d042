-- `gather` meets its contract: a token at a time.
use Rattle.std.proofs.Common.{◌≡◌, length, ap, ◌∙◌, inl, refl, subst, arith}
use Rattle.std.proofs.lemmas.Iterator.Consumers.{YieldsList-from_first, YieldsList-from_enumerate, YieldsList-turn, YieldsList-end}
use Rattle.oil_grammar.specs.Automaton.{fresh}
use Rattle.oil.specs.Tokens.{First, step_of, tokens_from}
use Rattle.oil.specs.Names.{twice_at}
use Rattle.oil.proofs.TokenLists.{length_tokens, numbered_token, length_numbered}
use Rattle.oil.proofs.names.Names.gather.Goals as goal
use Rattle.oil.proofs.names.Names.gather.Goals.{In-None}

pub loop-i-init : goal.loop-i-init
loop-i-init c =
    let all : c.into_iter-i-iterator.result.iter ≡ tokens_from c.args.tokens c.args.self.now.text.now 0 fresh = cc in
    let e = ap length all ∙ length_tokens c.args.self.now.text.now c.args.tokens 0 fresh in
    let z : c.into_iter-i-iterator.result.count ≡ 0 = cc in
    record {
      may_go_on = ((tt, tt, inl (let f = c.ranges.tokens.fits in omega arith)), tt);
      of = record { text_is = refl; resource_is = refl; class_is = refl };
      gathered = c.requires;
      twice = λ i h. absurd (omega arith);
    }

pub take_in-requires-clause-reached : goal.take_in-requires-clause-reached
take_in-requires-clause-reached c =
    let t = YieldsList-turn (YieldsList-from_enumerate (YieldsList-from_first step_of (λ steps. steps)
    (tokens_from c.args.tokens c.args.self.now.text.now 0 fresh) cc) cc)
    c.loop-i.yielded _ c.loop-i.yielded_by _ _ (c.in-Some.i, c.in-Some.step) c.in-Some.is c.next.ensures.steps in
    rw c.loop-i.invariant.of.text_is
    (numbered_token c.args.self.now.text.now c.args.tokens (length c.loop-i.yielded) (c.in-Some.i, step_of c.in-Some.step) t)

all_come : (c : In-None) → length c.loop-i.yielded ≡ c.args.tokens
all_come c =
    let t = YieldsList-end (YieldsList-from_enumerate (YieldsList-from_first step_of (λ steps. steps)
    (tokens_from c.args.tokens c.args.self.now.text.now 0 fresh) cc) cc)
    c.loop-i.yielded _ c.loop-i.yielded_by _ _ c.in-None.is c.next.ensures.steps in
    t.1 ∙ length_numbered c.args.self.now.text.now c.args.tokens

pub returns-clause-gathered : goal.returns-clause-gathered
returns-clause-gathered c = rw (← all_come c) c.loop-i.invariant.gathered

pub returns-clause-twice : goal.returns-clause-twice
returns-clause-twice c = let n = c.args.self.now in
    subst (λ k. First k (twice_at n.text.now n.resource n.class) c.loop-i.first) (all_come c) c.loop-i.invariant.twice
