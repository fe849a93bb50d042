-- `first` meets its contract: there are no more names than tokens.
use Rattle.std.proofs.Common.{◌≡◌, ◌∙◌, ap, inl, length, arith}
use Rattle.oil_grammar.specs.Automaton.{fresh}
use Rattle.oil.proofs.TokenLists.{length_tokens}
use Rattle.oil.proofs.hashing.Class.first.Goals as goal

pub count-names-requires-clause-fits : goal.count-names-requires-clause-fits
count-names-requires-clause-fits c = let a = c.args in
    let e : length c.filter.result.iter ≡ a.tokens =
    ap length (c.filter.ensures.source ∙ c.new.ensures) ∙ length_tokens a.text.now a.tokens 0 fresh in
    inl (let f = c.ranges.tokens.fits in omega arith)
