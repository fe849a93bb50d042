-- `missing_in` meets its contract: by the names of RESOURCE objects that are gathered.
use Rattle.std.proofs.Common.{ℕ, List, Bool, true, false, ◌≡◌, ◌&&◌, not, length, refl, sym, rules, tests, ap, ◌∙◌, inl, arith}
use Rattle.std.proofs.lemmas.Iterator.{IsFirst-from_position}
use Rattle.std.proofs.lemmas.Iterator.Consumers.{YieldsList-from_first}
use Rattle.oil_grammar.specs.Automaton.{fresh, uses_resource}
use Rattle.oil_grammar.specs.Walk.{borne, unborne_at}
use Rattle.oil_grammar.specs.Records.{Progress}
use Rattle.oil_grammar.specs.Records.{Token}
use Rattle.oil.specs.Tokens.{step_of, token, progress_after}
use Rattle.oil.specs.Names.{in_class, spelled, missing_at}
use Rattle.oil.proofs.TokenLists.{length_tokens, first_at, first_same}
use Rattle.oil.proofs.uses.missing_in.Goals as goal

pub position-requires-clause-fits : goal.position-requires-clause-fits
position-requires-clause-fits c = let a = c.args in
    let e = ap length c.new.ensures ∙ length_tokens a.text.now a.bound 0 fresh in
    inl (let f = c.ranges.bound.fits in omega arith)

and_swap : (a b d : Bool) → (b && (a && d)) ≡ (a && (b && d))
and_swap true b d = refl
and_swap false true d = refl
and_swap false false d = refl

pub returns : goal.returns
unfolding missing_at unborne_at
returns c = let a = c.args in
    let t = a.text.now in
    let n = c.gather.new.self in
    let of = c.gather.ensures.of in
    let new = c.new-names.ensures.of in
    let test = λ (p : Progress × Token × List ℕ).
    uses_resource p.0 && (in_class n.class p.2 && not (borne a.tokens n.text.now 0 fresh n.resource p.2)) in
    first_same a.bound (λ i. test (progress_after t i, token t i, spelled t i)) (missing_at t a.tokens a.class) c.position.result
    (λ i. rw (of.class_is ∙ new.class_is, of.text_is ∙ new.text_is, of.resource_is ∙ new.resource_is)
    (sym (and_swap (in_class a.class (spelled t i)) (uses_resource (progress_after t i)) _)))
    (first_at t a.bound test c.position.result
    (IsFirst-from_position _ _ c.position.result (λ p. test p ≡ true) (λ p. test p ≡ false) c.position.ensures.ran
    (YieldsList-from_first step_of (λ steps. steps) _ c.new.ensures) (λ x q k. search (rules, tests)) (λ x q k. search (rules, tests))))
