-- `token_start` meets its contract: the text stands where it does after the tokens passed.
use Rattle.std.proofs.Common.{◌≡◌, refl, ap, ◌∙◌, arith}
use Rattle.oil_grammar.specs.Records.{Token}
use Rattle.oil_grammar.specs.Next.{next_token}
use Rattle.oil.specs.Tokens.{place_after}
use Rattle.oil.proofs.TokenNumbers.{place_inside, place_next}
use Rattle.oil.proofs.next.token_start.Goals as goal

pub loop-init : goal.loop-init
unfolding place_after
loop-init c = refl

pub next_token-at-requires : goal.next_token-at-requires
next_token-at-requires c = let l = c.loop in
    rw l.invariant (place_inside c.args.text.now l.counter)

pub loop-preserved : goal.loop-preserved
loop-preserved c = let l = c.loop in
    let t = c.args.text.now in
    ap (λ (v : Token). v.end) (c.next_token-at.ensures ∙ ap (next_token t) l.invariant) ∙ place_next t l.counter

pub next_token-requires : goal.next_token-requires
next_token-requires c = let l = c.loop in
    rw l.invariant (place_inside c.args.text.now l.counter)

pub returns : goal.returns
returns c = let l = c.loop in
    let t = c.args.text.now in
    let e : l.counter ≡ c.args.n = omega arith in
    ap (λ (v : Token). v.start) (c.next_token.ensures ∙ ap (next_token t) (l.invariant ∙ ap (place_after t) e))
