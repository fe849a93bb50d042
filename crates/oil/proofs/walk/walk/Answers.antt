-- `walk` meets its contract: the name that is repeated comes first, then the token that is out of order.
use Rattle.std.proofs.Common.{◌≡◌, ap, ◌∙◌, refl, arith, rules, Ok, Err}
use Rattle.oil_grammar.specs.Refusal.{given_twice}
use Rattle.oil_grammar.specs.Walk.{refused_at}
use Rattle.number.proofs.Answers.{code_some}
use Rattle.oil.proofs.TokenNumbers.{least_some, least_none}
use Rattle.oil.proofs.Order.{repeated_refused, sort_refused, all_ordered}
use Rattle.oil.proofs.walk.walk.Goals as goal

pub returns-in-Some : goal.returns-in-Some
returns-in-Some c = let t = c.args.text.now in
    ap (refused_at given_twice) c.token_start.ensures
    ∙ repeated_refused t c.ordered-tokens.ensures (least_some c.in-Some.ensures) c.in-Some.ensures.0

pub returns-in_err-order : goal.returns-in_err-order
returns-in_err-order c = let t = c.args.text.now in
    let e = c.in_err-order.field-0.0 in
    let order : c.ordered-tokens.result.1 ≡ Err e = c.in_err-order.was in
    let answer : c.from_residual.result ≡ Err e = search rules in
    rw answer
    (rw order at
    (sort_refused t c.ordered-tokens.ensures (least_none c.in_default.ensures) (omega arith)
    (λ z. code_some e.refusal (rw order at z))))

pub returns : goal.returns
returns c = let t = c.args.text.now in
    let order : c.ordered-tokens.result.1 ≡ Ok c.in_ok-order.field-0 = c.in_ok-order.was in
    all_ordered t c.ordered-tokens.ensures (least_none c.in_default.ensures) (omega arith) (rw order refl)
