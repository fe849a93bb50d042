-- `next_token` meets its contract: the next token from `at` on begins where that from `start` on does.
use Rattle.std.proofs.Common.{◌≡◌, ℕ, refl, sym, ap, ◌∙◌, arith, drop}
use Rattle.oil_grammar.specs.Next.{blank, skipped, token_at, next_token}
use Rattle.oil_grammar.proofs.Blank.{blank_inside, skip_stopped, skip_more}
use Rattle.oil.proofs.Rest.{rest_of}
use Rattle.oil.proofs.next.next_token.Goals as goal

pub loop-n-init : goal.loop-n-init
loop-n-init c = (omega arith, refl)

pub loop-n-preserved : goal.loop-n-preserved
loop-n-preserved c = let t = c.args.text.now in
    let l = c.loop-n in
    let e : c.in-Some.n ≡ blank (drop l.start t) = c.in-Some.ensures.bytes ∙ ap blank (rest_of t l.start) in
    let some = c.in-Some.ensures.some in (
      omega (arith, blank_inside t l.start l.invariant.0),
      rw e (sym (skip_more t l.start l.invariant.0 (λ z. omega arith)) ∙ l.invariant.1),
    )

pub returns : goal.returns
unfolding next_token
returns c = let t = c.args.text.now in
    let start = c.loop-n.start in
    let stopped : start ≡ skipped t c.args.at =
    sym (skip_stopped t start (sym (c.in_default.ensures.bytes ∙ ap blank (rest_of t start)))) ∙ c.loop-n.invariant.1 in
    c.first_token-sort.ensures.token start ∙ ap (token_at start) (rest_of t start)
    ∙ ap (λ (p : ℕ). token_at p (drop p t)) stopped
