-- `ordered` meets its contract: the loop keeps `InOrder`. The measure is what is left of the text.
use Rattle.std.proofs.Common.{refl, arith}
use Rattle.oil.proofs.Order.{order_start, order_inside, order_further, order_next}
use Rattle.oil.proofs.SortNumbers.{is_end}
use Rattle.oil.proofs.walk.ordered.Goals as goal

pub loop-refusal-init : goal.loop-refusal-init
loop-refusal-init c = order_start c.args.text.now c.fresh-progress.ensures

pub next_token-token-requires : goal.next_token-token-requires
next_token-token-requires c = order_inside c.loop-refusal.invariant

pub overflow_add-tokens : goal.overflow_add-tokens
overflow_add-tokens c = let k = c.loop-refusal.invariant in
    let further = order_further k c.next_token-token.ensures c.in_default.ensures refl
    (λ e. c.in_default-sort.not-End (is_end _ e)) in
    omega (arith, k.few)

pub loop-refusal-smaller : goal.loop-refusal-smaller
loop-refusal-smaller c = let k = c.loop-refusal.invariant in
    let further = order_further k c.next_token-token.ensures c.in_default.ensures refl
    (λ e. c.in_default-sort.not-End (is_end _ e)) in
    omega arith

pub loop-refusal-preserved : goal.loop-refusal-preserved
loop-refusal-preserved c =
    order_next c.loop-refusal.invariant c.next_token-token.ensures c.in_default.ensures refl
    (λ e. c.in_default-sort.not-End (is_end _ e)) c.after-progress.ensures
