-- `pick` meets its contract: the value is at least the running sum so far.
use Rattle.std.proofs.lemmas.List.{get_or-take}
use mathlib.Core.Path.{sym, ◌∙◌}
use native.Mathlib.Omega.{arith}
use Rattle.drawing.proofs.Shares.{picked_last}
use Rattle.draw.proofs.Sums.{summed_start, summed_step, summed_end, summed_picks}
use Rattle.draw.proofs.weights.pick.Goals as goal

pub loop-i-init : goal.loop-i-init
loop-i-init c = (summed_start _, omega arith)

pub returns-then-value-sum : goal.returns-then-value-sum
returns-then-value-sum c = let l = c.loop-i in
    summed_picks l.invariant.0 (c.from-sum.ensures ∙ get_or-take 11 c.args.weights.now l.i 0 (omega arith))
    (omega (arith, c.from-sum.ensures)) c.args.value (omega arith) l.invariant.1 c.if-value-sum.true

pub loop-i-preserved : goal.loop-i-preserved
loop-i-preserved c = let l = c.loop-i in (
  summed_step l.invariant.0 (c.from-sum.ensures ∙ get_or-take 11 c.args.weights.now l.i 0 (omega arith))
      (omega (arith, c.from-sum.ensures)),
  c.if-value-sum.false,
)

pub returns : goal.returns
returns c = let l = c.loop-i in
    let e = summed_end l.invariant.0 11 (omega (arith, c.loop-i-test.false)) in
    sym (picked_last c.args.weights.now c.args.value (omega (arith, e, l.invariant.1)))
