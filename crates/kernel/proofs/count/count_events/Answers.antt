-- `count_events` meets its contract: whatever is left to read, with the events counted, is the whole trace.
use native.Mathlib.Omega.{arith}
use Rattle.std.proofs.Common.{refl}
use Rattle.std.proofs.lemmas.Result.{err_from_is_err_and}
use Rattle.number.proofs.Answers.{code_some}
use Rattle.kernel.proofs.Passes.Count.{passed_start, passed_end, passed_refused, passed_later, passed_step, passed_bare}
use Rattle.kernel.proofs.count.count_events.Goals as goal

pub loop-at-init : goal.loop-at-init
loop-at-init c = passed_start c.args.trace.now

pub overflow_add-at : goal.overflow_add-at
overflow_add-at c = let b = c.bare_group.ensures c.if-bare_group.true in omega (arith, b.inside)

pub overflow_add-events : goal.overflow_add-events
overflow_add-events c = let b = c.bare_group.ensures c.if-bare_group.true in
    let l = c.loop-at in omega (arith, b.inside, l.invariant.few)

pub loop-at-smaller-then-bare_group : goal.loop-at-smaller-then-bare_group
loop-at-smaller-then-bare_group c = omega (arith, c.loop-at-test.true)

pub loop-at-preserved-then-bare_group : goal.loop-at-preserved-then-bare_group
loop-at-preserved-then-bare_group c = let l = c.loop-at in
    passed_bare _ l.at l.events l.invariant 32 (c.bare_group.ensures c.if-bare_group.true)

pub returns-in_err-at : goal.returns-in_err-at
returns-in_err-at c = let l = c.loop-at in
    let e = err_from_is_err_and c.from_residual.result c.from_residual.ensures.1 in
    rw (e.1, e.2) (passed_refused _ l.at l.events l.invariant c.in_err-at.ensures c.loop-at-test.true (code_some _))

pub loop-at-smaller : goal.loop-at-smaller
loop-at-smaller c = let l = c.loop-at in
    omega (arith, passed_later _ l.at l.events l.invariant c.in_ok-at.ensures refl, c.loop-at-test.true)

pub loop-at-preserved : goal.loop-at-preserved
loop-at-preserved c = let l = c.loop-at in
    passed_step _ l.at l.events l.invariant c.in_ok-at.ensures refl

pub returns : goal.returns
returns c = let l = c.loop-at in
    passed_end c.args.trace.now l.at l.events l.invariant c.loop-at-test.false
