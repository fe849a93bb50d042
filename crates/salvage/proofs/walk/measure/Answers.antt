-- `measure` meets its contract: what is counted and what is left make up both lengths.
use native.Mathlib.Omega.{arith}
use Rattle.salvage.proofs.Totals.{few_events, few_stretches, counts_dropped, counts_kept, counts_end, last_few}
use Rattle.salvage.proofs.walk.measure.Goals as goal

pub loop-at-preserved-then-here-eq0 : goal.loop-at-preserved-then-here-eq0
loop-at-preserved-then-here-eq0 c = let l = c.loop-at in
    counts_dropped l.invariant c.loop-at-test.true c.belonging-here.ensures c.if-here-eq0.true

pub overflow_add-events : goal.overflow_add-events
overflow_add-events c = let l = c.loop-at in
    omega (
      arith,
      few_events l.invariant,
    )

pub overflow_add-stretches : goal.overflow_add-stretches
overflow_add-stretches c = let l = c.loop-at in
    let next = counts_kept l.invariant c.loop-at-test.true c.belonging-here.ensures c.if-here-eq0.false in
    omega (
      arith,
      few_stretches next c.requires,
      c.stretch_length-stretches.ensures,
    )

pub loop-at-preserved : goal.loop-at-preserved
loop-at-preserved c = rw c.stretch_length-stretches.ensures (counts_kept c.loop-at.invariant c.loop-at-test.true c.belonging-here.ensures c.if-here-eq0.false)

pub overflow_add-result : goal.overflow_add-result
overflow_add-result c = let l = c.loop-at in
    omega (
      arith,
      last_few l.invariant c.loop-at-test.false c.requires,
      c.stretch_length.ensures,
    )

pub returns : goal.returns
returns c = let l = c.loop-at in
    rw c.stretch_length.ensures (counts_end l.invariant c.loop-at-test.false)
