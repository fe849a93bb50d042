-- `measure` meets its contract: after i events their bytes are counted.
use native.Mathlib.Omega.{arith}
use Rattle.draw.proofs.Progress.{reached_start, reached_few, reached_step, next_writable}
use Rattle.draw.proofs.trace.measure.Goals as goal

pub loop-i-init : goal.loop-i-init
loop-i-init c = reached_start _ _ c.args.start c.ranges.start.fits

pub event_length-length-requires : goal.event_length-length-requires
event_length-length-requires c = let d = c.draw_event-drawn in
    next_writable c.loop-i.invariant d.result d.ensures

pub overflow_add-length : goal.overflow_add-length
overflow_add-length c = let d = c.draw_event-drawn in
    let next = reached_step c.loop-i.invariant d.result d.ensures in
    omega (
      arith,
      c.event_length-length.ensures,
      reached_few next (omega (arith, c.requires, c.loop-i-test.true)),
    )

pub loop-i-preserved : goal.loop-i-preserved
loop-i-preserved c = let d = c.draw_event-drawn in
    rw c.event_length-length.ensures (reached_step c.loop-i.invariant d.result d.ensures)
