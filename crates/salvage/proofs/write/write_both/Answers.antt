-- `write_both` meets its contract: each kept byte and each stretch is written behind those before it.
use mathlib.Core.Path.{◌∙◌}
use native.Mathlib.Omega.{arith}
use Rattle.salvage.proofs.Outputs.{events_start, events_step_dropped, events_step_kept, events_room, events_written, list_start, list_step_dropped, list_step_kept, list_room_lem, list_last_room, list_written}
use Rattle.salvage.proofs.write.write_both.Goals as goal

pub loop-at-init : goal.loop-at-init
loop-at-init c = let a = c.args in (
  events_start a.trace.now a.events.now c.requires.events,
  list_start a.trace.now a.stretches.now
      c.requires.stretches,
)

pub loop-at-preserved-then-here-eq0 : goal.loop-at-preserved-then-here-eq0
loop-at-preserved-then-here-eq0 c = let l = c.loop-at in (
  events_step_dropped l.invariant.0 c.loop-at-test.true c.belonging-here.ensures c.if-here-eq0.true,
  list_step_dropped l.invariant.1 c.loop-at-test.true c.belonging-here.ensures c.if-here-eq0.true,
)

pub bounds-events-kept : goal.bounds-events-kept
bounds-events-kept c = let l = c.loop-at in
    events_room l.invariant.0 c.loop-at-test.true c.belonging-here.ensures c.if-here-eq0.false

pub write_stretch-listed-requires : goal.write_stretch-listed-requires
write_stretch-listed-requires c = let l = c.loop-at in (
  omega (arith, l.invariant.1.gap_le, l.invariant.1.at_le, c.requires.short),
  list_room_lem l.invariant.1 c.loop-at-test.true c.belonging-here.ensures c.if-here-eq0.false,
)

pub loop-at-preserved : goal.loop-at-preserved
loop-at-preserved c = let w = c.write_stretch-listed in
    let l = c.loop-at in (
      events_step_kept l.invariant.0 c.loop-at-test.true c.belonging-here.ensures c.if-here-eq0.false,
      rw (w.ensures.result, w.ensures.output)
          (list_step_kept l.invariant.1 c.loop-at-test.true c.belonging-here.ensures c.if-here-eq0.false),
    )

pub write_stretch-requires : goal.write_stretch-requires
write_stretch-requires c = let l = c.loop-at in (
  omega (arith, l.invariant.1.gap_le, l.invariant.1.at_le, c.requires.short),
  list_last_room l.invariant.1 c.loop-at-test.false,
)

pub returns : goal.returns
returns c = let w = c.write_stretch in
    let l = c.loop-at in record {
      events = events_written l.invariant.0 c.loop-at-test.false;
      stretches = w.ensures.output ∙ list_written l.invariant.1 c.loop-at-test.false;
    }
