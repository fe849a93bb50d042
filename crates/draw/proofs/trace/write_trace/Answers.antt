-- `write_trace` meets its contract: after i events their bytes stand at the start of the output.
use mathlib.Core.Path.{◌≡◌, ◌∙◌}
use native.Mathlib.Omega.{arith}
use Rattle.draw.proofs.Progress.{reached_start, reached_step, next_writable, next_room, next_laid, output_start, output_end}
use Rattle.draw.proofs.trace.write_trace.Goals as goal

pub loop-i-init : goal.loop-i-init
loop-i-init c = (reached_start _ _ c.args.start c.ranges.start.fits, output_start _ _ c.args.start c.args.out.now)

pub put_event-at-requires : goal.put_event-at-requires
put_event-at-requires c = let d = c.draw_event-drawn in
    let l = c.loop-i in (
      next_writable l.invariant.0 d.result d.ensures,
      next_room l.invariant.0 d.result d.ensures c.args.count c.loop-i-test.true l.out c.args.out.now c.requires
          l.invariant.1,
    )

pub loop-i-preserved : goal.loop-i-preserved
loop-i-preserved c = let w = c.put_event-at in
    let d = c.draw_event-drawn in
    let l = c.loop-i in (
      rw w.ensures.result (reached_step l.invariant.0 d.result d.ensures),
      w.ensures.output
          ∙ next_laid l.invariant.0 d.result d.ensures c.args.count c.loop-i-test.true l.out c.args.out.now c.requires
          l.invariant.1,
    )

pub returns : goal.returns
returns c = let l = c.loop-i in
    let same : l.i ≡ c.args.count = omega (arith, c.loop-i-test.false) in
    output_end _ _ c.args.start c.args.count l.out c.args.out.now c.requires (rw same at l.invariant.1)
