-- `watch` meets its contract: each turn is the event that was read, with the row of cells beside it.
use Prim.Native.Nat.{ℕ}
use mathlib.Core.Path.{ap, ◌∙◌}
use native.Mathlib.Omega.{arith}
use borrow.Author.Tests.{eq-eqb, ne_eqb}
use Rattle.number.proofs.Answers.{code_some}
use Rattle.event.specs.Event.{EventRead, tick}
use Rattle.model.specs.View.{view}
use Rattle.misses.specs.Change.{fresh_row_by, row_by}
use Rattle.misses.specs.declared.change.Change.{Change}
use Rattle.misses.proofs.Codes.{ticks}
use Rattle.misses.proofs.Watching.{watching_start, watching_end, watching_done, watching_inside, watching_later, watching_step, counting_tick, counting_none}
use Rattle.misses.proofs.watch.watch.Goals as goal
use Rattle.misses.proofs.watch.watch.Goals.{else-event-eq-TICK, then-event-eq-TICK}

pub loop-read-init : goal.loop-read-init
loop-read-init c = let cells = c.fresh-cells in
    let a = c.args in
    watching_start c.requires (ap view c.fresh-model.ensures) cells.result
    (cells.ensures.cells
    ∙ ap (λ (w : ℕ). fresh_row_by w a.plan.rank a.config.deadline a.config.bodies) c.active.ensures)
    cells.ensures.bodies cells.ensures.ranks cells.ensures.deadlines c.none-misses.ensures

pub loop-read-smaller : goal.loop-read-smaller
loop-read-smaller c = let read = c.in-Ok.ensures in
    omega (arith, watching_later c.loop-read.invariant read, watching_inside c.loop-read.invariant read)

pub loop-read-preserved : goal.loop-read-preserved
loop-read-preserved c = let event = c.in-Ok.read.value in
    let cells = c.loop-read.cells in
    let moved = c.moved-cells.ensures in
    watching_step c.loop-read.invariant c.in-Ok.ensures c.requires.few_bodies c.step-outcome.ensures
    (elim c.if-event-eq-TICK.branch [
      | then-event-eq-TICK w ↦ counting_tick (ticks event ∙ eq-eqb event.code tick w.if-event-eq-TICK.true) w.ticks-is
          (rw w.misses-is w.note_matches.ensures)
      | else-event-eq-TICK w ↦ counting_none (ticks event ∙ ne_eqb event.code tick w.if-event-eq-TICK.false) w.ticks-is w.misses-is
    ])
    c.moved-cells.result
    (moved.cells
    ∙ ap (λ (y : Change). row_by y cells.ranks cells.deadlines cells.bodies cells.cells) c.change_by.ensures)
    moved.bodies moved.ranks moved.deadlines

pub returns : goal.returns
returns c = watching_end c.loop-read.invariant
    (watching_done c.loop-read.invariant
    (λ fine. code_some _ (ap (λ (x : EventRead). x.refusal) c.in_default.ensures ∙ fine)))
