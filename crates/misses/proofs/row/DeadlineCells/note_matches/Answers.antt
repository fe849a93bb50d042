-- `note_matches` meets its contract: what is noted so far are the matches of the cells that were looked at.
use Rattle.std.proofs.Common.{◌≡◌, sym, ap, ◌∙◌, arith}
use Rattle.cell.specs.declared.Cell.{Cell}
use Rattle.deadlines.specs.DeadlineCells.{matches_of}
use Rattle.misses.specs.declared.list.Misses.{Misses}
use Rattle.misses.proofs.Noted.{notes_none, note_step}
use Rattle.misses.proofs.row.DeadlineCells.note_matches.Goals as goal
use Rattle.misses.proofs.row.DeadlineCells.note_matches.Goals.{then-tick, else-tick}

pub loop-body-init : goal.loop-body-init
unfolding matches_of
loop-body-init c = (omega arith, notes_none c.args.misses.now)

pub loop-body-preserved : goal.loop-body-preserved
loop-body-preserved c = let inv = c.loop-body.invariant in
    let marked : c.tick.result.matched ≡ _ = ap (λ (x : Cell). x.matched) c.tick.ensures in
    elim c.if-tick.branch [
      | then-tick w ↦ (
        omega (arith, ap (λ (x : Misses). x.count) w.misses-is, w.note.ensures.counted, inv.0),
        note_step c.args.tick _ c.loop-body.body _ c.loop-body-test.true (sym marked ∙ w.if-tick.true) inv.1
            (rw w.misses-is w.note.ensures.noted),
      )
      | else-tick w ↦ (
        omega (arith, ap (λ (x : Misses). x.count) w.misses-is, inv.0),
        note_step c.args.tick _ c.loop-body.body _ c.loop-body-test.true (sym marked ∙ w.if-tick.false) inv.1
            (rw w.misses-is (notes_none c.loop-body.misses)),
      )
    ]
