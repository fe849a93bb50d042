-- `started_cell` meets its contract: its test is the definition's.
use Prim.Native.Nat.{◌+◌}
use mathlib.Core.Path.{◌≡◌, ap, ◌∙◌}
use native.Mathlib.Omega.{arith}
use borrow.Author.Tests.{eq-eqb, ne_eqb}
use Rattle.cell.specs.Cell.{start_cell}
use Rattle.deadlines.specs.DeadlineCells.{ready_cell}
use Rattle.misses.proofs.row.started_cell.Goals as goal

pub returns-then-deadline-eq0 : goal.returns-then-deadline-eq0
unfolding ready_cell
returns-then-deadline-eq0 c = rw (eq-eqb c.args.deadline 0 c.if-deadline-eq0.true) c.resting_cell.ensures

pub returns : goal.returns
unfolding ready_cell
returns c = let D = c.args.deadline in
    let no-offset : D + 0 ≡ D = omega arith in
    rw (ne_eqb D 0 c.if-deadline-eq0.false) (c.start.ensures ∙ ap (start_cell D) no-offset)
