-- `moved` meets its contract: each turn moves one cell more.
use Rattle.std.proofs.Common.{◌≡◌, arith, rules, length-set, get_or}
use Rattle.misses.specs.Change.{blank_cell, cell_by}
use Rattle.misses.proofs.Rows.{row_start, row_step}
use Rattle.misses.proofs.row.DeadlineCells.moved.Goals as goal

pub loop-b-init : goal.loop-b-init
loop-b-init c = let a = c.args.self in (
  search rules,
  row_start (λ b. cell_by c.args.change b (get_or a.ranks b 0) (get_or a.deadlines b 0) (get_or a.cells b blank_cell)) a.cells,
)

pub loop-b-preserved : goal.loop-b-preserved
loop-b-preserved c = let l = c.loop-b in
    let a = c.args.self in (
      simp length-set l.invariant.0,
      row_step (λ b. cell_by c.args.change b (get_or a.ranks b 0) (get_or a.deadlines b 0) (get_or a.cells b blank_cell)) l.b l.cells
          c.moved_cell.result (omega arith) l.invariant.1 c.moved_cell.ensures,
    )

pub returns-clause-cells : goal.returns-clause-cells
returns-clause-cells c = let h : c.loop-b.b ≡ c.args.self.bodies = omega arith in
    rw h at c.loop-b.invariant.1
