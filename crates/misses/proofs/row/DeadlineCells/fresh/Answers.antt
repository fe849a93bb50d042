-- `fresh` meets its contract: the cells were made one by one.
use Rattle.std.proofs.Common.{rules, arith, get_or}
use Rattle.word.specs.Word.{has}
use Rattle.misses.specs.Change.{blank_cell, fresh_cell_in}
use Rattle.misses.proofs.Made.{made}
use Rattle.misses.proofs.Rows.{row_filled}
use Rattle.misses.proofs.row.DeadlineCells.fresh.Goals as goal

pub returns-clause-cells : goal.returns-clause-cells
returns-clause-cells c = let a = c.args in
    let items = c.from_fn-cells.ensures.items in
    row_filled (λ b. fresh_cell_in (has a.active (get_or a.ranks b 0)) (get_or a.deadlines b 0))
    c.from_fn-cells.result 32 a.bodies items.long (omega arith)
    (λ k h. made items (λ b. fresh_cell_in (has a.active (get_or a.ranks b 0)) (get_or a.deadlines b 0))
    (λ x y f' w. search rules) k blank_cell h)
