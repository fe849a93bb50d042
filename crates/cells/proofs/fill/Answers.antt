-- `fill` meets its contract: the part that is lent is filled, and what is before and behind it stays.
use Rattle.std.proofs.Common.{◌≡◌, ◌-◌, length, replicate, arith, rules}
use Rattle.config.specs.Value.{max_entries}
use Rattle.cells.proofs.Cells.{part_filled}
use Rattle.cells.proofs.fill.Goals as goal

pub returns : goal.returns
returns c = let a = c.args in
    let sized : length a.row.now ≡ max_entries = search rules in
    let filled : c.fill.new.self ≡ replicate (c.row_end-until.result - c.min-from.result) a.to = search rules in
    rw (filled, c.min-from.ensures)
    (part_filled a.to a.from a.count max_entries c.row_end-until.result a.row.now (omega arith) c.row_end-until.ensures)
