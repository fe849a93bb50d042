-- `table_of` meets its contract: the tables passed and the entry's table among those that are left.
use Rattle.std.proofs.Common.{◌≡◌, length, add-one, arith, rules}
use Rattle.config.specs.Value.{max_tables}
use Rattle.plan.proofs.Entry.{table_here, table_later, table_none}
use Rattle.planner.proofs.entries.table_of.Goals as goal

pub returns-then-left-k : goal.returns-then-left-k
returns-then-left-k c = let ns = c.args.entries.now in let l = c.loop-t in
    let long : length ns ≡ max_tables = search rules in
    omega (arith, table_here ns l.t l.left (omega arith) c.if-left-k.true, l.invariant)

pub loop-t-preserved : goal.loop-t-preserved
loop-t-preserved c = let ns = c.args.entries.now in let l = c.loop-t in
    let long : length ns ≡ max_tables = search rules in
    rw add-one (omega (arith, table_later ns l.t l.left (omega arith) c.if-left-k.false, l.invariant))

pub returns : goal.returns
returns c = let ns = c.args.entries.now in let l = c.loop-t in
    let long : length ns ≡ max_tables = search rules in
    omega (arith, table_none ns l.t l.left (omega arith), l.invariant)
