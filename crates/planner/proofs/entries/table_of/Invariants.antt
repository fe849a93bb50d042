-- `table_of` meets its contract: the tables passed and the entry's table among those that are left.
use Rattle.std.proofs.Common.{◌≡◌, ◌+◌, drop}
use Rattle.plan.specs.Entry.{table_in}
use Rattle.planner.proofs.entries.table_of.Given as goal

abbrev pub invariant-loop-t : goal.invariant-loop-t
invariant-loop-t l = l.t + table_in (drop l.t l.entries) l.left ≡ table_in l.entries l.e
