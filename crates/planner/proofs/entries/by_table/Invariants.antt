-- `by_table` meets its contract: the entries of the tables passed, and where each of these begins.
use Rattle.std.proofs.Common.{◌≡◌, ◌*◌, ◌≤◌, replicate}
use Rattle.config.specs.Value.{max_tables}
use Rattle.config.specs.Meaning.{entries_before}
use Rattle.plan.specs.Stores.{listed}
use Rattle.plan.specs.Entry.{first_in}
use Rattle.planner.proofs.entries.by_table.Given as goal

abbrev pub invariant-loop-t : goal.invariant-loop-t
invariant-loop-t l = (l.total ≤ 255 * l.t) × (l.total ≡ entries_before l.config.entries l.t)
    × (l.first ≡ listed (first_in l.config.entries) l.t (replicate max_tables 0))
