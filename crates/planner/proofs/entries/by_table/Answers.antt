-- `by_table` meets its contract: the entries of the tables passed, and where each of these begins.
use Rattle.std.proofs.Common.{◌≡◌, length, get_or, Fits, w8, refl, arith, rules}
use Rattle.config.specs.Value.{max_tables}
use Rattle.config.specs.Meaning.{entries_before}
use Rattle.plan.specs.Stores.{stored}
use Rattle.plan.proofs.Stores.{stored_step}
use Rattle.plan.proofs.Entry.{table_passed, first_known}
use Rattle.planner.proofs.entries.by_table.Goals as goal

pub loop-t-init : goal.loop-t-init
unfolding stored entries_before
loop-t-init c = (omega arith, refl, refl)

pub loop-t-preserved : goal.loop-t-preserved
loop-t-preserved c = let ns = c.args.config.now.entries in let l = c.loop-t in
    let f : Fits w8 (get_or ns l.t 0) = search rules in
    let sized : length ns ≡ max_tables = search rules in (
      omega arith,
      table_passed ns l.t l.total (omega arith) l.invariant.1,
      stored_step _ _ _ _ l.invariant.2 refl (first_known ns l.t l.total l.invariant.1 _ c.min.ensures),
    )
