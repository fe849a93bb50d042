-- `list_misses` meets its contract: what was noted are the misses on the machine, and the first of them are written.
use Rattle.misses.proofs.list_misses.Goals as goal

pub returns : goal.returns
returns c = let told = rw c.plan_of.ensures at c.watch-misses.ensures in
    record { value = c.write.ensures.value _ told; list_after = c.write.ensures.list_after _ told; place = c.write.ensures.place }
