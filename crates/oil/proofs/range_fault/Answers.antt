-- `range_fault` meets its contract: no configuration takes 0 bytes, so a writer that is lent none refuses.
use Rattle.oil.proofs.Ranges.{fault_told}
use Rattle.oil.proofs.range_fault.Goals as goal

pub returns-in-Err : goal.returns-in-Err
returns-in-Err c = fault_told c.args.config c.in-Err.ensures.result c.if-e-eq0.true
