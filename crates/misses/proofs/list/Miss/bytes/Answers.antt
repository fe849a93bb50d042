-- `bytes` meets its contract: the two bytes of a number are its remainder and its quotient by 256.
use Rattle.std.proofs.Common.{arith}
use Rattle.std.proofs.lemmas.Grind.{common_steps}
use Rattle.deadlines.specs.Report.{miss_bytes}
use Rattle.misses.proofs.list.Miss.bytes.Goals as goal

pub returns : goal.returns
unfolding miss_bytes
returns c = grind (arith, common_steps, c.to_le_bytes.ensures)
