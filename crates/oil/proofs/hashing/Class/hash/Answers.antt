-- `hash` meets its contract: the class of a name goes by its hash.
use Rattle.std.proofs.Common.{arith}
use Rattle.std.proofs.lemmas.Grind.{common_steps}
use Rattle.oil.specs.Names.{in_class}
use Rattle.oil.proofs.hashing.Class.hash.Goals as goal

pub returns : goal.returns
unfolding in_class
returns c = grind (arith, common_steps)
