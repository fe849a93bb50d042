-- `new` meets its contract: no name is kept.
use Rattle.std.proofs.Common.{refl}
use Rattle.oil.proofs.Gathering.{none_gathered}
use Rattle.oil.proofs.names.Names.new.Goals as goal

pub returns-clause-none : goal.returns-clause-none
returns-clause-none c = none_gathered _ refl
