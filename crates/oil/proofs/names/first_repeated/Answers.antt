-- `first_repeated` meets its contract: each class is gathered.
use Rattle.std.proofs.Common.{false, rules}
use Rattle.oil.specs.Names.{repeated_at, twice_at}
use Rattle.oil.proofs.names.first_repeated.Goals as goal

pub returns : goal.returns
unfolding twice_at
returns c = c.first_by_class.ensures (repeated_at c.args.text.now false) (λ b d r l k. search rules)
