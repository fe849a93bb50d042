-- `first_unborne` meets its contract: the uses of each class.
use Rattle.std.proofs.Common.{rules}
use Rattle.oil.specs.Names.{unborne_no, missing_at}
use Rattle.oil.proofs.uses.first_unborne.Goals as goal

pub returns : goal.returns
unfolding missing_at
returns c = c.first_by_class.ensures (unborne_no c.args.text.now c.args.tokens) (λ b d r l k. search rules)
