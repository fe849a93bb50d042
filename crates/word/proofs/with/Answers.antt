-- `with` meets its contract: the bit is or-ed in at a rank, and nothing changes elsewhere.
use mathlib.Core.Path.{sym}
use Rattle.word.proofs.Bitwise.{or_with}
use Rattle.word.proofs.Theorems.{with_no_rank}
use Rattle.word.proofs.with.Goals as goal

pub returns-then-rank-lt-RANKS : goal.returns-then-rank-lt-RANKS
returns-then-rank-lt-RANKS c = let a = c.args in or_with a.word a.rank c.if-rank-lt-RANKS.true

pub returns-else-rank-lt-RANKS : goal.returns-else-rank-lt-RANKS
returns-else-rank-lt-RANKS c = let a = c.args in sym (with_no_rank a.word a.rank c.if-rank-lt-RANKS.false)
