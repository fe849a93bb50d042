-- `without` meets its contract: the bit is masked out at a rank, and nothing changes elsewhere.
use mathlib.Core.Path.{sym}
use native.Mathlib.Omega.{arith}
use Rattle.word.proofs.Bitwise.{and_without}
use Rattle.word.proofs.Theorems.{without_no_rank}
use Rattle.word.proofs.without.Goals as goal

pub returns-then-rank-lt-RANKS : goal.returns-then-rank-lt-RANKS
returns-then-rank-lt-RANKS c = let a = c.args in and_without a.word a.rank c.if-rank-lt-RANKS.true (omega arith)

pub returns-else-rank-lt-RANKS : goal.returns-else-rank-lt-RANKS
returns-else-rank-lt-RANKS c = let a = c.args in sym (without_no_rank a.word a.rank c.if-rank-lt-RANKS.false)
