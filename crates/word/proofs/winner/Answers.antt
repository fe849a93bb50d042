-- `winner` meets its contract: the leading zeros, the winner's bit and the bits below it are all there is.
use mathlib.Core.Path.{sym, ap, ◌∙◌}
use native.Mathlib.Omega.{arith}
use Rattle.word.specs.Word.{winner}
use Rattle.word.proofs.Highest.{winner_leading}
use Rattle.word.proofs.Theorems.{winner_empty}
use Rattle.word.proofs.winner.Goals as goal

pub overflow_sub-result-else-word-eq0 : goal.overflow_sub-result-else-word-eq0
overflow_sub-result-else-word-eq0 c = omega (arith, winner_leading c.args.word (omega arith) (omega arith))

pub returns-then-word-eq0 : goal.returns-then-word-eq0
returns-then-word-eq0 c = sym (ap winner c.if-word-eq0.true ∙ winner_empty)

pub returns-else-word-eq0 : goal.returns-else-word-eq0
returns-else-word-eq0 c = omega (arith, winner_leading c.args.word (omega arith) (omega arith))
