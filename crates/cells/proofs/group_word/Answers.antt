-- `group_word` meets its contract: the number of the bytes is the group's.
use Rattle.std.proofs.Common.{◌∙◌, arith}
use Rattle.cells.proofs.Marks.{word_sum}
use Rattle.cells.proofs.group_word.Goals as goal

pub returns : goal.returns
returns c = c.from_le_bytes.ensures ∙ omega (arith, word_sum c.args.matched.now c.args.e)
