-- `closing` meets its contract: no */ ends before `end`.
use Rattle.oil.proofs.Comment.{Unclosed}
use Rattle.oil.proofs.next.closing.Given as goal

abbrev pub invariant-loop-end : goal.invariant-loop-end
invariant-loop-end l = Unclosed l.rest l.end
