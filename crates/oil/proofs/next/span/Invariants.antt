-- `span` meets its contract: the run has come as far as the index.
use Rattle.std.proofs.Common.{◌≡◌, ◌+◌, drop}
use Rattle.oil_grammar.specs.Byte.{span}
use Rattle.oil.proofs.next.span.Given as goal

abbrev pub invariant-loop-i : goal.invariant-loop-i
invariant-loop-i g l = l.i + span g.class (drop l.i l.rest) ≡ 0 + span g.class (drop 0 l.rest)
