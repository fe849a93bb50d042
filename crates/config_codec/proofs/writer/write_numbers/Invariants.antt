-- `write_numbers` meets its contract: the loop keeps `WritesOn`. The measure is the numbers left.
use Rattle.config.proofs.Position.{left}
use Rattle.config_codec.specs.Position.{draft_at}
use Rattle.config_codec.proofs.Writing.{WritesOn}
use Rattle.config_codec.proofs.writer.write_numbers.Given as goal

abbrev pub invariant-loop-c : goal.invariant-loop-c
invariant-loop-c l = WritesOn l.c l.initial.out l.p l.at l.out

abbrev pub decreases-loop-c : goal.decreases-loop-c
decreases-loop-c l = left (draft_at l.c l.p)
