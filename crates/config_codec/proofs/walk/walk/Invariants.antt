-- `walk` meets its contract: the loop keeps `WalksOn`.
use Rattle.config.proofs.Position.{left}
use Rattle.config_codec.specs.Position.{draft_at}
use Rattle.config_codec.proofs.Step.{WalksOn}
use Rattle.config_codec.proofs.walk.walk.Given as goal

abbrev pub invariant-loop-p : goal.invariant-loop-p
invariant-loop-p g l = WalksOn (g.N.Numbers.number l.numbers) l.c l.p l.at

abbrev pub decreases-loop-p : goal.decreases-loop-p
decreases-loop-p g l = left (draft_at l.c l.p)
