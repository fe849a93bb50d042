-- The measure of `read_all`: how many bytes are left.
use Rattle.std.proofs.Common.{◌-◌, length}
use Rattle.event_vectors.proofs.read_all.Given as goal

abbrev pub decreases-loop-at : goal.decreases-loop-at
decreases-loop-at g l = length l.trace - l.at
