-- `hash` meets its contract: the hash of the bytes passed, gone on with those left, is that of all.
use Rattle.std.proofs.Common.{◌≡◌, ◌<◌, drop}
use Rattle.oil.specs.Hash.{prime, hashed}
use Rattle.oil.proofs.hashing.hash.Given as goal

abbrev pub invariant-loop-b : goal.invariant-loop-b
invariant-loop-b l = (l.h < prime) × (hashed l.key l.h (drop l.b-index l.name) ≡ hashed l.key 0 l.name)
