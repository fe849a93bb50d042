-- `hash` meets its contract: the bytes passed and those left make the hash.
use Rattle.std.proofs.Common.{◌∙◌, arith}
use native.Mathlib.Nat.{mod-lt}
use Rattle.oil.proofs.Hash.{hash_step, hash_done}
use Rattle.oil.proofs.hashing.hash.Goals as goal

pub loop-b-preserved : goal.loop-b-preserved
loop-b-preserved c = let a = c.args in
    let l = c.loop-b in (
      rw c.hash_after-h.ensures (mod-lt _ (omega arith)),
      hash_step a.name.now a.key l.b-index l.h c.loop-b-test.true c.hash_after-h.ensures ∙ l.invariant.1,
    )

pub returns : goal.returns
returns c = let a = c.args in
    let l = c.loop-b in
    (hash_done a.name.now a.key l.b-index l.h c.loop-b-test.false ∙ l.invariant.1, l.invariant.0)
