-- `read_number` meets its contract: a number of one byte is the law `read_single`, and any other is read group by
-- group.
use mathlib.Core.Path.{sym}
use native.Mathlib.Omega.{arith}
use Rattle.number.specs.Number.{read_number}
use Rattle.number.proofs.Theorems.{read_single}
use Rattle.number_codec.proofs.read_number.Goals as goal

pub returns-then-bytes-at-lt128 : goal.returns-then-bytes-at-lt128
returns-then-bytes-at-lt128 c = let a = c.args in
    sym (read_single a.bytes.now a.at (omega arith) (omega arith))

pub returns : goal.returns
unfolding read_number
returns c = c.read_groups.ensures
