-- `write_number` meets its contract: it tests the length, and then writes the groups.
use mathlib.Core.Path.{sym}
use native.Mathlib.Omega.{arith}
use lib.ListN.{length}
use Rattle.number.specs.Number.{number_bytes}
use Rattle.number.proofs.Theorems.{writing_fits, writing_no_room, written_no_room}
use Rattle.number_codec.proofs.write_number.Goals as goal

pub returns-then-out-n : goal.returns-then-out-n
returns-then-out-n c = let a = c.args in record {
  result = writing_no_room (number_bytes a.value) (length a.out.now) c.number_length-n.result
      c.number_length-n.ensures (omega arith);
  output = sym (written_no_room (number_bytes a.value) a.out.now (omega arith));
}

pub returns : goal.returns
returns c = let a = c.args in
    let n = c.number_length-n in record {
      result = writing_fits (number_bytes a.value) (length a.out.now) n.result n.ensures (omega arith);
      output = c.write_groups.ensures;
    }
