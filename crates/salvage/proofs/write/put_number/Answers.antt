-- `put_number` meets its contract: the list is lent from the place on, and the number fits.
use Prim.Native.Nat.{ℕ, ◌+◌}
use mathlib.Core.Path.{refl, ap}
use native.Mathlib.Omega.{arith}
use Rattle.number.specs.Number.{number_bytes}
use Rattle.number.proofs.Laying.{laid_part}
use Rattle.event_codec.proofs.Parts.{part_fits, part_length}
use Rattle.salvage.proofs.write.put_number.Goals as goal

pub unwrap-requires : goal.unwrap-requires
unwrap-requires c = let a = c.args in
    rw (part_fits a.at (number_bytes a.value) a.list.now c.write_number.result c.requires c.write_number.ensures.result) refl

pub overflow_add-result : goal.overflow_add-result
overflow_add-result c = let a = c.args in
    omega (
      arith,
      c.requires,
      part_length a.at (number_bytes a.value) a.list.now c.write_number.result c.unwrap.result c.requires
          c.write_number.ensures.result c.unwrap.ensures,
    )

pub returns-clause-result : goal.returns-clause-result
returns-clause-result c = let a = c.args in
    ap (λ (n : ℕ). a.at + n)
    (part_length a.at (number_bytes a.value) a.list.now c.write_number.result c.unwrap.result c.requires
    c.write_number.ensures.result c.unwrap.ensures)

pub returns-clause-output : goal.returns-clause-output
returns-clause-output c = let a = c.args in
    rw c.write_number.ensures.output (laid_part a.at (number_bytes a.value) a.list.now c.requires)
