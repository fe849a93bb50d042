-- `number_length` meets its contract: each limit is a power of 128, at which one group more is needed.
use Prim.Native.Nat.{◌/◌}
use native.Mathlib.Omega.{arith}
use borrow.Author.Tests.{lt-ltb, le-ltb}
use Rattle.number.specs.Number.{number_bytes, group_bytes}
use Rattle.number_codec.proofs.number_length.Goals as goal

pub returns-then-value-lt128 : goal.returns-then-value-lt128
unfolding number_bytes group_bytes
returns-then-value-lt128 c = simp (lt-ltb c.args.value 128 (omega arith))

pub returns-then-value-lt16384 : goal.returns-then-value-lt16384
unfolding number_bytes group_bytes
returns-then-value-lt16384 c = simp (
  le-ltb c.args.value 128 (omega arith),
  lt-ltb (c.args.value / 128) 128 (omega arith),
)

pub returns-then-value-lt2097152 : goal.returns-then-value-lt2097152
unfolding number_bytes group_bytes
returns-then-value-lt2097152 c = simp (
  le-ltb c.args.value 128 (omega arith),
  le-ltb (c.args.value / 128) 128 (omega arith),
  lt-ltb ((c.args.value / 128) / 128) 128 (omega arith),
)

pub returns-then-value-lt268435456 : goal.returns-then-value-lt268435456
unfolding number_bytes group_bytes
returns-then-value-lt268435456 c = simp (
  le-ltb c.args.value 128 (omega arith),
  le-ltb (c.args.value / 128) 128 (omega arith),
  le-ltb ((c.args.value / 128) / 128) 128 (omega arith),
  lt-ltb (((c.args.value / 128) / 128) / 128) 128 (omega arith),
)

pub returns-else-value-lt268435456 : goal.returns-else-value-lt268435456
unfolding number_bytes group_bytes
returns-else-value-lt268435456 c = simp (
  le-ltb c.args.value 128 (omega arith),
  le-ltb (c.args.value / 128) 128 (omega arith),
  le-ltb ((c.args.value / 128) / 128) 128 (omega arith),
  le-ltb (((c.args.value / 128) / 128) / 128) 128 (omega arith),
)
