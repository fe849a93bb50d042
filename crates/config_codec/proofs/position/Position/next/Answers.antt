-- `next` meets its contract: each arm is the position of its field's `put`.
use native.Mathlib.Omega.{arith}
use Rattle.config.specs.declared.Field.TheVariants.{Deadline, Users, Task}
use Rattle.config_codec.proofs.NextNumber.{placed}
use Rattle.config_codec.proofs.position.Position.next.Goals as goal

pub overflow_add-i : goal.overflow_add-i
overflow_add-i c = let h = placed c.requires.config c.args.self c.requires.within Deadline c.in-Deadline.is in omega arith

pub overflow_add-i-in-Users : goal.overflow_add-i-in-Users
overflow_add-i-in-Users c = let h = placed c.requires.config c.args.self c.requires.within Users c.in-Users.is in omega arith

pub after_entry-requires : goal.after_entry-requires
after_entry-requires c = placed c.requires.config c.args.self c.requires.within Task c.in-Task.is
