-- `asked` meets its contract: each arm is the number of its field.
use native.Mathlib.Omega.{arith}
use Rattle.config.specs.declared.Field.TheVariants.{Kind, Priority, Autostart, Deadline, Users, Period, Entries, Offset, Task}
use Rattle.config_codec.proofs.NextNumber.{placed}
use Rattle.config_codec.proofs.value.asked.Goals as goal

pub bounds-c-i : goal.bounds-c-i
bounds-c-i c = let h = placed c.requires.config c.args.p c.requires.within Kind c.in-Kind.is in omega arith

pub bounds-c-i-in-Priority : goal.bounds-c-i-in-Priority
bounds-c-i-in-Priority c = let h = placed c.requires.config c.args.p c.requires.within Priority c.in-Priority.is in omega arith

pub bounds-c-i-in-Autostart : goal.bounds-c-i-in-Autostart
bounds-c-i-in-Autostart c = let h = placed c.requires.config c.args.p c.requires.within Autostart c.in-Autostart.is in omega arith

pub offset_bounds-c-i : goal.offset_bounds-c-i
offset_bounds-c-i c = let h = placed c.requires.config c.args.p c.requires.within Deadline c.in-Deadline.is in omega arith

pub bounds-c-i-in-Deadline : goal.bounds-c-i-in-Deadline
bounds-c-i-in-Deadline c = let h = placed c.requires.config c.args.p c.requires.within Deadline c.in-Deadline.is in omega arith

pub offset_bounds-c-i-in-Users : goal.offset_bounds-c-i-in-Users
offset_bounds-c-i-in-Users c = let h = placed c.requires.config c.args.p c.requires.within Users c.in-Users.is in omega arith

pub bounds-c-i-in-Users : goal.bounds-c-i-in-Users
bounds-c-i-in-Users c = let h = placed c.requires.config c.args.p c.requires.within Users c.in-Users.is in omega arith

pub offset_bounds-c-i-in-Period : goal.offset_bounds-c-i-in-Period
offset_bounds-c-i-in-Period c = let h = placed c.requires.config c.args.p c.requires.within Period c.in-Period.is in omega arith

pub bounds-c-i-in-Period : goal.bounds-c-i-in-Period
bounds-c-i-in-Period c = let h = placed c.requires.config c.args.p c.requires.within Period c.in-Period.is in omega arith

pub bounds-c-i-in-Entries : goal.bounds-c-i-in-Entries
bounds-c-i-in-Entries c = let h = placed c.requires.config c.args.p c.requires.within Entries c.in-Entries.is in omega arith

pub bounds-c-e : goal.bounds-c-e
bounds-c-e c = let h = placed c.requires.config c.args.p c.requires.within Offset c.in-Offset.is in omega arith

pub bounds-c-e-in-Task : goal.bounds-c-e-in-Task
bounds-c-e-in-Task c = let h = placed c.requires.config c.args.p c.requires.within Task c.in-Task.is in omega arith
