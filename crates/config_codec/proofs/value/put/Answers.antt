-- `put` meets its contract: each arm tests by its field's `fault`, and stores by its `put`.
use Prim.Native.Nat.{ℕ}
use mathlib.Core.Path.{◌≡◌, ap, ◌∙◌}
use native.Mathlib.Omega.{arith}
use Rattle.std.proofs.lemmas.Result.{err_from_is_err_and}
use Rattle.config.specs.declared.Field.TheVariants.{Kind, Priority, Autostart, Deadline, Users, Period, Entries, Offset, Task}
use Rattle.config.specs.Draft.{fault_at}
use Rattle.config_codec.specs.declared.entry.Entry.{Entry}
use Rattle.config_codec.specs.declared.position.Position.{Position}
use Rattle.config_codec.specs.Entry.{bodies_of, entry_at, entry_fault}
use Rattle.config_codec.specs.Position.{draft_at}
use Rattle.config.specs.declared.Config.{Config}
use Rattle.config_codec.proofs.EntryTests.{entry_same}
use Rattle.config_codec.proofs.NextNumber.{placed}
use Rattle.config_codec.proofs.value.put.Goals as goal

-- the refusal of an entry is that of its task
task : (c : Config) (p : Position) (v : ℕ) {x : Entry} {r : ℕ} → x ≡ entry_at v p c.entries c.offset c.task
    → r ≡ entry_fault (bodies_of c.bodies c.kind) c.task x → r ≡ fault_at Task (draft_at c p) v
task c p v is e = e ∙ ap (entry_fault (bodies_of c.bodies c.kind) c.task) is ∙ entry_same c p v

pub bounds-c-i : goal.bounds-c-i
bounds-c-i c = placed c.args.c.now c.args.p c.requires Kind c.in-Kind.is

pub bounds-c-i-in-Priority : goal.bounds-c-i-in-Priority
bounds-c-i-in-Priority c = placed c.args.c.now c.args.p c.requires Priority c.in-Priority.is

pub bounds-c-i-in-Autostart : goal.bounds-c-i-in-Autostart
bounds-c-i-in-Autostart c = placed c.args.c.now c.args.p c.requires Autostart c.in-Autostart.is

pub bounds-c-i-in-Autostart-2 : goal.bounds-c-i-in-Autostart-2
bounds-c-i-in-Autostart-2 c = placed c.args.c.now c.args.p c.requires Autostart c.in-Autostart.is

pub bounds-c-i-in-Deadline : goal.bounds-c-i-in-Deadline
bounds-c-i-in-Deadline c = placed c.args.c.now c.args.p c.requires Deadline c.in-Deadline.is

pub bounds-c-i-in-Deadline-2 : goal.bounds-c-i-in-Deadline-2
bounds-c-i-in-Deadline-2 c = placed c.args.c.now c.args.p c.requires Deadline c.in-Deadline.is

pub bounds-c-i-in-Users : goal.bounds-c-i-in-Users
bounds-c-i-in-Users c = placed c.args.c.now c.args.p c.requires Users c.in-Users.is

pub bounds-c-i-in-Period : goal.bounds-c-i-in-Period
bounds-c-i-in-Period c = placed c.args.c.now c.args.p c.requires Period c.in-Period.is

pub bounds-c-i-in-Entries : goal.bounds-c-i-in-Entries
bounds-c-i-in-Entries c = placed c.args.c.now c.args.p c.requires Entries c.in-Entries.is

pub bounds-c-i-in-Offset : goal.bounds-c-i-in-Offset
bounds-c-i-in-Offset c = (placed c.args.c.now c.args.p c.requires Offset c.in-Offset.is).0

pub bounds-c-e : goal.bounds-c-e
bounds-c-e c = (placed c.args.c.now c.args.p c.requires Offset c.in-Offset.is).1

pub bounds-c-e-in-Task : goal.bounds-c-e-in-Task
bounds-c-e-in-Task c = (placed c.args.c.now c.args.p c.requires Task c.in-Task.is).1

pub offset_bounds-c-i : goal.offset_bounds-c-i
offset_bounds-c-i c = let h = placed c.args.c.now c.args.p c.requires Deadline c.in-Deadline.is in omega arith

pub offset_bounds-c-i-in-Users : goal.offset_bounds-c-i-in-Users
offset_bounds-c-i-in-Users c = let h = placed c.args.c.now c.args.p c.requires Users c.in-Users.is in omega arith

pub offset_bounds-c-i-in-Period : goal.offset_bounds-c-i-in-Period
offset_bounds-c-i-in-Period c = let h = placed c.args.c.now c.args.p c.requires Period c.in-Period.is in omega arith

pub offset_bounds-c-i-in-Offset : goal.offset_bounds-c-i-in-Offset
offset_bounds-c-i-in-Offset c = let h = placed c.args.c.now c.args.p c.requires Offset c.in-Offset.is in omega arith

pub check_priority-requires : goal.check_priority-requires
check_priority-requires c = let h = placed c.args.c.now c.args.p c.requires Priority c.in-Priority.is in omega arith

pub entry_at-x-requires : goal.entry_at-x-requires
entry_at-x-requires c = placed c.args.c.now c.args.p c.requires Task c.in-Task.is

pub returns-in_err-check_entry-in-Task-clause-refusal : goal.returns-in_err-check_entry-in-Task-clause-refusal
unfolding fault_at
returns-in_err-check_entry-in-Task-clause-refusal c = let k = err_from_is_err_and c.from_residual-in_err-check_entry-in-Task.result c.from_residual-in_err-check_entry-in-Task.ensures.1 in
    rw (k.1, k.2, c.in-Task.is) (task c.args.c.now c.args.p c.args.v c.entry_at-x.ensures c.in_err-check_entry-in-Task.ensures.refusal)

pub returns-in_ok-check_entry-in-Task-clause-refusal : goal.returns-in_ok-check_entry-in-Task-clause-refusal
unfolding fault_at
returns-in_ok-check_entry-in-Task-clause-refusal c = rw c.in-Task.is (task c.args.c.now c.args.p c.args.v c.entry_at-x.ensures c.in_ok-check_entry-in-Task.ensures.refusal)
