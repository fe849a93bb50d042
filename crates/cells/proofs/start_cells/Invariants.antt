-- `start_cells` meets its contract: what is left to do at entry e is what the definitions do from there on.
use Rattle.std.proofs.Common.{◌≡◌, ◌-◌, ◌||◌}
use Rattle.machine.specs.Cells.{counters_started, switches_started, some_long, in_row}
use Rattle.cells.proofs.start_cells.Given as goal

abbrev pub invariant-loop-e : goal.invariant-loop-e
invariant-loop-e l =
    (l.some || some_long (l.until - l.e) l.e l.delay l.offset ≡ l.turning || some_long (in_row l.count l.from) l.from l.delay l.offset)
    × (counters_started (l.until - l.e) l.e l.period l.delay l.offset l.counter
    ≡ counters_started (in_row l.count l.from) l.from l.period l.delay l.offset l.initial.counter)
    × (switches_started (l.until - l.e) l.e l.delay l.offset l.on ≡ switches_started (in_row l.count l.from) l.from l.delay l.offset l.initial.on)
