-- `some_turn` meets its contract: what was found before an entry, or will be from there on, is what there is.
use Rattle.std.proofs.Common.{◌≡◌, ◌-◌, ◌||◌}
use Rattle.config.specs.Value.{max_entries}
use Rattle.machine.specs.Cells.{some_turn}
use Rattle.cells.proofs.some_turn.Given as goal

abbrev pub invariant-loop-switch : goal.invariant-loop-switch
invariant-loop-switch l =
    l.found || some_turn (max_entries - l.switch-index) l.switch-index l.on ≡ some_turn max_entries 0 l.on
