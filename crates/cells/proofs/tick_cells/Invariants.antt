-- `tick_cells` meets its contract: the invariant is `Ticking`, and beside it what is left to do of the switches.
use Rattle.std.proofs.Common.{◌≡◌, ◌-◌, cond}
use Rattle.config.specs.Value.{max_entries}
use Rattle.machine.specs.Cells.{switches_ticked}
use Rattle.cells.proofs.Cells.{Ticking}
use Rattle.cells.proofs.tick_cells.Given as goal

abbrev pub invariant-loop-e : goal.invariant-loop-e
invariant-loop-e l = Ticking l.turning l.compare l.initial.on l.initial.counter l.on l.counter l.matched l.e
    × (cond l.turning (switches_ticked (max_entries - l.e) l.e l.compare l.counter l.on) l.on
    ≡ cond l.turning (switches_ticked max_entries 0 l.compare l.initial.counter l.initial.on) l.initial.on)
