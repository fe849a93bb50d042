-- `tick` meets its contract: the cells with their matches, then arbitration.
use mathlib.Core.Path.{◌∙◌}
use Rattle.model.specs.View.{put_cells, put_losses, view_with}
use Rattle.model.proofs.Methods.Tables.{tick_done}
use Rattle.model.proofs.Registers.tick.Goals as goal

pub returns : goal.returns
returns c = let t = c.tick_entries-ticked.ensures in let a = c.args in
    λ x. c.triggering.ensures _
    ∙ tick_done a.plan.now.compare a.plan.now.entry a.plan.now.priority
    (view_with a.self (put_cells a.counter.now a.on.now (put_losses a.losses.now x)))
    c.begun.ensures t.losses_after t.counter_after t.on_after t.turning_value
