-- `fresh` meets its contract: arbitration of the core in which the autostart tasks are ready.
use mathlib.Core.Path.{ap, ◌∙◌}
use Rattle.machine.specs.Model.{Outcome, with_core, with_request}
use Rattle.machine.specs.Arbiter.{settled}
use Rattle.model.specs.declared.Model.{Model}
use Rattle.model.specs.View.{arrays_of, view, model_of}
use Rattle.model.proofs.Methods.Core.{asked}
use Rattle.model.proofs.Model.fresh.Goals as goal

pub returns : goal.returns
returns c = let p = c.args.plan.now in let m = c.idle-idle.result in
    ap (λ (o : Outcome). model_of o.model)
    (c.settled-step.ensures (arrays_of m)
    ∙ asked p.priority (view m) (c.core.ensures (arrays_of m)) p.autostart
    ∙ ap (λ (i : Model). settled p.priority (with_core (view i) (with_request (view i).core p.autostart)))
    c.idle-idle.ensures)
