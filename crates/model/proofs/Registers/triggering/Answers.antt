-- `triggering` meets its contract: arbitration with the requests that it is given, by which a time-triggered task may
-- start.
use mathlib.Core.Path.{ap, ◌∙◌}
use Rattle.machine.specs.Model.{Core, with_core, with_request}
use Rattle.machine.specs.Arbiter.{arbitrated}
use Rattle.model.specs.View.{view_with}
use Rattle.model.proofs.Methods.Core.{triggering_launched, triggering_settled}
use Rattle.model.proofs.Registers.triggering.Goals as goal

pub returns-then-is_triggered : goal.returns-then-is_triggered
returns-then-is_triggered c = let a = c.args in
    λ x. c.launched.ensures x
    ∙ triggering_launched a.plan.now.priority
    (with_core (view_with a.self x) (with_request (view_with a.self x).core a.request))
    (c.arbitrated-picked.ensures
    ∙ ap (λ (k : Core). arbitrated a.plan.now.priority (with_request k a.request)) (c.core.ensures x)) c.is_triggered.ensures c.if-is_triggered.true

pub returns : goal.returns
returns c = let a = c.args in
    λ x. c.seated.ensures x
    ∙ triggering_settled a.plan.now.priority
    (with_core (view_with a.self x) (with_request (view_with a.self x).core a.request))
    (c.arbitrated-picked.ensures
    ∙ ap (λ (k : Core). arbitrated a.plan.now.priority (with_request k a.request)) (c.core.ensures x)) c.is_triggered.ensures c.if-is_triggered.false
