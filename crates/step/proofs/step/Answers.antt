-- `step` meets its contract, arm by arm.
use mathlib.Core.Path.{◌∙◌}
use Rattle.model.specs.View.{view}
use Rattle.step.proofs.Codes as Codes
use Rattle.step.proofs.step.Goals as goal

pub returns-in-1 : goal.returns-in-1
returns-in-1 c = let a = c.args in
    c.activate.ensures ∙ Codes.activate_step a.config.now a.plan.now (view a.model) a.event c.in-1.is

pub returns-in-2 : goal.returns-in-2
returns-in-2 c = let a = c.args in
    c.finish.ensures ∙ Codes.finish_step a.config.now a.plan.now (view a.model) a.event c.in-2.is

pub returns-in-3 : goal.returns-in-3
returns-in-3 c = let a = c.args in
    c.chain.ensures ∙ Codes.chain_step a.config.now a.plan.now (view a.model) a.event c.in-3.is

pub returns-in-4 : goal.returns-in-4
returns-in-4 c = let a = c.args in
    c.get.ensures ∙ Codes.get_step a.config.now a.plan.now (view a.model) a.event c.in-4.is

pub returns-in-5 : goal.returns-in-5
returns-in-5 c = let a = c.args in
    c.release.ensures ∙ Codes.release_step a.config.now a.plan.now (view a.model) a.event c.in-5.is

pub returns-in-6 : goal.returns-in-6
returns-in-6 c = let a = c.args in
    c.tick.ensures ∙ Codes.tick_step a.config.now a.plan.now (view a.model) a.event c.in-6.is

pub returns-in-7 : goal.returns-in-7
returns-in-7 c = let a = c.args in
    c.line.ensures ∙ Codes.line_step a.config.now a.plan.now (view a.model) a.event c.in-7.is

pub returns-in-8 : goal.returns-in-8
returns-in-8 c = let a = c.args in
    c.start.ensures ∙ Codes.start_step a.config.now a.plan.now (view a.model) a.event c.in-8.is

pub returns-in-9 : goal.returns-in-9
returns-in-9 c = let a = c.args in
    c.stop.ensures ∙ Codes.stop_step a.config.now a.plan.now (view a.model) a.event c.in-9.is

pub returns-in-10 : goal.returns-in-10
returns-in-10 c = let a = c.args in
    c.wait.ensures ∙ Codes.wait_step a.config.now a.plan.now (view a.model) a.event c.in-10.is

pub returns-in-11 : goal.returns-in-11
returns-in-11 c = let a = c.args in
    c.set_event.ensures ∙ Codes.set_step a.config.now a.plan.now (view a.model) a.event c.in-11.is

pub returns-in_default : goal.returns-in_default
returns-in_default c = let a = c.args in let r = c.in_default.in_default-own.rest in
    c.clear.ensures ∙ Codes.clear_step a.config.now a.plan.now (view a.model) a.event
    r.0.0.0.0.0.0.0.0.0.0.1 r.0.0.0.0.0.0.0.0.0.1 r.0.0.0.0.0.0.0.0.1 r.0.0.0.0.0.0.0.1 r.0.0.0.0.0.0.1 r.0.0.0.0.0.1 r.0.0.0.0.1 r.0.0.0.1 r.0.0.1 r.0.1 r.1
