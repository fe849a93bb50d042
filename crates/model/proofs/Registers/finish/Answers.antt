-- `finish` meets its contract, case by case in the order of its checks.
use mathlib.Core.Path.{◌∙◌}
use Rattle.model.specs.View.{view_with}
use Rattle.model.proofs.Methods.Bodies.{finish_idle, finish_holding, finish_timed_lem, finish_done}
use Rattle.model.proofs.Registers.finish.Goals as goal

pub returns-then-self-eq-NO_RANK : goal.returns-then-self-eq-NO_RANK
returns-then-self-eq-NO_RANK c = let a = c.args in
    λ x. c.with_status.ensures x
    ∙ finish_idle a.plan.now.priority (view_with a.self x) c.if-self-eq-NO_RANK.true

pub returns-then-top-self : goal.returns-then-top-self
returns-then-top-self c = let a = c.args in
    λ x. c.with_status-then-top-self.ensures x
    ∙ finish_holding a.plan.now.priority (view_with a.self x) c.if-self-eq-NO_RANK.false c.top.ensures c.if-top-self.true

pub returns-then-self-eq-EXECUTION_LEVEL : goal.returns-then-self-eq-EXECUTION_LEVEL
returns-then-self-eq-EXECUTION_LEVEL c = let a = c.args in
    λ x. c.returned.ensures x
    ∙ finish_timed_lem a.plan.now.priority (view_with a.self x) c.if-self-eq-NO_RANK.false c.top.ensures c.if-top-self.false
    c.if-self-eq-EXECUTION_LEVEL.true

pub returns : goal.returns
returns c = let a = c.args in
    λ x. c.ended.ensures x
    ∙ finish_done a.plan.now.priority (view_with a.self x) c.if-self-eq-NO_RANK.false c.top.ensures c.if-top-self.false
    c.if-self-eq-EXECUTION_LEVEL.false
