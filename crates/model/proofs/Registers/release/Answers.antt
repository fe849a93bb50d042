-- `release` meets its contract, case by case in the order of its checks.
use mathlib.Core.Path.{◌∙◌}
use Rattle.model.specs.View.{view_with}
use Rattle.model.proofs.Methods.Bodies.{release_idle, release_none, release_other, release_done}
use Rattle.model.proofs.Registers.release.Goals as goal

pub returns-then-no_caller : goal.returns-then-no_caller
returns-then-no_caller c = let a = c.args in
    λ x. c.with_status.ensures x
    ∙ release_idle a.config.now.resources a.plan.now.priority (view_with a.self x) a.r c.no_caller.ensures
    c.if-no_caller.true

pub returns-then-config-r : goal.returns-then-config-r
returns-then-config-r c = let a = c.args in
    λ x. c.with_status-then-config-r.ensures x
    ∙ release_none a.config.now.resources a.plan.now.priority (view_with a.self x) a.r c.no_caller.ensures
    c.if-no_caller.false c.if-config-r.true

pub returns-then-not-is_latest : goal.returns-then-not-is_latest
returns-then-not-is_latest c = let a = c.args in
    λ x. c.with_status-then-not-is_latest.ensures x
    ∙ release_other a.config.now.resources a.plan.now.priority (view_with a.self x) a.r c.no_caller.ensures
    c.if-no_caller.false c.if-config-r.false c.is_latest.ensures c.if-not-is_latest.true

pub returns : goal.returns
returns c = let a = c.args in
    λ x. c.settled.ensures x
    ∙ release_done a.config.now.resources a.plan.now.priority (view_with a.self x) a.r c.no_caller.ensures
    c.if-no_caller.false c.if-config-r.false c.is_latest.ensures c.if-not-is_latest.false
    c.level_without.ensures c.without.ensures c.pop-self.ensures c.pop-self-2.ensures c.pop-self-3.ensures
    (c.core.ensures x)
