-- `activate` meets its contract, case by case in the order of its checks.
use mathlib.Core.Path.{refl, ◌∙◌}
use Rattle.model.specs.View.{view_with}
use Rattle.model.proofs.Methods.Core.{asked}
use Rattle.model.proofs.Methods.Bodies.{activate_idle, activate_none, activate_busy, activate_done}
use Rattle.model.proofs.Registers.activate.Goals as goal

pub returns-then-no_caller : goal.returns-then-no_caller
returns-then-no_caller c = let a = c.args in
    λ x. c.with_status.ensures x
    ∙ activate_idle a.plan.now.callable a.plan.now.priority (view_with a.self x) a.t
    c.no_caller.ensures c.if-no_caller.true

pub returns-then-rank : goal.returns-then-rank
returns-then-rank c = let a = c.args in
    λ x. c.with_status-then-rank.ensures x
    ∙ activate_none a.plan.now.callable a.plan.now.priority (view_with a.self x) a.t
    c.no_caller.ensures c.if-no_caller.false c.at-rank.ensures c.if-rank.true

pub returns-then-busy : goal.returns-then-busy
returns-then-busy c = let a = c.args in
    λ x. c.with_status-then-busy.ensures x
    ∙ activate_busy a.plan.now.callable a.plan.now.priority (view_with a.self x) a.t
    c.no_caller.ensures c.if-no_caller.false c.at-rank.ensures c.if-rank.false
    refl c.busy.ensures c.if-busy.true

pub returns : goal.returns
returns c = let a = c.args in
    λ x. c.settled.ensures x
    ∙ asked a.plan.now.priority (view_with a.self x) (c.core.ensures x) c.with.result
    ∙ activate_done a.plan.now.callable a.plan.now.priority (view_with a.self x) a.t
    c.no_caller.ensures c.if-no_caller.false c.at-rank.ensures c.if-rank.false
    refl c.busy.ensures c.if-busy.false c.with.ensures
