-- `get` meets its contract, case by case in the order of its checks.
use Prim.Native.Nat.{max}
use mathlib.Core.Path.{◌≡◌, ◌∙◌}
use native.Mathlib.Omega.{arith}
use Rattle.std.proofs.lemmas.Grind.{common_steps}
use Rattle.model.specs.View.{view_with}
use Rattle.model.proofs.Methods.Bodies.{get_idle, get_none, get_undeclared, get_held, get_done}
use Rattle.model.proofs.Registers.get.Goals as goal

pub returns-then-no_caller : goal.returns-then-no_caller
returns-then-no_caller c = let a = c.args in
    λ x. c.with_status.ensures x
    ∙ get_idle a.config.now.resources a.plan.now.users a.plan.now.ceiling (view_with a.self x) a.r
    c.no_caller.ensures c.if-no_caller.true

pub returns-then-config-r : goal.returns-then-config-r
returns-then-config-r c = let a = c.args in
    λ x. c.with_status-then-config-r.ensures x
    ∙ get_none a.config.now.resources a.plan.now.users a.plan.now.ceiling (view_with a.self x) a.r
    c.no_caller.ensures c.if-no_caller.false c.if-config-r.true

pub returns-then-not-has : goal.returns-then-not-has
returns-then-not-has c = let a = c.args in
    λ x. c.with_status-then-not-has.ensures x
    ∙ get_undeclared a.config.now.resources a.plan.now.users a.plan.now.ceiling (view_with a.self x) a.r
    c.no_caller.ensures c.if-no_caller.false c.if-config-r.false
    c.at.ensures c.has.ensures c.if-not-has.true

pub returns-then-has : goal.returns-then-has
returns-then-has c = let a = c.args in
    λ x. c.with_status-then-has.ensures x
    ∙ get_held a.config.now.resources a.plan.now.users a.plan.now.ceiling (view_with a.self x) a.r
    c.no_caller.ensures c.if-no_caller.false c.if-config-r.false
    c.at.ensures c.has.ensures c.if-not-has.false c.has-2.ensures c.if-has.true

pub returns : goal.returns
returns c = let a = c.args in
    let level : c.max.result ≡ max c.at-2.result a.self.level = grind (arith, common_steps) in
    λ x. c.with_status-2.ensures x
    ∙ get_done a.config.now.resources a.plan.now.users a.plan.now.ceiling (view_with a.self x) a.r
    c.no_caller.ensures c.if-no_caller.false c.if-config-r.false
    c.at.ensures c.has.ensures c.if-not-has.false c.has-2.ensures c.if-has.false
    c.at-2.ensures level c.with.ensures c.push-self.ensures c.push-self-2.ensures
    c.push-self-3.ensures
