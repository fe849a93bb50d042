-- `stop` meets its contract, case by case in the order of its checks.
use mathlib.Core.Path.{◌∙◌}
use Rattle.model.specs.View.{put_cells, view_with}
use Rattle.model.proofs.Methods.Tables.{stop_idle, stop_none, stop_stopped, stop_done}
use Rattle.model.proofs.Registers.stop.Goals as goal

pub returns-then-no_caller : goal.returns-then-no_caller
returns-then-no_caller c = let a = c.args in
    λ x. c.with_status.ensures (put_cells a.counter.now a.on.now x)
    ∙ stop_idle a.config.now.tables a.plan.now.first a.config.now.entries
    (view_with a.self (put_cells a.counter.now a.on.now x)) a.t
    c.no_caller.ensures c.if-no_caller.true

pub returns-then-config-t : goal.returns-then-config-t
returns-then-config-t c = let a = c.args in
    λ x. c.with_status-then-config-t.ensures (put_cells a.counter.now a.on.now x)
    ∙ stop_none a.config.now.tables a.plan.now.first a.config.now.entries
    (view_with a.self (put_cells a.counter.now a.on.now x)) a.t
    c.no_caller.ensures c.if-no_caller.false c.if-config-t.true

pub returns-then-not-is_on : goal.returns-then-not-is_on
returns-then-not-is_on c = let a = c.args in
    λ x. c.with_status-then-not-is_on.ensures (put_cells a.counter.now a.on.now x)
    ∙ stop_stopped a.config.now.tables a.plan.now.first a.config.now.entries
    (view_with a.self (put_cells a.counter.now a.on.now x)) a.t
    c.no_caller.ensures c.if-no_caller.false c.if-config-t.false c.at-from.ensures c.is_on.ensures
    c.if-not-is_on.true

pub returns : goal.returns
returns c = let a = c.args in
    λ x. c.with_status-2.ensures _
    ∙ stop_done a.config.now.tables a.plan.now.first a.config.now.entries
    (view_with a.self (put_cells a.counter.now a.on.now x)) a.t
    c.no_caller.ensures c.if-no_caller.false c.if-config-t.false c.at-from.ensures c.is_on.ensures
    c.if-not-is_on.false
    c.at-count.ensures c.fill.ensures c.fill-2.ensures
