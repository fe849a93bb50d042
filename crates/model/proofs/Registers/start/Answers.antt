-- `start` meets its contract, case by case in the order of its checks.
use mathlib.Core.Path.{sym, ◌∙◌}
use native.Mathlib.Omega.{arith}
use Rattle.model.specs.View.{put_cells, view_with}
use Rattle.model.proofs.Methods.Tables.{short_sum, start_idle, start_none, start_bad, start_runs, start_done}
use Rattle.model.proofs.Registers.start.Goals as goal

pub returns-then-no_caller : goal.returns-then-no_caller
returns-then-no_caller c = let a = c.args in
    λ x. c.with_status.ensures (put_cells a.counter.now a.on.now x)
    ∙ start_idle a.config.now.tables a.plan.now.first a.config.now.entries a.config.now.period a.config.now.offset
    (view_with a.self (put_cells a.counter.now a.on.now x)) a.t a.d
    c.no_caller.ensures c.if-no_caller.true

pub returns-then-config-t : goal.returns-then-config-t
returns-then-config-t c = let a = c.args in
    λ x. c.with_status-then-config-t.ensures (put_cells a.counter.now a.on.now x)
    ∙ start_none a.config.now.tables a.plan.now.first a.config.now.entries a.config.now.period a.config.now.offset
    (view_with a.self (put_cells a.counter.now a.on.now x)) a.t a.d
    c.no_caller.ensures c.if-no_caller.false c.if-config-t.true

pub returns-then-is_bad_delay : goal.returns-then-is_bad_delay
returns-then-is_bad_delay c = let a = c.args in
    λ x. c.with_status-then-is_bad_delay.ensures (put_cells a.counter.now a.on.now x)
    ∙ start_bad a.config.now.tables a.plan.now.first a.config.now.entries a.config.now.period a.config.now.offset
    (view_with a.self (put_cells a.counter.now a.on.now x)) a.t a.d
    c.no_caller.ensures c.if-no_caller.false c.if-config-t.false c.at-from.ensures c.at.ensures
    c.is_bad_delay.ensures c.if-is_bad_delay.true

pub returns-then-is_on : goal.returns-then-is_on
returns-then-is_on c = let a = c.args in
    λ x. c.with_status-then-is_on.ensures (put_cells a.counter.now a.on.now x)
    ∙ start_runs a.config.now.tables a.plan.now.first a.config.now.entries a.config.now.period a.config.now.offset
    (view_with a.self (put_cells a.counter.now a.on.now x)) a.t a.d
    c.no_caller.ensures c.if-no_caller.false c.if-config-t.false c.at-from.ensures c.at.ensures
    c.is_bad_delay.ensures c.if-is_bad_delay.false
    c.is_on.ensures c.if-is_on.true

pub overflow_cast-d : goal.overflow_cast-d
overflow_cast-d c = let a = c.args in
    omega (arith, short_sum a.d c.at.result (sym c.is_bad_delay.ensures ∙ c.if-is_bad_delay.false))

pub returns : goal.returns
returns c = let a = c.args in
    λ x. c.with_status-2.ensures _
    ∙ start_done a.config.now.tables a.plan.now.first a.config.now.entries a.config.now.period a.config.now.offset
    (view_with a.self (put_cells a.counter.now a.on.now x)) a.t a.d
    c.no_caller.ensures c.if-no_caller.false c.if-config-t.false c.at-from.ensures c.at.ensures
    c.is_bad_delay.ensures c.if-is_bad_delay.false
    c.is_on.ensures c.if-is_on.false c.at-2.ensures c.at-3.ensures
    c.start_cells.ensures.value c.start_cells.ensures.counter_after c.start_cells.ensures.on_after
