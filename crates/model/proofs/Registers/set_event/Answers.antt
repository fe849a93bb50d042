-- `set_event` meets its contract, case by case in the order of its checks. An extended task has a rank, so the rows
-- have an element for it.
use mathlib.Core.Path.{refl, sym, ◌∙◌}
use Rattle.word.proofs.Theorems.{has_lt}
use Rattle.model.specs.View.{put_event_bits, view_with}
use Rattle.model.proofs.Methods.Bits.{set_idle, set_none, set_basic, set_suspended, more_bits, set_done}
use Rattle.model.proofs.Registers.set_event.Goals as goal

pub returns-then-no_caller : goal.returns-then-no_caller
returns-then-no_caller c = let a = c.args in
    λ x. c.with_status.ensures (put_event_bits a.bits.now a.waited.now x)
    ∙ set_idle a.plan.now.isrs a.plan.now.extended a.plan.now.rank a.plan.now.priority
    (view_with a.self (put_event_bits a.bits.now a.waited.now x)) a.t a.mask
    c.no_caller.ensures c.if-no_caller.true

pub returns-then-no_task : goal.returns-then-no_task
returns-then-no_task c = let a = c.args in
    λ x. c.with_status-then-no_task.ensures (put_event_bits a.bits.now a.waited.now x)
    ∙ set_none a.plan.now.isrs a.plan.now.extended a.plan.now.rank a.plan.now.priority
    (view_with a.self (put_event_bits a.bits.now a.waited.now x)) a.t a.mask
    c.no_caller.ensures c.if-no_caller.false c.at-body.ensures c.no_task.ensures c.if-no_task.true

pub returns-then-not-has : goal.returns-then-not-has
returns-then-not-has c = let a = c.args in
    λ x. c.with_status-then-not-has.ensures (put_event_bits a.bits.now a.waited.now x)
    ∙ set_basic a.plan.now.isrs a.plan.now.extended a.plan.now.rank a.plan.now.priority
    (view_with a.self (put_event_bits a.bits.now a.waited.now x)) a.t a.mask
    c.no_caller.ensures c.if-no_caller.false c.at-body.ensures c.no_task.ensures c.if-no_task.false
    c.has.ensures c.if-not-has.true

pub returns-then-not-busy : goal.returns-then-not-busy
returns-then-not-busy c = let a = c.args in
    λ x. c.with_status-then-not-busy.ensures (put_event_bits a.bits.now a.waited.now x)
    ∙ set_suspended a.plan.now.isrs a.plan.now.extended a.plan.now.rank a.plan.now.priority
    (view_with a.self (put_event_bits a.bits.now a.waited.now x)) a.t a.mask
    c.no_caller.ensures c.if-no_caller.false c.at-body.ensures c.no_task.ensures c.if-no_task.false
    c.has.ensures c.if-not-has.false
    refl c.busy.ensures c.if-not-busy.true

pub bounds-bits-rank : goal.bounds-bits-rank
bounds-bits-rank c = let a = c.args in
    has_lt a.plan.now.extended c.at-body.result (sym c.has.ensures ∙ c.if-not-has.false)

pub bounds-bits-rank-2 : goal.bounds-bits-rank-2
bounds-bits-rank-2 c = let a = c.args in
    has_lt a.plan.now.extended c.at-body.result (sym c.has.ensures ∙ c.if-not-has.false)

pub bounds-waited-rank : goal.bounds-waited-rank
bounds-waited-rank c = let a = c.args in
    has_lt a.plan.now.extended c.at-body.result (sym c.has.ensures ∙ c.if-not-has.false)

pub returns : goal.returns
returns c = let a = c.args in
    λ x. c.settled.ensures _
    ∙ set_done a.plan.now.isrs a.plan.now.extended a.plan.now.rank a.plan.now.priority
    (view_with a.self (put_event_bits a.bits.now a.waited.now x)) a.t a.mask
    c.no_caller.ensures c.if-no_caller.false c.at-body.ensures c.no_task.ensures c.if-no_task.false
    c.has.ensures c.if-not-has.false
    refl c.busy.ensures c.if-not-busy.false
    c.bits_of.ensures (more_bits c.bits_of.result a.mask) refl c.without.ensures refl c.resumes-resumed.ensures
    (c.select_unpredictable.ensures ∙ rw c.with.ensures) (c.select_unpredictable-2.ensures ∙ rw c.without-2.ensures)
    (c.core.ensures x)
