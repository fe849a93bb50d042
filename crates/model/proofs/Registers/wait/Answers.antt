-- `wait` meets its contract, case by case in the order of its checks. An extended task has a rank, so the row of
-- masks has an element for it.
use mathlib.Core.Path.{refl, sym, ◌∙◌}
use Rattle.word.proofs.Theorems.{has_lt}
use Rattle.model.specs.View.{put_event_bits, view_with}
use Rattle.model.proofs.Methods.Bits.{wait_idle, wait_basic, wait_holding, wait_on, wait_pauses}
use Rattle.model.proofs.Registers.wait.Goals as goal

pub returns-then-no_caller : goal.returns-then-no_caller
returns-then-no_caller c = let a = c.args in
    λ x. c.with_status.ensures (put_event_bits a.bits.now a.waited.now x)
    ∙ wait_idle a.plan.now.extended a.plan.now.priority (view_with a.self (put_event_bits a.bits.now a.waited.now x))
    a.mask c.no_caller.ensures c.if-no_caller.true

pub returns-then-not-has : goal.returns-then-not-has
returns-then-not-has c = let a = c.args in
    λ x. c.with_status-then-not-has.ensures (put_event_bits a.bits.now a.waited.now x)
    ∙ wait_basic a.plan.now.extended a.plan.now.priority (view_with a.self (put_event_bits a.bits.now a.waited.now x))
    a.mask
    c.no_caller.ensures c.if-no_caller.false c.has.ensures c.if-not-has.true

pub returns-then-top-self : goal.returns-then-top-self
returns-then-top-self c = let a = c.args in
    λ x. c.with_status-then-top-self.ensures (put_event_bits a.bits.now a.waited.now x)
    ∙ wait_holding a.plan.now.extended a.plan.now.priority (view_with a.self (put_event_bits a.bits.now a.waited.now x))
    a.mask
    c.no_caller.ensures c.if-no_caller.false c.has.ensures c.if-not-has.false c.top.ensures
    c.if-top-self.true

pub bounds-bits-rank : goal.bounds-bits-rank
bounds-bits-rank c = let a = c.args in
    has_lt a.plan.now.extended a.self.runner (sym c.has.ensures ∙ c.if-not-has.false)

pub returns-then-any_set : goal.returns-then-any_set
returns-then-any_set c = let a = c.args in
    λ x. c.with_status-then-any_set.ensures (put_event_bits a.bits.now a.waited.now x)
    ∙ wait_on a.plan.now.extended a.plan.now.priority (view_with a.self (put_event_bits a.bits.now a.waited.now x))
    a.mask
    c.no_caller.ensures c.if-no_caller.false c.has.ensures c.if-not-has.false c.top.ensures
    c.if-top-self.false
    c.bits_of.ensures c.any_set.ensures c.if-any_set.true

pub bounds-waited-rank : goal.bounds-waited-rank
bounds-waited-rank c = let a = c.args in
    has_lt a.plan.now.extended a.self.runner (sym c.has.ensures ∙ c.if-not-has.false)

pub returns : goal.returns
returns c = let a = c.args in
    λ x. c.settled.ensures _
    ∙ wait_pauses a.plan.now.extended a.plan.now.priority (view_with a.self (put_event_bits a.bits.now a.waited.now x))
    a.mask
    c.no_caller.ensures c.if-no_caller.false c.has.ensures c.if-not-has.false c.top.ensures
    c.if-top-self.false
    c.bits_of.ensures c.any_set.ensures c.if-any_set.false
    refl c.without.ensures c.with.ensures (c.left_with-core.ensures x)
