-- `clear` meets its contract, case by case in the order of its checks.
use mathlib.Core.Path.{refl, sym, ◌∙◌}
use native.Mathlib.Omega.{arith}
use Rattle.word.proofs.Theorems.{has_lt}
use Rattle.model.specs.View.{put_bits, view_with}
use Rattle.model.proofs.Methods.Bits.{clear_idle, clear_basic, clear_done, other_bits}
use Rattle.model.proofs.Registers.clear.Goals as goal

pub returns-then-no_caller : goal.returns-then-no_caller
returns-then-no_caller c = let a = c.args in
    λ x. c.with_status.ensures (put_bits a.bits.now x)
    ∙ clear_idle a.plan.now.extended (view_with a.self (put_bits a.bits.now x)) a.mask c.no_caller.ensures
    c.if-no_caller.true

pub returns-then-not-has : goal.returns-then-not-has
returns-then-not-has c = let a = c.args in
    λ x. c.with_status-then-not-has.ensures (put_bits a.bits.now x)
    ∙ clear_basic a.plan.now.extended (view_with a.self (put_bits a.bits.now x)) a.mask c.no_caller.ensures
    c.if-no_caller.false c.has.ensures c.if-not-has.true

pub bounds-bits-rank : goal.bounds-bits-rank
bounds-bits-rank c = let a = c.args in
    has_lt a.plan.now.extended a.self.runner (sym c.has.ensures ∙ c.if-not-has.false)

pub bounds-bits-rank-2 : goal.bounds-bits-rank-2
bounds-bits-rank-2 c = let a = c.args in
    has_lt a.plan.now.extended a.self.runner (sym c.has.ensures ∙ c.if-not-has.false)

pub returns : goal.returns
returns c = let a = c.args in
    λ x. c.with_status-2.ensures _
    ∙ clear_done a.plan.now.extended (view_with a.self (put_bits a.bits.now x)) a.mask
    c.no_caller.ensures c.if-no_caller.false c.has.ensures c.if-not-has.false
    c.bits_of.ensures (other_bits c.bits_of.result a.mask (omega (arith, c.bits_of.type_inv)) (omega (arith, c.ranges.mask))) refl c.without.ensures
