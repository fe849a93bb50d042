-- `chain` meets its contract, case by case in the order of its checks.
use mathlib.Core.Path.{◌≡◌, sym, refl, ◌∙◌}
use mathlib.Core.Bool.{false, ◌||◌, ◌&&◌, not, and-true, and-false}
use lib.Dec.{eqb}
use borrow.Author.Tests.{eq-eqb, ne_eqb}
use Rattle.word.specs.Word.{has, union}
use Rattle.machine.specs.Events.{no_caller}
use Rattle.cells.proofs.Tests.{or_first, or_second}
use Rattle.model.specs.View.{view_with}
use Rattle.model.proofs.Methods.Bodies.{chain_idle, chain_none, chain_holding, chain_busy, chain_done}
use Rattle.model.proofs.Registers.chain.Goals as goal
use Rattle.model.proofs.Registers.chain.Goals.{then-no_caller-via-then-no_caller, then-no_caller-via-else-no_caller+then-has, else-rank-self-via-then-rank-self+else-busy, else-rank-self-via-else-rank-self}

pub returns-then-no_caller : goal.returns-then-no_caller
returns-then-no_caller c = let a = c.args in
    λ x. let m = view_with a.self x in
    c.with_status.ensures x
    ∙ elim c.then-no_caller.branch [
      | then-no_caller-via-then-no_caller w ↦ chain_idle a.plan.now.isrs a.plan.now.callable a.plan.now.priority m a.t
          (or_first (no_caller m) (has a.plan.now.isrs a.self.runner) c.no_caller.ensures w.if-no_caller.true) w.if-no_caller.true
      | then-no_caller-via-else-no_caller+then-has w ↦ chain_idle a.plan.now.isrs a.plan.now.callable a.plan.now.priority m a.t
          (or_second (no_caller m) (has a.plan.now.isrs a.self.runner) c.no_caller.ensures w.if-no_caller.false w.has.ensures) w.if-has.true
    ]

pub returns-then-rank : goal.returns-then-rank
returns-then-rank c = let a = c.args in
    λ x. let m = view_with a.self x in
    c.with_status-then-rank.ensures x
    ∙ chain_none a.plan.now.isrs a.plan.now.callable a.plan.now.priority m a.t
    (or_second (no_caller m) (has a.plan.now.isrs a.self.runner) c.no_caller.ensures c.if-no_caller.false c.has.ensures) c.if-has.false
    c.at-rank.ensures c.if-rank.true

pub returns-then-top-self : goal.returns-then-top-self
returns-then-top-self c = let a = c.args in
    λ x. let m = view_with a.self x in
    c.with_status-then-top-self.ensures x
    ∙ chain_holding a.plan.now.isrs a.plan.now.callable a.plan.now.priority m a.t
    (or_second (no_caller m) (has a.plan.now.isrs a.self.runner) c.no_caller.ensures c.if-no_caller.false c.has.ensures) c.if-has.false
    c.at-rank.ensures c.if-rank.false c.top.ensures c.if-top-self.true

pub returns-then-busy : goal.returns-then-busy
returns-then-busy c = let a = c.args in
    λ x. let m = view_with a.self x in
    c.with_status-then-busy.ensures x
    ∙ chain_busy a.plan.now.isrs a.plan.now.callable a.plan.now.priority m a.t
    (or_second (no_caller m) (has a.plan.now.isrs a.self.runner) c.no_caller.ensures c.if-no_caller.false c.has.ensures) c.if-has.false
    c.at-rank.ensures c.if-rank.false c.top.ensures c.if-top-self.false refl
    (rw (c.busy.ensures, ne_eqb c.at-rank.result a.self.runner c.if-rank-self.true, and-true)) c.if-busy.true

pub returns : goal.returns
returns c = let a = c.args in
    let word = union a.self.started a.self.aside in
    let test : false ≡ (has a.self.request c.at-rank.result || has word c.at-rank.result) && not (eqb c.at-rank.result a.self.runner) =
    elim c.else-rank-self.branch [
      | else-rank-self-via-then-rank-self+else-busy w ↦
          rw (sym w.busy.ensures ∙ w.if-busy.false)
      | else-rank-self-via-else-rank-self w ↦
          rw (eq-eqb c.at-rank.result a.self.runner w.if-rank-self.false, and-false)
    ] in
    λ x. let m = view_with a.self x in
    c.ended.ensures x
    ∙ chain_done a.plan.now.isrs a.plan.now.callable a.plan.now.priority m a.t
    (or_second (no_caller m) (has a.plan.now.isrs a.self.runner) c.no_caller.ensures c.if-no_caller.false c.has.ensures) c.if-has.false
    c.at-rank.ensures c.if-rank.false c.top.ensures c.if-top-self.false refl
    test refl c.with.ensures
