-- `line` meets its contract, case by case in the order of its checks.
use mathlib.Core.Path.{sym, ◌∙◌}
use borrow.Author.Tests.{lt-ltb}
use Rattle.config.specs.Value.{max_bodies}
use Rattle.config.specs.Meaning.{counts_lines}
use Rattle.word.proofs.Theorems.{has_lt}
use Rattle.model.specs.View.{put_losses, view_with}
use Rattle.model.proofs.Methods.Core.{asked}
use Rattle.model.proofs.Methods.Bodies.{line_none, line_waits, line_done}
use Rattle.model.proofs.Registers.line.Goals as goal
use Rattle.model.proofs.Registers.line.Goals.{else-counts_lines, then-counts_lines}

pub returns-then-rank : goal.returns-then-rank
returns-then-rank c = let a = c.args in
    λ x. c.with_status.ensures (put_losses a.losses.now x)
    ∙ line_none (counts_lines a.config.now) a.plan.now.line a.plan.now.priority (view_with a.self (put_losses a.losses.now x))
    a.i
    c.at-rank.ensures c.if-rank.true

pub returns-then-has : goal.returns-then-has
returns-then-has c = let a = c.args in
    λ x. c.with_status-then-has.ensures _
    ∙ line_waits (counts_lines a.config.now) a.plan.now.line a.plan.now.priority (view_with a.self (put_losses a.losses.now x))
    a.i
    c.at-rank.ensures c.if-rank.false c.has.ensures c.if-has.true
    (elim c.if-counts_lines.branch [
      | then-counts_lines w ↦ rw (sym c.counts_lines.ensures ∙ w.if-counts_lines.true) (w.losses-is ∙ w.lose.ensures ∙ rw (lt-ltb _ max_bodies (has_lt _ _ (sym c.has.ensures ∙ c.if-has.true))))
      | else-counts_lines w ↦ rw (sym c.counts_lines.ensures ∙ w.if-counts_lines.false) w.losses-is
    ])

pub returns : goal.returns
returns c = let a = c.args in
    λ x. c.settled.ensures (put_losses a.losses.now x)
    ∙ asked a.plan.now.priority (view_with a.self (put_losses a.losses.now x)) (c.core.ensures (put_losses a.losses.now x)) c.with.result
    ∙ line_done (counts_lines a.config.now) a.plan.now.line a.plan.now.priority (view_with a.self (put_losses a.losses.now x))
    a.i
    c.at-rank.ensures c.if-rank.false c.has.ensures c.if-has.false c.with.ensures
