-- `judge` meets its contract: each way out is a law of `Ways`.
use Rattle.std.proofs.Common.{ℕ, List, subst}
use Rattle.verdict.specs.Answers.{RightAnswers}
use Rattle.verdict.proofs.Ways.{no_whole, too_many, differs, passes}
use Rattle.verdict.proofs.judge.Goals as goal
use Rattle.verdict.proofs.judge.Goals.{then-recorded-ne0-via-then-recorded-ne0, then-recorded-ne0-via-else-recorded-ne0+then-events-recorded}

pub returns-then-recorded-ne0-clause-verdict : goal.returns-then-recorded-ne0-clause-verdict
returns-then-recorded-ne0-clause-verdict c = let a = c.args in
    λ xs zs e many.
    elim c.then-recorded-ne0.branch [
      | then-recorded-ne0-via-then-recorded-ne0 w ↦ no_whole xs a.events a.recorded.now w.if-recorded-ne0.true
      | then-recorded-ne0-via-else-recorded-ne0+then-events-recorded w ↦ too_many xs a.events a.recorded.now w.if-events-recorded.true
    ]

pub returns-then-right-events-clause-verdict : goal.returns-then-right-events-clause-verdict
returns-then-right-events-clause-verdict c = let a = c.args in
    let r = c.right_answers-right in
    λ xs zs e many. differs xs a.events a.recorded.now zs many c.if-recorded-ne0.false c.if-events-recorded.false
    r.result (subst (λ (l : List ℕ). RightAnswers l a.recorded.now r.result) e r.ensures) c.if-right-events.true

pub returns-else-right-events-clause-verdict : goal.returns-else-right-events-clause-verdict
returns-else-right-events-clause-verdict c = let a = c.args in
    let r = c.right_answers-right in
    λ xs zs e many. passes xs a.events a.recorded.now zs many c.if-recorded-ne0.false c.if-events-recorded.false
    r.result (subst (λ (l : List ℕ). RightAnswers l a.recorded.now r.result) e r.ensures) c.if-right-events.false
