-- `right_answers` meets its contract: the loop stops at the first answer whose number is another.
use mathlib.Core.Path.{sym, ◌∙◌}
use native.Mathlib.Omega.{arith}
use borrow.Author.Count.{below_more}
use Rattle.verdict.proofs.Answers.{same_word, other_word}
use Rattle.verdict.proofs.compare.right_answers.Goals as goal

pub loop-i-init : goal.loop-i-init
loop-i-init c = λ j h. absurd (omega arith)

pub returns-then-word : goal.returns-then-word
returns-then-word c = record {
  there = omega arith;
  right = c.loop-i.invariant;
  wrong = λ h. other_word c.args.out.now c.args.recorded.now c.loop-i.i
      (λ e. c.if-word.true (c.word.ensures ∙ e ∙ sym c.word-in-loop-i.ensures));
}

pub loop-i-preserved : goal.loop-i-preserved
loop-i-preserved c = let a = c.args in
    below_more _ _ c.loop-i.invariant
    (same_word a.out.now a.recorded.now c.loop-i.i
    (λ k. omega (arith, c.type_inv.out k)) (λ k. omega (arith, c.type_inv.recorded k))
    (omega arith) (omega arith) (sym c.word.ensures ∙ c.if-word.false ∙ c.word-in-loop-i.ensures))

pub returns : goal.returns
returns c = record {
  there = omega arith;
  right = λ j h. c.loop-i.invariant j (omega arith);
  wrong = λ h. absurd (omega arith);
}
