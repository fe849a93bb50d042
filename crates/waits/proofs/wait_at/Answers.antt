-- `wait_at` meets its contract: its tests are the definition's, and the count is that of `jobs_ahead`.
use mathlib.Core.Path.{sym}
use borrow.Author.Tests.{eq-eqb, ne_eqb}
use Rattle.waiting.specs.Words.{wait_at}
use Rattle.waits.proofs.wait_at.Goals as goal

pub returns-then-not-has-clause-value : goal.returns-then-not-has-clause-value
unfolding wait_at
returns-then-not-has-clause-value c = simp (c.refused.ensures, sym c.has.ensures, c.if-not-has.true)

pub returns-then-resources-ne0-clause-value : goal.returns-then-resources-ne0-clause-value
unfolding wait_at
returns-then-resources-ne0-clause-value c = simp (c.refused-then-resources-ne0.ensures, sym c.has.ensures, c.if-not-has.false, ne_eqb c.args.resources 0 c.if-resources-ne0.true)

pub returns-clause-value : goal.returns-clause-value
unfolding wait_at
returns-clause-value c = simp (
  sym c.has.ensures,
  c.if-not-has.false,
  eq-eqb c.args.resources 0 c.if-resources-ne0.false,
) c.jobs_ahead.ensures
