-- A value's number is the one that it has, as long as it is written.
use mathlib.Core.Path.{◌≡◌, refl, ◌∙◌}
use native.Mathlib.Omega.{arith}
use lib.ListN.{length}
use Rattle.config.specs.Writer.{bytes_at}
use Rattle.config_codec.specs.Walk.{shown}
use Rattle.config_codec.proofs.NextNumber.{asked_same}
use Rattle.config_codec.proofs.Walks.{length_shown}
use Rattle.config_codec.proofs.numbers.ConfigNumbers.number.Goals as goal
use Rattle.config_codec.proofs.numbers.ConfigNumbers.number.Goals.{Joined-silent, then-silent, else-silent}

long : (c : Joined-silent) → c.if-silent.length ≡ length (shown c.silent.result c.asked-value.result)
long c = elim c.if-silent.branch [
  | then-silent w ↦ w.length-is ∙ rw w.if-silent.true refl
  | else-silent w ↦ w.length-is ∙ w.number_length-length.ensures ∙ rw w.if-silent.false refl
]

pub overflow_add-result : goal.overflow_add-result
overflow_add-result c = omega (
  arith,
  c.requires.1,
  long (goal.at.overflow_add-result c).Joined-silent,
  length_shown c.silent.result c.asked-value.result,
)

pub returns : goal.returns
unfolding bytes_at
returns c = λ d v. rw (
  long (goal.at.returns c).Joined-silent,
  c.silent.ensures,
  ← v,
  c.asked-value.ensures ∙ asked_same c.args.self.now c.args.self.now d c.args.p,
)
