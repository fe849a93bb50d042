-- `right_answers` meets its contract: the loop stops at the first answer whose number is another.
use Prim.Native.Nat.{ℕ, ◌<◌}
use mathlib.Core.Path.{◌≡◌}
use Rattle.conformance.specs.Record.{answer_at}
use Rattle.verdict.proofs.compare.right_answers.Given as goal

abbrev pub invariant-loop-i : goal.invariant-loop-i
invariant-loop-i l = (j : ℕ) → j < l.i → answer_at l.recorded j ≡ answer_at l.out j
