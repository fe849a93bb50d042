-- `next_token` meets its contract: the next token from `at` on begins where that from `start` on does.
use Prim.Native.Nat.{◌-◌, ◌≤◌}
use mathlib.Core.Path.{◌≡◌}
use lib.ListN.{length}
use Rattle.oil_grammar.specs.Next.{skipped}
use Rattle.oil.proofs.next.next_token.Given as goal

abbrev pub invariant-loop-n : goal.invariant-loop-n
invariant-loop-n l = (l.start ≤ length l.text) × (skipped l.text l.start ≡ skipped l.text l.at)

abbrev pub decreases-loop-n : goal.decreases-loop-n
decreases-loop-n l = length l.text - l.start
