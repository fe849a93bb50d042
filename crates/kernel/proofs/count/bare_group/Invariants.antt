-- `bare_group` meets its contract: all bytes looked at are codes without arguments as long as the search says so.
use Prim.Native.Nat.{ℕ, ◌+◌, ◌<◌}
use mathlib.Core.Path.{◌≡◌}
use mathlib.Core.Bool.{true}
use lib.ListN.{get_or}
use Rattle.kernel.specs.Passes.{bare}
use Rattle.kernel.proofs.count.bare_group.Given as goal

abbrev pub invariant-loop-code : goal.invariant-loop-code
invariant-loop-code l = l.all ≡ true → (j : ℕ) → j < l.code-index → bare (get_or l.trace (l.at + j) 0) ≡ true
