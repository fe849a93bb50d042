-- `arbitrated` meets its contract: the winner is dispatched where its priority is above the level, and else nothing
-- changes.
use Prim.Native.Nat.{ℕ}
use mathlib.Core.Path.{◌≡◌, ap, ◌∙◌}
use mathlib.Core.Bool.{not}
use native.Mathlib.Omega.{arith}
use Rattle.word.specs.Word.{winner}
use Rattle.word.proofs.Theorems.{winner_le}
use Rattle.model.specs.View.{view_core}
use Rattle.model.proofs.Methods.Core.{arbitrated_same, arbitrated_above}
use Rattle.model.proofs.arbiter.arbitrated.Goals as goal

-- the winner of those who bid, as the code finds it
bid : {u r x : ℕ} → u ≡ x → r ≡ winner u → r ≡ winner x
bid all won = rw (won, all)

pub returns-then-own-core : goal.returns-then-own-core
returns-then-own-core c = let a = c.args in
    arbitrated_same a.plan.now.priority (view_core a.core)
    (bid c.union.ensures c.winner-rank.ensures) c.at-own.ensures c.if-own-core.true

pub overflow_cast-core : goal.overflow_cast-core
overflow_cast-core c = omega (arith, winner_le c.union.result, c.winner-rank.ensures)

pub returns : goal.returns
returns c = let a = c.args in
    arbitrated_above a.plan.now.priority (view_core a.core)
    (bid c.union.ensures c.winner-rank.ensures) c.at-own.ensures c.if-own-core.false
    (ap not c.has-begun.ensures) (c.select_unpredictable.ensures ∙ rw c.without.ensures) c.with.ensures
