-- `chains_to` meets its contract: the code says whether it is a Chain, the argument to whom.
use mathlib.Core.Path.{sym, ◌∙◌}
use borrow.Author.Tests.{ne_eqb}
use Rattle.event.specs.Event.{chain}
use Rattle.misses.proofs.Codes.{chains, chains_not}
use Rattle.misses.proofs.change.chains_to.Goals as goal

pub returns-then-event-eq-CHAIN : goal.returns-then-event-eq-CHAIN
returns-then-event-eq-CHAIN c = let a = c.args in sym (chains a.event a.body c.if-event-eq-CHAIN.true)

pub returns-else-event-eq-CHAIN : goal.returns-else-event-eq-CHAIN
returns-else-event-eq-CHAIN c = let a = c.args in
    ne_eqb a.event.code chain c.if-event-eq-CHAIN.false ∙ sym (chains_not a.event a.body c.if-event-eq-CHAIN.false)
