-- `mask` meets its contract: what is left of the tokens gives the mask.
use Rattle.std.proofs.Common.{◌≡◌}
use Rattle.oil_grammar.specs.Automaton.{fresh}
use Rattle.oil_grammar.specs.Walk.{mask}
use Rattle.oil.proofs.Steps.{mask_over}
use Rattle.oil.proofs.meaning.mask.Given as goal

abbrev pub invariant-loop-step : goal.invariant-loop-step
invariant-loop-step l = mask_over l.name l.step-iterator l.body l.users ≡ mask l.tokens l.text 0 fresh l.name 0 0
