-- `fill` meets its contract: what is left of the tokens gives the configuration.
use Rattle.std.proofs.Common.{◌≡◌}
use Rattle.oil_grammar.specs.Automaton.{fresh}
use Rattle.oil_grammar.specs.Walk.{mask}
use Rattle.oil_grammar.specs.Reader.{filled}
use Rattle.oil.proofs.Steps.{fill_over}
use Rattle.oil.proofs.meaning.fill.Given as goal

abbrev pub invariant-loop-step : goal.invariant-loop-step
invariant-loop-step l =
    fill_over (λ x. mask l.tokens l.text 0 fresh x 0 0) l.step-iterator l.c ≡ filled l.text l.tokens
