-- `token_start` meets its contract: the text stands where it does after the tokens passed.
use Rattle.std.proofs.Common.{◌≡◌}
use Rattle.oil.specs.Tokens.{place_after}
use Rattle.oil.proofs.next.token_start.Given as goal

abbrev pub invariant-loop : goal.invariant-loop
invariant-loop l = l.at ≡ place_after l.text l.counter
