-- `first_token` meets its contract: by the first byte.
use Rattle.std.proofs.Common.{rules}
use Rattle.oil_grammar.specs.Next.{token_at}
use Rattle.oil.proofs.next.first_token.Goals as goal

pub returns-in_default-clause-token : goal.returns-in_default-clause-token
unfolding token_at
returns-in_default-clause-token c = λ p. search rules

pub returns-then-is_letter-clause-token : goal.returns-then-is_letter-clause-token
unfolding token_at
returns-then-is_letter-clause-token c = λ p. search rules

pub returns-then-is_digit-clause-token : goal.returns-then-is_digit-clause-token
unfolding token_at
returns-then-is_digit-clause-token c = λ p. search rules

pub returns-in-Some-sign-clause-token : goal.returns-in-Some-sign-clause-token
unfolding token_at
returns-in-Some-sign-clause-token c = λ p. search rules

pub returns-in-None-clause-token : goal.returns-in-None-clause-token
unfolding token_at
returns-in-None-clause-token c = λ p. search rules
