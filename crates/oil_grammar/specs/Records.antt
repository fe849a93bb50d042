-- What the reading of a text goes over and answers, in document 01's numbers.
use Rattle.std.specs.Prelude.{ℕ, Bool}
use Rattle.config.specs.declared.Config.{Config}
use Rattle.oil_grammar.specs.declared.Want.{Want}

-- a token of the text, from byte `start` up to byte `end`, by the number of its sort (Token.antt)
pub record Token : Type 0 where
  pub sort : ℕ
  pub start : ℕ
  pub end : ℕ

-- How far a text has come: what it wants next, the token that its present object begins with, 0 before the first, and
-- which of the attributes that may stand once that object has had.
pub record Progress : Type 0 where
  pub want : Want
  pub kind : ℕ
  pub priority : Bool
  pub autostart : Bool

-- What a walk over the text finds: refusal 0 and the number of tokens before the end, or the refusal with its place
-- (byte offset).
pub record Found : Type 0 where
  pub refusal : ℕ
  pub place : ℕ
  pub tokens : ℕ

-- What a reading gives: the configuration with refusal 0, or the all-zero value with the refusal and its line and
-- column.
pub record OilRead : Type 0 where
  pub config : Config
  pub refusal : ℕ
  pub line : ℕ
  pub column : ℕ
