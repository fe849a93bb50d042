-- What a test of a number answers, in document 01's numbers.
--
--   fault_code a  0 where the number is in order, else the number of the refusal
use Rattle.std.specs.Prelude.{ℕ, Result, Ok, Err}
use Rattle.number.specs.declared.Refusal.{Refusal}
use Rattle.number.specs.Refusal.{none}
use Rattle.number.specs.Answer.{code}

abbrev pub fault_code : Result (Unit {0}) Refusal → ℕ
fault_code (Ok u) = none
fault_code (Err r) = code r
