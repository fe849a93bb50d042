-- What the private functions of the crate are held to; the contract of `osek_verdict` cites crate conformance alone.
--
--   RightAnswers bs rs n  the first n answers of the record rs are those of bs, and no more are
--   as_verdict a          a verdict as crate conformance has it
use Rattle.std.specs.Prelude.{ℕ, ◌+◌, ◌*◌, ◌≤◌, ◌<◌, ◌≡◌, List, ◌≢◌, length, get_or, Result, Ok, Err}
use Rattle.number.specs.declared.Refused.{Refused}
use Rattle.number.specs.Answer.{code}
use Rattle.conformance.specs.Verdict.{Verdict, pass, fail, refusal}
use Rattle.conformance.specs.Record.{answer_at}
use Rattle.verdict.specs.declared.Verdict as Code
use Rattle.verdict.specs.declared.Verdict.TheVariants.{Pass, Fails}

-- the first n answers of rs are those of bs, and if rs has one more, that is another
pub record RightAnswers (bs rs : List ℕ) (n : ℕ) : Type 0 where
  pub there : 4 * n ≤ length rs
  pub right : (j : ℕ) → j < n → answer_at rs j ≡ answer_at bs j
  pub wrong : 4 * n < length rs → answer_at rs n ≢ answer_at bs n

-- four bytes as one number, low first
abbrev pub word_at : List ℕ → ℕ → ℕ
word_at bs at =
    get_or bs at 0 + 256 * get_or bs (at + 1) 0 + 65536 * get_or bs (at + 2) 0 + 16777216 * get_or bs (at + 3) 0

abbrev pub as_verdict : Result Code.Verdict Refused → Verdict
as_verdict (Ok Pass) = pass
as_verdict (Ok (Fails i)) = fail i
as_verdict (Err e) = refusal (code e.refusal) e.place
