-- The verdict on a unit: whether the answers that it recorded are the plain scheduler's.
--
--   right_answers xs rs      how many answers at the front of the record rs are those of xs
--   verdict cs ts rs         pass, the first event that differs or is missing, or a refusal
--   verdict_result cs ts rs  the same as one number, for C
use Rattle.std.specs.Prelude.{ℕ, suc, ◌*◌, ◌%◌, Bool, true, false, cond, ◌&&◌, List, [], ◌∷◌, leb, eqb, length, drop}
use Rattle.number.specs.Output.{packed}
use Rattle.scheduler.specs.Scheduler.{Seen, fresh, seen}
use Rattle.run.specs.Run.{Input, refused, played, read_run, answer_bytes}

-- "pass"; "the first event" whose answer is wrong or missing; a refusal of the run's, with its place
pub data Verdict : Type 0 where
  pass : Verdict
  fail : (event : ℕ) → Verdict
  refusal : (code place : ℕ) → Verdict

-- "four-byte answers": the four bytes of one
abbrev pub four_bytes : Seen → List ℕ
four_bytes x = answer_bytes (x ∷ [])

-- the bytes rs begin with all of bs
unfoldable pub begin_with : List ℕ → List ℕ → Bool
begin_with [] rs = true
begin_with (b ∷ bs) [] = false
begin_with (b ∷ bs) (r ∷ rs) = eqb b r && begin_with bs rs

-- how many answers are recorded as they are expected, before the first that "differs or is missing"
unfoldable pub right_answers : List Seen → List ℕ → ℕ
right_answers [] rs = 0
right_answers (x ∷ xs) rs = cond (begin_with (four_bytes x) rs) (suc (right_answers xs (drop 4 rs))) 0

-- "pass exactly when all equal the definition's, else the first event that differs or is missing"
abbrev pub judged : List Seen → List ℕ → Verdict
judged xs rs = cond (eqb (right_answers xs rs) (length xs)) pass (fail (right_answers xs rs))

-- "70 for recorded answers that are not a multiple of four bytes or are too many"
abbrev pub bad_record : ℕ
bad_record = 70

-- a record of n bytes is whole answers, and has none beyond those to m events
unfoldable pub is_record : ℕ → ℕ → Bool
is_record n m = eqb (n % 4) 0 && leb n (4 * m)

-- the verdict on the record rs of n events, of which xs is seen
abbrev pub record_verdict : List Seen → ℕ → List ℕ → Verdict
record_verdict xs n rs = cond (is_record (length rs) n) (judged xs rs) (refusal bad_record 0)

-- "the run's, with 30 left out, then 70": a verdict needs no output
unfoldable pub verdict_on : List ℕ → Input → Verdict
verdict_on rs (refused r p) = refusal r p
verdict_on rs (played c es) = record_verdict (seen c (fresh c) es) (length es) rs

abbrev pub verdict : List ℕ → List ℕ → List ℕ → Verdict
verdict cs ts rs = verdict_on rs (read_run cs ts)

-- the greatest 64-bit number
abbrev pub passed : ℕ
passed = 18446744073709551615

-- the answer for C: an event by its index, a refusal with its place
unfoldable pub result_of : Verdict → ℕ
result_of pass = passed
result_of (fail i) = i
result_of (refusal r p) = packed r p

abbrev pub verdict_result : List ℕ → List ℕ → List ℕ → ℕ
verdict_result cs ts rs = result_of (verdict cs ts rs)
