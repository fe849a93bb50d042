-- The same by the machine's words, as the code computes it.
--
--   jobs_ahead_in request started r        the closed count of the body with rank r: two counts of bits
--   wait_by c request started resources b  what the call returns where the trace left these words
--
-- request and started have the ranks that wait to begin and those that are started, resources the
-- numbers of those that are held.
--
-- Main law: `wait_by_words` (proofs/Theorems.antt).
use Rattle.std.specs.Prelude.{ℕ, ◌+◌, ◌/◌, ◌^◌, cond, not, leb, eqb}
use Rattle.std.specs.Int.Count.{ones}
use Rattle.number.specs.Output.{packed}
use Rattle.config.specs.declared.Config.{Config}
use Rattle.word.specs.Word.{has}
use Rattle.plan.specs.Rank.{rank_of}
use Rattle.waiting.specs.Conditions.{beyond_basic}
use Rattle.waiting.specs.Refusal.{other_kinds, no_such_body, not_waiting, resource_in_use}

-- the requests above the rank, and the started ones from it on
abbrev pub jobs_ahead_in : ℕ → ℕ → ℕ → ℕ
jobs_ahead_in request started r = ones (request / 2 ^ r / 2) + ones (started / 2 ^ r)

-- what is left to ask of the body with rank r where no refusal comes before
unfoldable pub wait_at : (request started resources : ℕ) → ℕ → ℕ
wait_at request started resources r =
    cond (not (has request r)) (packed not_waiting 0)
    (cond (not (eqb resources 0)) (packed resource_in_use 0)
    (jobs_ahead_in request started r))

unfoldable pub wait_by : Config → (request started resources : ℕ) → ℕ → ℕ
wait_by c request started resources b =
    cond (beyond_basic c) (packed other_kinds 0)
    (cond (leb c.bodies b) (packed no_such_body 0)
    (wait_at request started resources (rank_of c b)))
