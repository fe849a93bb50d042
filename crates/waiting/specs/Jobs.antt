-- The closed count: "the number of other bodies with greater priority that are ready or started, a
-- started ISR requested again counting twice. For an ISR that is itself started its own first end
-- is added."
--
-- A job is one execution of a body, from its begin to its end.
--
--   jobs p pending       the jobs that a body of phase p has to end; pending: a request waits besides
--   jobs_before c b i x  those of the body x with number i that end before b begins
--   jobs_ahead c s b     the same of all bodies
--
-- Main law: `finishes_jobs` (proofs/Theorems.antt).
use Rattle.std.specs.Prelude.{ℕ, suc, ◌+◌, Bool, cond, List, [], ◌∷◌, eqb, ltb}
use Rattle.config.specs.declared.Config.{Config}
use Rattle.config.specs.Meaning.{priority_of}
use Rattle.scheduler.specs.Body.{Phase, suspended, ready, started, waiting, triggered, is_started, Body}
use Rattle.scheduler.specs.State.{State}
use Rattle.scheduler.specs.Scheduler.{mark_of}

-- "ready or started, a started ISR requested again counting twice"
abbrev pub jobs : Phase → Bool → ℕ
jobs suspended pending = 0
jobs ready pending = 1
jobs started pending = cond pending 2 1
jobs (waiting w) pending = 0
jobs (triggered x) pending = 0

-- "its own first end", and all jobs of "other bodies with greater priority"
unfoldable pub jobs_before : Config → ℕ → ℕ → Body → ℕ
jobs_before c b i x =
    cond (eqb i b) (mark_of (is_started x.phase))
    (cond (ltb (priority_of c b) (priority_of c i)) (jobs x.phase x.pending) 0)

-- of the bodies from number i on
unfoldable pub jobs_ahead_from : Config → ℕ → ℕ → List Body → ℕ
jobs_ahead_from c b i [] = 0
jobs_ahead_from c b i (x ∷ xs) = jobs_before c b i x + jobs_ahead_from c b (suc i) xs

abbrev pub jobs_ahead : Config → State → ℕ → ℕ
jobs_ahead c s b = jobs_ahead_from c b 0 s.bodies
