-- What a record is right about, said without the verdict: for the theorems of the crate.
--
--   answer_at bs i        the answer to the event i in the bytes bs
--   FirstWrong bs rs n i  of n events i is the first whose answer in rs is not the one in bs
use Rattle.std.specs.Prelude.{ℕ, ◌*◌, ◌<◌, ◌≡◌, List, ◌≢◌, take, drop}
use Rattle.config.specs.declared.Config.{Config}
use Rattle.scheduler.specs.Scheduler.{Event, fresh, seen}
use Rattle.run.specs.Run.{played, read_run, answer_bytes}

-- four bytes an event; fewer, or none, where the bytes end before
abbrev pub answer_at : List ℕ → ℕ → List ℕ
answer_at bs i = take 4 (drop (4 * i) bs)

pub record FirstWrong (bs rs : List ℕ) (n i : ℕ) : Type 0 where
  pub of_an_event : i < n
  pub right_before : (j : ℕ) → j < i → answer_at rs j ≡ answer_at bs j
  pub wrong : answer_at rs i ≢ answer_at bs i

-- the plain scheduler's answers to events, from the fresh start
abbrev pub expected : Config → List Event → List ℕ
expected c es = answer_bytes (seen c (fresh c) es)

-- cs and ts can be run, as the configuration c and the events es
abbrev pub Runs : List ℕ → List ℕ → Config → List Event → Type 0
Runs cs ts c es = read_run cs ts ≡ played c es
