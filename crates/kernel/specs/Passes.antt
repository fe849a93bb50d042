-- What the contracts of the run's helpers cite beside the run itself.
--
--   IsCount a r         a is the count of the events of a trace, of which r was read
--   Bare bs at k        k events without arguments stand at a place
--   Playable, Runnable  what playing a trace counts on, and answering it
use Rattle.std.specs.Prelude.{ℕ, ◌+◌, ◌*◌, ◌≤◌, ◌<◌, ◌≡◌, Bool, true, ◌||◌, List, eqb, length, get_or, Result, Ok, Err}
use Rattle.number.specs.declared.Refused.{Refused}
use Rattle.number.specs.Answer.{code}
use Rattle.number.specs.Refusal.{none}
use Rattle.config.specs.declared.Config.{Config}
use Rattle.config.specs.Accepted.{Accepted, Shaped}
use Rattle.event.specs.Event.{finish, tick}
use Rattle.event.specs.Trace.{TraceRead, read_trace}

-- how many events a trace has, or its refusal with its place
abbrev pub IsCount : Result ℕ Refused → TraceRead → Type 0
IsCount (Ok n) r = (r.refusal ≡ none) × (n ≡ length r.events)
IsCount (Err e) r = (code e.refusal ≡ r.refusal) × (e.place ≡ r.place)

-- an event of this code has no arguments
abbrev pub bare : ℕ → Bool
bare code = eqb code finish || eqb code tick

-- the k bytes of bs from a place on are codes of such events
pub record Bare (bs : List ℕ) (at k : ℕ) : Type 0 where
  pub inside : at + k ≤ length bs
  pub each : (i : ℕ) → i < k → bare (get_or bs (at + i) 0) ≡ true

-- a readable trace, and n bytes for its answers
pub record Playable (ts : List ℕ) (n : ℕ) : Type 0 where
  pub readable : (read_trace ts).refusal ≡ none
  pub room : 4 * length (read_trace ts).events ≤ n

-- an accepted configuration c, a readable trace of so many events, and n bytes for the whole output
pub record Runnable (c : Config) (ts : List ℕ) (events n : ℕ) : Type 0 where
  pub accepted : Accepted c
  pub shaped : Shaped c
  pub readable : (read_trace ts).refusal ≡ none
  pub counted : events ≡ length (read_trace ts).events
  pub room : 4 * events + 2 * c.bodies ≤ n
