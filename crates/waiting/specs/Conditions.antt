-- When the question has an answer: no task of the configuration is extended or time-triggered, the
-- body waits to begin, and no resource is held.
use Rattle.std.specs.Prelude.{ℕ, Bool, false, ◌||◌, List, [], ◌∷◌, eqb, take}
use Rattle.config.specs.declared.Config.{Config}
use Rattle.config.specs.Meaning.{extended, time_triggered}
use Rattle.scheduler.specs.Body.{Body, holds}
use Rattle.scheduler.specs.State.{State, body_of}
use Rattle.scheduler.specs.Call.{request_waits}

-- "a configuration with kind 2", "kind 3 too"
unfoldable pub some_beyond_basic : List ℕ → Bool
some_beyond_basic [] = false
some_beyond_basic (k ∷ ks) = (eqb k extended || eqb k time_triggered) || some_beyond_basic ks

-- the same of a configuration's bodies
abbrev pub beyond_basic : Config → Bool
beyond_basic c = some_beyond_basic (take c.bodies c.kind)

-- the body b waits to begin: it is ready, or it is a started ISR with a request waiting
abbrev pub waits_to_begin : State → ℕ → Bool
waits_to_begin s b = request_waits (body_of s b) (body_of s b).phase

-- "a resource is held", by anybody
unfoldable pub some_hold : List Body → Bool
some_hold [] = false
some_hold (x ∷ xs) = holds x.held || some_hold xs

-- the same of a state's
abbrev pub resource_held : State → Bool
resource_held s = some_hold s.bodies
