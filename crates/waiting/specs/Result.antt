-- What the call returns: "Refusals after the run's, 30 left out: 34 for no such body, 31 if it
-- isn't waiting, 32 if a resource is held", and "35 from A5, before its 34"; else the number of
-- Finish events.
use Rattle.std.specs.Prelude.{ℕ, cond, not, List, leb}
use Rattle.number.specs.Output.{packed}
use Rattle.config.specs.declared.Config.{Config}
use Rattle.scheduler.specs.State.{State}
use Rattle.scheduler.specs.Scheduler.{fresh, after}
use Rattle.run.specs.Run.{Input, refused, played, read_run}
use Rattle.waiting.specs.Conditions.{beyond_basic, waits_to_begin, resource_held}
use Rattle.waiting.specs.Finishes.{finishes_until}
use Rattle.waiting.specs.Refusal.{other_kinds, no_such_body, not_waiting, resource_in_use}

-- in the state s, for the body b; no number of the input is at fault, so each place is 0
unfoldable pub wait_in : Config → State → ℕ → ℕ
wait_in c s b =
    cond (beyond_basic c) (packed other_kinds 0)
    (cond (leb c.bodies b) (packed no_such_body 0)
    (cond (not (waits_to_begin s b)) (packed not_waiting 0)
    (cond (resource_held s) (packed resource_in_use 0)
    (finishes_until c s b))))

-- "After a trace"
unfoldable pub wait_after : ℕ → Input → ℕ
wait_after b (refused r p) = packed r p
wait_after b (played c es) = wait_in c (after c (fresh c) es) b

-- of the bytes of a configuration and of a trace
abbrev pub wait_result : List ℕ → List ℕ → ℕ → ℕ
wait_result cs ts b = wait_after b (read_run cs ts)
