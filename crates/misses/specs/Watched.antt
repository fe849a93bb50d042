-- What watching a trace counts on.
use Rattle.std.specs.Prelude.{ℕ, ◌≤◌, ◌≡◌, List, length}
use Rattle.number.specs.Refusal.{none}
use Rattle.config.specs.declared.Config.{Config}
use Rattle.config.specs.Value.{max_bodies}
use Rattle.event.specs.Trace.{max_trace, read_trace}

-- a readable trace, and no body without a cell
pub record Watchable (c : Config) (ts : List ℕ) : Type 0 where
  pub few_bodies : c.bodies ≤ max_bodies
  pub short : length ts ≤ max_trace
  pub readable : (read_trace ts).refusal ≡ none
