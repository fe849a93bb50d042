-- What the functions below the call count on, which it tests first.
use Rattle.std.specs.Prelude.{ℕ, ◌≤◌, ◌≡◌, List}
use Rattle.drawing.specs.Weights.{total}
use Rattle.drawing.specs.Drawing.{Limited}

-- weights with their sum, and limits, that are not refused
pub record Drawable (ws : List ℕ) (sum : ℕ) (ls : List ℕ) : Type 0 where
  pub is_total : sum ≡ total ws
  pub some : 1 ≤ sum
  pub limited : Limited ls
