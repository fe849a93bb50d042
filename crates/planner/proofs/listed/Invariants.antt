-- `listed` meets its contract: what is written below i, and what is as it was from there on.
use Rattle.std.proofs.Common.{◌≡◌, ℕ, ◌<◌, ◌≤◌, length, slice_index_or}
use Rattle.planner.proofs.listed.Given as goal

abbrev pub invariant-loop-i : goal.invariant-loop-i
invariant-loop-i g l = (length l.array ≡ g.row.N)
    × ((k : ℕ) (d : _) → k < l.i → goal.F-post g l.f k (slice_index_or l.array k d))
    × ((k : ℕ) (d : _) → l.i ≤ k → k < g.row.N → slice_index_or l.array k d ≡ l.fn.rest)
