-- `note_matches` meets its contract: what is noted so far are the matches of the cells that were looked at.
use Rattle.std.proofs.Common.{take, ◌≤◌, ◌+◌}
use Rattle.deadlines.specs.DeadlineCells.{matches_of}
use Rattle.misses.specs.Noted.{NotesMore}
use Rattle.misses.proofs.row.DeadlineCells.note_matches.Given as goal

abbrev pub invariant-loop-body : goal.invariant-loop-body
invariant-loop-body l = (l.misses.count ≤ l.initial.misses.count + l.body) × NotesMore l.initial.misses l.misses (matches_of l.tick 0 (take l.body l.cell-items))
