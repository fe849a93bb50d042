-- What the call returns and what it leaves in the list that it is lent.
--
--   misses_result cs ts n  what it returns for the bytes of a configuration and a trace, with n bytes lent for the list
--   misses_output cs ts d  what it leaves in the list d
use Rattle.std.specs.Prelude.{ℕ, cond, List, leb, length}
use Rattle.number.specs.Refusal.{no_room}
use Rattle.number.specs.Output.{packed, written}
use Rattle.config.specs.declared.Config.{Config}
use Rattle.scheduler.specs.Event.{Event}
use Rattle.run.specs.Run.{Input, refused, played, read_run}
use Rattle.deadlines.specs.Miss.{Miss, deadlines_of, misses}
use Rattle.deadlines.specs.Report.{first_misses, miss_bytes, bytes_needed}

-- the misses of a trace, by the deadlines that the configuration has
abbrev pub misses_in : Config → List Event → List Miss
misses_in c es = misses c (deadlines_of c) es

-- "as its result the count of all"; "30 for a list too short for the misses it gets", with the bytes needed
abbrev pub count_of : ℕ → List Miss → ℕ
count_of n ms = cond (leb (bytes_needed ms) n) (length ms) (packed no_room (bytes_needed ms))

-- what a list of misses leaves in d: the first 64, or d as it was where they do not fit
abbrev pub list_of : List ℕ → List Miss → List ℕ
list_of d ms = written (miss_bytes (first_misses ms)) d

-- "refusing as the run does", with nothing written
unfoldable pub misses_after_reading : ℕ → Input → ℕ
misses_after_reading n (refused r p) = packed r p
misses_after_reading n (played c es) = count_of n (misses_in c es)

-- the list after it
unfoldable pub list_after_reading : List ℕ → Input → List ℕ
list_after_reading d (refused r p) = d
list_after_reading d (played c es) = list_of d (misses_in c es)

abbrev pub misses_result : List ℕ → List ℕ → ℕ → ℕ
misses_result cs ts n = misses_after_reading n (read_run cs ts)

abbrev pub misses_output : List ℕ → List ℕ → List ℕ → List ℕ
misses_output cs ts d = list_after_reading d (read_run cs ts)
