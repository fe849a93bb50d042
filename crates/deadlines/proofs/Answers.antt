-- The list's bytes, and what the call returns and leaves, computed with the numbers written out: the bytes of a Tick's
-- number; 63, 64 and 65 misses; a list a byte too short; each refusal of the input; versions 1 and 2, which have no
-- deadlines.
use Prim.Native.Nat.{ℕ, zero, suc}
use mathlib.Core.Path.{◌≡◌, refl}
use mathlib.Core.List.{List, [], ◌∷◌}
use lib.ListN.{drop, replicate}
use Rattle.number.specs.Output.{written}
use Rattle.number.specs.Number.{read_number, groups, continued, fifth_group}
use Rattle.config.specs.Draft.{fault_at, put_at, ended, timed_in, some_timed}
use Rattle.config.specs.Reader.{read_config, number_at, read_from}
use Rattle.config.specs.Meaning.{greatest_in, entries_before}
use Rattle.cell.specs.Due.{due}
use Rattle.event.specs.Event.{known, arguments, after_number, read_arguments, read_event}
use Rattle.event.specs.Trace.{read_from as events_from, read_rest}
use Rattle.scheduler.specs.Status.{first_given}
use Rattle.scheduler.specs.Choice.{candidate, chosen_from}
use Rattle.scheduler.specs.State.{among, held_in}
use Rattle.scheduler.specs.Tick.{counting, entry_due, dues_from, activating_due}
use Rattle.scheduler.specs.Scheduler.{step_by}
use Rattle.scheduler.specs.History.{tick_count}
use Rattle.run.specs.Run.{call_of, read_run}
use Rattle.deadlines.specs.Activation.{ends_at, ready_at}
use Rattle.deadlines.specs.Miss.{no_end, missed_since, missed_from, missed, Miss, misses_where, misses_after}
use Rattle.deadlines.specs.Report.{first_misses, miss_bytes}
use Rattle.deadlines.specs.Result.{count_of, list_of, misses_after_reading, list_after_reading, misses_result, misses_output}
use Rattle.deadlines.proofs.Examples.{at}

-- "tick (from 1, two bytes, low first) and task (one)"
pub bytes_written : miss_bytes (at 1 0 ∷ at 255 31 ∷ at 256 1 ∷ at 257 2 ∷ at 8192 3 ∷ [])
    ≡ 1 ∷ 0 ∷ 0 ∷ 255 ∷ 0 ∷ 31 ∷ 0 ∷ 1 ∷ 1 ∷ 1 ∷ 1 ∷ 2 ∷ 0 ∷ 32 ∷ 3 ∷ []
unfolding miss_bytes
bytes_written = refl

-- n misses of task 0, at the Ticks from k on
unfoldable pub misses_from : ℕ → ℕ → List Miss
misses_from k zero = []
misses_from k (suc n) = at k 0 ∷ misses_from (suc k) n

-- with 63, 64 and 65 misses, where the list has room and where it is a byte too short: 30 × 4,294,967,296 + 189, + 192
pub record Counts : Type 0 where
  pub sixty_three : (count_of 189 (misses_from 1 63) ≡ 63) × (count_of 188 (misses_from 1 63) ≡ 128849019069)
  pub sixty_four_lem : (count_of 192 (misses_from 1 64) ≡ 64) × (count_of 191 (misses_from 1 64) ≡ 128849019072)
  pub sixty_five : (count_of 192 (misses_from 1 65) ≡ 65) × (count_of 191 (misses_from 1 65) ≡ 128849019072)
  -- the 65th is counted and not listed
  pub last_listed : drop 186 (miss_bytes (first_misses (misses_from 1 65))) ≡ 63 ∷ 0 ∷ 0 ∷ 64 ∷ 0 ∷ 0 ∷ []
  -- none needs no room, one needs three bytes
  pub none_one : (count_of 0 [] ≡ 0) × (count_of 2 (at 1 0 ∷ []) ≡ 128849018883) × (count_of 3 (at 1 0 ∷ []) ≡ 1)

pub counts : Counts
unfolding misses_from miss_bytes
counts =
    record {
      sixty_three = (refl, refl);
      sixty_four_lem = (refl, refl);
      sixty_five = (refl, refl);
      last_listed = refl;
      none_one = (refl, refl, refl);
    }

-- the byte beyond stays, and so does a list that is too short
pub list_left_lem : (list_of (91 ∷ 92 ∷ 93 ∷ 94 ∷ []) (at 258 7 ∷ []) ≡ 2 ∷ 1 ∷ 7 ∷ 94 ∷ [])
    × (list_of (91 ∷ 92 ∷ []) (at 258 7 ∷ []) ≡ 91 ∷ 92 ∷ [])
unfolding miss_bytes written
list_left_lem = (refl, refl)

-- two autostart tasks, by version 1, by version 2, and by version 3 with the deadlines 1 and 2
abbrev pub first : List ℕ
first = 1 ∷ 2 ∷ 0 ∷ 2 ∷ 1 ∷ 0 ∷ 5 ∷ 1 ∷ 0 ∷ 0 ∷ []

abbrev pub second : List ℕ
second = 2 ∷ 2 ∷ 0 ∷ 2 ∷ 1 ∷ 0 ∷ 5 ∷ 1 ∷ 0 ∷ 0 ∷ []

abbrev pub third : List ℕ
third = 3 ∷ 2 ∷ 0 ∷ 2 ∷ 1 ∷ 1 ∷ 0 ∷ 5 ∷ 1 ∷ 2 ∷ 0 ∷ 0 ∷ []

-- what the call returns for cs and ts without room for the list, and what it leaves of one with room
abbrev Returns : List ℕ → List ℕ → ℕ → Type 0
Returns cs ts r = (misses_result cs ts 0 ≡ r) × (misses_output cs ts (91 ∷ 92 ∷ 93 ∷ []) ≡ 91 ∷ 92 ∷ 93 ∷ [])

-- "refusing as the run does": refusal × 4,294,967,296 + place, and the list as it was
pub record Refused : Type 0 where
  -- 1 at 0, 3 at 0, 10 at 0: the configuration, before the trace
  pub config_cut : Returns [] (0 ∷ []) 4294967296
  pub config_version : Returns (4 ∷ []) (0 ∷ []) 12884901888
  pub config_long : Returns (replicate 4097 1) (0 ∷ []) 42949672960
  -- 20 at 0; 21 at 1, an Activate without its task; 23 at 1, no event's code
  pub trace_long : Returns first (replicate 8193 6) 85899345920
  pub trace_cut_lem : Returns first (1 ∷ []) 90194313217
  pub trace_unknown : Returns first (6 ∷ 0 ∷ []) 98784247809
  -- versions 1 and 2 have no deadlines: no misses, and no room is needed
  pub first_version : Returns first (6 ∷ 6 ∷ 6 ∷ []) 0
  pub second_version : Returns second (6 ∷ 6 ∷ 6 ∷ []) 0
  -- in version 3 both are missed: two, of six bytes; 30 with them where there is no room; a byte beyond stays
  pub third_version : Returns third (6 ∷ 6 ∷ 6 ∷ []) 128849018886
  pub third_listed : (misses_result third (6 ∷ 6 ∷ 6 ∷ []) 6 ≡ 2)
      × (misses_output third (6 ∷ 6 ∷ 6 ∷ []) (replicate 7 99) ≡ 1 ∷ 0 ∷ 0 ∷ 2 ∷ 0 ∷ 1 ∷ 99 ∷ [])

pub refusals : Refused
unfolding misses_after_reading list_after_reading read_run call_of read_config number_at read_from read_number groups continued fifth_group
    fault_at put_at ended timed_in some_timed greatest_in entries_before known arguments after_number read_arguments read_event
    events_from read_rest due first_given candidate chosen_from among held_in counting entry_due dues_from activating_due step_by
    tick_count ends_at ready_at no_end missed_since missed_from missed misses_where misses_after miss_bytes written
refusals =
    record {
      config_cut = (refl, refl);
      config_version = (refl, refl);
      config_long = (refl, refl);
      trace_long = (refl, refl);
      trace_cut_lem = (refl, refl);
      trace_unknown = (refl, refl);
      first_version = (refl, refl);
      second_version = (refl, refl);
      third_version = (refl, refl);
      third_listed = (refl, refl);
    }
