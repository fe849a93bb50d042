-- Verdicts on bytes, worked out on four events and computed by the checker: passed, failed at the event that differs or
-- is missing, refused.
use Prim.Native.Nat.{ℕ, ◌+◌, ◌*◌}
use mathlib.Core.Path.{◌≡◌, refl}
use mathlib.Core.List.{List, [], ◌∷◌, ◌++◌}
use lib.ListN.{take, set}
use Rattle.number.specs.Number.{read_number, groups, continued, fifth_group}
use Rattle.config.specs.Draft.{fault_at, put_at, ended, timed_in}
use Rattle.config.specs.Reader.{number_at, read_from, read_config}
use Rattle.config.specs.Meaning.{greatest_in, entries_before}
use Rattle.event.specs.Event.{known, arguments, after_number, read_arguments, read_event}
use Rattle.event.specs.Trace.{read_from as events_from, read_rest}
use Rattle.cell.specs.Due.{due}
use Rattle.scheduler.specs.Status.{first_given}
use Rattle.scheduler.specs.Choice.{candidate, chosen_from}
use Rattle.scheduler.specs.State.{among, held_in}
use Rattle.scheduler.specs.Tick.{counting, entry_due, dues_from, activating_due}
use Rattle.scheduler.specs.Scheduler.{step_by, seen_by}
use Rattle.run.specs.Run.{call_of, read_run, answer_bytes}
use Rattle.conformance.specs.Verdict.{begin_with, right_answers, is_record, verdict_on, result_of, verdict_result}

-- one task of priority 2, which runs from the fresh start on
abbrev configuration : List ℕ
configuration = 1 ∷ 1 ∷ 0 ∷ 2 ∷ 1 ∷ 0 ∷ 0 ∷ []

-- Tick, Chain to itself, Finish, Tick
abbrev trace : List ℕ
trace = 6 ∷ 3 ∷ 0 ∷ 2 ∷ 6 ∷ []

-- status, runner, level and begun mark of each: the task runs, begins anew, and ends
abbrev right : List ℕ
right =
    0 ∷ 0 ∷ 2 ∷ 0
    ∷ 0 ∷ 0 ∷ 2 ∷ 1
    ∷ 0 ∷ 255 ∷ 0 ∷ 0
    ∷ 0 ∷ 255 ∷ 0 ∷ 0
    ∷ []

-- the verdict on a record of these four events
abbrev on : List ℕ → ℕ
on rs = verdict_result configuration trace rs

-- 70 at place 0
abbrev refused70 : ℕ
refused70 = 70 * 4294967296

pub record Examples : Type 0 where
  pub passed : on right ≡ 18446744073709551615
  -- each of the four bytes is compared, the last of the last event too
  pub status : on (set right 4 4) ≡ 1
  pub runner : on (set right 5 1) ≡ 1
  pub level : on (set right 6 3) ≡ 1
  pub begun : (on (set right 7 0) ≡ 1) × (on (set right 15 1) ≡ 3)
  -- the first that differs, and not a later one
  pub first : on (set (set right 9 0) 7 0) ≡ 1
  -- an answer that is missing; an earlier one that differs
  pub missing : (on (take 12 right) ≡ 3) × ((on [] ≡ 0) × (on (take 12 (set right 7 0)) ≡ 1))
  -- no whole answers, or too many: before any comparison
  pub bad_record_lem : (on (take 15 right) ≡ refused70)
      × ((on (right ++ 0 ∷ []) ≡ refused70)
      × ((on (right ++ 0 ∷ 255 ∷ 0 ∷ 0 ∷ []) ≡ refused70) × (on (9 ∷ []) ≡ refused70)))
  -- the run's refusals come first: an empty configuration, an unknown event
  pub run_first : (verdict_result [] trace (9 ∷ []) ≡ 1 * 4294967296)
      × (verdict_result configuration (2 ∷ 13 ∷ []) (9 ∷ []) ≡ 23 * 4294967296 + 1)
  pub no_events : (verdict_result configuration [] [] ≡ 18446744073709551615)
      × (verdict_result configuration [] (0 ∷ 0 ∷ 2 ∷ 0 ∷ []) ≡ refused70)

pub examples : Examples
unfolding read_number groups continued fifth_group fault_at put_at timed_in ended number_at read_from read_config greatest_in
    entries_before known arguments after_number read_arguments read_event events_from read_rest due first_given candidate
    chosen_from among held_in counting entry_due dues_from activating_due step_by seen_by call_of read_run answer_bytes begin_with
    right_answers is_record verdict_on result_of
examples =
    record {
      passed = refl;
      status = refl;
      runner = refl;
      level = refl;
      begun = (refl, refl);
      first = refl;
      missing = (refl, (refl, refl));
      bad_record_lem = (refl, (refl, (refl, refl)));
      run_first = (refl, refl);
      no_events = (refl, refl);
    }
