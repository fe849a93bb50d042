-- The run on bytes, worked out: document 01's whole listing, and each limit on both sides, computed by the checker
-- from the definition that the contract of `osek_run` cites.
use Prim.Native.Nat.{ℕ, ◌+◌, ◌*◌}
use mathlib.Core.Path.{◌≡◌, refl}
use mathlib.Core.List.{List, [], ◌∷◌, ◌++◌, map}
use lib.ListN.{replicate}
use Rattle.number.specs.Output.{written}
use Rattle.number.specs.Number.{read_number, groups, continued, fifth_group}
use Rattle.config.specs.Draft.{fault_at, put_at, ended, timed_in}
use Rattle.config.specs.Reader.{number_at, read_from, read_config}
use Rattle.config.specs.Meaning.{greatest_in, entries_before}
use Rattle.event.specs.Event.{event, known, arguments, after_number, read_arguments, read_event}
use Rattle.event.specs.Trace.{read_from as events_from, read_rest}
use Rattle.cell.specs.Due.{due}
use Rattle.scheduler.specs.Status.{first_given}
use Rattle.scheduler.specs.Bits.{any_set, with_bits, without_bits}
use Rattle.scheduler.specs.Choice.{candidate, chosen_from}
use Rattle.scheduler.specs.State.{among, held_in}
use Rattle.scheduler.specs.Tick.{counting, entry_due, dues_from, activating_due}
use Rattle.scheduler.specs.Scheduler.{Activate, Finish, Chain, Get, Release, Tick, Line, Start, Stop, Wait, Set, Clear, step_by, seen_by, after_by}
use Rattle.run.specs.Run.{call_of, read_run, answer_bytes, loss_bytes, answers, result_of, output_of, run_result, run_output}

-- "Configuration (hex)"
abbrev configuration : List ℕ
configuration =
    0x01 ∷ 0x03 ∷ 0x00 ∷ 0x02 ∷ 0x01 ∷ 0x00 ∷ 0x05 ∷ 0x00 ∷ 0x01 ∷ 0x09 ∷ 0x00 ∷ 0x01 ∷ 0x03
    ∷ 0x01 ∷ 0x04 ∷ 0x02 ∷ 0x00 ∷ 0x01 ∷ 0x02 ∷ 0x00 ∷ []

-- "Trace"
abbrev trace : List ℕ
trace =
    0x08 ∷ 0x00 ∷ 0x01 ∷ 0x04 ∷ 0x00 ∷ 0x06 ∷ 0x07 ∷ 0x02 ∷ 0x03 ∷ 0x01 ∷ 0x02 ∷ 0x02 ∷ 0x05 ∷ 0x00
    ∷ 0x06 ∷ 0x06 ∷ 0x02 ∷ 0x02 ∷ 0x06 ∷ 0x06 ∷ 0x09 ∷ 0x00 ∷ 0x02 ∷ 0x02 ∷ []

-- the listing's rows, four bytes each, then its losses: `lost 0 1`
abbrev listed : List ℕ
listed =
    0 ∷ 0 ∷ 2 ∷ 0
    ∷ 0 ∷ 0 ∷ 5 ∷ 0
    ∷ 0 ∷ 0 ∷ 5 ∷ 0
    ∷ 0 ∷ 2 ∷ 9 ∷ 1
    ∷ 2 ∷ 2 ∷ 9 ∷ 0
    ∷ 0 ∷ 0 ∷ 5 ∷ 0
    ∷ 6 ∷ 0 ∷ 5 ∷ 0
    ∷ 0 ∷ 1 ∷ 5 ∷ 1
    ∷ 0 ∷ 1 ∷ 5 ∷ 0
    ∷ 0 ∷ 1 ∷ 5 ∷ 0
    ∷ 0 ∷ 0 ∷ 2 ∷ 0
    ∷ 0 ∷ 255 ∷ 0 ∷ 0
    ∷ 0 ∷ 255 ∷ 0 ∷ 0
    ∷ 0 ∷ 1 ∷ 5 ∷ 1
    ∷ 0 ∷ 1 ∷ 5 ∷ 0
    ∷ 0 ∷ 255 ∷ 0 ∷ 0
    ∷ 2 ∷ 255 ∷ 0 ∷ 0
    ∷ 1 ∷ 0 ∷ 0 ∷ 0 ∷ 0 ∷ 0
    ∷ []

-- an autostart extended task of priority 4, and an ISR of priority 9
abbrev extended_task : List ℕ
extended_task = 1 ∷ 2 ∷ 2 ∷ 4 ∷ 1 ∷ 1 ∷ 9 ∷ 0 ∷ 0 ∷ 0 ∷ []

-- refusal r at the place p, as the run returns it
abbrev at : ℕ → ℕ → ℕ
at r p = r * 4294967296 + p

pub record Worked : Type 0 where
  pub listing : (run_result configuration trace 74 ≡ 17)
      × (run_output configuration trace (replicate 76 7) ≡ listed ++ 7 ∷ 7 ∷ [])
  -- 4,096 zeros are looked at, and have a wrong version; 4,097 are too many
  pub config_limit : (run_result (replicate 4096 0) trace 74 ≡ at 3 0)
      × (run_result (replicate 4097 0) trace 74 ≡ at 10 0)
  -- 8,192 zeros are looked at, and have an unknown event; 8,193 are too many
  pub trace_limit : (run_result configuration (replicate 8192 0) 74 ≡ at 23 0)
      × (run_result configuration (replicate 8193 0) 74 ≡ at 20 0)
  -- a bad configuration comes before a trace that is too long, and a bad trace before an output that is too short
  pub order : (run_result [] (replicate 8193 0) 0 ≡ at 1 0) × (run_result configuration (2 ∷ 13 ∷ []) 0 ≡ at 23 1)
  -- the bytes needed are 4 × 17 + 2 × 3; refused, nothing is written
  pub output_limit : (run_result configuration trace 73 ≡ at 30 74)
      × (run_output configuration trace (replicate 73 7) ≡ replicate 73 7)
  -- no event
  pub no_events : (run_result configuration [] 6 ≡ 0)
      × (run_output configuration [] (7 ∷ 7 ∷ 7 ∷ 7 ∷ 7 ∷ 7 ∷ 7 ∷ []) ≡ 0 ∷ 0 ∷ 0 ∷ 0 ∷ 0 ∷ 0 ∷ 7 ∷ [])
  -- each code with two arguments: Activate, Finish, Chain, Get, Release, Tick, Line, Start, Stop, Wait, Set, Clear
  pub codes : map (λ (code : ℕ). call_of (event code 5 6)) (1 ∷ 2 ∷ 3 ∷ 4 ∷ 5 ∷ 6 ∷ 7 ∷ 8 ∷ 9 ∷ 10 ∷ 11 ∷ 12 ∷ [])
      ≡ Activate 5 ∷ Finish ∷ Chain 5 ∷ Get 5 ∷ Release 5 ∷ Tick ∷ Line 5 ∷ Start 5 6 ∷ Stop 5 ∷ Wait 5 ∷ Set 5 6
      ∷ Clear 5 ∷ []
  -- an ISR sets bits of an extended task, which goes on at once, clears them and waits
  pub extended : (run_result extended_task (7 ∷ 1 ∷ 11 ∷ 0 ∷ 3 ∷ 2 ∷ 10 ∷ 2 ∷ 12 ∷ 3 ∷ 10 ∷ 2 ∷ []) 28 ≡ 6)
      × (run_output extended_task (7 ∷ 1 ∷ 11 ∷ 0 ∷ 3 ∷ 2 ∷ 10 ∷ 2 ∷ 12 ∷ 3 ∷ 10 ∷ 2 ∷ []) (replicate 28 7)
      ≡ 0 ∷ 1 ∷ 9 ∷ 1 ∷ 0 ∷ 1 ∷ 9 ∷ 0 ∷ 0 ∷ 0 ∷ 4 ∷ 0 ∷ 0 ∷ 0 ∷ 4 ∷ 0 ∷ 0 ∷ 0 ∷ 4 ∷ 0 ∷ 0 ∷ 255 ∷ 0 ∷ 0
      ∷ 0 ∷ 0 ∷ 0 ∷ 0 ∷ [])
  -- "two bytes a body, low first"
  pub low_first : loss_bytes (258 ∷ 65535 ∷ []) ≡ 2 ∷ 1 ∷ 255 ∷ 255 ∷ []

pub worked : Worked
unfolding written read_number groups continued fifth_group fault_at put_at timed_in ended number_at read_from read_config
    greatest_in entries_before known arguments after_number read_arguments read_event events_from read_rest due first_given
    any_set with_bits without_bits candidate chosen_from among held_in counting entry_due dues_from activating_due step_by seen_by
    after_by call_of read_run answer_bytes loss_bytes answers result_of output_of
worked =
    record {
      listing = (refl, refl);
      config_limit = (refl, refl);
      trace_limit = (refl, refl);
      order = (refl, refl);
      output_limit = (refl, refl);
      no_events = (refl, refl);
      codes = refl;
      extended = (refl, refl);
      low_first = refl;
    }
