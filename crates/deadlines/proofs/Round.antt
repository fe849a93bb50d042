-- Source document 000's Table 4.5, with its deadlines monitored: a dispatcher round of length 1,000; TTTask1 is
-- dispatched at the offsets 100 and 600, with deadlines at 450 and 950, and TTTask2 at 200, with a deadline at 350. So
-- TTTask1 has the deadline 350 and TTTask2 150.
--
-- The round is started with delay 1: what the document has at an offset is one Tick later. Of this round the cells are
-- computed, and the definition follows (`cells_tell_misses`); the definition and the machine's words are computed of a
-- round of length 20, with all times a fiftieth.
use Prim.Native.Nat.{ℕ, zero, suc, ◌≤◌}
use mathlib.Core.Path.{◌≡◌, refl, sym, ◌∙◌}
use mathlib.Core.List.{List, [], ◌∷◌, ◌++◌}
use native.Mathlib.Omega.{arith}
use lib.ListN.{replicate}
use Rattle.number.specs.Number.{read_number, groups, continued, fifth_group}
use Rattle.config.specs.declared.Config.{Config}
use Rattle.config.specs.Draft.{fault_at, put_at, ended, timed_in, some_timed}
use Rattle.config.specs.Reader.{read_config, number_at, read_from}
use Rattle.config.specs.Meaning.{greatest_in, entries_before}
use Rattle.cell.specs.Cell.{tick_cell_in}
use Rattle.cell.specs.Due.{due}
use Rattle.word.specs.Word.{has, with, without, union, highest_below, winner}
use Rattle.stack.specs.Stack.{empty_row, top_row, second_row, push_row, pop_row}
use Rattle.plan.specs.Stores.{stored}
use Rattle.plan.specs.Words.{marked}
use Rattle.plan.specs.Rank.{below}
use Rattle.plan.specs.Entry.{table_in}
use Rattle.plan.specs.Plan.{plan_of}
use Rattle.scheduler.specs.Status.{first_given}
use Rattle.scheduler.specs.Choice.{candidate, chosen_from}
use Rattle.scheduler.specs.State.{among, held_in}
use Rattle.scheduler.specs.Event.{Event, Finish, Tick, Start}
use Rattle.scheduler.specs.Tick.{counting, entry_due, dues_from, activating_due}
use Rattle.scheduler.specs.Scheduler.{step_by}
use Rattle.scheduler.specs.History.{tick_count}
use Rattle.machine.specs.Arbiter.{arbitrated}
use Rattle.machine.specs.Cells.{counters_ticked, switches_ticked, marks, some, spread, requests_due}
use Rattle.machine.specs.Events.{tick}
use Rattle.machine.specs.Machine.{status_of, effect_of, else_of}
use Rattle.deadlines.specs.Activation.{ends_at, ready_at}
use Rattle.deadlines.specs.Miss.{no_end, missed_since, missed_from, missed, Miss, misses_where, deadline_in, misses_after, misses}
use Rattle.deadlines.specs.DeadlineCells.{ready_cell, counted_cell, moved_cell, fresh_cell, row_of, step_row, matches_of, run_row, cell_misses}
use Rattle.deadlines.specs.Words.{step_row_by, machine_row}
use Rattle.deadlines.proofs.Theorems.{cells_tell_misses}
use Rattle.deadlines.proofs.Examples.{at, Gives}

-- body 0 is an autostart task, which starts the round; 1 is TTTask1, 2 TTTask2
unfoldable pub round : Config
round =
    (read_config
    (1 ∷ 3 ∷ 0 ∷ 1 ∷ 1 ∷ 3 ∷ 2 ∷ 0 ∷ 3 ∷ 3 ∷ 0 ∷ 0 ∷ 1 ∷ 0xe8 ∷ 0x07 ∷ 3 ∷ 100 ∷ 1 ∷ 0xc8 ∷ 0x01 ∷ 2 ∷ 0xd8 ∷ 0x04 ∷ 1
    ∷ [])
    ).config

abbrev deadlines : List ℕ
deadlines = 0 ∷ 350 ∷ 150 ∷ []

-- a fiftieth: offsets 2, 4 and 12
unfoldable pub short_round : Config
short_round =
    (read_config (1 ∷ 3 ∷ 0 ∷ 1 ∷ 1 ∷ 3 ∷ 2 ∷ 0 ∷ 3 ∷ 3 ∷ 0 ∷ 0 ∷ 1 ∷ 20 ∷ 3 ∷ 2 ∷ 1 ∷ 4 ∷ 2 ∷ 12 ∷ 1 ∷ [])).config

abbrev short_deadlines : List ℕ
short_deadlines = 0 ∷ 7 ∷ 3 ∷ []

-- the round up to its end, where TTTask2 ends after i Ticks, TTTask1 after j more and again after k more
abbrev ending : ℕ → ℕ → ℕ → ℕ → List Event
ending i j k rest =
    Start 0 1 ∷ (replicate i Tick ++ Finish ∷ (replicate j Tick ++ Finish ∷ (replicate k Tick ++ Finish ∷ replicate rest Tick)))

-- as in Figure 4.8: TTTask2 ends at 300, TTTask1 at 400 and at 700
abbrev in_time : List Event
in_time = ending 301 100 300 299

-- each in the event before its due Tick, the 351st, the 451st and the 951st, and each in the event after it
abbrev at_last : List Event
at_last = ending 350 100 500 50

abbrev too_late : List Event
too_late = ending 351 100 500 49

-- neither ends: the dispatch at 600 is a loss, no activation
abbrev endless : List Event
endless = Start 0 1 ∷ replicate 1000 Tick

few : (b : ℕ) → deadline_in deadlines b ≤ 65535
few zero = omega arith
few (suc zero) = omega arith
few (suc (suc zero)) = omega arith
few (suc (suc (suc b))) = omega arith

-- by the definition, and by the cells
abbrev Tells : List Event → List Miss → Type 0
Tells es ms = (misses round deadlines es ≡ ms) × (cell_misses round deadlines es ≡ ms)

tells : (es : List Event) {ms : List Miss} → cell_misses round deadlines es ≡ ms → Tells es ms
tells es h = (sym (cells_tell_misses round deadlines (λ b _. few b) es) ∙ h, h)

pub record Rounds : Type 0 where
  pub in_time_lem : Tells in_time []
  pub at_last_lem : Tells at_last []
  pub too_late_lem : Tells too_late (at 351 2 ∷ at 451 1 ∷ at 951 1 ∷ [])
  pub endless_once : Tells endless (at 351 2 ∷ at 451 1 ∷ [])
  -- the last three of a fiftieth: the Ticks 8, 10 and 20 are due
  pub short_at_last : Gives short_round short_deadlines (ending 7 2 10 1) []
  pub short_too_late : Gives short_round short_deadlines (ending 8 2 10 0) (at 8 2 ∷ at 10 1 ∷ at 20 1 ∷ [])
  pub short_endless : Gives short_round short_deadlines (Start 0 1 ∷ replicate 20 Tick) (at 8 2 ∷ at 10 1 ∷ [])

pub rounds : Rounds
unfolding round short_round read_config number_at read_from read_number groups continued fifth_group fault_at put_at ended timed_in some_timed
    greatest_in entries_before due first_given candidate chosen_from among held_in counting entry_due dues_from activating_due
    step_by tick_count tick_cell_in ends_at ready_at no_end missed_since missed_from missed misses_where misses_after ready_cell
    counted_cell moved_cell fresh_cell row_of step_row matches_of run_row has with without union highest_below winner empty_row
    top_row second_row push_row pop_row stored marked below table_in plan_of arbitrated counters_ticked switches_ticked marks
    some spread requests_due tick status_of effect_of else_of step_row_by machine_row
rounds =
    record {
      in_time_lem = tells in_time refl;
      at_last_lem = tells at_last refl;
      too_late_lem = tells too_late refl;
      endless_once = tells endless refl;
      short_at_last = (refl, refl, refl);
      short_too_late = (refl, refl, refl);
      short_endless = (refl, refl, refl);
    }
