-- Deadlines and lists at their limits, of the definition by what the cells compute: the Ticks 255 and 256; the longest
-- deadline; 63, 64 and 65 misses.
use Prim.Native.Nat.{ℕ, zero, suc, ◌≤◌}
use mathlib.Core.Path.{◌≡◌, refl, sym, ap, ◌∙◌}
use mathlib.Core.Bool.{true}
use mathlib.Core.List.{List, [], ◌∷◌}
use native.Mathlib.Omega.{arith}
use borrow.Author.Tests.{eq-eqb}
use lib.ListN.{replicate}
use Rattle.number.specs.Number.{read_number, groups, continued, fifth_group}
use Rattle.config.specs.declared.Config.{Config}
use Rattle.config.specs.Draft.{fault_at, put_at, ended, timed_in, some_timed}
use Rattle.config.specs.Reader.{read_config, number_at, read_from}
use Rattle.config.specs.Meaning.{greatest_in, entries_before}
use Rattle.cell.specs.Cell.{tick_cell_in}
use Rattle.cell.specs.Due.{due}
use Rattle.scheduler.specs.Status.{first_given}
use Rattle.scheduler.specs.Choice.{candidate, chosen_from}
use Rattle.scheduler.specs.State.{State, among, held_in}
use Rattle.scheduler.specs.Event.{Event, Chain, Tick}
use Rattle.scheduler.specs.Call.{active}
use Rattle.scheduler.specs.Tick.{counting, entry_due, dues_from, activating_due}
use Rattle.scheduler.specs.Scheduler.{step_by, fresh}
use Rattle.scheduler.specs.History.{next, tick_count}
use Rattle.scheduler.proofs.Worked.Examples.{sample, two_autostart}
use Rattle.deadlines.specs.Activation.{ends_at, ready_at}
use Rattle.deadlines.specs.Miss.{no_end, missed_since, missed, Miss, deadline_in, misses}
use Rattle.deadlines.specs.DeadlineCells.{ready_cell, counted_cell, moved_cell, fresh_cell, row_of, step_row, matches_of, run_row, cell_misses}
use Rattle.deadlines.proofs.Theorems.{cells_tell_misses}
use Rattle.deadlines.proofs.Examples.{at}
use Rattle.deadlines.proofs.Answers.{misses_from}

-- what the cells compute holds of the definition too
few : (d e b : ℕ) → d ≤ 65535 → e ≤ 65535 → deadline_in (d ∷ e ∷ []) b ≤ 65535
few d e zero h k = h
few d e (suc zero) h k = k
few d e (suc (suc b)) h k = omega arith

-- the Ticks 255 and 256
abbrev late_ticks : List ℕ
late_ticks = 255 ∷ 256 ∷ []

late_cells : cell_misses two_autostart late_ticks (replicate 256 Tick) ≡ at 255 0 ∷ at 256 1 ∷ []
unfolding two_autostart read_config number_at read_from read_number groups continued fifth_group fault_at put_at ended timed_in some_timed
    greatest_in entries_before due first_given candidate chosen_from among held_in counting entry_due dues_from activating_due
    step_by tick_cell_in ends_at ready_at ready_cell counted_cell moved_cell fresh_cell row_of step_row matches_of run_row
late_cells = refl

pub late_ticks_lem : misses two_autostart late_ticks (replicate 256 Tick) ≡ at 255 0 ∷ at 256 1 ∷ []
late_ticks_lem =
    sym (cells_tell_misses two_autostart late_ticks (λ b _. few 255 256 b (omega arith) (omega arith)) (replicate 256 Tick))
    ∙ late_cells

-- a task that is ready at the fresh start and never ends misses at the Tick of its deadline, the longest one too
ticks_no_end : (c : Config) (b : ℕ) (s : State) (n : ℕ) → no_end c b s (replicate n Tick) ≡ true
unfolding no_end ends_at
ticks_no_end c b s zero = refl
ticks_no_end c b s (suc n) = ticks_no_end c b (next c s Tick) n

ticks_counted : (n : ℕ) → tick_count (replicate n Tick) ≡ n
unfolding tick_count
ticks_counted zero = refl
ticks_counted (suc n) = ap suc (ticks_counted n)

never_ended : (c : Config) (b n : ℕ) → active (fresh c) b ≡ true → missed c (suc n) b (replicate n Tick) ≡ true
unfolding missed missed_since
never_ended c b n on =
    rw (on, ticks_no_end c b (fresh c) n, ticks_counted n, eq-eqb (suc n) (suc n) refl)

autostarted : active (fresh sample) 0 ≡ true
unfolding sample read_config number_at read_from read_number groups continued fifth_group fault_at put_at ended timed_in some_timed
    greatest_in entries_before candidate chosen_from among
autostarted = refl

pub longest : missed sample 65535 0 (replicate 65534 Tick) ≡ true
longest = never_ended sample 0 65534 autostarted

-- n activations of task 0 by itself, each with a miss at the deadline 1
unfoldable pub activations : ℕ → List Event
activations zero = []
activations (suc n) = Tick ∷ Chain 0 ∷ activations n

abbrev pub late_ones : ℕ → List Miss
late_ones n = misses sample (1 ∷ 0 ∷ []) (activations n)

by_cells : (n : ℕ) → cell_misses sample (1 ∷ 0 ∷ []) (activations n) ≡ misses_from 1 n → late_ones n ≡ misses_from 1 n
by_cells n h =
    sym (cells_tell_misses sample (1 ∷ 0 ∷ []) (λ b _. few 1 0 b (omega arith) (omega arith)) (activations n)) ∙ h

pub late_ones_lem : (late_ones 63 ≡ misses_from 1 63) × (late_ones 64 ≡ misses_from 1 64) × (late_ones 65 ≡ misses_from 1 65)
unfolding activations misses_from sample read_config number_at read_from read_number groups continued fifth_group fault_at put_at ended
    timed_in some_timed greatest_in entries_before due first_given candidate chosen_from among held_in counting entry_due dues_from
    activating_due step_by tick_cell_in ends_at ready_at ready_cell counted_cell moved_cell fresh_cell row_of step_row matches_of
    run_row
late_ones_lem = (by_cells 63 refl, by_cells 64 refl, by_cells 65 refl)
