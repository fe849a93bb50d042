-- The requests, begins and ends of a run, counted for each of its four bodies.
--
-- Task 0 is made ready by its entry at the first Tick and at the fifth; the entry due at the third finds it
-- started. Two of three Lines of ISR 2 are accepted, the second while it is started. Task 1 is autostart, and
-- chained once.
use Prim.Native.Nat.{ℕ, ◌+◌}
use mathlib.Core.Path.{◌≡◌, refl}
use mathlib.Core.List.{List, [], ◌∷◌, map}
use Rattle.config.specs.Meaning.{greatest_in, entries_before}
use Rattle.cell.specs.Due.{due}
use Rattle.scheduler.specs.Status.{first_given}
use Rattle.scheduler.specs.Choice.{candidate, chosen_from}
use Rattle.scheduler.specs.State.{among, held_in}
use Rattle.scheduler.specs.Event.{Event, Activate, Finish, Chain, Tick, Line, Start}
use Rattle.scheduler.specs.Tick.{counting, entry_due, dues_from, activating_due, naming}
use Rattle.scheduler.specs.Scheduler.{Seen, step_by, fresh, seen, seen_by, after, after_by, losses_of}
use Rattle.isolation.specs.Requests.{requests, ends, marks, autostarted, fresh_runner, fresh_mark, waits_to_begin, under_way}
use Rattle.isolation.proofs.Examples.Sample.{sample}

abbrev pub events : List Event
events =
    Start 0 1 ∷ Tick ∷ Activate 0 ∷ Line 2 ∷ Line 2 ∷ Line 2 ∷ Finish ∷ Finish ∷ Chain 0 ∷ Finish ∷ Tick ∷ Tick
    ∷ Chain 1 ∷ Tick ∷ Tick ∷ []

abbrev shown : List Seen
shown = seen sample (fresh sample) events

abbrev each : (ℕ → ℕ) → List ℕ
each f = map f (0 ∷ 1 ∷ 2 ∷ 3 ∷ [])

pub record Counts : Type 0 where
  pub statuses : map (λ x. x.status) shown
      ≡ 0 ∷ 0 ∷ 4 ∷ 0 ∷ 0 ∷ 4 ∷ 0 ∷ 0 ∷ 4 ∷ 0 ∷ 0 ∷ 0 ∷ 0 ∷ 0 ∷ 0 ∷ []
  pub accepted_requests : each (λ b. autostarted sample b
      + requests sample b (fresh_runner sample) (autostarted sample b) events shown) ≡ 2 ∷ 2 ∷ 2 ∷ 0 ∷ []
  pub begun_marks : each (λ b. fresh_mark sample b + marks b shown) ≡ 1 ∷ 2 ∷ 2 ∷ 0 ∷ []
  pub waiting : each (waits_to_begin (after sample (fresh sample) events)) ≡ 1 ∷ 0 ∷ 0 ∷ 0 ∷ []
  pub ends_seen : each (λ b. ends b (fresh_runner sample) events shown) ≡ 1 ∷ 1 ∷ 2 ∷ 0 ∷ []
  pub begun_and_not_ended : each (under_way (after sample (fresh sample) events)) ≡ 0 ∷ 1 ∷ 0 ∷ 0 ∷ []
  pub losses : losses_of (after sample (fresh sample) events) ≡ 1 ∷ 0 ∷ 0 ∷ 0 ∷ []

pub counts : Counts
unfolding greatest_in entries_before due first_given candidate chosen_from among held_in counting entry_due dues_from
    activating_due naming step_by seen_by after_by requests ends marks
counts =
    record {
      statuses = refl;
      accepted_requests = refl;
      begun_marks = refl;
      waiting = refl;
      ends_seen = refl;
      begun_and_not_ended = refl;
      losses = refl;
    }
