-- Two models on which isolation speaks of twelve events: `pair_agrees`.
--
-- Task 1 runs at level 5. In `busy` task 0 and ISR 3 wait to begin, in `quiet` neither does; both are below 4.
-- ISR 2 begins twice, the entry of task 0 is due twice, and after the thirteenth event both levels are below 4.
use Prim.Native.Nat.{ℕ}
use mathlib.Core.Path.{◌≡◌, refl, sym, ap, subst, ◌∙◌}
use mathlib.Core.List.{List, [], ◌∷◌, map}
use native.Mathlib.Omega.{arith}
use lib.ListN.{get_or, take}
use Rattle.word.specs.Word.{has, with, without, union, highest_below, winner}
use Rattle.word.proofs.Theorems.{has_with_other}
use Rattle.cell.specs.Cell.{tick_cell_in}
use Rattle.stack.specs.Stack.{empty_row, top_row, second_row, push_row, pop_row}
use Rattle.plan.specs.declared.Plan.{Plan}
use Rattle.plan.specs.Rank.{below}
use Rattle.plan.specs.Stores.{stored}
use Rattle.scheduler.specs.Status.{first_given}
use Rattle.scheduler.specs.Event.{Event, Activate, Finish, Chain, Get, Release, Tick, Line, Start, Stop}
use Rattle.scheduler.specs.Scheduler.{Seen}
use Rattle.machine.specs.Model.{Model}
use Rattle.machine.specs.Arbiter.{arbitrated}
use Rattle.machine.specs.Cells.{counters_ticked, switches_ticked, marks, some, spread, requests_due}
use Rattle.machine.specs.Events.{tick}
use Rattle.machine.specs.Machine.{fresh_model, status_of, effect_of, else_of, machine_seen, machine_after}
use Rattle.isolation.specs.Above.{AllNameAbove, Answer, answer, answers_above}
use Rattle.isolation.specs.Models.{waiting_with, LowRank, SameModel}
use Rattle.isolation.proofs.Models.Lists.{isolation_models}
use Rattle.isolation.proofs.Examples.Sample.{sample, sample_plan, plan_is, sample_accepted, sample_shaped}

abbrev pub row : ℕ → ℕ → ℕ → ℕ → Answer
row st r l b = record { status = st; runner = r; level = l; begun = b }

-- the model after some events, by the sample's plan
abbrev reached_by : List Event → Model
reached_by es = machine_after sample sample_plan (fresh_model sample_plan) es

abbrev shown : Model → List Event → List Seen
shown m es = machine_seen sample sample_plan m es

abbrev pub quiet : Model
quiet = reached_by (Start 0 1 ∷ [])

abbrev pub busy : Model
busy = reached_by (Start 0 1 ∷ Activate 0 ∷ Line 3 ∷ [])

abbrev pub further : List Event
further =
    Tick ∷ Line 2 ∷ Tick ∷ Finish ∷ Get 0 ∷ Line 2 ∷ Tick ∷ Release 0 ∷ Finish ∷ Chain 1 ∷ Activate 1 ∷ Stop 0
    ∷ Finish ∷ []

-- what is computed of them
pub record Computed : Type 0 where
  pub level : quiet.core.level ≡ 5
  pub busy_is : busy ≡ waiting_with quiet (with (with 0 0) 1) quiet.losses
  pub none_wait : quiet.core.request ≡ 0
  pub quiet_answers : map answer (shown quiet further)
      ≡ row 0 1 5 0 ∷ row 0 2 9 1 ∷ row 0 2 9 0 ∷ row 0 1 5 0 ∷ row 0 1 9 0 ∷ row 0 1 9 0 ∷ row 0 1 9 0 ∷ row 0 2 9 1
      ∷ row 0 1 5 0 ∷ row 0 1 5 1 ∷ row 4 1 5 0 ∷ row 0 1 5 0 ∷ row 0 0 2 1 ∷ []
  -- isolation speaks of the first twelve, and at the last, below 4, ISR 3 begins in place of task 0
  pub spoken : answers_above 4 (shown quiet further) (shown busy further) ≡ take 12 (map answer (shown quiet further))
  pub busy_answers : map answer (shown busy further)
      ≡ row 0 1 5 0 ∷ row 0 2 9 1 ∷ row 0 2 9 0 ∷ row 0 1 5 0 ∷ row 0 1 9 0 ∷ row 0 1 9 0 ∷ row 0 1 9 0 ∷ row 0 2 9 1
      ∷ row 0 1 5 0 ∷ row 0 1 5 1 ∷ row 4 1 5 0 ∷ row 0 1 5 0 ∷ row 0 3 3 1 ∷ []
  -- task 0 is due at the first Tick: a request in the one, a loss in the other, and a loss in both at the
  -- seventh event
  pub due_below : (map (λ x. get_or x.losses 0 0) (shown quiet (take 7 further)) ≡ 0 ∷ 0 ∷ 0 ∷ 0 ∷ 0 ∷ 0 ∷ 1 ∷ [])
      × (map (λ x. get_or x.losses 0 0) (shown busy (take 7 further)) ≡ 1 ∷ 1 ∷ 1 ∷ 1 ∷ 1 ∷ 1 ∷ 2 ∷ [])

pub computed : Computed
unfolding has with without union highest_below winner tick_cell_in empty_row top_row second_row push_row pop_row first_given
    arbitrated counters_ticked switches_ticked marks some spread requests_due tick status_of effect_of else_of
    machine_seen machine_after answers_above
computed =
    record {
      level = refl;
      busy_is = refl;
      none_wait = refl;
      quiet_answers = refl;
      spoken = refl;
      busy_answers = refl;
      due_below = (refl, refl);
    }

-- ranks 0 and 1 are those of task 0, of priority 2, and of ISR 3, of priority 3
low_task : LowRank sample 4 0
unfolding stored below
low_task = record { body = 0; exists = omega arith; low = refl; rank = refl }

low_isr : LowRank sample 4 1
unfolding stored below
low_isr = record { body = 3; exists = omega arith; low = refl; rank = refl }

pub pair_same : SameModel sample 4 quiet busy
pair_same =
    subst (SameModel sample 4 quiet) (sym computed.busy_is)
    (record {
      rest = refl;
      requests = λ r high.
          ap (λ (w : ℕ). has w r) computed.none_wait
          ∙ sym (has_with_other 0 0 r (λ e. high (rw e low_task)))
          ∙ sym (has_with_other (with 0 0) 1 r (λ e. high (rw e low_isr)));
      losses = record { long = refl; each = λ r high. refl };
    })

names_above : AllNameAbove sample 4 further
names_above =
    (tt, (λ _. refl, (tt, (tt, (tt, (λ _. refl, (tt, (tt, (tt, (λ _. refl, (λ _. refl, (tt, (tt, tt)))))))))))))

-- so the theorem says that the twelve answers are those of both
pub pair_agrees : answers_above 4 (shown quiet further) (shown busy further)
    ≡ answers_above 4 (shown busy further) (shown quiet further)
pair_agrees =
    subst
    (λ (p : Plan). answers_above 4 (machine_seen sample p quiet further) (machine_seen sample p busy further)
    ≡ answers_above 4 (machine_seen sample p busy further) (machine_seen sample p quiet further))
    plan_is
    (isolation_models sample sample_accepted sample_shaped 4 further pair_same (omega (arith, computed.level))
    names_above)
