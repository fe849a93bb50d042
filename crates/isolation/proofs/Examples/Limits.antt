-- Why isolation's limits are there: for each an event that answers by what waits below L, in two models that
-- are the same above it. All but that one limit are kept.
use Prim.Native.Nat.{ℕ}
use mathlib.Core.Path.{◌≡◌, refl}
use mathlib.Core.List.{List, [], ◌∷◌, map}
use lib.ListN.{replicate}
use Rattle.config.specs.declared.Config.{Config}
use Rattle.config.specs.Meaning.{greatest_in, entries_before}
use Rattle.cell.specs.Cell.{tick_cell_in}
use Rattle.word.specs.Word.{has, with, without, union, highest_below, winner}
use Rattle.stack.specs.Stack.{empty_row, top_row, second_row, push_row, pop_row}
use Rattle.plan.specs.Stores.{stored}
use Rattle.plan.specs.Words.{marked}
use Rattle.plan.specs.Rank.{below}
use Rattle.plan.specs.Plan.{plan_of}
use Rattle.plan.specs.Entry.{table_in}
use Rattle.scheduler.specs.Status.{first_given}
use Rattle.scheduler.specs.Bits.{any_set, with_bits, without_bits}
use Rattle.scheduler.specs.Event.{Event, Activate, Finish, Line, Set}
use Rattle.machine.specs.Model.{Model}
use Rattle.machine.specs.Arbiter.{arbitrated}
use Rattle.machine.specs.Cells.{counters_ticked, switches_ticked, marks, some, spread, requests_due}
use Rattle.machine.specs.Events.{tick}
use Rattle.machine.specs.Machine.{fresh_model, status_of, effect_of, else_of, machine_seen, machine_after}
use Rattle.isolation.specs.Above.{Answer, answer, answers_above}
use Rattle.isolation.specs.Models.{waiting_with}
use Rattle.isolation.proofs.Examples.Sample.{sample}
use Rattle.isolation.proofs.Examples.Pair.{row}

-- task 0, extended, of priority 2; task 1 of priority 5, which is autostart
abbrev pub extended_below : Config
extended_below =
    record {
      version = 1;
      bodies = 2;
      kind = 2 ∷ replicate 31 0;
      priority = 2 ∷ 5 ∷ replicate 30 0;
      autostart = 0 ∷ 1 ∷ replicate 30 0;
      deadline = replicate 32 0;
      resources = 0;
      users = replicate 16 0;
      tables = 0;
      period = replicate 8 0;
      entries = replicate 8 0;
      offset = replicate 64 0;
      task = replicate 64 0;
    }

abbrev reached : Config → List Event → Model
reached c es = machine_after c (plan_of c) (fresh_model (plan_of c)) es

-- the answers to es after `one` and after `two`, of which isolation speaks by the level L
abbrev spoken : Config → ℕ → List Event → List Event → List Event → List Answer × List Answer
spoken c L one two es = (
  answers_above L (machine_seen c (plan_of c) (reached c one) es) (machine_seen c (plan_of c) (reached c two) es),
  answers_above L (machine_seen c (plan_of c) (reached c two) es) (machine_seen c (plan_of c) (reached c one) es),
)

abbrev rows : Config → List Event → List Event → List Answer
rows c before es = map answer (machine_seen c (plan_of c) (reached c before) es)

pub record Limits : Type 0 where
  -- "without kind 2": a Set that names an extended task at or below L answers 7 where it is suspended, else 0
  pub set_same : reached extended_below (Activate 0 ∷ []) ≡ waiting_with (reached extended_below []) 1 (replicate 32 0)
  pub set_tells : spoken extended_below 4 [] (Activate 0 ∷ []) (Set 0 1 ∷ []) ≡ (row 7 1 5 0 ∷ [], row 0 1 5 0 ∷ [])
  -- "no Activate .. names a body of priority at most L": here one of priority L, 2, which waits or not
  pub activate_same : reached sample (Activate 0 ∷ []) ≡ waiting_with (reached sample []) 1 (replicate 32 0)
  pub activate_tells : spoken sample 2 [] (Activate 0 ∷ []) (Activate 0 ∷ []) ≡ (row 0 1 5 0 ∷ [], row 4 1 5 0 ∷ [])
  -- "Up to, and not including, the first event after which either level is below L": a Finish leaves one idle,
  -- and in the other an ISR of priority L, 3, begins
  pub fall_same : reached sample (Line 3 ∷ []) ≡ waiting_with (reached sample []) 2 (replicate 32 0)
  pub fall_tells : (rows sample [] (Finish ∷ []) ≡ row 0 255 0 0 ∷ [])
      × (rows sample (Line 3 ∷ []) (Finish ∷ []) ≡ row 0 3 3 1 ∷ [])
      × (spoken sample 3 [] (Line 3 ∷ []) (Finish ∷ []) ≡ ([], []))

pub limits : Limits
unfolding plan_of stored marked below table_in greatest_in entries_before has with without union highest_below winner
    tick_cell_in empty_row top_row second_row push_row pop_row first_given any_set with_bits without_bits arbitrated
    counters_ticked switches_ticked marks some spread requests_due tick status_of effect_of else_of machine_seen
    machine_after answers_above
limits =
    record {
      set_same = refl;
      set_tells = refl;
      activate_same = refl;
      activate_tells = refl;
      fall_same = refl;
      fall_tells = (refl, refl, refl);
    }
