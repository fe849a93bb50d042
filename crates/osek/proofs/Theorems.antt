-- What is proved, on one page. Each claim stands here in full, over the definitions in specs/ alone, and cites the
-- crate that proves it. Besides, every function meets its contract: crates/osek_c/src/lib.rt has those of the library,
-- which fix each result and every byte by such definitions.
--
-- In order: demand 1, the round trips of demand 2, demand 3; then the requests of document 02 by their numbers.
use Prim.Native.Nat.{ℕ, suc, ◌+◌, min, ◌≤◌, ◌<◌}
use mathlib.Core.Path.{◌≡◌}
use mathlib.Core.Logic.{◌≢◌, ◌↔◌}
use mathlib.Core.Bool.{true, false}
use mathlib.Core.List.{List, [], ◌∷◌, map, Memᴰ}
use lib.ListN.{length, get_or, take}
use Rattle.number.specs.Refusal.{none, malformed}
use Rattle.number.specs.Number as Number
use Rattle.number.specs.Number.{number_bound, Bytes, read_number, number_bytes}
use Rattle.number.proofs.Theorems as Numbers
use Rattle.config.specs.declared.Config.{Config}
use Rattle.config.specs.Value.{with_version}
use Rattle.config.specs.Accepted.{Accepted, Shaped, trimmed}
use Rattle.config.specs.Meaning.{is_user, is_extended}
use Rattle.config.specs.Reader as Reader
use Rattle.config.specs.Reader.{max_length, read_config}
use Rattle.config.specs.Decisive as Config
use Rattle.config.specs.Decisive.{OfNumber}
use Rattle.config.specs.Writer.{first_fault, config_bytes}
use Rattle.config.proofs.Theorems as Configurations
use Rattle.event.specs.Refusal.{trace_cut}
use Rattle.event.specs.Trace as TraceRead
use Rattle.event.specs.Trace.{read_trace, trace_bytes, AllWritable}
use Rattle.event.specs.declared.Event as Trace
use Rattle.event.proofs.Theorems as Traces
use Rattle.cell.specs.Cell.{modulus, start_counter, sums, start_cell, tick_cell, ticks}
use Rattle.cell.specs.Due.{due}
use Rattle.cell.proofs.Theorems as Cells
use Rattle.plan.specs.declared.Plan.{Plan}
use Rattle.plan.specs.Plan.{plan_of}
use Rattle.scheduler.specs.Status.{done}
use Rattle.scheduler.specs.Body.{has_begun}
use Rattle.scheduler.specs.Choice.{by_begun}
use Rattle.scheduler.specs.State.{State, body_of, among, runner}
use Rattle.scheduler.specs.Call.{nobody_runs, caller, calling}
use Rattle.scheduler.specs.Scheduler.{Event, Get, fresh, step, seen, after, fresh_by, seen_by}
use Rattle.scheduler.specs.History.{unlost, lines_lost}
use Rattle.scheduler.proofs.Theorems as Scheduler
use Rattle.machine.specs.Model.{Model}
use Rattle.machine.specs.Machine.{machine_step, machine_seen, LostLine}
use Rattle.machine.proofs.Theorems as Machine
use Rattle.machine.proofs.Theorems.{Demand3}
use Rattle.run.specs.Run.{run_result, run_output}
use Rattle.run.proofs.Theorems as Run
use Rattle.run.proofs.Theorems.{places, high_half}
use Rattle.isolation.specs.Above.{AllNameAbove, answers_above}
use Rattle.isolation.specs.Models.{SameModel}
use Rattle.isolation.specs.Requests.{requests, autostarted, marks, fresh_runner, fresh_mark, waits_to_begin}
use Rattle.isolation.proofs.Theorems as Isolation
use Rattle.waiting.specs.Finishes.{BeginsAt}
use Rattle.waiting.specs.Result.{wait_in}
use Rattle.waiting.proofs.Theorems as Waiting
use Rattle.deadlines.specs.Miss.{Miss, MissedDeadline, IsMiss, InOrder, deadlines_of, misses}
use Rattle.deadlines.specs.Report.{BytesOf, first_misses, miss_bytes}
use Rattle.deadlines.specs.DeadlineCells.{cell_after}
use Rattle.deadlines.specs.Words.{machine_misses}
use Rattle.deadlines.proofs.Theorems as Deadlines
use Rattle.drawing.specs.Weights.{weight, total}
use Rattle.drawing.specs.Drawing.{draw_events, draw_bytes, Within, Each, Limited, first_sort, second_sort}
use Rattle.drawing.proofs.Theorems as Drawing
use Rattle.conformance.specs.Verdict.{pass, fail, is_record, verdict}
use Rattle.conformance.specs.Record.{expected, Runs, FirstWrong}
use Rattle.conformance.proofs.Theorems as Conformance
use Rattle.recording.specs.Fate.{kept_bytes}
use Rattle.recording.specs.Stretch.{stretches, rebuilt}
use Rattle.recording.proofs.Theorems as Recording
use Rattle.oil_grammar.specs.Grammar.{Describes}
use Rattle.oil_grammar.specs.Reader.{read_oil}
use Rattle.oil_grammar.proofs.Theorems as OilGrammar
use Rattle.osek.proofs.Verdict as OnMachine
use Rattle.osek.proofs.Verdict.{machine_expected}

-- Demand 1: "A refused run writes nothing to the output." That every input yields its answers or its refusal is the
-- contract of `osek_run`.
pub refused_run : (cs ts d : List ℕ) → high_half (run_result cs ts (length d)) ≢ 0 → run_output cs ts d ≡ d
refused_run = Run.refused_same

-- The one refusal is that of the first number at fault, "in reading order": whatever follows it, the answer is the same
pub config_decided : (bs cs : List ℕ) → OfNumber (read_config bs).refusal → length cs ≤ max_length
    → take (Config.decisive bs (read_config bs)) cs ≡ take (Config.decisive bs (read_config bs)) bs
    → read_config cs ≡ read_config bs
config_decided = Configurations.fault_decided

pub trace_decided : (bs cs : List ℕ) → (read_trace bs).refusal ≢ none → (read_trace bs).refusal ≢ trace_cut
    → take (TraceRead.decisive bs (read_trace bs)) cs ≡ take (TraceRead.decisive bs (read_trace bs)) bs
    → read_trace cs ≡ read_trace bs
trace_decided = Traces.trace_decided

-- "A refused system call changes nothing in the model", but for the loss count of a lost line from edition two on (A8)
pub refused_call : (c : Config) (p : Plan) (m : Model) (e : Event) → (machine_step c p m e).status ≢ done
    → ((i : ℕ) → LostLine c p m e i → ⊥) → (machine_step c p m e).model ≡ m
refused_call = Machine.refused_same

-- Demand 2: "A configuration, as far as its counts reach, or an event that is written reads back the same, and what the
-- reader accepts is written back to the same bytes."
pub config_read_written : (c : Config) → Shaped c → first_fault c ≡ none
    → read_config (config_bytes c) ≡ Reader.accepted (trimmed c) (length (config_bytes c))
config_read_written = Configurations.read_written

pub config_written_read : (bs : List ℕ) → Bytes bs → (read_config bs).refusal ≡ none
    → (first_fault (read_config bs).config ≡ none) × (config_bytes (read_config bs).config ≡ bs)
config_written_read = Configurations.written_read

pub trace_read_written : (es : List Trace.Event) → AllWritable es
    → read_trace (trace_bytes es) ≡ record { events = es; refusal = none; place = length (trace_bytes es) }
trace_read_written = Traces.trace_read_written

pub trace_written_read : (bs : List ℕ) → Bytes bs → (read_trace bs).refusal ≡ none
    → bs ≡ trace_bytes (read_trace bs).events
trace_written_read = Traces.trace_written_read

-- Demand 3, undivided: of every configuration that the reader accepts and every list of events, the machine and the
-- plain scheduler are seen to do the same, and a cell matches at exactly the Ticks at which its entry is due.
pub demand_3 : (bs : List ℕ) → (read_config bs).refusal ≡ none
    → (es : List Event) → Demand3 (read_config bs).config es
demand_3 = Machine.demand_3_read

-- A1: "The trace is always readable", "exactly as many events as asked", "an event whose weight is 0 never occurs",
-- every argument below the limit of its sort
module _ (ws ls : List ℕ) (x : ℕ) (start : x < 4294967296) (n : ℕ) where
  pub drawn_readable : read_trace (draw_bytes ws ls x n)
      ≡ record { events = draw_events ws ls x n; refusal = none; place = length (draw_bytes ws ls x n) }
  drawn_readable = Drawing.drawn_readable ws ls x start n

  pub drawn_length : length (draw_events ws ls x n) ≡ n
  drawn_length = Drawing.drawn_length ws ls x n

  pub weight_zero_never : 1 ≤ total ws → Each (λ e. 1 ≤ weight ws e.code) (draw_events ws ls x n)
  weight_zero_never = Drawing.weight_zero_never ws ls x start n

  pub arguments_below : Limited ls
      → Each (λ e. Within ls (first_sort e.code) e.first × Within ls (second_sort e.code) e.second)
      (draw_events ws ls x n)
  arguments_below = Drawing.arguments_below ws ls x start n

-- A2: "the place .. to be the byte that decides it": whatever follows that byte, the refusal is the same
pub malformed_decided : (bs cs : List ℕ) (at p : ℕ) → read_number bs at ≡ Number.refused malformed p
    → take (suc p) cs ≡ take (suc p) bs → read_number cs at ≡ Number.refused malformed p
malformed_decided = Numbers.malformed_decided

-- A3: "the D-th addition of 1, and none before it, brings it to the compare value"
pub compare_reached : (k D : ℕ) → k < modulus → 1 ≤ D → D ≤ modulus
    → (sums D (start_counter k D) ≡ k) × ((n : ℕ) → 1 ≤ n → n < D → sums n (start_counter k D) ≢ k)
compare_reached = Cells.compare_reached

-- A4: a cell matches when its entry is due, with first delays of up to two turns of the counter
pub matches_when_due : (P D n : ℕ) → 1 ≤ P → P ≤ modulus → 1 ≤ D → D ≤ modulus + modulus
    → (ticks (suc n) (start_cell P D)).matched ≡ due P D (suc n)
matches_when_due = Cells.matches_when_due

-- A5: an answer that is no refusal is the number of the Finish event in which the body begins
pub wait_begins : (c : Config) → Accepted c → Shaped c → (es : List Event) (b : ℕ)
    → wait_in c (after c (fresh c) es) b < places
    → BeginsAt c (after c (fresh c) es) b (wait_in c (after c (fresh c) es) b)
wait_begins = Waiting.wait_begins

-- A6: without extended tasks document 01's rule for ties, the one that began, gives what the new one gives
pub old_rule : (c : Config) → Accepted c → Shaped c → ((b : ℕ) → is_extended c b ≡ false) → (es : List Event)
    → seen_by by_begun c (fresh_by by_begun c) es ≡ seen c (fresh c) es
old_rule c ok shaped none es = (Scheduler.old_rule c ok shaped none es).0

-- A7: "a declared basic task or ISR is refused a resource only when it holds that resource itself"
pub declared_refused : (c : Config) → Accepted c → Shaped c → (es : List Event) (r : ℕ)
    → nobody_runs c (after c (fresh c) es) ≡ false
    → is_user c r (caller c (after c (fresh c) es)) ≡ true
    → (step c (after c (fresh c) es) (Get r)).seen.status ≢ 0
    → ((step c (after c (fresh c) es) (Get r)).seen.status ≡ 1)
    × (among r (calling c (after c (fresh c) es)).held ≡ true)
declared_refused = Scheduler.declared_refused

-- A8: the editions differ in the losses alone, and there by the lost lines
pub versions_alike : (c : Config) (v w : ℕ) (es : List Event)
    → map unlost (seen (with_version c v) (fresh (with_version c v)) es)
    ≡ map unlost (seen (with_version c w) (fresh (with_version c w)) es)
versions_alike = Scheduler.versions_alike

pub losses_apart : (c : Config) (v : ℕ) → 2 ≤ v → (i : ℕ) (es : List Event)
    → (body_of (after (with_version c v) (fresh (with_version c v)) es) i).losses
    ≡ min
    ((body_of (after (with_version c 1) (fresh (with_version c 1)) es) i).losses
    + lines_lost (with_version c 1) i (fresh (with_version c 1)) es)
    65535
losses_apart = Scheduler.losses_apart

-- A9: nothing below disturbs what is above: two models that differ in who waits below L, and in their losses, answer
-- alike until a level falls below L
pub isolation : (c : Config) → Accepted c → Shaped c → (L : ℕ) (es : List Event) {m m' : Model} → SameModel c L m m'
    → L ≤ m.core.level
    → AllNameAbove c L es
    → answers_above L (machine_seen c (plan_of c) m es) (machine_seen c (plan_of c) m' es)
    ≡ answers_above L (machine_seen c (plan_of c) m' es) (machine_seen c (plan_of c) m es)
isolation = Isolation.isolation_models

-- "for each body the accepted requests, autostart included, equal its begun marks plus one if it waits to begin"
pub conservation : (c : Config) → Accepted c → Shaped c → (es : List Event) (b : ℕ) → b < c.bodies
    → autostarted c b + requests c b (fresh_runner c) (autostarted c b) es (seen c (fresh c) es)
    ≡ fresh_mark c b + marks b (seen c (fresh c) es) + waits_to_begin (after c (fresh c) es) b
conservation = Isolation.conservation

-- A10: of the started time-triggered tasks "latest start first", at "one common execution level 201"
pub runner_timed : (c : Config) (s : State) (j : ℕ) (js : List ℕ) → s.order ≡ j ∷ js
    → ((runner c s).number ≡ j) × ((runner c s).level ≡ 201) × ((runner c s).began ≡ has_begun (body_of s j).phase)
runner_timed = Scheduler.runner_timed

-- A11: "a miss is counted exactly when the task has not ended since by the due tick": by a deadline cell, over the list
-- of events alone; the run on the machine gives the list of misses, in order of time, then of body
pub cell_exactly : (c : Config) (D b : ℕ) → D ≤ 65535 → (es : List Event)
    → ((tick_cell (cell_after c D b es)).matched ≡ true) ↔ MissedDeadline c D b es
cell_exactly = Deadlines.cell_exactly

pub machine_tells_misses : (c : Config) → Accepted c → Shaped c → (es : List Event)
    → machine_misses c (plan_of c) (deadlines_of c) es ≡ misses c (deadlines_of c) es
machine_tells_misses = Deadlines.machine_tells_misses

pub misses_members : (c : Config) (ds : List ℕ) (es : List Event) (m : Miss)
    → Memᴰ m (misses c ds es) ↔ IsMiss c ds es m
misses_members = Deadlines.misses_members

pub misses_order : (c : Config) (ds : List ℕ) (es : List Event) → InOrder (misses c ds es)
misses_order = Deadlines.misses_order

-- "the list is the first 64 of them"
pub first_listed : (ms : List Miss) (i : ℕ) (none : Miss) → i < 64 → i < length ms
    → BytesOf (miss_bytes (first_misses ms)) i (get_or ms i none)
first_listed = Deadlines.first_listed

-- A12: the grammar, "written down without the parser", "accepts exactly the same texts", with the same configuration
pub accepted_exactly : (t : List ℕ) (c : Config) → Describes t c
    ↔ (read_oil t ≡ record { config = c; refusal = none; line = 0; column = 0 })
accepted_exactly = OilGrammar.accepted_exactly

-- A13: "The output is always readable, a readable trace comes back unchanged, and kept and dropped bytes together are
-- the input in order"
pub kept_readable : (bs : List ℕ) → Bytes bs → (read_trace (kept_bytes bs)).refusal ≡ none
kept_readable = Recording.kept_readable

pub readable_same : (bs : List ℕ) → Bytes bs → (read_trace bs).refusal ≡ none → (kept_bytes bs ≡ bs) × (stretches bs ≡ [])
readable_same = Recording.readable_same

pub put_together : (bs : List ℕ) → rebuilt 0 (stretches bs) (kept_bytes bs) bs ≡ bs
put_together = Recording.put_together

-- A14: "pass exactly when all equal the definition's", and so exactly when all are the machine's
module _ (cs ts rs : List ℕ) (c : Config) (es : List Event) (runs : Runs cs ts c es) where
  pub pass_exactly : (verdict cs ts rs ≡ pass) ↔ (rs ≡ expected c es)
  pass_exactly = Conformance.pass_exactly cs ts rs c es runs

  pub machine_exactly : (verdict cs ts rs ≡ pass) ↔ (rs ≡ machine_expected c es)
  machine_exactly = OnMachine.machine_exactly cs ts rs c es runs

  -- "else the first event that differs or is missing"
  pub fail_exactly : (i : ℕ) → (verdict cs ts rs ≡ fail i)
      ↔ ((is_record (length rs) (length es) ≡ true) × FirstWrong (expected c es) rs (length es) i)
  fail_exactly = Conformance.fail_exactly cs ts rs c es runs
