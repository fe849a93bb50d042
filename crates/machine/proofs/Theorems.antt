-- What the crate shows beyond its contracts. Each law stands here in full, over specs/ alone; the modules it cites
-- prove it.
--
-- In order: demand 3, `agreement` and `demand_3`; who holds a resource, and what a declared user is refused; what
-- Start and Stop make of the cells; that a refused event leaves the model as it was, but for the count of a lost
-- line; that a Wait that does not go on is a Finish, but for what is kept of the runner.
use Prim.Native.Nat.{ℕ, suc, ◌+◌, ◌≤◌, ◌<◌}
use mathlib.Core.Path.{◌≡◌, sym, ap, ◌∙◌}
use mathlib.Core.Logic.{◌≢◌, ◌↔◌}
use mathlib.Core.Bool.{true, false}
use mathlib.Core.List.{List}
use lib.ListN.{length, get_or, set, take}
use Rattle.number.specs.Refusal.{none}
use Rattle.config.specs.declared.Config.{Config}
use Rattle.config.specs.Accepted.{Accepted, Shaped}
use Rattle.config.specs.Reader.{read_config}
use Rattle.config.proofs.Theorems.{accepted_ranges, reading}
use Rattle.config.specs.Meaning.{is_user, ceiling, first_of}
use Rattle.plan.specs.declared.Plan.{Plan}
use Rattle.plan.specs.Plan.{trigger_of, plan_of}
use Rattle.cell.specs.Cell.{start_cell, stop_cell}
use Rattle.scheduler.specs.Status.{done}
use Rattle.scheduler.specs.Bits.{any_set}
use Rattle.scheduler.specs.Body.{current}
use Rattle.scheduler.specs.State.{body_of, among}
use Rattle.scheduler.specs.Call.{nobody_runs, caller, calling}
use Rattle.scheduler.specs.Entries.{entries_of, entry_at}
use Rattle.scheduler.specs.Scheduler.{Event, Finish, Get, Tick, Line, Start, Stop, Wait, step, step_by, fresh, seen, after}
use Rattle.scheduler.specs.History.{due_mark, DueAt}
use Rattle.scheduler.proofs.Theorems.{held_by_user, due_exactly}
use Rattle.word.specs.Word.{has, with}
use Rattle.stack.specs.Stack.{row_bytes}
use Rattle.machine.specs.Model.{Model, Outcome, no_rank, with_begun, with_losses, with_event_bits}
use Rattle.machine.specs.Cells.{one_lost}
use Rattle.machine.specs.Events.{idles, bits_at}
use Rattle.machine.specs.Machine.{fresh_model, status_of, effect_of, else_of, machine_step, LostLine, cell_in, runner_of, observed, machine_seen, machine_after}
use Rattle.machine.proofs.Event.Tables as Tables
use Rattle.machine.proofs.Event.Waits as Waits
use Rattle.plan.proofs.Fitted.{fitted}
use Rattle.machine.proofs.Event.Refusals as Refusals
use Rattle.machine.proofs.Whole.Reached as Reached
use Rattle.machine.proofs.Whole.Holders as Holders

-- For every accepted configuration and every list of events, from the fresh start, the machine and the plain
-- scheduler are seen to do the same: status, runner, level and begun mark of every event, the losses of all bodies
-- after it, and a cell's match where its entry is due.
pub agreement : (c : Config) → Accepted c → Shaped c → (es : List Event)
    → machine_seen c (plan_of c) (fresh_model (plan_of c)) es ≡ seen c (fresh c) es
agreement = Reached.agreement

-- Demand 3, undivided: the equation, and for the i-th event and the k-th entry that its cell matches exactly if that
-- event is a Tick at which the entry is due "by the table's arithmetic, counted from the table's last accepted start
-- until its next accepted stop": the events before it are `before ++ Start t d ∷ rest`, that Start is accepted where
-- it stands, no Stop of t in rest is, and `due P (d + o) (suc (tick_count rest))`.
pub record Demand3 (c : Config) (es : List Event) : Type 0 where
  pub same : machine_seen c (plan_of c) (fresh_model (plan_of c)) es ≡ seen c (fresh c) es
  pub on_time : (i k : ℕ) → i < length es → k < length (entries_of c)
      → (due_mark (machine_seen c (plan_of c) (fresh_model (plan_of c)) es) i k ≡ true)
      ↔ DueAt c (take i es) (get_or es i Tick) (entry_at c k)

pub demand_3 : (c : Config) → Accepted c → Shaped c → (es : List Event) → Demand3 c es
demand_3 c ok shaped es =
    record {
      same = agreement c ok shaped es;
      on_time = λ i k h f. rw (agreement c ok shaped es) (due_exactly c es i k h f);
    }

-- the same of every configuration that the reader accepts
pub demand_3_read : (bs : List ℕ) → (read_config bs).refusal ≡ none
    → (es : List Event) → Demand3 (read_config bs).config es
demand_3_read bs e = demand_3 (read_config bs).config (accepted_ranges bs e) (reading bs).shaped

-- the model after a list of events
abbrev pub reached : Config → List Event → Model
reached c es = machine_after c (plan_of c) (fresh_model (plan_of c)) es

-- Who holds what, after every list of events and whatever the kinds of the bodies. The runner's own priority, or the
-- trigger level of a time-triggered task, is above the level of every other body that holds a resource, and so above
-- that resource's ceiling. (Where nobody runs, nothing is held.)
module _ (c : Config) (ok : Accepted c) (shaped : Shaped c) (es : List Event) where
  pub holder_below : (i r : ℕ) → i ≢ caller c (after c (fresh c) es)
      → among r (body_of (after c (fresh c) es) i).held ≡ true
      → current c i (body_of (after c (fresh c) es) i) < trigger_of c (caller c (after c (fresh c) es))
  holder_below = Holders.holder_below (fitted c ok shaped) (Reached.sim c ok shaped es)

  pub ceiling_below : (i r : ℕ) → i ≢ caller c (after c (fresh c) es)
      → among r (body_of (after c (fresh c) es) i).held ≡ true
      → ceiling c r < trigger_of c (caller c (after c (fresh c) es))
  ceiling_below = Holders.ceiling_below (fitted c ok shaped) (Reached.sim c ok shaped es)

  -- "a declared basic task or ISR is refused a resource only when it holds that resource itself": with status 1
  pub declared_refused : (r : ℕ) → nobody_runs c (after c (fresh c) es) ≡ false
      → is_user c r (caller c (after c (fresh c) es)) ≡ true
      → (step c (after c (fresh c) es) (Get r)).seen.status ≢ 0
      → ((step c (after c (fresh c) es) (Get r)).seen.status ≡ 1)
      × (among r (calling c (after c (fresh c) es)).held ≡ true)
  unfolding step_by
  declared_refused = Holders.declared_refused (fitted c ok shaped) (Reached.sim c ok shaped es)

  -- The same of the machine: the k-th slot from the top has a resource, its holder's rank and its level, and past the
  -- last one there is no holder. A slot of another holder is below the runner's own priority; every holder is a
  -- declared user of what it holds; and where a Get by a declared user is refused, its status is 1 and a slot of the
  -- resource is the runner's.
  pub slot_below : (k : ℕ) → get_or (row_bytes (reached c es).holder) k no_rank ≢ no_rank
      → get_or (row_bytes (reached c es).holder) k no_rank ≢ (reached c es).core.runner
      → get_or (row_bytes (reached c es).raised) k no_rank < get_or (plan_of c).priority (reached c es).core.runner 0
  slot_below = Holders.slot_below (fitted c ok shaped) (Reached.sim c ok shaped es)

  pub slot_user : (k : ℕ) → get_or (row_bytes (reached c es).holder) k no_rank ≢ no_rank
      → has
      (get_or (plan_of c).users (get_or (row_bytes (reached c es).resource) k no_rank) 0)
      (get_or (row_bytes (reached c es).holder) k no_rank) ≡ true
  slot_user = Holders.slot_user (fitted c ok shaped) (Reached.sim c ok shaped es) (held_by_user c es)

  pub machine_refused : (r : ℕ) → idles (reached c es) ≡ false → is_user c r (runner_of (plan_of c) (reached c es)) ≡ true
      → (machine_step c (plan_of c) (reached c es) (Get r)).status ≢ 0
      → ((machine_step c (plan_of c) (reached c es) (Get r)).status ≡ 1)
      × ((k : ℕ)
      × (get_or (row_bytes (reached c es).resource) k no_rank ≡ r)
      × (get_or (row_bytes (reached c es).holder) k no_rank ≡ (reached c es).core.runner))
  machine_refused = Holders.machine_refused (fitted c ok shaped) (Reached.sim c ok shaped es)

-- Start and Stop are the cell's own, for each cell of the table, and leave every other cell as it was: wherever they
-- are accepted
module _ (c : Config) (ok : Accepted c) (shaped : Shaped c) (es : List Event) (t : ℕ) (t< : t < c.tables) (e : ℕ) where
  -- "an entry at offset o has first delay D = d + o; its counter becomes (P − 1 − D) modulo 65,536 and its switch
  -- goes on"
  pub start_cell_lem : (d : ℕ) → first_of c t ≤ e → e < first_of c (suc t)
      → cell_in (plan_of c) (effect_of c (plan_of c) (reached c es) (Start t d)).model e
      ≡ start_cell (get_or c.period t 0) (d + get_or c.offset e 0)
  unfolding effect_of
  start_cell_lem d =
      Tables.start_cell_lem (fitted c ok shaped) (Reached.sim c ok shaped es) (Reached.keeps c ok shaped es)
      (Reached.long c ok shaped es) t d e t<

  pub start_other : (d u : ℕ) → u < c.tables → u ≢ t → first_of c u ≤ e → e < first_of c (suc u)
      → cell_in (plan_of c) (effect_of c (plan_of c) (reached c es) (Start t d)).model e
      ≡ cell_in (plan_of c) (reached c es) e
  unfolding effect_of
  start_other d =
      Tables.start_other (fitted c ok shaped) (Reached.sim c ok shaped es) (Reached.keeps c ok shaped es)
      (Reached.long c ok shaped es) t d e t<

  -- "Stop switches the table's cells off and sets their counters to 0"
  pub stop_cell_lem : first_of c t ≤ e → e < first_of c (suc t)
      → cell_in (plan_of c) (effect_of c (plan_of c) (reached c es) (Stop t)).model e
      ≡ stop_cell (cell_in (plan_of c) (reached c es) e)
  unfolding effect_of
  stop_cell_lem =
      Tables.stop_cell_lem (fitted c ok shaped) (Reached.sim c ok shaped es) (Reached.keeps c ok shaped es)
      (Reached.long c ok shaped es) t e t<

  pub stop_other : (u : ℕ) → u < c.tables → u ≢ t → first_of c u ≤ e → e < first_of c (suc u)
      → cell_in (plan_of c) (effect_of c (plan_of c) (reached c es) (Stop t)).model e
      ≡ cell_in (plan_of c) (reached c es) e
  unfolding effect_of
  stop_other =
      Tables.stop_other (fitted c ok shaped) (Reached.sim c ok shaped es) (Reached.keeps c ok shaped es)
      (Reached.long c ok shaped es) t e t<

-- "A status other than 0 changes nothing", whatever the model; "For version 2, demand 1's "changes nothing" excepts
-- that count": a Line refused with 4 changes the losses at the ISR's rank, up to 65,535, and nothing else
module _ (c : Config) (p : Plan) (m : Model) where
  pub refused_same : (e : Event) → (machine_step c p m e).status ≢ done → ((i : ℕ) → LostLine c p m e i → ⊥)
      → (machine_step c p m e).model ≡ m
  refused_same = Refusals.refused_same c p m

  pub lost_line : (i : ℕ) → LostLine c p m (Line i) i
      → (machine_step c p m (Line i)).model ≡ with_losses m (one_lost (get_or p.line i no_rank) m.losses)
  lost_line = Refusals.lost_line c p m

  -- in version 1 there is none, so a refused event changes nothing at all
  pub refused_same_one : c.version ≡ 1 → (e : Event) → (machine_step c p m e).status ≢ done
      → (machine_step c p m e).model ≡ m
  refused_same_one = Refusals.refused_same_one c p m

-- A Wait that does not go on is a Finish, but for what is kept of the runner: the runner leaves as by its end, and the
-- same arbitration follows. Whatever the model, those that the two leave differ in the runner alone, which is aside, with
-- its event bits and its mask, and what is seen of the two is the same.
module _ (c : Config) (p : Plan) (m : Model) (w : ℕ) where
  abbrev ended : Model
  ended = (machine_step c p m Finish).model

  pub machine_wait_leaves : (machine_step c p m (Wait w)).status ≡ done → any_set (bits_at m m.core.runner) w ≡ false
      → (machine_step c p m (Wait w)).model
      ≡ with_event_bits ended (with_begun ended.core ended.core.started (with m.core.aside m.core.runner))
      m.cleared
      m.bits
      (set m.waited m.core.runner w)
  unfolding status_of effect_of else_of
  machine_wait_leaves e unset =
      ap (λ (o : Outcome). o.model)
      (Waits.as_finish p.extended p.priority m w (sym (Refusals.status_is c p m (Wait w)) ∙ e) unset)

  pub machine_wait_seen : (machine_step c p m (Wait w)).status ≡ done → any_set (bits_at m m.core.runner) w ≡ false
      → observed c p m (Wait w) (machine_step c p m (Wait w)) ≡ observed c p m Finish (machine_step c p m Finish)
  unfolding status_of effect_of else_of
  machine_wait_seen e unset =
      ap (observed c p m (Wait w))
      (Waits.as_finish p.extended p.priority m w (sym (Refusals.status_is c p m (Wait w)) ∙ e) unset)

-- So it is of the plain scheduler, after every list of events: what is seen of a Wait that does not go on is what would
-- be seen of a Finish in its place
pub wait_as_finish : (c : Config) → Accepted c → Shaped c → (es : List Event) (w : ℕ)
    → (step c (after c (fresh c) es) (Wait w)).seen.status ≡ done
    → any_set (calling c (after c (fresh c) es)).bits w ≡ false
    → (step c (after c (fresh c) es) (Wait w)).seen ≡ (step c (after c (fresh c) es) Finish).seen
wait_as_finish = Reached.wait_as_finish
