-- The machine from the fresh start on, and what is seen of it.
--
--   fresh_model p         the model before the first event
--   status_of, effect_of  the documents' table of events; else_of: what an event leaves whose status is not 0
--   machine_step c p      one event, the next model with its answer
--   machine_seen          what is seen of a list of events, each of which meets the model that the one before it left
--   machine_after         the model after a list of events
use Rattle.std.specs.Prelude.{ℕ, ◌≡◌, Bool, true, false, cond, List, [], ◌∷◌, map, ltb, get_or, take, replicate}
use Rattle.config.specs.declared.Config.{Config}
use Rattle.config.specs.Meaning.{counts_lines}
use Rattle.plan.specs.declared.Plan.{Plan}
use Rattle.stack.specs.Stack.{empty_row}
use Rattle.cell.specs.declared.Cell.{Cell}
use Rattle.scheduler.specs.Status.{done, limit_reached}
use Rattle.scheduler.specs.Event.{is_tick}
use Rattle.scheduler.specs.Scheduler.{Event, Activate, Finish, Chain, Get, Release, Tick, Line, Start, Stop, Wait, Set, Clear, Seen, mark_of}
use Rattle.machine.specs.Model.{Model, Outcome, no_rank}
use Rattle.machine.specs.Arbiter.{settled}
use Rattle.machine.specs.Cells.{switch_off, cell_at}
use Rattle.machine.specs.Events.{attempt, activate_status, activate_effect, finish_status, finish_effect, chain_status, chain_effect, get_status, get_effect}
use Rattle.machine.specs.Events.{release_status, release_effect, marks_of, tick, line_status, line_effect, line_else, start_status, start_effect, stop_status, stop_effect}
use Rattle.machine.specs.Events.{wait_status, wait_effect, set_status, set_effect, clear_status, clear_effect}

-- "autostart tasks are ready .. all losses are 0, tables stopped"; w: the ranks of the autostart tasks
abbrev pub unstarted : ℕ → Model
unstarted w =
    record {
      core = record { request = w; started = 0; aside = 0; runner = no_rank; level = 0 };
      held = 0;
      resource = empty_row;
      holder = empty_row;
      raised = empty_row;
      counter = replicate 64 0;
      on = replicate 64 switch_off;
      turning = false;
      losses = replicate 32 0;
      cleared = 0;
      bits = replicate 32 0;
      waited = replicate 32 0;
      triggered = empty_row;
    }

-- "the best one begins"
abbrev pub fresh_with : ℕ → List ℕ → Model
fresh_with w ps = (settled ps (unstarted w)).model

abbrev pub fresh_model : Plan → Model
fresh_model p = fresh_with p.autostart p.priority

-- the documents' table of events, its statuses: "the first status that applies is given"
unfoldable pub status_of : Config → Plan → Model → Event → ℕ
status_of c p m (Activate t) = activate_status p.callable m t
status_of c p m Finish = finish_status m
status_of c p m (Chain t) = chain_status p.isrs p.callable m t
status_of c p m (Get r) = get_status c.resources p.users m r
status_of c p m (Release r) = release_status c.resources m r
status_of c p m Tick = done
status_of c p m (Line i) = line_status p.line m i
status_of c p m (Start t d) = start_status c.tables p.first c.offset m t d
status_of c p m (Stop t) = stop_status c.tables p.first m t
status_of c p m (Wait w) = wait_status p.extended m
status_of c p m (Set t w) = set_status p.isrs p.extended p.rank m t
status_of c p m (Clear w) = clear_status p.extended m

-- and its effects
unfoldable pub effect_of : Config → Plan → Model → Event → Outcome
effect_of c p m (Activate t) = activate_effect p.callable p.priority m t
effect_of c p m Finish = finish_effect p.priority m
effect_of c p m (Chain t) = chain_effect p.callable p.priority m t
effect_of c p m (Get r) = get_effect p.ceiling m r
effect_of c p m (Release r) = release_effect p.priority m r
effect_of c p m Tick = tick p.compare p.entry p.priority m
effect_of c p m (Line i) = line_effect p.line p.priority m i
effect_of c p m (Start t d) = start_effect p.first c.entries c.period c.offset m t d
effect_of c p m (Stop t) = stop_effect p.first c.entries m t
effect_of c p m (Wait w) = wait_effect p.priority m w
effect_of c p m (Set t w) = set_effect p.rank p.priority m t w
effect_of c p m (Clear w) = clear_effect m w

-- the model that an event leaves whose status st is not 0
unfoldable pub else_of : Config → Plan → Model → ℕ → Event → Model
else_of c p m st (Activate t) = m
else_of c p m st Finish = m
else_of c p m st (Chain t) = m
else_of c p m st (Get r) = m
else_of c p m st (Release r) = m
else_of c p m st Tick = m
else_of c p m st (Line i) = line_else (counts_lines c) p.line m i st
else_of c p m st (Start t d) = m
else_of c p m st (Stop t) = m
else_of c p m st (Wait w) = m
else_of c p m st (Set t w) = m
else_of c p m st (Clear w) = m

abbrev pub machine_step : Config → Plan → Model → Event → Outcome
machine_step c p m e = attempt (else_of c p m (status_of c p m e) e) (status_of c p m e) (effect_of c p m e)

-- the event e, which met the model m, is a Line of the ISR i that is lost and counted
abbrev pub LostLine : Config → Plan → Model → Event → ℕ → Type 0
LostLine c p m e i = (counts_lines c ≡ true) × (e ≡ Line i) × ((machine_step c p m e).status ≡ limit_reached)

-- the cell of entry e
abbrev pub cell_in : Plan → Model → ℕ → Cell
cell_in p m e = cell_at m.turning p.compare m.on m.counter e

-- the number of the body that runs
abbrev pub runner_of : Plan → Model → ℕ
runner_of p m = cond (ltb m.core.runner 32) (get_or p.body m.core.runner 0) no_rank

-- the losses in body order: they stand at the bodies' ranks
abbrev pub losses_of : Config → Plan → Model → List ℕ
losses_of c p m = map (λ r. get_or m.losses r 0) (take c.bodies p.rank)

-- which cells matched at the event e, which met the model m
abbrev pub matched : Plan → Model → Event → List Bool
matched p m e = cond (is_tick e) (marks_of p.count p.compare m) (replicate p.count false)

-- what is seen of the event e, which met m and handed o back
abbrev pub observed : Config → Plan → Model → Event → Outcome → Seen
observed c p m e o =
    record {
      status = o.status;
      runner = runner_of p o.model;
      level = o.model.core.level;
      begun = mark_of o.begun;
      losses = losses_of c p o.model;
      due = matched p m e;
    }

unfoldable pub machine_seen : Config → Plan → Model → List Event → List Seen
machine_seen c p m [] = []
machine_seen c p m (e ∷ es) =
    let o = machine_step c p m e in
    observed c p m e o ∷ machine_seen c p o.model es

unfoldable pub machine_after : Config → Plan → Model → List Event → Model
machine_after c p m [] = m
machine_after c p m (e ∷ es) = machine_after c p (machine_step c p m e).model es
