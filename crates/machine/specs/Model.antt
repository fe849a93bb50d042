-- The machine's model, with one part changed at a time.
--
-- Bodies stand in it by their rank among the priorities, so that a greater rank is a greater priority. `no_rank`
-- instead of a runner says that nobody runs.
use Rattle.std.specs.Prelude.{ℕ, Bool, false, List}
use Rattle.stack.specs.declared.Row.{Row}
use Rattle.stack.specs.Stack.{no_byte}

-- The words, who runs and at which level: `request` has the ranks that wait to begin, `started` those that began and go
-- on by their priority, `aside` those that began and do not: extended tasks that wait for an event bit, and
-- time-triggered tasks.
pub record Core : Type 0 where
  pub request : ℕ
  pub started : ℕ
  pub aside : ℕ
  pub runner : ℕ
  pub level : ℕ

-- a core after arbitration, and whether a body began
pub record Picked : Type 0 where
  pub core : Core
  pub begun : Bool

-- What the machine keeps between events. `held`: the held resources as a word; `resource`, `holder`, `raised`: in the
-- order taken, the latest on top, each with its holder's rank and the level after its Get. `counter` and `on` are the
-- cells, and `turning` says whether any of them has a turn of its counter to pass; `losses` are the lost activations,
-- and the lost lines that are counted, by rank. `bits` are the event bits by rank, but of the ranks in the word
-- `cleared` they count as 0; `waited` has by rank the mask of the latest Wait that did not go on at once. `triggered`
-- has the ranks of the time-triggered tasks that were started and have not ended, the latest on top.
pub record Model : Type 0 where
  pub core : Core
  pub held : ℕ
  pub resource : Row
  pub holder : Row
  pub raised : Row
  pub counter : List ℕ
  pub on : List ℕ
  pub turning : Bool
  pub losses : List ℕ
  pub cleared : ℕ
  pub bits : List ℕ
  pub waited : List ℕ
  pub triggered : Row

-- the next model with its answer
pub record Outcome : Type 0 where
  pub model : Model
  pub status : ℕ
  pub begun : Bool

-- no body: neither a rank nor a body's number; it is what lies past the bottom of the row of held resources
abbrev pub no_rank : ℕ
no_rank = no_byte

-- the model with another core
abbrev pub with_core : Model → Core → Model
with_core m k =
    record {
      core = k;
      held = m.held;
      resource = m.resource;
      holder = m.holder;
      raised = m.raised;
      counter = m.counter;
      on = m.on;
      turning = m.turning;
      losses = m.losses;
      cleared = m.cleared;
      bits = m.bits;
      waited = m.waited;
      triggered = m.triggered;
    }

-- the core with other requests
abbrev pub with_request : Core → ℕ → Core
with_request k w =
    record { request = w; started = k.started; aside = k.aside; runner = k.runner; level = k.level }

-- the core with another level
abbrev pub with_level : Core → ℕ → Core
with_level k l =
    record { request = k.request; started = k.started; aside = k.aside; runner = k.runner; level = l }

-- the core with other words of those that have begun
abbrev pub with_begun : Core → ℕ → ℕ → Core
with_begun k w a = record { request = k.request; started = w; aside = a; runner = k.runner; level = k.level }

-- another level, and other held resources: w as a word, the rows rs, hs and ls with their holders and levels
abbrev pub with_slots : Model → ℕ → ℕ → Row → Row → Row → Model
with_slots m l w rs hs ls =
    record {
      core = with_level m.core l;
      held = w;
      resource = rs;
      holder = hs;
      raised = ls;
      counter = m.counter;
      on = m.on;
      turning = m.turning;
      losses = m.losses;
      cleared = m.cleared;
      bits = m.bits;
      waited = m.waited;
      triggered = m.triggered;
    }

-- other counters, switches with or without a turn to pass, and losses
abbrev pub with_rest : Model → List ℕ → List ℕ → Bool → List ℕ → Model
with_rest m ns on w ls =
    record {
      core = m.core;
      held = m.held;
      resource = m.resource;
      holder = m.holder;
      raised = m.raised;
      counter = ns;
      on = on;
      turning = w;
      losses = ls;
      cleared = m.cleared;
      bits = m.bits;
      waited = m.waited;
      triggered = m.triggered;
    }

-- other counters and switches alone; other losses alone
abbrev pub with_cells : Model → List ℕ → List ℕ → Bool → Model
with_cells m ns on w = with_rest m ns on w m.losses

abbrev pub with_losses : Model → List ℕ → Model
with_losses m ls = with_rest m m.counter m.on m.turning ls

-- another core, and other event bits bs of which those of the ranks in x count as 0, and masks ws
abbrev pub with_event_bits : Model → Core → ℕ → List ℕ → List ℕ → Model
with_event_bits m k x bs ws =
    record {
      core = k;
      held = m.held;
      resource = m.resource;
      holder = m.holder;
      raised = m.raised;
      counter = m.counter;
      on = m.on;
      turning = m.turning;
      losses = m.losses;
      cleared = x;
      bits = bs;
      waited = ws;
      triggered = m.triggered;
    }

-- another core, and other time-triggered tasks, with the ranks in x whose event bits count as 0
abbrev pub with_triggered : Model → Core → ℕ → Row → Model
with_triggered m k x r =
    record {
      core = k;
      held = m.held;
      resource = m.resource;
      holder = m.holder;
      raised = m.raised;
      counter = m.counter;
      on = m.on;
      turning = m.turning;
      losses = m.losses;
      cleared = x;
      bits = m.bits;
      waited = m.waited;
      triggered = r;
    }

-- an event that is done, and one that is refused with a status
abbrev pub done_with : Model → Bool → Outcome
done_with m begun = record { model = m; status = 0; begun = begun }

abbrev pub refused_with : Model → ℕ → Outcome
refused_with m st = record { model = m; status = st; begun = false }
