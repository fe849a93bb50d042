-- The plain scheduler: the fresh start, one event, and a list of events.
--
--   fresh c                                 the state before the first event
--   step c s e                              the state after the event e, with what is seen of it
--   seen c s es                             what is seen of a list of events, one after the other; after c s es: the state after them
--   fresh_by, step_by, seen_by, after_by q  the same by another rule for ties
use Rattle.std.specs.Prelude.{ℕ, ◌≡◌, Bool, true, false, cond, not, ◌&&◌, List, [], ◌∷◌, map, eqb, length, take, replicate}
use Rattle.config.specs.declared.Config.{Config}
use Rattle.config.specs.Meaning.{counts_lines}
use Rattle.scheduler.specs.Status.{done, limit_reached, first_given}
use Rattle.scheduler.specs.Body.{Phase, started, triggered, Body, become, activated}
use Rattle.scheduler.specs.Choice.{Candidate, Tie, by_holding, is_nobody}
use Rattle.scheduler.specs.State.{stopped, State, no_body, changing, runner_by, runner}
pub use Rattle.scheduler.specs.Event.{Event, Activate, Finish, Chain, Get, Release, Tick, Line, Start, Stop, Wait, Set, Clear}
use Rattle.scheduler.specs.Event.{is_tick}
use Rattle.scheduler.specs.Call.{checks_for, effect_for, else_of}
use Rattle.scheduler.specs.Tick.{counted, dues}

-- what is seen of an event: its answer, every body's losses after it, and for each entry whether it was due at it
pub record Seen : Type 0 where
  pub status : ℕ
  pub runner : ℕ
  pub level : ℕ
  pub begun : ℕ
  pub losses : List ℕ
  pub due : List Bool

-- the state after an event, and what is seen of the event
pub record Stepped : Type 0 where
  pub state : State
  pub seen : Seen

-- whether the choice makes a body begin from its start
abbrev pub begins : Candidate → Bool
begins k = not (is_nobody k) && not k.began

-- what a body is that has begun
abbrev pub phase_begun : Candidate → Phase
phase_begun k = cond k.timed (triggered true) started

-- "Last, the runner is chosen by the rule for who runs; a ready one becomes started, begun mark 1"; k: the chosen one
abbrev pub dispatched_to : Candidate → State → State
dispatched_to k s = cond (begins k) (changing k.number (become (phase_begun k)) s) s

-- the dispatch of whoever is chosen
abbrev pub dispatched : Config → State → State
dispatched c s = dispatched_to (runner c s) s

-- a mark as an answer has it
abbrev pub mark_of : Bool → ℕ
mark_of b = cond b 1 0

-- every body's losses
abbrev pub losses_of : State → List ℕ
losses_of s = map (λ b. b.losses) s.bodies

-- the end of every event: st is its status, ds its due entries, s the state that it left, k the one that is chosen then
abbrev pub ending_to : Candidate → ℕ → List Bool → State → Stepped
ending_to k st ds s =
    record {
      state = dispatched_to k s;
      seen = record {
        status = st;
        runner = k.number;
        level = k.level;
        begun = mark_of (begins k);
        losses = losses_of s;
        due = ds;
      };
    }

-- the same where the rule for who runs chooses
abbrev pub ending : Config → ℕ → List Bool → State → Stepped
ending c st ds s = ending_to (runner c s) st ds s

-- the due entries of an event: only a Tick has any
abbrev pub none_due : Config → State → List Bool
none_due c s = replicate (length (dues c s)) false

abbrev pub dues_at : Config → State → Event → List Bool
dues_at c s e = cond (is_tick e) (dues c (counted s)) (none_due c s)

-- while k runs: "the first status that applies is given", and the state that an event leaves before the dispatch
abbrev pub status_for : Config → Candidate → State → Event → ℕ
status_for c k s e = first_given (checks_for c k s e)

abbrev pub leaves_for : Config → Candidate → State → Event → State
leaves_for c k s e = cond (eqb (status_for c k s e) done) (effect_for c k s e) (else_of c s (status_for c k s e) e)

-- the same while whoever is chosen runs
abbrev pub leaves : Config → State → Event → State
leaves c s e = leaves_for c (runner c s) s e

unfoldable pub step_by : Tie → Config → State → Event → Stepped
step_by q c s e =
    let k = runner_by q c s in
    let x = leaves_for c k s e in
    ending_to (runner_by q c x) (status_for c k s e) (dues_at c s e) x

abbrev pub step : Config → State → Event → Stepped
step = step_by by_holding

-- the event e, met in the state s, is a Line of the ISR i that is lost and counted
abbrev pub LostLine : Config → State → Event → ℕ → Type 0
LostLine c s e i = (counts_lines c ≡ true) × (e ≡ Line i) × ((step c s e).seen.status ≡ limit_reached)

-- "Fresh start: autostart tasks are ready, the best one begins, all losses are 0, tables stopped"
abbrev pub new_body : ℕ → Body
new_body autostart = cond (eqb autostart 1) (activated no_body) no_body

-- the fresh start before its dispatch
abbrev pub unstarted : Config → State
unstarted c =
    record {
      bodies = map new_body (take c.bodies c.autostart);
      tables = replicate c.tables stopped;
      order = [];
    }

abbrev pub fresh_by : Tie → Config → State
fresh_by q c = dispatched_to (runner_by q c (unstarted c)) (unstarted c)

abbrev pub fresh : Config → State
fresh = fresh_by by_holding

-- each event meets the state that the one before it left
unfoldable pub seen_by : Tie → Config → State → List Event → List Seen
seen_by q c s [] = []
seen_by q c s (e ∷ es) = let x = step_by q c s e in x.seen ∷ seen_by q c x.state es

abbrev pub seen : Config → State → List Event → List Seen
seen = seen_by by_holding

-- the state after a list of events
unfoldable pub after_by : Tie → Config → State → List Event → State
after_by q c s [] = s
after_by q c s (e ∷ es) = after_by q c (step_by q c s e).state es

abbrev pub after : Config → State → List Event → State
after = after_by by_holding
