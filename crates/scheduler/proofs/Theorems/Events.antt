-- What an event answers and leaves: document 01's table of events, when each status is given, what an accepted event
-- leaves, what a time-triggered task may call; a refused event changes nothing but the count of a lost line; requests
-- that wait; who holds a resource, and whom it is refused; where losses come from; the editions of the procedure differ
-- in the losses of lost lines alone. Each law stands here in full, over specs/ alone; the modules it cites prove it.
--
-- `Event` has more of what an accepted call finds; `Worked` are worked lists of events.
use Prim.Native.Nat.{ℕ, ◌+◌, ◌≤◌, ◌<◌, min}
use mathlib.Core.Path.{◌≡◌, refl}
use mathlib.Core.Bool.{true, false}
use mathlib.Core.List.{List, [], ◌∷◌, ◌++◌, map}
use mathlib.Core.Logic.{◌≢◌, ◌↔◌}
use Rattle.config.specs.declared.Config.{Config}
use Rattle.config.specs.Meaning.{is_isr, is_timed, is_user, priority_of}
use Rattle.config.specs.Value.{with_version}
use Rattle.config.specs.Accepted as Configuration
use Rattle.scheduler.specs.Status.{Check, done, NoneFails}
use Rattle.scheduler.specs.Body.{suspended, current, loses}
use Rattle.scheduler.specs.State.{State, body_of, changing, runner, among}
use Rattle.scheduler.specs.Event.{Event, Activate, Finish, Chain, Get, Release, Tick, Line, Start, Stop, Wait, Set, Clear}
use Rattle.scheduler.specs.Call.{no_caller, nobody_runs, caller, calling, checks_of}
use Rattle.scheduler.specs.Scheduler.{dispatched, losses_of, step, step_by, LostLine, fresh, seen, after}
use Rattle.scheduler.specs.History.{AcceptedIn, lines_lost, unlost}
use Rattle.scheduler.specs.Conditions as Conditions
use Rattle.scheduler.specs.Outcomes as Outcomes
use Rattle.scheduler.proofs.Event.Conditions as Statuses
use Rattle.scheduler.proofs.Event.Outcomes as Left
use Rattle.scheduler.proofs.Version.Agreement as Versions
use Rattle.scheduler.proofs.Version.Losses as LineLosses
use Rattle.scheduler.proofs.Event.Checks as Checks
use Rattle.scheduler.proofs.Event.Effects as Effects
use Rattle.scheduler.proofs.Choice.Dispatch as Dispatch
use Rattle.scheduler.proofs.Event.Refusals as Refusals
use Rattle.scheduler.proofs.Event.Requests as Requests
use Rattle.scheduler.proofs.Resource.Users as Users
use Rattle.scheduler.proofs.Resource.Refusal as Refusal
use Rattle.scheduler.proofs.Event.Losses as Losses

-- "statuses in order": the numbers that the event's checks give
abbrev pub statuses : Config → State → Event → List ℕ
statuses c s e = map (λ k. k.status) (checks_of c s e)

-- document 01's table of events, whole, with document 02's three more
pub record EventTable (c : Config) (s : State) : Type 0 where
  pub one_activate : (t : ℕ) → statuses c s (Activate t) ≡ 2 ∷ 3 ∷ 4 ∷ []
  pub two_finish : statuses c s Finish ≡ 2 ∷ 6 ∷ []
  pub three_chain : (t : ℕ) → statuses c s (Chain t) ≡ 2 ∷ 3 ∷ 6 ∷ 4 ∷ []
  pub four_get : (r : ℕ) → statuses c s (Get r) ≡ 2 ∷ 3 ∷ 33 ∷ 1 ∷ []
  pub five_release : (r : ℕ) → statuses c s (Release r) ≡ 2 ∷ 3 ∷ 5 ∷ []
  pub six_tick : statuses c s Tick ≡ []
  pub seven_line : (i : ℕ) → statuses c s (Line i) ≡ 3 ∷ 4 ∷ []
  pub eight_start : (t d : ℕ) → statuses c s (Start t d) ≡ 2 ∷ 3 ∷ 8 ∷ 7 ∷ []
  pub nine_stop : (t : ℕ) → statuses c s (Stop t) ≡ 2 ∷ 3 ∷ 5 ∷ []
  pub ten_wait : (w : ℕ) → statuses c s (Wait w) ≡ 2 ∷ 1 ∷ 6 ∷ []
  pub eleven_set : (t w : ℕ) → statuses c s (Set t w) ≡ 2 ∷ 3 ∷ 1 ∷ 7 ∷ []
  pub twelve_clear : (w : ℕ) → statuses c s (Clear w) ≡ 2 ∷ 1 ∷ []

pub event_table : (c : Config) (s : State) → EventTable c s
event_table c s =
    record {
      one_activate = λ t. refl;
      two_finish = refl;
      three_chain = λ t. refl;
      four_get = λ r. refl;
      five_release = λ r. refl;
      six_tick = refl;
      seven_line = λ i. refl;
      eight_start = λ t d. refl;
      nine_stop = λ t. refl;
      ten_wait = λ w. refl;
      eleven_set = λ t w. refl;
      twelve_clear = λ w. refl;
    }

-- When each status is given, event by event: "no such task", "the task isn't suspended", and so on, in the words of the
-- configuration and of the state (specs/Conditions.antt). It is given exactly if its condition holds and none before it
-- does, in every state.
pub conditions : (c : Config) (s : State) → Conditions.Conditions c s
conditions = Statuses.conditions

-- What an accepted event leaves, event by event: "t ready", "r last in the runner's order", and so on, in the words of
-- the state (specs/Outcomes.antt), and that nobody else changes
pub outcomes : (c : Config) (s : State) → Outcomes.Outcomes c s
outcomes = Left.outcomes

-- the status that an event gives
abbrev pub status_seen : Config → State → Event → ℕ
status_seen c s e = (step c s e).seen.status

-- "A body of kind 3 may make no call but Finish": 2 in the nine others, whatever else applies
pub record TimedCalls (c : Config) (s : State) : Type 0 where
  pub one_activate : (t : ℕ) → status_seen c s (Activate t) ≡ 2
  pub two_finish : status_seen c s Finish ≢ 2
  pub three_chain : (t : ℕ) → status_seen c s (Chain t) ≡ 2
  pub four_get : (r : ℕ) → status_seen c s (Get r) ≡ 2
  pub five_release : (r : ℕ) → status_seen c s (Release r) ≡ 2
  pub eight_start : (t d : ℕ) → status_seen c s (Start t d) ≡ 2
  pub nine_stop : (t : ℕ) → status_seen c s (Stop t) ≡ 2
  pub ten_wait : (w : ℕ) → status_seen c s (Wait w) ≡ 2
  pub eleven_set : (t w : ℕ) → status_seen c s (Set t w) ≡ 2
  pub twelve_clear : (w : ℕ) → status_seen c s (Clear w) ≡ 2

pub timed_calls : (c : Config) (s : State) (j : ℕ) (js : List ℕ) → s.order ≡ j ∷ js → TimedCalls c s
timed_calls c s j js e =
    record {
      one_activate = λ t. Checks.timed_refused c s j js e (Activate t) refl;
      two_finish = Checks.timed_finish c s j js e;
      three_chain = λ t. Checks.timed_refused c s j js e (Chain t) refl;
      four_get = λ r. Checks.timed_refused c s j js e (Get r) refl;
      five_release = λ r. Checks.timed_refused c s j js e (Release r) refl;
      eight_start = λ t d. Checks.timed_refused c s j js e (Start t d) refl;
      nine_stop = λ t. Checks.timed_refused c s j js e (Stop t) refl;
      ten_wait = λ w. Checks.timed_refused c s j js e (Wait w) refl;
      eleven_set = λ t w. Checks.timed_refused c s j js e (Set t w) refl;
      twelve_clear = λ w. Checks.timed_refused c s j js e (Clear w) refl;
    }

-- where somebody may call: "3 for Activate or Chain naming one"; 1 for a Set, since it is no extended task
pub timed_activate : (c : Config) (s : State) → no_caller (runner c s) ≡ false → (t : ℕ) → is_timed c t ≡ true
    → status_seen c s (Activate t) ≡ 3
timed_activate = Checks.timed_activate

pub timed_chain : (c : Config) (s : State) → no_caller (runner c s) ≡ false → (t : ℕ) → is_timed c t ≡ true
    → is_isr c (caller c s) ≡ false
    → status_seen c s (Chain t) ≡ 3
timed_chain = Checks.timed_chain

pub timed_set : (c : Config) (s : State) → no_caller (runner c s) ≡ false → (t : ℕ) → is_timed c t ≡ true → (w : ℕ)
    → status_seen c s (Set t w) ≡ 1
timed_set = Checks.timed_set

-- an event is accepted exactly if none of its checks fails, and "the first status that applies is given"
pub accepted_none_fails : (c : Config) (s : State) (e : Event)
    → ((step c s e).seen.status ≡ 0) ↔ NoneFails (checks_of c s e)
accepted_none_fails = Checks.accepted_none_fails

pub first_given_lem : (c : Config) (s : State) (e : Event) (before : List Check) (k : Check) (rest : List Check)
    → checks_of c s e ≡ before ++ k ∷ rest
    → NoneFails before
    → k.fails ≡ true
    → (step c s e).seen.status ≡ k.status
first_given_lem = Checks.first_given_lem

-- "A status other than 0 changes nothing", after every list of events; "For version 2, demand 1's "changes nothing"
-- excepts that count": a Line refused with 4 changes the ISR's losses, up to 65,535, and nothing else
pub refused_same : (c : Config) (es : List Event) (e : Event) → (step c (after c (fresh c) es) e).seen.status ≢ done
    → ((i : ℕ) → LostLine c (after c (fresh c) es) e i → ⊥)
    → (step c (after c (fresh c) es) e).state ≡ after c (fresh c) es
refused_same c es e =
    Refusals.refused_same c (after c (fresh c) es) e
    (Dispatch.underway_after c es (fresh c) (Dispatch.underway_fresh c))

pub lost_line : (c : Config) (es : List Event) (i : ℕ) → LostLine c (after c (fresh c) es) (Line i) i
    → (step c (after c (fresh c) es) (Line i)).state ≡ changing i loses (after c (fresh c) es)
lost_line c es i =
    Refusals.lost_line c (after c (fresh c) es) i (Dispatch.underway_after c es (fresh c) (Dispatch.underway_fresh c))

pub lost_line_full : (c : Config) (es : List Event) (i : ℕ) → LostLine c (after c (fresh c) es) (Line i) i
    → (body_of (after c (fresh c) es) i).losses ≡ 65535
    → (step c (after c (fresh c) es) (Line i)).state ≡ after c (fresh c) es
lost_line_full c es i =
    Refusals.lost_line_full c (after c (fresh c) es) i
    (Dispatch.underway_after c es (fresh c) (Dispatch.underway_fresh c))

-- in version 1 there is none, so a refused event changes nothing at all
pub refused_same_one : (c : Config) → c.version ≡ 1 → (es : List Event) (e : Event)
    → (step c (after c (fresh c) es) e).seen.status ≢ done
    → (step c (after c (fresh c) es) e).state ≡ after c (fresh c) es
refused_same_one c v es e refused = refused_same c es e refused (Refusals.first_edition c v (after c (fresh c) es) e)

-- whatever the state, only the dispatch follows such a refusal
pub refused_dispatched : (c : Config) (s : State) (e : Event) → (step c s e).seen.status ≢ done
    → ((i : ℕ) → LostLine c s e i → ⊥)
    → (step c s e).state ≡ dispatched c s
refused_dispatched = Refusals.refused_dispatched

-- "the task isn't suspended": an accepted Activate finds its task suspended, so a started one is never requested again
pub activated_suspended : (c : Config) (s : State) (t : ℕ) → AcceptedIn c s (Activate t) → (body_of s t).phase ≡ suspended
unfolding step_by
activated_suspended c s t a = (Checks.activate_passed c s t a).2

-- "requests already waiting stay": a Stop changes no body
pub stop_bodies : (c : Config) (es : List Event) (t : ℕ)
    → (step c (after c (fresh c) es) (Stop t)).state.bodies ≡ (after c (fresh c) es).bodies
stop_bodies c es t =
    Requests.stop_bodies c (after c (fresh c) es) t (Dispatch.underway_after c es (fresh c) (Dispatch.underway_fresh c))

-- in every state that the fresh start leads to, whoever holds a resource is one of its declared users:
-- Release needs no status for it
pub held_by_user : (c : Config) (es : List Event) (i r : ℕ) → among r (body_of (after c (fresh c) es) i).held ≡ true
    → is_user c r i ≡ true
held_by_user c es = Users.declared_after c es (fresh c) (Users.declared_fresh c)

-- Where no time-triggered task is started, the runner's own priority is above the current priority of every other body
-- that holds a resource, and so above that resource's ceiling:
-- after every list of events, whatever the kinds of the bodies
pub holder_below : (c : Config) → Configuration.Accepted c → Configuration.Shaped c → (es : List Event)
    → (after c (fresh c) es).order ≡ []
    → (i r : ℕ)
    → i ≢ caller c (after c (fresh c) es)
    → among r (body_of (after c (fresh c) es) i).held ≡ true
    → current c i (body_of (after c (fresh c) es) i) < priority_of c (caller c (after c (fresh c) es))
holder_below = Refusal.holder_below

-- "a declared basic task or ISR is refused a resource only when it holds that resource itself":
-- with status 1, over all kinds
pub declared_refused : (c : Config) → Configuration.Accepted c → Configuration.Shaped c → (es : List Event) (r : ℕ)
    → nobody_runs c (after c (fresh c) es) ≡ false
    → is_user c r (caller c (after c (fresh c) es)) ≡ true
    → (step c (after c (fresh c) es) (Get r)).seen.status ≢ 0
    → ((step c (after c (fresh c) es) (Get r)).seen.status ≡ 1)
    × (among r (calling c (after c (fresh c) es)).held ≡ true)
declared_refused = Refusal.declared_refused

-- losses come from due entries and counted lost lines:
-- no other event changes one, and what is seen of them is the state after the event
pub losses_call : (c : Config) (s : State) (e : Event) → e ≢ Tick → ((i : ℕ) → LostLine c s e i → ⊥)
    → losses_of (step c s e).state ≡ losses_of s
losses_call = Effects.losses_call

pub losses_seen_lem : (c : Config) (s : State) (e : Event) → (step c s e).seen.losses ≡ losses_of (step c s e).state
losses_seen_lem = Effects.losses_seen_lem

-- no loss count is above 65,535
pub losses_le : (c : Config) (es : List Event) (i : ℕ) → (body_of (after c (fresh c) es) i).losses ≤ 65535
losses_le c es = Losses.few_after c es (fresh c) (Losses.few_fresh c)

-- "Version 1 or 2 at the head of the configuration selects it, and everything else is proved once over both": status,
-- runner, level, begun mark and due entries of every list of events do not depend on the version, and the losses of a
-- body in edition two are those in edition one and its lost lines, up to 65,535
pub versions_alike : (c : Config) (v w : ℕ) (es : List Event)
    → map unlost (seen (with_version c v) (fresh (with_version c v)) es)
    ≡ map unlost (seen (with_version c w) (fresh (with_version c w)) es)
versions_alike = Versions.versions_alike

pub losses_apart : (c : Config) (v : ℕ) → 2 ≤ v → (i : ℕ) (es : List Event)
    → (body_of (after (with_version c v) (fresh (with_version c v)) es) i).losses
    ≡ min
    ((body_of (after (with_version c 1) (fresh (with_version c 1)) es) i).losses
    + lines_lost (with_version c 1) i (fresh (with_version c 1)) es)
    65535
losses_apart = LineLosses.losses_apart
