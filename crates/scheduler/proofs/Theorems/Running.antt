-- Who runs: the latest of the started time-triggered tasks, else the body with the greatest current priority; the rule
-- for ties always decides; at most one body begins in an event; which time-triggered tasks are started; who begins again.
-- Each law stands here in full, over specs/ alone; the modules it cites prove it.
--
-- `Choice` and `Order` have more of who is chosen and of the started time-triggered tasks.
use Prim.Native.Nat.{ℕ, ◌≤◌, ◌<◌, max}
use mathlib.Core.Path.{◌≡◌, refl, ap, ◌∙◌}
use mathlib.Core.Bool.{Bool, true, false}
use mathlib.Core.List.{List, [], ◌∷◌}
use mathlib.Core.Logic.{◌≢◌, ◌⊎◌}
use lib.ListN.{length}
use Rattle.config.specs.declared.Config.{Config}
use Rattle.config.specs.Meaning.{is_isr, is_extended, is_timed, priority_of, ceiling}
use Rattle.config.specs.Accepted as Configuration
use Rattle.scheduler.specs.Body.{Body, suspended, triggered, is_started, has_begun, competes, holds, current, gets, releases}
use Rattle.scheduler.specs.Choice.{Candidate, nobody, is_nobody, candidate, by_holding, by_begun, goes_before}
use Rattle.scheduler.specs.State.{State, body_of, runner, among}
use Rattle.scheduler.specs.Event.{Event, Finish}
use Rattle.scheduler.specs.Tick.{ticked}
use Rattle.scheduler.specs.Call.{caller}
use Rattle.scheduler.specs.Scheduler.{begins, dispatched, step, fresh, seen, after, leaves, unstarted, fresh_by, seen_by, after_by}
use Rattle.scheduler.specs.History.{AcceptedIn, Ends}
use Rattle.scheduler.proofs.Choice.Runner as Runner
use Rattle.scheduler.proofs.Choice.Dispatch as Dispatch
use Rattle.scheduler.proofs.Order.Range as Range
use Rattle.scheduler.proofs.Event.Requests as Requests
use Rattle.scheduler.proofs.Choice.Ties as Ties
use Rattle.scheduler.proofs.Order.Invariant as Invariant

-- what the body k is to the choice
abbrev pub candidate_of : Config → State → ℕ → Candidate
candidate_of c s k = candidate c k (body_of s k) (body_of s k).phase

-- A started time-triggered task "preempts all that runs, another kind 3 body too, and runs at one common execution
-- level 201": the one that was started last runs, whoever else may
pub runner_timed : (c : Config) (s : State) (j : ℕ) (js : List ℕ) → s.order ≡ j ∷ js
    → ((runner c s).number ≡ j) × ((runner c s).level ≡ 201) × ((runner c s).began ≡ has_begun (body_of s j).phase)
runner_timed c s j js e =
    let is = Runner.runner_timed c s j js e in
    (ap (λ (x : Candidate). x.number) is, ap (λ (x : Candidate). x.level) is, ap (λ (x : Candidate). x.began) is)

-- Where none is started: "the body with the greatest current priority among ready and started ones runs"
pub runner_greatest : (c : Config) (s : State) → s.order ≡ [] → (k : ℕ) → competes (body_of s k).phase ≡ true
    → current c k (body_of s k) ≤ (runner c s).level
runner_greatest c s none k active =
    rw (Runner.runner_untimed c s none) (Runner.chosen_greatest by_holding refl c s.bodies k active)

-- "On equal current priority the body holding a resource goes first"
pub runner_holder : (c : Config) (s : State) → s.order ≡ [] → (k : ℕ) → competes (body_of s k).phase ≡ true
    → holds (body_of s k).held ≡ true
    → current c k (body_of s k) ≡ (runner c s).level
    → (runner c s).holder ≡ true
runner_holder c s none k active held equal =
    rw (Runner.runner_untimed c s none)
    (Runner.chosen_tie by_holding refl c s.bodies k active
    (ap (λ x. x.holder) (Runner.candidate_active c k (body_of s k) (body_of s k).phase active) ∙ held)
    (equal ∙ ap (λ x. x.level) (Runner.runner_untimed c s none)))

-- so one that goes before every other runs
pub runner_best : (c : Config) (s : State) → s.order ≡ [] → (k : ℕ) → is_nobody (candidate_of c s k) ≡ false
    → ((i : ℕ) → i < length s.bodies → i ≢ k → competes (body_of s i).phase ≡ true
    → goes_before by_holding (candidate_of c s k) (candidate_of c s i) ≡ true)
    → runner c s ≡ candidate_of c s k
runner_best c s none k some best =
    Runner.runner_untimed c s none ∙ Runner.chosen_best by_holding refl c s.bodies k some best

-- and nobody runs exactly where every body is suspended or waits
pub runner_nobody : (c : Config) (s : State) → s.order ≡ []
    → ((i : ℕ) → i < length s.bodies → competes (body_of s i).phase ≡ false)
    → runner c s ≡ nobody
runner_nobody c s none all = Runner.runner_untimed c s none ∙ Runner.chosen_nobody by_holding refl c s.bodies all

pub runner_someone : (c : Config) (s : State) (k : ℕ) → competes (body_of s k).phase ≡ true → 1 ≤ priority_of c k
    → is_nobody (runner c s) ≡ false
runner_someone = Runner.runner_someone

-- The rule always decides: of two that may run one goes before the other, where the choice is made at the fresh start,
-- after every list of events, and where the choice after the next event is made
pub fresh_decided : (c : Config) → Configuration.Accepted c → Configuration.Shaped c → (i j : ℕ) → i < c.bodies
    → j < c.bodies → i ≢ j
    → competes (body_of (unstarted c) i).phase ≡ true
    → competes (body_of (unstarted c) j).phase ≡ true
    → (goes_before by_holding (candidate_of c (unstarted c) i) (candidate_of c (unstarted c) j) ≡ true)
    ⊎ (goes_before by_holding (candidate_of c (unstarted c) j) (candidate_of c (unstarted c) i) ≡ true)
fresh_decided = Ties.decided_fresh

pub always_decided : (c : Config) → Configuration.Accepted c → Configuration.Shaped c → (es : List Event) (i j : ℕ)
    → i < c.bodies → j < c.bodies → i ≢ j
    → competes (body_of (after c (fresh c) es) i).phase ≡ true
    → competes (body_of (after c (fresh c) es) j).phase ≡ true
    → (goes_before by_holding (candidate_of c (after c (fresh c) es) i) (candidate_of c (after c (fresh c) es) j) ≡ true)
    ⊎ (goes_before by_holding (candidate_of c (after c (fresh c) es) j) (candidate_of c (after c (fresh c) es) i) ≡ true)
always_decided = Ties.decided_after

pub next_decided : (c : Config) → Configuration.Accepted c → Configuration.Shaped c
    → (es : List Event) (e : Event) (i j : ℕ) → i < c.bodies → j < c.bodies
    → i ≢ j
    → competes (body_of (leaves c (after c (fresh c) es) e) i).phase ≡ true
    → competes (body_of (leaves c (after c (fresh c) es) e) j).phase ≡ true
    → (goes_before by_holding (candidate_of c (leaves c (after c (fresh c) es) e) i)
    (candidate_of c (leaves c (after c (fresh c) es) e) j) ≡ true)
    ⊎ (goes_before by_holding (candidate_of c (leaves c (after c (fresh c) es) e) j)
    (candidate_of c (leaves c (after c (fresh c) es) e) i) ≡ true)
next_decided = Ties.decided_at

-- Where no task is extended, document 01's rule for ties, "on equal priorities the one that already began goes first",
-- gives the same: all that is seen of every list of events, and the state after it.
-- So nothing that was right before has moved.
pub old_rule : (c : Config) → Configuration.Accepted c → Configuration.Shaped c → ((b : ℕ) → is_extended c b ≡ false)
    → (es : List Event)
    → (seen_by by_begun c (fresh_by by_begun c) es ≡ seen c (fresh c) es)
    × (after_by by_begun c (fresh_by by_begun c) es ≡ after c (fresh c) es)
old_rule = Ties.old_rule

pub runner_began : (c : Config) → Configuration.Accepted c → Configuration.Shaped c → ((b : ℕ) → is_extended c b ≡ false)
    → (es : List Event) (k : ℕ)
    → competes (body_of (after c (fresh c) es) k).phase ≡ true
    → is_started (body_of (after c (fresh c) es) k).phase ≡ true
    → current c k (body_of (after c (fresh c) es) k) ≡ (runner c (after c (fresh c) es)).level
    → (runner c (after c (fresh c) es)).began ≡ true
runner_began = Ties.runner_began

-- a Get raises the current priority to the ceiling, and the Release of the same resource undoes it
pub current_gets : (c : Config) (i r : ℕ) (b : Body) → current c i (gets r b) ≡ max (ceiling c r) (current c i b)
current_gets = Runner.current_gets

pub releases_gets : (r : ℕ) (b : Body) → releases (gets r b) ≡ b
releases_gets = Runner.releases_gets

-- "At most one body begins in an event": the one that a dispatch chose is chosen again, and after an event nobody is
-- left to begin; where every started time-triggered task is one of the state's bodies,
-- which is so after every list of events (`started_named`)
pub runner_dispatched : (c : Config) (s : State)
    → ((runner c (dispatched c s)).number ≡ (runner c s).number) × ((runner c (dispatched c s)).level ≡ (runner c s).level)
    × (((j : ℕ) → among j s.order ≡ true → j < length s.bodies) → begins (runner c (dispatched c s)) ≡ false)
runner_dispatched = Dispatch.chosen_again_begun

pub underway : (c : Config) (s : State) (e : Event)
    → ((j : ℕ) → among j (step c s e).state.order ≡ true → j < length (step c s e).state.bodies)
    → begins (runner c (step c s e).state) ≡ false
underway c s e = Dispatch.underway_named c (step c s e).state (Dispatch.underway_step c s e)

pub started_named : (c : Config) (es : List Event) (j : ℕ) → among j (after c (fresh c) es).order ≡ true
    → j < c.bodies
started_named c es = Range.named_after c es (fresh c) (Range.named_fresh c)

-- so of a configuration that the reader accepts nobody is left to begin, after every list of events
pub always_underway : (c : Config) → Configuration.Accepted c → Configuration.Shaped c → (es : List Event)
    → begins (runner c (after c (fresh c) es)) ≡ false
always_underway c ok shaped es =
    Dispatch.underway_named c (after c (fresh c) es)
    (Dispatch.underway_after c es (fresh c) (Dispatch.underway_fresh c))
    (λ j h. rw (Invariant.orderly_after c ok shaped es (Invariant.orderly_fresh c ok shaped)).bodies_there
    (started_named c es j h))

-- The started time-triggered tasks, after every list of events: each is one, and has begun; whoever is triggered is
-- among them, so none is ever seen that is triggered and has still to begin; there are at most 16
pub started_timed : (c : Config) → Configuration.Accepted c → Configuration.Shaped c → (es : List Event) (j : ℕ)
    → among j (after c (fresh c) es).order ≡ true
    → (is_timed c j ≡ true) × ((body_of (after c (fresh c) es) j).phase ≡ triggered true)
started_timed c ok shaped es j h =
    let o = Invariant.orderly_after c ok shaped es (Invariant.orderly_fresh c ok shaped) in
    (o.started_timed j h, o.started_begun j h)

pub triggered_started : (c : Config) → Configuration.Accepted c → Configuration.Shaped c
    → (es : List Event) (i : ℕ) (x : Bool)
    → (body_of (after c (fresh c) es) i).phase ≡ triggered x
    → among i (after c (fresh c) es).order ≡ true
triggered_started c ok shaped es =
    (Invariant.orderly_after c ok shaped es (Invariant.orderly_fresh c ok shaped)).triggered_started

pub begun_once : (c : Config) → Configuration.Accepted c → Configuration.Shaped c → (es : List Event) (i : ℕ)
    → (body_of (after c (fresh c) es) i).phase ≢ triggered false
begun_once = Invariant.begun_once

pub few_started : (c : Config) → Configuration.Accepted c → Configuration.Shaped c → (es : List Event)
    → length (after c (fresh c) es).order ≤ 16
few_started c ok shaped es =
    Invariant.few_started c ok shaped (Invariant.orderly_after c ok shaped es (Invariant.orderly_fresh c ok shaped))

-- a Tick after every list of events starts one that was suspended, which is then the latest, or leaves the order
pub tick_order : (c : Config) → Configuration.Accepted c → Configuration.Shaped c → (es : List Event)
    → ((ticked c (after c (fresh c) es)).order ≡ (after c (fresh c) es).order)
    ⊎ ((j : ℕ) × ((ticked c (after c (fresh c) es)).order ≡ j ∷ (after c (fresh c) es).order) × (is_timed c j ≡ true)
    × ((body_of (after c (fresh c) es) j).phase ≡ suspended))
tick_order = Invariant.tick_latest

-- "The begun mark is 1 exactly if this event made a body begin from its start; a resumed body gives 0": a body that has
-- begun, waiting or not, begins again only where the event is its own accepted Finish or Chain
pub begins_after_end : (c : Config) (s : State) (i : ℕ) → has_begun (body_of s i).phase ≡ true
    → (e : Event)
    → (step c s e).seen.begun ≡ 1
    → (step c s e).seen.runner ≡ i
    → Ends e × (caller c s ≡ i) × AcceptedIn c s e
begins_after_end = Requests.begins_after_end

-- "A started ISR's second request .. begins only after it has finished":
-- where a started ISR begins, the event is its own accepted Finish
pub begins_after_finish : (c : Config) (s : State) (i : ℕ) → has_begun (body_of s i).phase ≡ true → is_isr c i ≡ true
    → (e : Event)
    → (step c s e).seen.begun ≡ 1
    → (step c s e).seen.runner ≡ i
    → (e ≡ Finish) × (caller c s ≡ i) × AcceptedIn c s e
begins_after_finish = Requests.begins_after_finish
