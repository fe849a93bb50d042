-- What it is for one event to do the same to the model and to the state, and what all events share.
--
--   Agrees c p rk m s e  the event e does the same to the model m and to the state s
--   agrees               an event that ends in an arbitrated model
--   agrees_either        an event with the same status on both sides; agrees_attempt: one that changes nothing where
--                        it is refused
--   settled_done         what an accepted event leaves that may dispatch another body; calm_done: one that does not
--   by_caller            nobody who may call runs on both sides, or one body on both; by_runner: who may not, too
--   call_same, by_call   the same of a status, and of an accepted call
use Prim.Native.Nat.{ℕ, zero, suc, ◌<◌}
use mathlib.Core.Path.{◌≡◌, refl, sym, ap, ap₂, subst, ◌∙◌}
use mathlib.Core.Bool.{Bool, true, false, true≢false, cond, ◌||◌}
use mathlib.Core.Logic.{◌≢◌}
use mathlib.Core.List.{List, [], ◌∷◌, map}
use native.Mathlib.Omega.{arith}
use borrow.Author.Tests.{eq-eqb, ne_eqb}
use lib.Dec.{eqb}
use lib.ListN.{length, get_or, set, take, replicate, length-map, get_or-map, get_or-eq_default}
use lib.Seq.{get_or-set_same, get_or-set_other, get_or-take, ext_get_or, length-take-le}
use Rattle.number.proofs.Cases.{by_eq, cond_either}
use Rattle.config.specs.declared.Config.{Config}
use Rattle.config.specs.Meaning.{execution_level}
use Rattle.plan.specs.declared.Plan.{Plan}
use Rattle.scheduler.specs.Status.{done, call_level, Check, ◌gives◌, first_given}
use Rattle.scheduler.specs.Body.{Phase, started, waiting, triggered, is_suspended, is_waiting, is_started, has_begun, Body, current, become}
use Rattle.scheduler.specs.Choice.{Candidate, by_holding, chosen}
use Rattle.scheduler.specs.State.{State, no_body, runner, changing, latest_of}
use Rattle.scheduler.specs.Event.{is_tick}
use Rattle.scheduler.specs.Call.{nobody_runs, nobody_calls, caller, status_of, effect_of, else_of}
use Rattle.scheduler.specs.Tick.{dues}
use Rattle.scheduler.specs.Scheduler as Plain
use Rattle.scheduler.specs.Scheduler.{Event, step, step_by, begins, phase_begun, dispatched, ending, none_due, mark_of}
use Rattle.scheduler.proofs.Body.{begun_phase_active, competes_active}
use Rattle.scheduler.proofs.Choice.Runner.{current_own, candidate_active, Taken, no_one, body, chosen_from_lem}
use Rattle.scheduler.proofs.Choice.Dispatch.{begins_some}
use Rattle.scheduler.proofs.Order.Invariant.{Orderly, effect_orderly, refusal_orderly, orderly_step}
use Rattle.scheduler.proofs.Event.Effects.{tables_dispatched, no_tick}
use Rattle.machine.specs.Model.{Model, Outcome, no_rank, done_with, refused_with}
use Rattle.stack.specs.Stack.{row_bytes}
use Rattle.machine.specs.Arbiter.{settled, timed}
use Rattle.machine.specs.Events as Machine
use Rattle.machine.specs.Events.{idles, no_caller}
use Rattle.machine.specs.Machine.{machine_step, losses_of, matched, observed}
use Rattle.plan.proofs.Fitted.{Fitted}
use Rattle.machine.proofs.Relation.Words.{at}
use Rattle.machine.proofs.Relation.Nest.{Nested, Seats}
use Rattle.machine.proofs.Relation.Rows.{Shows}
use Rattle.machine.proofs.Relation.Order.{latest_exists, latest_begun, kinds_of}
use Rattle.machine.proofs.Relation.Cells.{CellsOf}
use Rattle.machine.proofs.Relation.Losses.{Lost, lost_same}
use Rattle.machine.proofs.Relation.Bits.{event_bits, NotedOf, noted_same}
use Rattle.machine.proofs.Relation.Whole.{Tied, Calm, Sim, latest_seat}
use Rattle.machine.proofs.Arbitration.Choice.{chosen_seated, chosen_none}
use Rattle.machine.proofs.Arbitration.Seat.{current_few}
use Rattle.machine.proofs.Arbitration.Dispatch.{Seated, Arbitrated, rank_below, settled_tied, calm_arbitrated}

-- what a change of one body keeps, it keeps of every body
pub kept {ℓ} : {A : Type ℓ} (g : Body → A) (f : Body → Body) → ((x : Body) → g (f x) ≡ g x)
    → (bs : List Body) (i j : ℕ)
    → g (at (set bs i (f (at bs i))) j) ≡ g (at bs j)
kept g f k [] i j = refl
kept g f k (b ∷ bs) zero zero = k b
kept g f k (b ∷ bs) zero (suc j) = refl
kept g f k (b ∷ bs) (suc i) zero = refl
kept g f k (b ∷ bs) (suc i) (suc j) = kept g f k bs i j

-- i is a body that isn't suspended
abbrev Active : State → ℕ → Type 0
Active s i = (i < length s.bodies) × (is_suspended (at s.bodies i).phase ≡ false)

-- the latest time-triggered task that is started is one
abbrev pub LatestActive : State → Type 0
LatestActive s = (j : ℕ) (js : List ℕ) → s.order ≡ j ∷ js → Active s j

-- who runs, where js are the time-triggered tasks started
pub runner_is : (c : Config) (s : State) {js : List ℕ} → s.order ≡ js
    → runner c s ≡ latest_of s.bodies js (chosen c s.bodies)
runner_is c s e = ap (λ (js : List ℕ). latest_of s.bodies js (chosen c s.bodies)) e

-- who begins is one, too
begins_unsuspended : (c : Config) (s : State) → LatestActive s → begins (runner c s) ≡ true
    → Active s (runner c s).number
begins_unsuspended c s top b = by s.order refl
  where
    go : (k : Candidate) → begins k ≡ true → Taken c s.bodies k → Active s k.number
    go k b (no_one z) = absurd (true≢false (rw z at (begins_some k b).0))
    go k b (body i h p z) =
        let known = candidate_active c i (at s.bodies i) (at s.bodies i).phase p in
        let n : k.number ≡ i = ap (λ (x : Candidate). x.number) (z ∙ known) in
        rw n (h, competes_active (at s.bodies i).phase p)

    by : (js : List ℕ) → s.order ≡ js → Active s (runner c s).number
    by [] e =
        let k = runner_is c s e in
        rw k (go (chosen c s.bodies) (rw k at b) (chosen_from_lem by_holding refl c s.bodies))
    by (j ∷ js) e =
        let k : (runner c s).number ≡ j = ap (λ (x : Candidate). x.number) (runner_is c s e) in
        rw k (top j js e)

-- a dispatch changes no losses
pub dispatched_losses : (c : Config) (s : State) (i : ℕ)
    → (at (dispatched c s).bodies i).losses ≡ (at s.bodies i).losses
dispatched_losses c s i = go (begins (runner c s))
  where
    begun : Body → Body
    begun = become (phase_begun (runner c s))

    go : (b : Bool)
        → (at (cond b (changing (runner c s).number begun s) s).bodies i).losses ≡ (at s.bodies i).losses
    go true = kept (λ x. x.losses) begun (λ x. refl) s.bodies (runner c s).number i
    go false = refl

-- what has begun does not wait
begun_awake : (x : Bool) → is_waiting (cond x (triggered true) started) ≡ false
begun_awake x = cond_either (λ (q : Phase). is_waiting q ≡ false) x _ _ refl refl

-- nor does a dispatch change event bits: who begins was not suspended, and does not wait
module _ (c : Config) (s : State) (top : LatestActive s) where
  abbrev began : Body → Body
  began = become (phase_begun (runner c s))

  abbrev then : Bool → List Body
  then b = (cond b (changing (runner c s).number began s) s).bodies

  abbrev r : ℕ
  r = (runner c s).number

  at_runner : begins (runner c s) ≡ true → at (then true) r ≡ began (at s.bodies r)
  at_runner e = get_or-set_same s.bodies r (began (at s.bodies r)) no_body (begins_unsuspended c s top e).0

  at_other : (i : ℕ) → i ≢ r → at (then true) i ≡ at s.bodies i
  at_other i n = get_or-set_other s.bodies r i (began (at s.bodies r)) no_body n

  pub dispatched_bits : (i : ℕ) → event_bits (at (dispatched c s).bodies i) ≡ event_bits (at s.bodies i)
  dispatched_bits i = go (begins (runner c s)) refl
    where
      go : (b : Bool) → begins (runner c s) ≡ b → event_bits (at (then b) i) ≡ event_bits (at s.bodies i)
      go false e = refl
      go true e =
          by_eq i r
          (λ z. rw z
          (ap event_bits (at_runner e) ∙ rw (begun_phase_active (runner c s).timed)
          (sym (rw (begins_unsuspended c s top e).1))))
          (λ n. ap event_bits (at_other i n))

  pub dispatched_masks : (i w : ℕ) → (at (dispatched c s).bodies i).phase ≡ waiting w
      → (at s.bodies i).phase ≡ waiting w
  dispatched_masks i w = go (begins (runner c s)) refl
    where
      go : (b : Bool) → begins (runner c s) ≡ b → (at (then b) i).phase ≡ waiting w → (at s.bodies i).phase ≡ waiting w
      go false e h = h
      go true e h =
          by_eq i r
          (λ z.
          let awake : is_waiting (at (then true) i).phase ≡ false =
          rw (z, at_runner e) (begun_awake (runner c s).timed) in
          absurd (true≢false (sym (ap is_waiting h) ∙ awake)))
          (λ n. ap (λ (x : Body). x.phase) (sym (at_other i n)) ∙ h)

  pub order_dispatched : (dispatched c s).order ≡ s.order
  order_dispatched = go (begins (runner c s))
    where
      go : (b : Bool) → (cond b (changing (runner c s).number began s) s).order ≡ s.order
      go true = refl
      go false = refl

-- the same tests in the same order give the same status
pub first_same : {a a' : Bool} (st : ℕ) (ks ks' : List Check) → a ≡ a' → (a' ≡ false → first_given ks ≡ first_given ks')
    → first_given ((a gives st) ∷ ks) ≡ first_given ((a' gives st) ∷ ks')
unfolding first_given
first_same {a' = true} st ks ks' e f = rw e
first_same {a' = false} st ks ks' e f = rw e (f refl)

-- where a status is 0 its first test has passed
pub first_passed : (a : Bool) (st : ℕ) (ks : List Check) → st ≢ done → first_given ((a gives st) ∷ ks) ≡ done
    → a ≡ false
unfolding first_given
first_passed true st ks n e = absurd (n e)
first_passed false st ks n e = refl

-- a status other than 0 leaves m
attempt_refused : (m : Model) (st : ℕ) (o : Outcome) → st ≢ done → Machine.attempt m st o ≡ refused_with m st
attempt_refused m st o n = ap (λ (b : Bool). cond b o (refused_with m st)) (ne_eqb st done n)

-- the event does the same to the model and to the state
pub record Agrees (c : Config) (p : Plan) (rk : ℕ → ℕ) (m : Model) (s : State) (e : Event) : Type 0 where
  pub seen : observed c p m e (machine_step c p m e) ≡ (step c s e).seen
  pub sim : Sim c p rk (machine_step c p m e).model (step c s e).state

-- the two sides answer an event with the status st: o is the machine's outcome, s' the scheduler's state before the
-- dispatch
pub record Answered (c : Config) (p : Plan) (rk : ℕ → ℕ) (o : Outcome) (st : ℕ) (s' : State) : Type 0 where
  pub status : o.status ≡ st
  pub arb : Arbitrated c p rk o s'
  pub latest : LatestActive s'
  pub row : Shows (row_bytes o.model.triggered) (map rk s'.order)
  pub size : length s'.bodies ≡ c.bodies
  pub cells : CellsOf c p o.model s'.tables
  pub lost : Lost c rk o.model.losses s'.bodies
  pub noted : NotedOf c rk o.model s'.bodies

-- they accept it
abbrev pub Done : Config → Plan → (ℕ → ℕ) → Outcome → State → Type 0
Done c p rk o s' = Answered c p rk o done s'

-- the time-triggered task j runs, as both sides see it
pub record Enters (c : Config) (rk : ℕ → ℕ) (m : Model) (s : State) (j : ℕ) (js : List ℕ) : Type 0 where
  pub order_is : s.order ≡ j ∷ js
  pub runs : timed m ≡ true
  pub not_idle : idles m ≡ false
  pub somebody : nobody_runs c s ≡ false
  pub calls : caller c s ≡ j
  pub timed_now : (runner c s).timed ≡ true
  pub rank : m.core.runner ≡ rk j
  pub exists : j < c.bodies
  pub phase : (at s.bodies j).phase ≡ triggered true

-- the state is in order before the dispatch, where the event is accepted and where it is refused, and after it; before
-- the dispatch of a Tick a task may have been triggered that has still to begin
pub record Keeps (c : Config) (s : State) : Type 0 where
  pub effect : (e : Event) → is_tick e ≡ false → status_of c s e ≡ done → Orderly c (effect_of c s e)
  pub refusal : (e : Event) → Orderly c (else_of c s (status_of c s e) e)
  pub next : (e : Event) → Orderly c (step c s e).state

-- the runner, body b of the nest, as both sides see it
pub record Runs (c : Config) (rk : ℕ → ℕ) (m : Model) (s : State) (b : ℕ) (ns : List ℕ) : Type 0 where
  pub tied : Tied c rk m s.bodies [] (b ∷ ns)
  pub none_timed : s.order ≡ []
  pub may_call : no_caller m ≡ false
  pub not_idle : idles m ≡ false
  pub calls_there : nobody_calls c s ≡ false
  pub somebody : nobody_runs c s ≡ false
  pub calls : caller c s ≡ b
  pub rank : m.core.runner ≡ rk b
  pub exists : b < c.bodies
  pub started_now : is_started (at s.bodies b).phase ≡ true
  pub plainly : timed m ≡ false
  pub untimed : (runner c s).timed ≡ false

module _ {c : Config} {p : Plan} {rk : ℕ → ℕ} (fit : Fitted c p rk) where
  -- the losses by rank, looked up in body order, are the bodies' losses
  pub losses_seen_lem : (m : Model) (bs : List Body) → length bs ≡ c.bodies → Lost c rk m.losses bs
      → losses_of c p m ≡ map (λ b. b.losses) bs
  losses_seen_lem m bs size l =
      ext_get_or 0 (losses_of c p m) (map (λ b. b.losses) bs) long
      (λ i h. each i (rw (long ∙ length-map bs (λ b. b.losses) ∙ size) at h))
    where
      long : length (losses_of c p m) ≡ length (map (λ b. b.losses) bs)
      long =
          length-map (take c.bodies p.rank) (λ r. get_or m.losses r 0)
          ∙ length-take-le c.bodies p.rank (omega (arith, fit.ranks_long, fit.few))
          ∙ sym (length-map bs (λ b. b.losses) ∙ size)

      past : get_or m.losses no_rank 0 ≡ 0
      past = get_or-eq_default m.losses 0 (omega (arith, l.losses_long))

      each : (i : ℕ) → i < c.bodies → get_or (losses_of c p m) i 0 ≡ get_or (map (λ b. b.losses) bs) i 0
      each i h =
          ap (λ (d : ℕ). get_or (losses_of c p m) i d) (sym past)
          ∙ get_or-map (λ r. get_or m.losses r 0) (take c.bodies p.rank) i no_rank
          ∙ ap (λ (r : ℕ). get_or m.losses r 0) (get_or-take c.bodies p.rank i no_rank h ∙ fit.body_rank i h)
          ∙ l.of_body i h
          ∙ sym (get_or-map (λ b. b.losses) bs i no_body)

  -- nobody runs on both sides, body b does on both, or the time-triggered task j does
  pub by_runner {ℓ} : {C : Type ℓ} {m : Model} {s : State} → Sim c p rk m s
      → (idles m ≡ true → nobody_runs c s ≡ true → C)
      → ((b : ℕ) (ns : List ℕ) → Runs c rk m s b ns → C) → ((j : ℕ) (js : List ℕ) → Enters c rk m s j js → C) → C
  unfolding Nested Seats
  by_runner {C = C} {m = m} {s = s} sim f g h = by s.order refl sim.tied
    where
      go : s.order ≡ [] → (ns : List ℕ) → Tied c rk m s.bodies [] ns → Calm c m.core.level s.bodies → C
      go e [] t calm =
          f (eq-eqb m.core.runner no_rank t.seats.0) (rw (runner_is c s e ∙ chosen_none fit t calm refl))
      go e (b ∷ ns) t calm =
          let h = runner_is c s e ∙ chosen_seated fit t calm b ns refl in
          let level = current c b (at s.bodies b) in
          let rank = rank_below fit b t.nested.0 in
          let few = current_few fit b (at s.bodies b) t.nested.0 in
          let low = current_own c b (at s.bodies b) in
          let some = fit.own_some b t.nested.0 in
          let awake : idles m ≡ false = ne_eqb m.core.runner no_rank (λ z. absurd (omega (arith, t.seats.0, z))) in
          let plain : timed m ≡ false =
          ne_eqb m.core.level execution_level (λ z. absurd (omega (arith, z, t.seats.1.0))) in
          let runs : nobody_runs c s ≡ false = rw h (ne_eqb level 0 (λ z. absurd (omega (arith, z)))) in
          g b ns
          (record {
            tied = t;
            none_timed = e;
            may_call = ap₂ (λ (x y : Bool). x || y) awake plain;
            plainly = plain;
            not_idle = awake;
            calls_there = rw runs (ap (λ (x : Candidate). x.timed) h);
            untimed = ap (λ (x : Candidate). x.timed) h;
            somebody = runs;
            calls = ap (λ (x : Candidate). x.number) h;
            rank = t.seats.0;
            exists = t.nested.0;
            started_now = t.nested.1.0;
          })

      by : (js : List ℕ) → s.order ≡ js → Tied c rk m s.bodies s.order sim.nest → C
      by [] e t = go e sim.nest (rw e at t) sim.calm
      by (j ∷ js) e t =
          let seat = latest_seat (rw e at t) in
          let k = runner_is c s e in
          let exists = latest_exists sim.orderly j js e in
          let rank = rank_below fit j exists in
          let level : timed m ≡ true = eq-eqb m.core.level execution_level seat.1.0 in
          h j js
          (record {
            order_is = e;
            runs = level;
            not_idle = ne_eqb m.core.runner no_rank (λ z. absurd (omega (arith, seat.0, z)));
            somebody = rw k;
            calls = ap (λ (x : Candidate). x.number) k;
            timed_now = ap (λ (x : Candidate). x.timed) k;
            rank = seat.0;
            exists = exists;
            phase = latest_begun sim.orderly j js e;
          })

  -- nobody who may call runs on both sides, or body b does on both
  pub by_caller {ℓ} : {C : Type ℓ} {m : Model} {s : State} → Sim c p rk m s
      → (no_caller m ≡ true → nobody_calls c s ≡ true → C) → ((b : ℕ) (ns : List ℕ) → Runs c rk m s b ns → C) → C
  by_caller sim f g =
      by_runner sim
      (λ i n. f (rw i) (rw n))
      g
      (λ j js k. f (ap₂ (λ (x y : Bool). x || y) k.not_idle k.runs) (rw (k.somebody, k.timed_now)))

  -- most calls first ask whether somebody runs who may call; the other tests are of that body
  pub call_same : {m : Model} {s : State} → Sim c p rk m s → (ks ks' : List Check)
      → ((b : ℕ) (ns : List ℕ) → Runs c rk m s b ns → first_given ks ≡ first_given ks')
      → first_given ((no_caller m gives call_level) ∷ ks) ≡ first_given ((nobody_calls c s gives call_level) ∷ ks')
  call_same sim ks ks' f =
      by_caller sim
      (λ i n. first_same call_level ks ks' (i ∙ sym n) (λ h. absurd (true≢false (sym n ∙ h))))
      (λ b ns k. first_same call_level ks ks' (k.may_call ∙ sym k.calls_there) (λ _. f b ns k))

  -- where such a call is accepted somebody does
  pub by_call {ℓ} : {C : Type ℓ} {m : Model} {s : State} → Sim c p rk m s → (ks : List Check)
      → first_given ((nobody_calls c s gives call_level) ∷ ks) ≡ done
      → ((b : ℕ) (ns : List ℕ) → Runs c rk m s b ns → C) → C
  by_call {s = s} sim ks z =
      let calls = first_passed (nobody_calls c s) call_level ks (λ e. absurd (omega (arith, e))) z in
      by_caller sim (λ i n. absurd (true≢false (sym n ∙ calls)))

  pub caller_same : {m : Model} {s : State} → Sim c p rk m s → no_caller m ≡ nobody_calls c s
  caller_same sim = by_caller sim (λ i n. i ∙ sym n) (λ b ns k. k.may_call ∙ sym k.calls_there)

  -- every event keeps a state in order
  pub keeps_of : {s : State} → Orderly c s → Keeps c s
  unfolding step_by
  keeps_of {s} o =
      record {
        effect = λ e call z. effect_orderly c o e (no_tick e call) z;
        refusal = λ e. refusal_orderly c o (status_of c s e) e;
        next = orderly_step c fit.accepted fit.shaped o;
      }

  -- of a state in order the latest time-triggered task has begun
  seated_of : {s : State} → Orderly c s → Seated c s
  seated_of o j js e = (latest_exists o j js e, ap has_begun (latest_begun o j js e))

  pub latest_of_lem : {s : State} → Orderly c s → LatestActive s
  latest_of_lem o j js e = (rw o.bodies_there (latest_exists o j js e), ap is_suspended (latest_begun o j js e))

  -- where no time-triggered task is started
  pub untimed_tied : {m : Model} {bs : List Body} {ns js : List ℕ} → js ≡ []
      → Tied c rk m bs [] ns → Tied c rk m bs js ns
  untimed_tied {m} {bs} {ns} e = subst (λ (js : List ℕ). Tied c rk m bs js ns) (sym e)

  -- an event that leaves a state in order ends in arbitration
  pub settled_orderly : {m : Model} {ns : List ℕ} (s : State) → Orderly c s → Tied c rk m s.bodies s.order ns
      → Arbitrated c p rk (settled p.priority m) s
  settled_orderly s o t = settled_tied fit s (seated_of o) (kinds_of o) t

  -- an accepted event leaves the model m and the state s, in order; another body may be above the level
  module _ {m : Model} {s : State} {ns : List ℕ} (o : Orderly c s) (t : Tied c rk m s.bodies s.order ns)
      (row : Shows (row_bytes m.triggered) (map rk s.order)) (cells : CellsOf c p m s.tables)
      (lost : Lost c rk m.losses s.bodies) (noted : NotedOf c rk m s.bodies) where
    pub settled_done : Done c p rk (settled p.priority m) s
    settled_done =
        record {
          status = refl;
          arb = settled_orderly s o t;
          latest = latest_of_lem o;
          row = row;
          size = o.bodies_there;
          cells = cells;
          lost = lost;
          noted = noted;
        }

    -- none is
    pub calm_done : Calm c m.core.level s.bodies → Done c p rk (done_with m false) s
    calm_done calm =
        record {
          status = refl;
          arb = calm_arbitrated fit s done (seated_of o) t calm;
          latest = latest_of_lem o;
          row = row;
          size = o.bodies_there;
          cells = cells;
          lost = lost;
          noted = noted;
        }

  -- a refused event leaves what it finds, or what it counts
  refused_answered : {m : Model} {s : State} (st : ℕ) → Sim c p rk m s → Answered c p rk (refused_with m st) st s
  refused_answered {s = s} st sim =
      record {
        status = refl;
        arb = calm_arbitrated fit s st (seated_of sim.orderly) sim.tied sim.calm;
        latest = latest_of_lem sim.orderly;
        row = sim.row;
        size = sim.tied.size;
        cells = sim.cells;
        lost = sim.lost;
        noted = sim.noted;
      }

  -- an event with the outcome o on the machine's side; on the other the status st, and s'' before the dispatch
  module _ {m : Model} {s : State} (e : Event) (o : Outcome) (st : ℕ) (ds : List Bool) (s'' : State)
      (machine : machine_step c p m e ≡ o) (plain : step c s e ≡ ending c st ds s'') (due : matched p m e ≡ ds)
      (a : Answered c p rk o st s'') (orderly : Orderly c (step c s e).state) where
    pub agrees : Agrees c p rk m s e
    agrees =
        record {
          seen = ap (λ (x : Outcome). observed c p m e x) machine
              ∙ same
              ∙ sym (ap (λ (x : Plain.Stepped). x.seen) plain);
          sim = rw (machine, plain)
              (record {
                nest = a.arb.nest;
                tied = rw (order_dispatched c s'' a.latest) a.arb.tied;
                calm = a.arb.calm;
                cells = rw (tables_dispatched c s'') a.cells;
                lost = lost_same (dispatched_losses c s'') a.lost;
                noted = noted_same
                    (dispatched_bits c s'' a.latest)
                    (dispatched_masks c s'' a.latest)
                    a.noted;
                orderly = rw plain at orderly;
                row = rw (order_dispatched c s'' a.latest) a.row;
              });
        }
      where
        same : observed c p m e o ≡ (ending c st ds s'').seen
        same i =
            record {
              status = a.status i;
              runner = a.arb.number i;
              level = a.arb.level i;
              begun = mark_of (a.arb.begun i);
              losses = losses_seen_lem o.model s''.bodies a.size a.lost i;
              due = due i;
            }

  -- an event other than Tick, in a state whose order every event keeps; st_m and st_p: its status on the two sides
  module _ {m : Model} {s : State} (sim : Sim c p rk m s) (keeps : Keeps c s) (long : length (dues c s) ≡ p.count)
      (e : Event) {st_m st_p : ℕ} (o : Outcome) (s' : State) where
    -- m' and s'': what the two sides leave where the event is refused
    pub agrees_either : (m' : Model) (s'' : State) → machine_step c p m e ≡ Machine.attempt m' st_m o
        → step c s e ≡ ending c st_p (none_due c s) (cond (eqb st_p done) s' s'')
        → matched p m e ≡ replicate p.count false
        → st_m ≡ st_p → (st_p ≡ done → Done c p rk o s') → (st_p ≢ done → Sim c p rk m' s'') → Agrees c p rk m s e
    agrees_either m' s'' machine plain unmatched same acc ref =
        by_eq st_p done
        (λ z. agrees e o st_p (none_due c s) s'
        (machine ∙ rw (same, eq-eqb st_p done z))
        (plain ∙ rw (eq-eqb st_p done z))
        due (rw z (acc z)) (keeps.next e))
        (λ n. agrees e (refused_with m' st_p) st_p (none_due c s) s''
        (machine ∙ rw same (attempt_refused m' st_p o n))
        (plain ∙ rw (ne_eqb st_p done n))
        due (refused_answered st_p (ref n)) (keeps.next e))
      where
        due : matched p m e ≡ none_due c s
        due = unmatched ∙ ap (λ (n : ℕ). replicate n false) (sym long)

    pub agrees_attempt : machine_step c p m e ≡ Machine.attempt m st_m o
        → step c s e ≡ ending c st_p (none_due c s) (cond (eqb st_p done) s' s)
        → matched p m e ≡ replicate p.count false
        → st_m ≡ st_p → (st_p ≡ done → Done c p rk o s') → Agrees c p rk m s e
    agrees_attempt machine plain unmatched same acc = agrees_either m s machine plain unmatched same acc (λ _. sim)
