-- After arbitration the model stands for the bodies after the dispatch, and who runs is the one that is chosen.
--
--   calm_arbitrated  no body is above the level: nothing changes
--   settled_tied     whatever the model; where a time-triggered task is started it runs on
use Prim.Native.Nat.{ℕ, ◌^◌, ◌≤◌, ◌<◌}
use mathlib.Core.Path.{◌≡◌, refl, sym, ap, subst, ◌∙◌}
use mathlib.Core.Logic.{◌≢◌}
use mathlib.Core.Bool.{Bool, true, false, true≢false, cond, not, ◌&&◌, and-false}
use mathlib.Core.List.{List, [], ◌∷◌, ◌++◌}
use native.Mathlib.Omega.{arith}
use borrow.Author.Tests.{lt-ltb, le-ltb, ne_eqb}
use lib.Dec.{eqb}
use lib.ListN.{set, length-set}
use lib.Seq.{get_or-set_same, set-get_or}
use Rattle.number.proofs.Cases.{by_lt, by_eq, cond_either}
use Rattle.config.specs.declared.Config.{Config}
use Rattle.config.specs.Meaning.{priority_of}
use Rattle.plan.specs.declared.Plan.{Plan}
use Rattle.word.specs.Word.{has, without, winner}
use Rattle.word.proofs.Theorems.{has_with_same, has_with_other, with_lt, has_without_same, has_without_other, without_lt}
use Rattle.scheduler.specs.Body.{Phase, suspended, ready, started, waiting, triggered, is_started, has_begun, competes, Body, current, become}
use Rattle.scheduler.specs.Choice.{Candidate, chosen, nobody}
use Rattle.scheduler.specs.State.{State, no_body, among, changing, latest_of, runner}
use Rattle.scheduler.specs.Scheduler.{begins, dispatched_to, dispatched}
use Rattle.scheduler.proofs.Choice.Runner.{current_own}
use Rattle.scheduler.proofs.Members.{among_tail_false}
use Rattle.machine.specs.Model.{Core, Picked, Model, Outcome, with_core}
use Rattle.machine.specs.Arbiter.{bids, winning, beginning, dispatching, arbitrated, settled}
use Rattle.machine.specs.Machine.{runner_of}
use Rattle.plan.proofs.Fitted.{Fitted}
use Rattle.machine.proofs.Relation.Words.{at, at_other, Words, words_changed, competes_on, started_waits}
use Rattle.machine.proofs.Relation.Slots.{slots_for, slots_along}
use Rattle.machine.proofs.Relation.Nest.{level_at, Nested, Seats, AlikeAlong, alike_outside, nest_level, level_at_alike, nested_alike, slots_along_alike, hold_alike}
use Rattle.machine.proofs.Relation.Kinds.{Kinds}
use Rattle.machine.proofs.Relation.Whole.{Tied, Calm, latest_seat}
use Rattle.machine.proofs.Arbitration.Seat.{Holders, holders}
use Rattle.machine.proofs.Arbitration.Bids.{Winner, winning_is, calm_below, winner_above, winner_best}
use Rattle.machine.proofs.Arbitration.Choice.{bidder, chosen_seated, chosen_none, outside, chosen_above}

-- the model that the machine hands back stands for the bodies after the dispatch to k, who runs; js: the time-triggered
-- tasks started
pub record ArbitratedTo (c : Config) (p : Plan) (rk : ℕ → ℕ) (o : Outcome) (js : List ℕ) (k : Candidate)
    (after : List Body) : Type 0 where
  pub nest : List ℕ
  pub tied : Tied c rk o.model after js nest
  pub calm : Calm c o.model.core.level after
  pub number : runner_of p o.model ≡ k.number
  pub level : o.model.core.level ≡ k.level
  pub begun : o.begun ≡ begins k

-- the same of the state s before the dispatch
abbrev pub Arbitrated : (c : Config) (p : Plan) (rk : ℕ → ℕ) (o : Outcome) (s : State) → Type 0
Arbitrated c p rk o s = ArbitratedTo c p rk o s.order (runner c s) (dispatched c s).bodies

-- the same where js are the time-triggered tasks started
abbrev ArbitratedAs : (c : Config) (p : Plan) (rk : ℕ → ℕ) (o : Outcome) (s : State) (js : List ℕ) → Type 0
ArbitratedAs c p rk o s js =
    let k = latest_of s.bodies js (chosen c s.bodies) in
    ArbitratedTo c p rk o js k (dispatched_to k s).bodies

-- the latest time-triggered task that is started exists, and has begun
abbrev pub Seated : Config → State → Type 0
Seated c s =
    (j : ℕ) (js : List ℕ) → s.order ≡ j ∷ js → (j < c.bodies) × (has_begun (at s.bodies j).phase ≡ true)

-- the model as it is
abbrev still : Model → ℕ → Outcome
still m st = record { model = m; status = st; begun = false }

module _ {c : Config} {p : Plan} {rk : ℕ → ℕ} (fit : Fitted c p rk) where
  pub rank_below : (b : ℕ) → b < c.bodies → rk b < 32
  rank_below b h = omega (arith, fit.rank_lt b h, fit.few)

  pub runner_of_is : (m : Model) (b : ℕ) → b < c.bodies → m.core.runner ≡ rk b → runner_of p m ≡ b
  runner_of_is m b h e = rw (e, lt-ltb (rk b) 32 (rank_below b h)) (fit.body_at b h)

  -- who is chosen, as the machine shows it
  record Shown (m : Model) (bs : List Body) : Type 0 where
    number : runner_of p m ≡ (chosen c bs).number
    level : m.core.level ≡ (chosen c bs).level
    begun : begins (chosen c bs) ≡ false

  module _ {m : Model} {bs : List Body} where
    shown : (ns : List ℕ) → Tied c rk m bs [] ns → Calm c m.core.level bs → Shown m bs
    unfolding Seats Nested
    shown [] t calm =
        let h : chosen c bs ≡ nobody = chosen_none fit t calm refl in
        record { number = rw (t.seats.0, h); level = rw h t.seats.1; begun = rw h }
    shown (b ∷ ns) t calm =
        let h = chosen_seated fit t calm b ns refl in
        record {
          number = rw h (runner_of_is m b t.nested.0 t.seats.0);
          level = rw h t.seats.1.0;
          begun = rw h (and-false (not (eqb (current c b (at bs b)) 0)));
        }

  -- where nobody is above the level the model stays as it is
  calm_plain : {m : Model} {ns : List ℕ} (s : State) (st : ℕ)
      → Tied c rk m s.bodies [] ns → Calm c m.core.level s.bodies → ArbitratedAs c p rk (still m st) s []
  calm_plain {m} {ns} s st t calm =
      let seat = shown ns t calm in
      let stays : (dispatched_to (chosen c s.bodies) s).bodies ≡ s.bodies = rw seat.begun in
      rw stays (record {
        nest = ns;
        tied = t;
        calm = calm;
        number = seat.number;
        level = seat.level;
        begun = sym seat.begun;
      })

  -- where no time-triggered task is started the one chosen by priority runs
  plainly : {o : Outcome} (s : State) → s.order ≡ [] → ArbitratedAs c p rk o s [] → Arbitrated c p rk o s
  plainly {o} s e = subst (ArbitratedAs c p rk o s) (sym e)

  -- a time-triggered task runs on
  timed_on : {m : Model} {ns : List ℕ} (s : State) (st j : ℕ) (js : List ℕ) → s.order ≡ j ∷ js → j < c.bodies
      → has_begun (at s.bodies j).phase ≡ true → Tied c rk m s.bodies s.order ns
      → Arbitrated c p rk (still m st) s
  timed_on {m} {ns} s st j js e j< entered =
      subst (λ (is : List ℕ). Tied c rk m s.bodies is ns → ArbitratedAs c p rk (still m st) s is) (sym e) runs
    where
      latest : Candidate
      latest = latest_of s.bodies (j ∷ js) (chosen c s.bodies)

      runs : Tied c rk m s.bodies (j ∷ js) ns → ArbitratedAs c p rk (still m st) s (j ∷ js)
      runs t =
          let seat = latest_seat t in
          let stays : (dispatched_to latest s).bodies ≡ s.bodies = rw entered in
          rw stays (record {
            nest = ns;
            tied = t;
            calm = λ b b< _. omega (arith, seat.1.0, fit.own_few b b<);
            number = runner_of_is m j j< seat.0;
            level = seat.1.0;
            begun = sym (rw entered);
          })

  -- the winner is above the level
  module _ {m : Model} {ns : List ℕ} (s : State) (t : Tied c rk m s.bodies [] ns) (kinds : Kinds c s.bodies)
      (v : Winner fit t.words kinds) (above : m.core.level < priority_of c v.body) where
    abbrev bs : List Body
    bs = s.bodies

    abbrev w : ℕ
    w = v.body

    -- the bodies after the winner began, or goes on
    abbrev bs' : List Body
    bs' = set bs w (become started (at bs w))

    best : (i : ℕ) → i < c.bodies → i ≢ w → competes (at bs i).phase ≡ true → priority_of c i < priority_of c w
    best = winner_best fit t.words kinds v

    chosen_w : chosen c bs ≡ bidder w (priority_of c w) (is_started (at bs w).phase) false
    chosen_w = chosen_above fit t w v.exists v.awake above best

    free : (at bs w).held ≡ []
    free = t.loose w (outside fit t w v.exists v.awake above best)

    at_w : at bs' w ≡ become started (at bs w)
    at_w = get_or-set_same bs w (become started (at bs w)) no_body (rw t.size v.exists)

    -- a body that had begun stays as it is
    resumed_same : is_started (at bs w).phase ≡ true → bs' ≡ bs
    resumed_same h = ap (set bs w) (go (at bs w) (at bs w).phase refl h) ∙ set-get_or bs w no_body
      where
        go : (x : Body) (q : Phase) → x.phase ≡ q → is_started q ≡ true → become started x ≡ x
        go x suspended e h = absurd (true≢false (sym h))
        go x ready e h = absurd (true≢false (sym h))
        go x started e h = λ i.
            record { phase = sym e i; pending = x.pending; held = x.held; losses = x.losses; bits = x.bits }
        go x (waiting n) e h = absurd (true≢false (sym h))
        go x (triggered z) e h = absurd (true≢false (sym h))

    dispatched_is : (dispatched_to (chosen c bs) s).bodies ≡ bs'
    dispatched_is = rw chosen_w (go (is_started (at bs w).phase) refl)
      where
        go : (b : Bool) → is_started (at bs w).phase ≡ b
            → (cond (not (eqb (priority_of c w) 0) && not b) (changing w (become started) s) s).bodies ≡ bs'
        go true e = rw (and-false (not (eqb (priority_of c w) 0))) (sym (resumed_same e))
        go false e = rw (ne_eqb (priority_of c w) 0 (λ z. absurd (omega (arith, z, fit.own_some w v.exists))))

    -- the winner's bits: it has begun, and what waits of it is its second request
    abbrev k' : Core
    k' = dispatching p.priority m.core

    winner_lt : winner (bids m.core) < 32
    winner_lt = rw (sym v.rank) (rank_below w v.exists)

    began_is : has m.core.started (winner (bids m.core)) ≡ is_started (at bs w).phase
    began_is = rw (sym v.rank) (t.words.goes_on w v.exists)

    beginning_is : beginning m.core ≡ not (is_started (at bs w).phase)
    beginning_is = ap not began_is

    words' : Words c rk k' bs'
    words' =
        words_changed fit t.words t.size w v.exists (become started (at bs w)) k'
        ((t.words.suits w).0, λ h. absurd (true≢false (sym h)))
        (record {
          asks = asked;
          goes_on = rw v.rank (has_with_same m.core.started W winner_lt);
          put_aside = t.words.put_aside w v.exists ∙ competes_on (at bs w).phase v.awake;
          quiet = λ h. absurd (true≢false h);
        })
        (record {
          request_lt = request_lt (beginning m.core);
          started_lt = with_lt m.core.started W t.words.started_lt;
          aside_lt = t.words.aside_lt;
          asks = λ r n. other (beginning m.core) r (rw v.rank at n);
          goes_on = λ r n. has_with_other m.core.started W r (rw v.rank at n);
          put_aside = λ r n. refl;
        })
      where
        q : ℕ
        q = m.core.request

        W : ℕ
        W = winner (bids m.core)

        request_lt : (b : Bool) → cond b (without q W) q < 2 ^ 32
        request_lt b =
            cond_either (λ (w : ℕ). w < 2 ^ 32) b _ _ (without_lt q W t.words.request_lt) t.words.request_lt

        other : (b : Bool) (r : ℕ) → r ≢ W → has (cond b (without q W) q) r ≡ has q r
        other true r n = has_without_other q W r n
        other false r n = refl

        left : (b : Bool) → is_started (at bs w).phase ≡ b
            → has (cond (not b) (without q W) q) (rk w) ≡ (at bs w).pending
        left true e = t.words.asks w v.exists ∙ started_waits (at bs w) (at bs w).phase e
        left false e = rw v.rank (has_without_same q W) ∙ sym (t.words.quiet w e)

        asked : has (cond (beginning m.core) (without q W) q) (rk w) ≡ (at bs w).pending
        asked = rw beginning_is (left (is_started (at bs w).phase) refl)

    -- the nest below the winner
    abbrev below : Holders c rk m bs
    below = holders fit [] t

    abbrev ks : List ℕ
    ks = below.nest

    low : level_at c bs ks < priority_of c w
    low = omega (arith, below.low, above)

    -- the winner is none of those that hold a resource
    other : (i : ℕ) → among i ks ≡ true → i ≢ w
    other i h e =
        let l : current c w (at bs w) ≤ level_at c bs ks = rw e at (nest_level c bs i ks below.nested h) in
        omega (arith, low, current_own c w (at bs w))

    alike : AlikeAlong bs bs' ks
    alike = alike_outside w (become started (at bs w)) other

    nested' : Nested c bs' (w ∷ ks)
    unfolding Nested
    nested' =
        let begun = ap (λ (x : Body). is_started x.phase) at_w in
        let low' : level_at c bs' ks < priority_of c w = rw (sym (level_at_alike c alike)) low in
        (v.exists, (begun, (low', nested_alike c alike below.nested)))

    level' : winning p.priority m.core ≡ current c w (at bs' w)
    level' = winning_is fit t.words kinds v ∙ sym (rw (at_w, free))

    slots_same : slots_along c rk bs ks ≡ slots_along c rk bs' (w ∷ ks)
    unfolding slots_along slots_for
    slots_same =
        slots_along_alike c rk alike
        ∙ ap (λ hs. slots_for c rk w hs ++ slots_along c rk bs' ks) (sym (ap (λ (x : Body). x.held) at_w ∙ free))

    tied' : Tied c rk (with_core m k') bs' [] (w ∷ ks)
    unfolding Seats
    tied' =
        record {
          size = length-set bs w (become started (at bs w)) ∙ t.size;
          words = words';
          nested = nested';
          seats = (sym v.rank, (level', hold_alike alike below.hold));
          slots = rw (sym slots_same) below.slots;
          loose = λ i h. by_eq i w
              (λ e. rw (e, at_w) free)
              (λ n. rw (at_other bs w (become started (at bs w)) i n) (below.loose i (among_tail_false i w ks h)));
        }

    calm' : Calm c (winning p.priority m.core) bs'
    calm' i i< a =
        by_eq i w
        (λ e. omega (arith, winning_is fit t.words kinds v, ap (priority_of c) e))
        (λ n. omega (arith, winning_is fit t.words kinds v, best i i< n (rw (at_other bs w (become started (at bs w)) i n) at a)))

    -- "it is dispatched only if its priority is strictly above the level", which it is
    dispatches : arbitrated p.priority m.core ≡ record { core = k'; begun = beginning m.core }
    unfolding arbitrated
    dispatches =
        ap (λ (b : Bool). cond b (picks k' (beginning m.core)) (picks m.core false))
        (lt-ltb m.core.level (winning p.priority m.core) (rw (winning_is fit t.words kinds v) above))
      where
        picks : Core → Bool → Picked
        picks k b = record { core = k; begun = b }

    settled_above : ArbitratedAs c p rk (settled p.priority m) s []
    settled_above =
        rw (dispatches, dispatched_is)
        (record {
          nest = w ∷ ks;
          tied = tied';
          calm = calm';
          number = rw chosen_w (runner_of_is (with_core m k') w v.exists (sym v.rank));
          level = rw chosen_w (winning_is fit t.words kinds v);
          begun = rw chosen_w (beginning_is ∙ begins_is (is_started (at bs w).phase));
        })
      where
        begins_is : (b : Bool) → not b ≡ not (eqb (priority_of c w) 0) && not b
        begins_is b = rw (ne_eqb (priority_of c w) 0 (λ z. absurd (omega (arith, z, fit.own_some w v.exists))))

  settled_plain : {m : Model} {ns : List ℕ} (s : State) → Kinds c s.bodies → Tied c rk m s.bodies [] ns
      → ArbitratedAs c p rk (settled p.priority m) s []
  unfolding arbitrated
  settled_plain {m} {ns} s kinds t =
      by_lt m.core.level (winning p.priority m.core)
      (λ above. let v = winner_above fit t.words kinds above in
      settled_above s t kinds v (rw (sym (winning_is fit t.words kinds v)) above))
      (λ low. rw (le-ltb m.core.level (winning p.priority m.core) low)
      (calm_plain s 0 t (calm_below fit t.words kinds low)))

  -- no priority is above the level of a time-triggered task
  timed_settled : {m : Model} {bs : List Body} {ns : List ℕ} {j : ℕ} {js : List ℕ} → Kinds c bs
      → Tied c rk m bs (j ∷ js) ns → settled p.priority m ≡ still m 0
  unfolding arbitrated
  timed_settled {m} kinds t =
      by_lt m.core.level (winning p.priority m.core)
      (λ above. let v = winner_above fit t.words kinds above in
      absurd (omega (
        arith,
        above,
        (latest_seat t).1.0,
        winning_is fit t.words kinds v,
        fit.own_few v.body v.exists,
      )))
      (λ low. rw (le-ltb m.core.level (winning p.priority m.core) low))

  -- whoever runs
  pub settled_tied : {m : Model} {ns : List ℕ} (s : State) → Seated c s → Kinds c s.bodies
      → Tied c rk m s.bodies s.order ns → Arbitrated c p rk (settled p.priority m) s
  settled_tied {m} {ns} s seated kinds t = by s.order refl
    where
      by : (js : List ℕ) → s.order ≡ js → Arbitrated c p rk (settled p.priority m) s
      by [] e = plainly s e (settled_plain s kinds (rw e at t))
      by (j ∷ js) e =
          let h = seated j js e in
          rw (timed_settled kinds (rw e at t)) (timed_on s 0 j js e h.0 h.1 t)

  pub calm_arbitrated : {m : Model} {ns : List ℕ} (s : State) (st : ℕ) → Seated c s
      → Tied c rk m s.bodies s.order ns → Calm c m.core.level s.bodies
      → Arbitrated c p rk (still m st) s
  calm_arbitrated {m} {ns} s st seated t calm = by s.order refl
    where
      by : (js : List ℕ) → s.order ≡ js → Arbitrated c p rk (still m st) s
      by [] e = plainly s e (calm_plain s st (rw e at t) calm)
      by (j ∷ js) e = let h = seated j js e in timed_on s st j js e h.0 h.1 t
