-- The order of the started time-triggered tasks: what holds of it after every list of events (`Orderly`), and what a
-- Tick does before its dispatch (`tick_order`).
--
-- In order: the invariant; as a place for each body; at most 16 are started; a Tick; the other events; the dispatch;
-- from the fresh start on.
use Prim.Native.Nat.{ℕ, ◌+◌, ◌-◌, ◌≤◌, ◌<◌, suc}
use mathlib.Core.Path.{◌≡◌, refl, sym, ap, subst, subst⁻¹, ◌∙◌}
use mathlib.Core.Bool.{Bool, true, false, true≢false, cond, not}
use mathlib.Core.List.{List, [], ◌∷◌}
use mathlib.Core.Logic.{◌≢◌, ◌⊎◌, inl, inr}
use native.Mathlib.Omega.{arith}
use borrow.Author.Tests.{eq-eqb, ne_eqb}
use lib.Dec.{eqb}
use lib.ListN.{length, get_or, take, drop, length-take, length-drop, length-map, length-replicate}
use lib.Seq.{get_or-take, get_or-drop, length-take-le}
use Rattle.number.proofs.Cases.{by_test, by_eq}
use Rattle.config.specs.declared.Config.{Config}
use Rattle.config.specs.Meaning.{is_timed, first_of, tasks}
use Rattle.config.specs.Accepted.{Accepted, Shaped}
use Rattle.config.proofs.Tables.{first_of_step, first_of_rises, table_of_lem}
use Rattle.config.proofs.Theorems.{timed_one_table, timed_no_autostart}
use Rattle.scheduler.specs.Status.{done}
use Rattle.scheduler.specs.Body.{Phase, suspended, ready, started, waiting, triggered, has_begun, Body, become, activated}
use Rattle.scheduler.specs.Choice.{Candidate}
use Rattle.scheduler.specs.State.{State, stopped, no_body, body_of, changing, runner, among}
use Rattle.scheduler.specs.Event.{Event, Tick}
use Rattle.scheduler.specs.Tick.{ticked}
use Rattle.scheduler.specs.Call.{status_of, effect_of, else_of}
use Rattle.scheduler.specs.Scheduler.{begins, phase_begun, dispatched, new_body, unstarted, leaves, step, step_by, fresh, after, after_by}
use Rattle.scheduler.specs.History.{AcceptedIn}
use Rattle.scheduler.proofs.Choice.Runner.{runner_timed}
use Rattle.scheduler.proofs.Event.Effects.{body_of_changing_same, body_of_changing_other, by_tick, no_tick, else_of_keeps, new_body_lem}
use Rattle.scheduler.proofs.Choice.Dispatch.{begins_some}
use Rattle.scheduler.proofs.Kind.{timed_body}
use Rattle.scheduler.proofs.Members.{Distinct, distinct_fits, none_among, among_head, among_place}
use Rattle.scheduler.proofs.Order.Standing.{is_triggered, never_triggered, Place, other, asleep, awake, Placed, placed_with, placed_weaken, awake_place, triggered_place, becomes_placed, plain_placed, loses_placed, runner_placed, effect_placed}
use Rattle.scheduler.proofs.Order.Trigger as Trigger

-- what holds of the order and of the time-triggered tasks after every list of events
pub record Orderly (c : Config) (s : State) : Type 0 where
  pub bodies_there : length s.bodies ≡ c.bodies
  pub tables_there : length s.tables ≡ c.tables
  -- nobody is started twice
  pub none_twice : Distinct s.order
  -- who is started is time-triggered, and has begun
  pub started_timed : (j : ℕ) → among j s.order ≡ true → is_timed c j ≡ true
  pub started_begun : (j : ℕ) → among j s.order ≡ true → (body_of s j).phase ≡ triggered true
  -- who is triggered is started
  pub triggered_started : (i : ℕ) (x : Bool) → (body_of s i).phase ≡ triggered x → among i s.order ≡ true
  -- a time-triggered task that is not started is suspended; none holds a resource, and no request of one waits
  pub timed_suspended : (i : ℕ) → is_timed c i ≡ true → among i s.order ≡ false → (body_of s i).phase ≡ suspended
  pub timed_free : (i : ℕ) → is_timed c i ≡ true → (body_of s i).held ≡ []
  timed_single : (i : ℕ) → is_timed c i ≡ true → (body_of s i).pending ≡ false
  -- who is started is the task of an entry
  pub has_entry : (j : ℕ) → among j s.order ≡ true → (e : ℕ) × (e < first_of c c.tables) × (get_or c.task e 0 ≡ j)

phase_clash : {C : Type 0} → triggered false ≡ triggered true → C
phase_clash e = absurd (true≢false (sym (ap has_begun e)))

module _ (c : Config) where
  -- the invariant, as a place for each body
  pub placed : {s : State} → Orderly c s → Placed c (λ i. ⊥) s
  placed {s} o =
      record {
        bodies_there = o.bodies_there;
        tables_there = o.tables_there;
        none_twice = o.none_twice;
        places = λ i. by_test (is_timed c i) (λ t. timed i t) (λ n. plain i n);
        to_begin = λ i h. phase_clash (sym h ∙ o.started_begun i (o.triggered_started i false h));
        has_entry = o.has_entry;
      }
    where
      timed : (i : ℕ) → is_timed c i ≡ true → Place c i (body_of s i) (among i s.order)
      timed i t =
          by_test (among i s.order)
          (λ m. awake t m true (o.started_begun i m) (o.timed_free i t) (o.timed_single i t))
          (λ m. asleep t m (o.timed_suspended i t m) (o.timed_free i t) (o.timed_single i t))

      plain : (i : ℕ) → is_timed c i ≡ false → Place c i (body_of s i) (among i s.order)
      plain i n =
          by_test (among i s.order)
          (λ m. absurd (true≢false (sym (o.started_timed i m) ∙ n)))
          (λ m. other n m (untriggered (body_of s i).phase (λ x h. true≢false (sym (o.triggered_started i x h) ∙ m))))
        where
          untriggered : (p : Phase) → ((x : Bool) → p ≡ triggered x → ⊥) → is_triggered p ≡ false
          untriggered suspended f = refl
          untriggered ready f = refl
          untriggered started f = refl
          untriggered (waiting w) f = refl
          untriggered (triggered x) f = absurd (f x refl)

  pub orderly : {s : State} → Placed c (λ i. ⊥) s → Orderly c s
  orderly {s} p =
      record {
        bodies_there = p.bodies_there;
        tables_there = p.tables_there;
        none_twice = p.none_twice;
        started_timed = λ j m. (awake_place c m (p.places j)).0;
        started_begun = λ j m. let a = awake_place c m (p.places j) in begun j a.1.0 a.1.1;
        triggered_started = λ i x h. triggered_place c x h (p.places i);
        timed_suspended = λ i t m. at_rest i t m (p.places i);
        timed_free = λ i t. free i t (p.places i);
        timed_single = λ i t. single i t (p.places i);
        has_entry = p.has_entry;
      }
    where
      begun : (j : ℕ) (x : Bool) → (body_of s j).phase ≡ triggered x → (body_of s j).phase ≡ triggered true
      begun j true h = h
      begun j false h = absurd (p.to_begin j h)

      at_rest : (i : ℕ) → is_timed c i ≡ true → among i s.order ≡ false → Place c i (body_of s i) (among i s.order)
          → (body_of s i).phase ≡ suspended
      at_rest i t m (other n _ h) = absurd (true≢false (sym t ∙ n))
      at_rest i t m (asleep n _ q h r) = q
      at_rest i t m (awake n k x q h r) = absurd (true≢false (sym k ∙ m))

      free : (i : ℕ) → is_timed c i ≡ true → Place c i (body_of s i) (among i s.order) → (body_of s i).held ≡ []
      free i t (other n _ h) = absurd (true≢false (sym t ∙ n))
      free i t (asleep n _ q h r) = h
      free i t (awake n k x q h r) = h

      single : (i : ℕ) → is_timed c i ≡ true → Place c i (body_of s i) (among i s.order) → (body_of s i).pending ≡ false
      single i t (other n _ h) = absurd (true≢false (sym t ∙ n))
      single i t (asleep n _ q h r) = r
      single i t (awake n k x q h r) = r

  module _ (ok : Accepted c) (shaped : Shaped c) where
    -- all entries of kind 3 lie in one table, which has at most 16
    placed_few : {late : ℕ → Type 0} {s : State} → Placed c late s → length s.order ≤ 16
    placed_few {s = s} p = go s.order refl
      where
        go : (js : List ℕ) → s.order ≡ js → length js ≤ 16
        go [] o = omega arith
        go (j ∷ js) o =
            omega (
              arith,
              distinct_fits (j ∷ js) (tasks c table) (subst Distinct o p.none_twice)
                  (λ i h. stands i (subst⁻¹ (λ (l : List ℕ). among i l ≡ true) o h)),
              long,
              ok.few_of_table table at.1,
            )
          where
            started : (i : ℕ) → among i s.order ≡ true → is_timed c i ≡ true
            started i h = (awake_place c h (p.places i)).0

            head : among j s.order ≡ true
            head = subst⁻¹ (λ (l : List ℕ). among j l ≡ true) o (among_head j js)

            entry : (e : ℕ) × (e < first_of c c.tables) × (get_or c.task e 0 ≡ j)
            entry = p.has_entry j head

            at : (t : ℕ) × (t < c.tables) × (first_of c t ≤ entry.0) × (entry.0 < first_of c (suc t))
            at = table_of_lem c c.tables entry.0 entry.1

            table : ℕ
            table = at.0

            there : length (tasks c table) ≡ get_or c.entries table 0
            there =
                length-take (get_or c.entries table 0) (drop (first_of c table) c.task)
                ∙ rw (length-drop (first_of c table) c.task)
                (omega (
                  arith,
                  first_of_step c table,
                  first_of_rises c (suc table) c.tables at.1,
                  ok.few_entries,
                  shaped.tasks,
                ))

            long : length (tasks c table) ≤ get_or c.entries table 0
            long = omega (arith, there)

            stands : (i : ℕ) → among i s.order ≡ true → among i (tasks c table) ≡ true
            stands i h =
                subst (λ (n : ℕ). among n (tasks c table) ≡ true) is
                (among_place (tasks c table) k (omega (arith, there, fits)))
              where
                own : (e : ℕ) × (e < first_of c c.tables) × (get_or c.task e 0 ≡ i)
                own = p.has_entry i h

                its : (t : ℕ) × (t < c.tables) × (first_of c t ≤ own.0) × (own.0 < first_of c (suc t))
                its = table_of_lem c c.tables own.0 own.1

                same : table ≡ its.0
                same =
                    timed_one_table c ok table its.0 entry.0 own.0 entry.1 own.1 at.2 at.3 its.2
                    its.3
                    (rw entry.2 (started j head))
                    (rw own.2 (started i h))

                low : first_of c table ≤ own.0
                low = rw same its.2

                high : own.0 < first_of c (suc table)
                high = rw same its.3

                -- its place among the entries of the table
                k : ℕ
                k = own.0 - first_of c table

                back : first_of c table + k ≡ own.0
                back = omega (arith, low)

                fits : k < get_or c.entries table 0
                fits = omega (arith, low, high, first_of_step c table)

                is : get_or (tasks c table) k 0 ≡ i
                is =
                    get_or-take (get_or c.entries table 0) (drop (first_of c table) c.task) k 0 fits
                    ∙ get_or-drop (first_of c table) c.task k 0
                    ∙ ap (λ (n : ℕ). get_or c.task n 0) back
                    ∙ own.2

    pub few_started : {s : State} → Orderly c s → length s.order ≤ 16
    few_started o = placed_few (placed o)

  -- the time-triggered task j is started at a Tick
  pub record Started (s : State) (j : ℕ) : Type 0 where
    pub order_is : (ticked c s).order ≡ j ∷ s.order
    pub timed : is_timed c j ≡ true
    pub in_range : j < c.bodies
    pub new : among j s.order ≡ false
    pub was_suspended : (body_of s j).phase ≡ suspended
    pub to_begin : (body_of (ticked c s) j).phase ≡ triggered false
    pub others_begun : (i : ℕ) → i ≢ j → (body_of (ticked c s) i).phase ≢ triggered false
    pub few : length (ticked c s).order ≤ 16
    -- where each body stands before j begins
    pub placed : Placed c (λ i. i ≡ j) (ticked c s)

  -- what a Tick does before its dispatch: at most one is started
  pub data TickOrder (s : State) : Type 0 where
    order_same : (ticked c s).order ≡ s.order → Orderly c (ticked c s) → TickOrder s
    starts : (j : ℕ) → Started s j → TickOrder s

  module _ (ok : Accepted c) (shaped : Shaped c) where
    pub tick_order : {s : State} → Orderly c s → TickOrder s
    tick_order {s} o = go (Trigger.tick_outcome c ok shaped s (placed o))
      where
        go : Trigger.Outcome c s (ticked c s) → TickOrder s
        go (Trigger.same a) = order_same a.order_same (orderly a.placed)
        go (Trigger.starts j a) =
            starts j
            (record {
              order_is = a.order_is;
              timed = a.timed;
              in_range = timed_body c j a.timed;
              new = a.new;
              was_suspended = a.was_suspended;
              to_begin = a.to_begin;
              others_begun = λ i d h. d (a.placed.to_begin i h);
              few = placed_few ok shaped a.placed;
              placed = a.placed;
            })

  -- the dispatch: the latest begins, if it has to
  abbrev Latest : State → ℕ → Type 0
  Latest s i = (js : List ℕ) × (s.order ≡ i ∷ js)

  orderly_dispatched : {s : State} → Placed c (Latest s) s → Orderly c (dispatched c s)
  orderly_dispatched {s} p = by_order s.order refl
    where
      -- nobody is started
      none_late : s.order ≡ [] → (i : ℕ) → Latest s i → ⊥
      none_late o i l = none_among i (subst (λ (js : List ℕ). among i js ≡ true) (sym l.1 ∙ o) (among_head i l.0))

      chosen_begins : s.order ≡ [] → Orderly c (dispatched c s)
      chosen_begins o =
          by_test (begins (runner c s))
          (λ e.
          let is = runner_placed c p o (begins_some (runner c s) e).0 in
          rw e (rw is.1
          (orderly
          (plain_placed c (placed_weaken c p (none_late o)) (runner c s).number is.0 (become started)
          (λ b h. refl)))))
          (λ e. rw e (orderly (placed_weaken c p (none_late o))))

      latest_is_lem : (i j : ℕ) (js : List ℕ) → s.order ≡ j ∷ js → Latest s i → i ≡ j
      latest_is_lem i j js o l =
          let q : i ∷ l.0 ≡ j ∷ js = sym l.1 ∙ o in
          cc

      -- the latest is j, in the phase triggered x
      latest_begins : (j : ℕ) (js : List ℕ) → s.order ≡ j ∷ js → (x : Bool) → (body_of s j).phase ≡ triggered x
          → Orderly c (dispatched c s)
      latest_begins j js o true h =
          rw begun
          (orderly
          (placed_with c p
          (λ i q. phase_clash
          (sym q ∙ ap (λ (k : ℕ). (body_of s k).phase) (latest_is_lem i j js o (p.to_begin i q)) ∙ h))))
        where
          begun : begins (runner c s) ≡ false
          begun = ap begins (runner_timed c s j js o) ∙ ap (λ (q : Phase). not (has_begun q)) h
      latest_begins j js o false h =
          rw begun
          (subst⁻¹ (λ (k : Candidate). Orderly c (changing k.number (become (phase_begun k)) s))
          (runner_timed c s j js o)
          (orderly
          (placed_with c now
          (λ i q. by_eq i j (λ e. phase_clash (sym q ∙ here i e))
          (λ d. d (latest_is_lem i j js o (p.to_begin i (sym (there i d) ∙ q))))))))
        where
          begun : begins (runner c s) ≡ true
          begun = ap begins (runner_timed c s j js o) ∙ ap (λ (q : Phase). not (has_begun q)) h

          stands : Place c j (body_of s j) (among j s.order)
          stands = p.places j

          head : among j s.order ≡ true
          head = subst⁻¹ (λ (l : List ℕ). among j l ≡ true) o (among_head j js)

          now : Placed c (Latest s) (changing j (become (triggered true)) s)
          now =
              let a = awake_place c head (p.places j) in
              becomes_placed c p j (become (triggered true) (body_of s j))
              (λ _. awake a.0 head true refl a.2 a.3) (λ _. (js, o))

          here : (i : ℕ) → i ≡ j → (body_of (changing j (become (triggered true)) s) i).phase ≡ triggered true
          here i e =
              ap (λ (k : ℕ). (body_of (changing j (become (triggered true)) s) k).phase) e
              ∙ ap (λ (b : Body). b.phase)
              (body_of_changing_same j (become (triggered true)) s
              (omega (arith, p.bodies_there, timed_body c j (awake_place c head (p.places j)).0)))

          there : (i : ℕ) → i ≢ j → (body_of (changing j (become (triggered true)) s) i).phase ≡ (body_of s i).phase
          there i d = ap (λ (b : Body). b.phase) (body_of_changing_other j (become (triggered true)) s i d)

      by_order : (js : List ℕ) → s.order ≡ js → Orderly c (dispatched c s)
      by_order [] o = chosen_begins o
      by_order (j ∷ js) o =
          let a = awake_place c (subst⁻¹ (λ (l : List ℕ). among j l ≡ true) o (among_head j js)) (p.places j) in
          latest_begins j js o a.1.0 a.1.1

  -- every effect but a Tick's, and every refusal, leaves the order in order
  pub effect_orderly : {s : State} → Orderly c s → (e : Event) → e ≢ Tick → AcceptedIn c s e
      → Orderly c (effect_of c s e)
  effect_orderly o e n a = orderly (effect_placed c (placed o) e n a)

  pub refusal_orderly : {s : State} → Orderly c s → (st : ℕ) (e : Event) → Orderly c (else_of c s st e)
  refusal_orderly {s} o st e = else_of_keeps c s (Orderly c) o st e (λ i _ _ _. orderly (loses_placed c (placed o) i))

  module _ (ok : Accepted c) (shaped : Shaped c) where
    -- before the dispatch
    leaves_placed : {s : State} → Orderly c s → (e : Event) → Placed c (Latest (leaves c s e)) (leaves c s e)
    unfolding step_by
    leaves_placed {s} o e =
        by_eq (status_of c s e) done
        (λ a. rw (eq-eqb (status_of c s e) done a)
        (by_tick e
        (λ q. rw q (ticks (tick_order ok shaped o)))
        (λ n. none (effect_orderly o e (no_tick e n) a))))
        (λ n. rw (ne_eqb (status_of c s e) done n) (none (refusal_orderly o (status_of c s e) e)))
      where
        none : {x : State} → Orderly c x → Placed c (Latest x) x
        none y = placed_weaken c (placed y) (λ i f. absurd f)

        ticks : TickOrder s → Placed c (Latest (ticked c s)) (ticked c s)
        ticks (order_same q y) = none y
        ticks (starts j y) =
            placed_weaken c y.placed (λ i h. (s.order, y.order_is ∙ ap (λ (k : ℕ). k ∷ s.order) (sym h)))

    pub orderly_step : {s : State} → Orderly c s → (e : Event) → Orderly c (step c s e).state
    unfolding step_by
    orderly_step o e = orderly_dispatched (leaves_placed o e)

    unstarted_placed : Placed c (λ i. ⊥) (unstarted c)
    unfolding among
    unstarted_placed =
        record {
          bodies_there = length-map (take c.bodies c.autostart) new_body
              ∙ length-take-le c.bodies c.autostart (omega (arith, ok.few_bodies, shaped.autostarts));
          tables_there = length-replicate c.tables stopped;
          none_twice = tt;
          places = λ i. by_test (is_timed c i) (λ t. timed i t) (λ n. other n refl (plain i));
          to_begin = λ i h. never_triggered (body_of (unstarted c) i).phase false (plain i) h;
          has_entry = λ j h. none_among j h;
        }
      where
        plain : (i : ℕ) → is_triggered (body_of (unstarted c) i).phase ≡ false
        plain i =
            ap (λ (b : Body). is_triggered b.phase) (new_body_lem c i) ∙ go (eqb (get_or (take c.bodies c.autostart) i 0) 1)
          where
            go : (x : Bool) → is_triggered (cond x (activated no_body) no_body).phase ≡ false
            go true = refl
            go false = refl

        -- none is autostart
        timed : (i : ℕ) → is_timed c i ≡ true → Place c i (body_of (unstarted c) i) false
        timed i t = rw (none) (asleep t refl refl refl refl)
          where
            none : body_of (unstarted c) i ≡ no_body
            none =
                new_body_lem c i
                ∙ ap new_body (get_or-take c.bodies c.autostart i 0 (timed_body c i t) ∙ timed_no_autostart c ok i t)

    pub orderly_unstarted : Orderly c (unstarted c)
    orderly_unstarted = orderly unstarted_placed

    pub orderly_fresh : Orderly c (fresh c)
    orderly_fresh = orderly_dispatched (placed_weaken c unstarted_placed (λ i f. absurd f))

    pub orderly_after : (es : List Event) {s : State} → Orderly c s → Orderly c (after c s es)
    unfolding after_by
    orderly_after [] o = o
    orderly_after (e ∷ es) o = orderly_after es (orderly_step o e)

    -- whoever is triggered begins at once: after no list of events has one still to begin
    pub begun_once : (es : List Event) (i : ℕ) → (body_of (after c (fresh c) es) i).phase ≢ triggered false
    begun_once es i h = (placed (orderly_after es orderly_fresh)).to_begin i h

-- a Tick starts one that was suspended, which is then the latest, or leaves the order
pub tick_latest : (c : Config) → Accepted c → Shaped c → (es : List Event)
    → ((ticked c (after c (fresh c) es)).order ≡ (after c (fresh c) es).order)
    ⊎ ((j : ℕ) × ((ticked c (after c (fresh c) es)).order ≡ j ∷ (after c (fresh c) es).order) × (is_timed c j ≡ true)
    × ((body_of (after c (fresh c) es) j).phase ≡ suspended))
tick_latest c ok shaped es =
    go (tick_order c ok shaped (orderly_after c ok shaped es (orderly_fresh c ok shaped)))
  where
    go : TickOrder c (after c (fresh c) es)
        → ((ticked c (after c (fresh c) es)).order ≡ (after c (fresh c) es).order)
        ⊎ ((j : ℕ) × ((ticked c (after c (fresh c) es)).order ≡ j ∷ (after c (fresh c) es).order) × (is_timed c j ≡ true)
        × ((body_of (after c (fresh c) es) j).phase ≡ suspended))
    go (order_same q o) = inl q
    go (starts j x) = inr (j, x.order_is, x.timed, x.was_suspended)
