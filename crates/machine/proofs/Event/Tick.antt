-- Tick does the same to the model as to the state: a match is a due entry, and what it asks for or loses is the same.
-- At most one time-triggered task is started, and it is dispatched.
use Prim.Native.Nat.{ℕ, suc, ◌+◌, ◌≤◌, ◌<◌}
use mathlib.Core.Path.{◌≡◌, refl, sym, ap, ◌∙◌}
use mathlib.Core.Logic.{◌≢◌}
use mathlib.Core.Bool.{Bool, true, false, true≢false}
use mathlib.Core.List.{List, [], ◌∷◌, map}
use native.Mathlib.Omega.{arith}
use lib.ListN.{length, get_or, set, drop, length-map}
use lib.Seq.{drop-cons}
use Rattle.number.proofs.Cases.{by_test, cond_either}
use Rattle.config.specs.declared.Config.{Config}
use Rattle.config.specs.Meaning.{isr, time_triggered, execution_level, is_task, is_isr, is_timed}
use Rattle.plan.specs.declared.Plan.{Plan}
use Rattle.word.specs.Word.{winner}
use Rattle.stack.specs.Stack.{push_row, row_bytes}
use Rattle.scheduler.specs.Status.{done, first_given}
use Rattle.scheduler.specs.Body.{Phase, suspended, triggered, is_suspended, is_started, is_waiting, has_begun, Body, become, activated, triggers, loses}
use Rattle.scheduler.specs.Choice.{Candidate}
use Rattle.scheduler.specs.State.{State, among, body_of, changing, runner}
use Rattle.scheduler.specs.Tick.{counting, counted, dues, starting, enter, activating_due}
use Rattle.scheduler.specs.Tick as Plain
use Rattle.scheduler.specs.Scheduler.{Tick, step_by}
use Rattle.scheduler.proofs.Body.{suspended_is}
use Rattle.scheduler.proofs.Kind.{of_one_kind}
use Rattle.scheduler.proofs.Event.Effects.{tables_ticked}
use Rattle.scheduler.proofs.Order.Standing.{Place, other, asleep, awake}
use Rattle.scheduler.proofs.Order.Invariant.{Orderly, Started, TickOrder, order_same, starts, tick_order}
use Rattle.machine.specs.Model.{Model, with_core, with_request, with_rest, done_with}
use Rattle.machine.specs.Arbiter.{bids, settled, launching}
use Rattle.machine.specs.Cells.{Tally, one_lost, match_at, requests_due}
use Rattle.machine.specs.Events.{begun_word, marks_of, due_of, ticking, tick}
use Rattle.machine.specs.Machine.{status_of, effect_of, else_of}
use Rattle.plan.proofs.Fitted.{Fitted}
use Rattle.machine.proofs.Relation.Rows.{Shows, row_shows_pushed}
use Rattle.machine.proofs.Relation.Words.{at, is_aside, busy_is}
use Rattle.machine.proofs.Relation.Cells.{CellsOf}
use Rattle.machine.proofs.Relation.Losses.{Lost, lost_same, lost_one}
use Rattle.machine.proofs.Relation.Bits.{NotedOf, noted_touched}
use Rattle.machine.proofs.Relation.Kinds.{is_bidding}
use Rattle.machine.proofs.Relation.Order.{kinds_of}
use Rattle.machine.proofs.Relation.Whole.{Tied, Sim}
use Rattle.machine.proofs.Arbitration.Seat.{holders}
use Rattle.machine.proofs.Arbitration.Dispatch.{Arbitrated, rank_below, runner_of_is}
use Rattle.machine.proofs.Change.Request.{elsewhere, activate_tied, trigger_tied, loss_tied}
use Rattle.machine.proofs.Change.Launch.{plain_triggering, wins, launches, launch_tied}
use Rattle.machine.proofs.Change.Ticks.{dues_long, marks_due, due_first_cells, ticked_cells}
use Rattle.machine.proofs.Event.Agrees.{kept, Agrees, Keeps, LatestActive, settled_done, agrees, runner_is}
use Rattle.machine.proofs.Event.Bodies.{task_exists}

-- the entries of a list of marks have the ranks rs and the tasks ts
unfoldable Entries : Config → (ℕ → ℕ) → List Bool → List ℕ → List ℕ → Type 0
Entries c rk [] rs ts = Unit {0}
Entries c rk (b ∷ ms) [] ts = ⊥
Entries c rk (b ∷ ms) (r ∷ rs) [] = ⊥
Entries c rk (b ∷ ms) (r ∷ rs) (t ∷ ts) = (r ≡ rk t) × ((is_task c t ≡ true) × Entries c rk ms rs ts)

module _ (c : Config) (rk : ℕ → ℕ) (rs ts : List ℕ) where
  entries_from_lem : (ms : List Bool) (e : ℕ) → e + length ms ≤ length rs → e + length ms ≤ length ts
      → ((i : ℕ) → e ≤ i → i < e + length ms → (get_or rs i 0 ≡ rk (get_or ts i 0)) × (is_task c (get_or ts i 0) ≡ true))
      → Entries c rk ms (drop e rs) (drop e ts)
  unfolding Entries
  entries_from_lem [] e h k each = tt
  entries_from_lem (b ∷ ms) e h k each =
      let x = each e (omega arith) (omega arith) in
      let later = entries_from_lem ms (suc e) (omega arith) (omega arith) (λ i a l. each i (omega arith) (omega arith)) in
      rw (drop-cons rs e 0 (omega arith), drop-cons ts e 0 (omega arith)) (x.0, (x.1, later))

-- the model with other requests and losses
abbrev with_tally : Model → Tally → Model
with_tally m x = with_rest (with_core m (with_request m.core x.request)) m.counter m.on m.turning x.losses

module _ {c : Config} {p : Plan} {rk : ℕ → ℕ} (fit : Fitted c p rk) (js ns : List ℕ) where
  -- what is owed after some entries; js: the time-triggered tasks that were started before them
  record Owed (m : Model) (x : Tally) (s : State) : Type 0 where
    tied : Tied c rk (with_tally m x) s.bodies js ns
    lost : Lost c rk x.losses s.bodies
    noted : NotedOf c rk m s.bodies

  -- a match at the rank of a task
  module _ (m : Model) (x : Tally) (s : State) (owed : Owed m x s) (t : ℕ) (task : is_task c t ≡ true) where
    abbrev bs : List Body
    bs = s.bodies

    exists : t < c.bodies
    exists = task_exists c t task

    abbrev next : Tally
    next = match_at (begun_word m) (rk t) x

    loss : is_suspended (at bs t).phase ≡ false → Owed m next (changing t loses s)
    loss a =
        rw (busy_is owed.tied.words t exists, a)
        (record {
          tied = elsewhere (loss_tied owed.tied fit t exists)
              m.counter m.on m.turning (one_lost (rk t) x.losses);
          lost = lost_one fit owed.tied.size owed.lost t exists;
          noted = noted_touched fit owed.noted owed.tied.size t exists (loses (at bs t)) refl (λ w h. h);
        })

    activation : (at bs t).phase ≡ suspended → Owed m next (changing t activated s)
    activation e =
        rw (busy_is owed.tied.words t exists, ap is_suspended e)
        (record {
          tied = elsewhere (activate_tied owed.tied fit t exists (ap is_started e) (ap is_aside e))
              m.counter m.on m.turning x.losses;
          lost = lost_same (kept (λ y. y.losses) activated (λ y. refl) bs t) owed.lost;
          noted = noted_touched fit owed.noted owed.tied.size t exists (activated (at bs t)) (rw e)
              (λ w h. absurd (true≢false (sym (ap is_waiting h))));
        })

    trigger_owed : (at bs t).phase ≡ suspended → Owed m next (starting t s)
    trigger_owed e =
        rw (busy_is owed.tied.words t exists, ap is_suspended e)
        (record {
          tied = elsewhere (trigger_tied owed.tied fit t exists (ap is_started e) (ap is_aside e))
              m.counter m.on m.turning x.losses;
          lost = lost_same (kept (λ y. y.losses) triggers (λ y. refl) bs t) owed.lost;
          noted = noted_touched fit owed.noted owed.tied.size t exists (triggers (at bs t)) (rw e)
              (λ w h. absurd (true≢false (sym (ap is_waiting h))));
        })

    match_owed : Owed m next (enter c t s)
    match_owed =
        by_test (is_suspended (at bs t).phase)
        (λ e.
        let asleep = suspended_is (at bs t).phase e in
        cond_either (Owed m next) (is_timed c t) _ _ (rw e (trigger_owed asleep)) (rw e (activation asleep)))
        (λ e. cond_either (Owed m next) (is_timed c t) _ _ (rw e (loss e)) (rw e (loss e)))

  due_owed : (m : Model) (ms : List Bool) (rs ts : List ℕ) → Entries c rk ms rs ts → (x : Tally) (s : State) → Owed m x s
      → Owed m (requests_due (begun_word m) ms rs x) (activating_due c ms ts s)
  unfolding Entries requests_due activating_due
  due_owed m [] rs ts k x s o = o
  due_owed m (true ∷ ms) [] ts k x s o = absurd k
  due_owed m (false ∷ ms) [] ts k x s o = absurd k
  due_owed m (true ∷ ms) (r ∷ rs) [] k x s o = absurd k
  due_owed m (false ∷ ms) (r ∷ rs) [] k x s o = absurd k
  due_owed m (true ∷ ms) (r ∷ rs) (t ∷ ts) k x s o =
      due_owed m ms rs ts k.1.1 (match_at (begun_word m) r x) (enter c t s)
      (rw k.0 (match_owed m x s o t k.1.0))
  due_owed m (false ∷ ms) (r ∷ rs) (t ∷ ts) k x s o = due_owed m ms rs ts k.1.1 x s o

module _ {c : Config} {p : Plan} {rk : ℕ → ℕ} (fit : Fitted c p rk) {m : Model} {s : State} (sim : Sim c p rk m s)
    (keeps : Keeps c s) where
  abbrev ms : List Bool
  ms = dues c (counted s)

  marks_are : marks_of p.count p.compare m ≡ ms
  marks_are = marks_due fit sim.cells

  tables_counted : length (map counting s.tables) ≡ c.tables
  tables_counted = length-map s.tables counting ∙ sim.cells.tables_long

  long : length ms ≡ p.count
  long = dues_long fit (counted s) tables_counted

  entries : Entries c rk ms p.entry c.task
  entries =
      entries_from_lem c rk p.entry c.task ms 0
      (omega (arith, long, fit.entry_ranks_long, fit.count_is, fit.few_entries))
      (omega (arith, long, fit.tasks_long, fit.count_is, fit.few_entries))
      (λ i _ l. (fit.entry_rank_at i (omega (arith, long)), fit.entry_task i (omega (arith, long, fit.count_is))))

  abbrev asked : Tally
  asked = record { request = m.core.request; losses = m.losses }

  -- what the due entries make of it
  abbrev due : Tally
  due = requests_due (begun_word m) ms p.entry asked

  owed : Owed fit s.order sim.nest m due (Plain.ticked c s)
  owed =
      due_owed fit s.order sim.nest m ms p.entry c.task entries asked (counted s)
      (record {
        tied = elsewhere sim.tied m.counter m.on m.turning m.losses;
        lost = sim.lost;
        noted = sim.noted;
      })

  due_is : due_of p.compare p.entry m ≡ due
  due_is =
      due_first_cells m.turning p.compare m.on p.count (omega (arith, fit.count_is, fit.few_entries))
      (λ i h. sim.cells.spare i (omega (arith, fit.count_is)))
      (begun_word m) m.counter p.entry asked
      ∙ ap (λ (l : List Bool). requests_due (begun_word m) l p.entry asked) marks_are

  -- the model and the bodies before the dispatch
  abbrev now : Model
  now = ticking p.compare p.entry m

  abbrev then : State
  then = Plain.ticked c s

  ticked_tied : Tied c rk now then.bodies s.order sim.nest
  ticked_tied =
      rw due_is (elsewhere owed.tied now.counter now.on now.turning due.losses)

  cells : CellsOf c p now then.tables
  cells = rw (tables_ticked c s) (ticked_cells fit sim.cells)

  lost : Lost c rk now.losses then.bodies
  lost = rw due_is owed.lost

  -- no time-triggered task is started: the highest by priority is dispatched
  plain_tick : then.order ≡ s.order → Orderly c then → Agrees c p rk m s Tick
  unfolding status_of effect_of else_of tick step_by first_given
  plain_tick same o =
      let t : Tied c rk now then.bodies then.order sim.nest = rw same ticked_tied in
      let row : Shows (row_bytes now.triggered) (map rk then.order) = rw same sim.row in
      agrees fit Tick (settled p.priority now) done ms then (plain_triggering fit ticked_tied (kinds_of o)) refl
      marks_are (settled_done fit o t row cells lost owed.noted) (keeps.next Tick)

  -- one is
  timed_tick : (j : ℕ) → Started c s j → Agrees c p rk m s Tick
  unfolding status_of effect_of else_of tick step_by first_given
  timed_tick j y =
      agrees fit Tick (done_with (launching now) true) done ms then
      (launches fit ticked_tied j y.in_range y.timed y.to_begin task others) refl
      marks_are
      (record {
        status = refl;
        arb = arb;
        latest = latest;
        row = row;
        size = ticked_tied.size;
        cells = cells;
        lost = lost;
        noted = owed.noted;
      })
      (keeps.next Tick)
    where
      task : is_isr c j ≡ false
      task = of_one_kind c j time_triggered isr (λ e. absurd (omega (arith, e))) y.timed

      -- no other that bids for the processor is time-triggered
      others : (i : ℕ) → i < c.bodies → i ≢ j → is_bidding (at then.bodies i).phase ≡ true → is_timed c i ≡ false
      others i i< n h = by (y.placed.places i)
        where
          by : Place c i (body_of then i) (among i then.order) → is_timed c i ≡ false
          by (other k _ _) = k
          by (asleep k _ e _ _) = absurd (true≢false (sym h ∙ ap is_bidding e))
          by (awake k _ true e _ _) = absurd (true≢false (sym h ∙ ap is_bidding e))
          by (awake k _ false e _ _) = absurd (y.others_begun i n e)

      wins_is : winner (bids now.core) ≡ rk j
      wins_is = wins fit ticked_tied j y.in_range y.timed y.to_begin task others

      begins_at : Bool → Candidate
      begins_at x = record { number = j; level = execution_level; began = x; holder = false; timed = true }

      latest_is_lem : runner c then ≡ begins_at false
      latest_is_lem = runner_is c then y.order_is ∙ ap (λ (q : Phase). begins_at (has_begun q)) y.to_begin

      tied : Tied c rk (launching now) (set then.bodies j (become (triggered true) (at then.bodies j)))
          (j ∷ s.order) (holders fit s.order ticked_tied).nest
      tied = launch_tied fit ticked_tied j y.in_range y.timed y.to_begin task others

      arb : Arbitrated c p rk (done_with (launching now) true) then
      arb =
          rw (latest_is_lem, y.order_is)
          (record {
            nest = (holders fit s.order ticked_tied).nest;
            tied = tied;
            calm = λ b b< _. omega (arith, fit.own_few b b<);
            number = runner_of_is fit (launching now) j y.in_range wins_is;
            level = refl;
            begun = refl;
          })

      latest : LatestActive then
      latest i is e =
          let same : i ≡ j = ap (λ (js : List ℕ). get_or js 0 0) (sym e ∙ y.order_is) in
          rw same (rw ticked_tied.size y.in_range, ap is_suspended y.to_begin)

      row : Shows (row_bytes (push_row m.triggered (winner (bids now.core)))) (map rk then.order)
      row =
          rw (y.order_is, wins_is)
          (row_shows_pushed m.triggered (rk j) (map rk s.order) (omega (arith, rank_below fit j y.in_range))
          (omega (arith, length-map s.order rk, y.few, ap (λ (js : List ℕ). length js) y.order_is)) sim.row)

  pub agrees_tick : Agrees c p rk m s Tick
  agrees_tick = by (tick_order c fit.accepted fit.shaped sim.orderly)
    where
      by : TickOrder c s → Agrees c p rk m s Tick
      by (order_same e o) = plain_tick e o
      by (starts j y) = timed_tick j y
