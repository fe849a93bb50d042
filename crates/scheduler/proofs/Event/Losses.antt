-- What a Tick does to one task: `tick_suspended`, `tick_triggered` and `tick_active`, at the end of the file.
--
-- In order: the due entries that name the task, one after the other, are so many of them (`activating_due_times`); what
-- so many do to a task that isn't suspended; no loss count is above 65,535 after any list of events.
use Prim.Native.Nat.{ℕ, zero, suc, ◌+◌, ◌≤◌, ◌<◌, min}
use mathlib.Core.Path.{◌≡◌, refl, sym, ap, ap₂, ◌∙◌}
use mathlib.Core.Bool.{Bool, true, false, cond}
use mathlib.Core.List.{List, [], ◌∷◌}
use native.Mathlib.Omega.{arith}
use borrow.Author.Tests.{eq-eqb, ne_eqb}
use lib.Dec.{eqb, lit≤}
use lib.ListN.{length, get_or, get_or-eq_default, get_or-map, take}
use Rattle.number.proofs.Cases.{by_lt, by_eq, cond_either}
use Rattle.config.specs.declared.Config.{Config}
use Rattle.config.specs.Meaning.{is_timed}
use Rattle.scheduler.specs.Status.{done}
use Rattle.scheduler.specs.Body.{Body, suspended, is_suspended, activated, triggers, most_losses, losing, loses}
use Rattle.scheduler.specs.State.{State, no_body, body_of, changing}
use Rattle.scheduler.specs.Event.{Event}
use Rattle.scheduler.specs.Tick.{counted, dues, enter, activating_due, ticked, naming, due_for}
use Rattle.scheduler.specs.Call.{status_of, effect_of, else_of}
use Rattle.scheduler.specs.Scheduler.{new_body, unstarted, dispatched, losses_of, leaves, step, step_by, fresh, after, after_by}
use Rattle.scheduler.proofs.Event.Effects.{body_of_changing_same, body_of_changing_other, length_changing, effect_of_keeps, else_of_keeps, entered, enter_bodies, activating_due_keeps, losses_dispatched}

-- n entries that name the body b, one after the other; x: it is time-triggered
times : Bool → ℕ → Body → Body
times x zero b = b
times x (suc n) b = times x n (entered x b)

activating_due_times : (c : Config) (t : ℕ) (ds : List Bool) (us : List ℕ) (s : State) → t < length s.bodies
    → body_of (activating_due c ds us s) t ≡ times (is_timed c t) (naming t ds us) (body_of s t)
unfolding activating_due naming times
activating_due_times c t [] us s fits = refl
activating_due_times c t (true ∷ ds) [] s fits = refl
activating_due_times c t (false ∷ ds) [] s fits = refl
activating_due_times c t (true ∷ ds) (u ∷ us) s fits =
    activating_due_times c t ds us (enter c u s) (rw (enter_bodies c u s, length_changing u f s) fits)
    ∙ ap (λ (bs : List Body). times (is_timed c t) (naming t ds us) (get_or bs t no_body)) (enter_bodies c u s)
    ∙ by_eq u t
    (λ same. rw (eq-eqb u t same)
    (ap (times (is_timed c t) (naming t ds us)) (rw (← same) (body_of_changing_same u f s (rw same fits)))))
    (λ other. rw (ne_eqb u t other)
    (ap (times (is_timed c t) (naming t ds us)) (body_of_changing_other u f s t (λ e. other (sym e)))))
  where
    f : Body → Body
    f = entered (is_timed c u)
activating_due_times c t (false ∷ ds) (u ∷ us) s fits = activating_due_times c t ds us s fits

with_losses : Body → ℕ → Body
with_losses b n = record { phase = b.phase; pending = b.pending; held = b.held; losses = n; bits = b.bits }

pub entered_active : (x : Bool) (b : Body) → is_suspended b.phase ≡ false → entered x b ≡ loses b
entered_active true b h = rw h
entered_active false b h = rw h

-- a body that isn't suspended loses them all
times_active : (x : Bool) (n : ℕ) (b : Body) → is_suspended b.phase ≡ false → b.losses ≤ most_losses
    → times x n b ≡ losing n b
unfolding times with_losses
times_active x zero b h few =
    let none : b.losses ≡ min (b.losses + 0) most_losses = omega arith in
    ap (with_losses b) none
times_active x (suc n) b h few =
    ap (times x n) (entered_active x b h) ∙ times_active x n (loses b) h (omega arith) ∙ ap (with_losses b) one_more_lem
  where
    one_more_lem : min (min (b.losses + 1) most_losses + n) most_losses ≡ min (b.losses + suc n) most_losses
    one_more_lem = omega arith

-- a suspended one is ready, or triggered, after the first, and loses the others
times_suspended : (n : ℕ) (b : Body) → b.phase ≡ suspended → b.losses ≤ most_losses
    → times false (suc n) b ≡ losing n (activated b)
unfolding times
times_suspended n b h few =
    let first : entered false b ≡ activated b = rw h in
    ap (times false n) first ∙ times_active false n (activated b) refl few

times_triggered : (n : ℕ) (b : Body) → b.phase ≡ suspended → b.losses ≤ most_losses
    → times true (suc n) b ≡ losing n (triggers b)
unfolding times
times_triggered n b h few =
    let first : entered true b ≡ triggers b = rw h in
    ap (times true n) first ∙ times_active true n (triggers b) refl few

-- no count is above 65,535
abbrev FewLosses : State → Type 0
FewLosses s = (i : ℕ) → (body_of s i).losses ≤ most_losses

entry_few : (x : Bool) (b : Body) → b.losses ≤ most_losses → (entered x b).losses ≤ most_losses
entry_few true b few = go (is_suspended b.phase)
  where
    go : (p : Bool) → (cond p (triggers b) (loses b)).losses ≤ most_losses
    go true = few
    go false = omega arith
entry_few false b few = go (is_suspended b.phase)
  where
    go : (p : Bool) → (cond p (activated b) (loses b)).losses ≤ most_losses
    go true = few
    go false = omega arith

module _ (c : Config) where
  few_changing : (t : ℕ) (f : Body → Body) (s : State)
      → ((b : Body) → b.losses ≤ most_losses → (f b).losses ≤ most_losses) → FewLosses s
      → FewLosses (changing t f s)
  few_changing t f s keeps few i =
      by_eq i t
      (λ same. by_lt i (length s.bodies)
      (λ fits. rw (← same, body_of_changing_same i f s fits) (keeps (body_of s i) (few i)))
      (λ past.
      let beyond : length (changing t f s).bodies ≤ i = rw (length_changing t f s) past in
      rw (get_or-eq_default (changing t f s).bodies no_body beyond) (lit≤ tt)))
      (λ other. rw (body_of_changing_other t f s i other) (few i))

  -- the counts as a list
  few_losses : (s s' : State) → losses_of s' ≡ losses_of s → FewLosses s → FewLosses s'
  few_losses s s' e few i = rw same (few i)
    where
      same : (body_of s' i).losses ≡ (body_of s i).losses
      same =
          sym (get_or-map (λ b. b.losses) s'.bodies i no_body)
          ∙ ap (λ l. get_or l i 0) e
          ∙ get_or-map (λ b. b.losses) s.bodies i no_body

  few_step : (s : State) (e : Event) → FewLosses s → FewLosses (step c s e).state
  unfolding step_by
  few_step s e few =
      few_losses (leaves c s e) (dispatched c (leaves c s e)) (losses_dispatched c (leaves c s e))
      (cond_either FewLosses (eqb (status_of c s e) done) (effect_of c s e) (else_of c s (status_of c s e) e)
      (effect_of_keeps c s FewLosses (λ i f x k. few_changing i f x (λ b h. rw (k b) h)) (λ js x h. h) (λ t y. few) few e
      (λ q. activating_due_keeps c FewLosses (λ js x h. h) (λ t b x. few_changing t (entered b) x (entry_few b))
      (dues c (counted s)) c.task
      (counted s) few))
      (else_of_keeps c s FewLosses few (status_of c s e) e
      (λ i _ _ _. few_changing i loses s (λ b h. omega arith) few)))

  pub few_fresh : FewLosses (fresh c)
  few_fresh =
      few_losses (unstarted c) (fresh c) (losses_dispatched c (unstarted c))
      (λ i. rw (get_or-map new_body (take c.bodies c.autostart) i 0)
      (none (eqb (get_or (take c.bodies c.autostart) i 0) 1)))
    where
      none : (a : Bool) → (cond a (activated no_body) no_body).losses ≤ most_losses
      none true = lit≤ tt
      none false = lit≤ tt

  pub few_after : (es : List Event) (s : State) → FewLosses s → FewLosses (after c s es)
  unfolding after_by
  few_after [] s few = few
  few_after (e ∷ es) s few = few_after es (step c s e).state (few_step s e few)

  -- "A due entry makes a suspended task ready": k + 1 of them do so once, and the others are lost
  module _ (es : List Event) (t : ℕ) (fits : t < length (after c (fresh c) es).bodies) where
    due_times : body_of (ticked c (after c (fresh c) es)) t
        ≡ times (is_timed c t) (due_for c (after c (fresh c) es) t) (body_of (after c (fresh c) es) t)
    due_times =
        activating_due_times c t (dues c (counted (after c (fresh c) es))) c.task
        (counted (after c (fresh c) es)) fits

    few : (body_of (after c (fresh c) es) t).losses ≤ most_losses
    few = few_after es (fresh c) few_fresh t

    pub tick_suspended : (k : ℕ) → is_timed c t ≡ false → (body_of (after c (fresh c) es) t).phase ≡ suspended
        → due_for c (after c (fresh c) es) t ≡ suc k
        → body_of (ticked c (after c (fresh c) es)) t ≡ losing k (activated (body_of (after c (fresh c) es) t))
    tick_suspended k free h n =
        due_times
        ∙ ap₂ (λ (x : Bool) (m : ℕ). times x m (body_of (after c (fresh c) es) t)) free n
        ∙ times_suspended k (body_of (after c (fresh c) es) t) h few

    -- a time-triggered one is triggered once
    pub tick_triggered : (k : ℕ) → is_timed c t ≡ true → (body_of (after c (fresh c) es) t).phase ≡ suspended
        → due_for c (after c (fresh c) es) t ≡ suc k
        → body_of (ticked c (after c (fresh c) es)) t ≡ losing k (triggers (body_of (after c (fresh c) es) t))
    tick_triggered k timed h n =
        due_times
        ∙ ap₂ (λ (x : Bool) (m : ℕ). times x m (body_of (after c (fresh c) es) t)) timed n
        ∙ times_triggered k (body_of (after c (fresh c) es) t) h few

    -- "If the task isn't suspended, its loss count rises", by one for each
    pub tick_active : is_suspended (body_of (after c (fresh c) es) t).phase ≡ false
        → body_of (ticked c (after c (fresh c) es)) t
        ≡ losing (due_for c (after c (fresh c) es) t) (body_of (after c (fresh c) es) t)
    tick_active h =
        due_times
        ∙ times_active (is_timed c t) (due_for c (after c (fresh c) es) t) (body_of (after c (fresh c) es) t) h few
