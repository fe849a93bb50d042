-- What an event leaves as it was.
--
-- In order: a change of one body leaves the others and the tables; what every effect (`effect_of_keeps`) and every
-- refusal (`else_of_keeps`) keeps; no event adds a body or a table; no call but a lost line that is counted changes a
-- loss.
use Prim.Native.Nat.{ℕ, ◌<◌}
use mathlib.Core.Path.{◌≡◌, refl, sym, ap, ◌∙◌}
use mathlib.Core.Bool.{Bool, true, false, true≢false, cond, ◌&&◌}
use mathlib.Core.List.{List, [], ◌∷◌, ◌++◌, map}
use mathlib.Core.Logic.{◌≢◌}
use native.Mathlib.Omega.{arith}
use borrow.Author.Tests.{eq-eqb, ne_eqb}
use lib.Dec.{eqb}
use lib.ListN.{length, get_or, take, length-set, length-map, length-replicate, replicate, get_or-map}
use lib.Seq.{get_or-set_same, get_or-set_other, map-set_same}
use Rattle.number.proofs.Cases.{by_eq, cond_either}
use Rattle.config.specs.declared.Config.{Config}
use Rattle.config.specs.Meaning.{counts_lines, is_timed}
use Rattle.scheduler.specs.Bits.{any_set}
use Rattle.scheduler.specs.Status.{done, limit_reached}
use Rattle.scheduler.specs.Body.{is_suspended, has_begun, Body, become, activated, triggers, rest, finished, requested, gets, releases, activated_by_entry, loses, waits, receives, clears}
use Rattle.scheduler.specs.State.{State, Table, stopped, no_body, body_of, changing, with_table, runner}
use Rattle.scheduler.specs.Call.{caller, finish, finish_timed, status_of, effect_of, else_of}
use Rattle.scheduler.specs.Tick.{counting, counted, starting, trigger, enter, activating_due, dues, ticked}
use Rattle.scheduler.specs.Event.{Event, Activate, Finish, Chain, Get, Release, Tick, Line, Start, Stop, Wait, Set, Clear, is_tick}
use Rattle.scheduler.specs.Scheduler.{begins, phase_begun, dispatched, losses_of, new_body, unstarted, leaves, step, step_by, LostLine, fresh, after, after_by}

module _ (i : ℕ) (f : Body → Body) (s : State) where
  pub body_of_changing_same : i < length s.bodies → body_of (changing i f s) i ≡ f (body_of s i)
  body_of_changing_same h = get_or-set_same s.bodies i (f (body_of s i)) no_body h

  pub body_of_changing_other : (j : ℕ) → j ≢ i → body_of (changing i f s) j ≡ body_of s j
  body_of_changing_other j d = get_or-set_other s.bodies i j (f (body_of s i)) no_body d

  pub length_changing : length (changing i f s).bodies ≡ length s.bodies
  length_changing = length-set s.bodies i (f (body_of s i))

  tables_changing : (changing i f s).tables ≡ s.tables
  tables_changing = refl

-- the same state but for the order of the started time-triggered tasks
abbrev with_order : List ℕ → State → State
with_order js s = record { bodies = s.bodies; tables = s.tables; order = js }

-- what Activate, Chain, Wait, Set and Clear do, and that the fresh start ends as every event does
activate_effect_lem : (c : Config) (s : State) (t : ℕ) → effect_of c s (Activate t) ≡ changing t activated s
activate_effect_lem c s t = refl

chain_effect_lem : (c : Config) (s : State) (t : ℕ)
    → effect_of c s (Chain t) ≡ changing t activated (changing (caller c s) finished s)
chain_effect_lem c s t = refl

wait_effect_lem : (c : Config) (s : State) (w : ℕ) → effect_of c s (Wait w) ≡ changing (caller c s) (waits w) s
wait_effect_lem c s w = refl

set_effect_lem : (c : Config) (s : State) (t w : ℕ) → effect_of c s (Set t w) ≡ changing t (receives w) s
set_effect_lem c s t w = refl

clear_effect_lem : (c : Config) (s : State) (w : ℕ) → effect_of c s (Clear w) ≡ changing (caller c s) (clears w) s
clear_effect_lem c s w = refl

fresh_dispatched : (c : Config) → fresh c ≡ dispatched c (unstarted c)
fresh_dispatched c = refl

-- a time-triggered task that is started is the latest, and leaves the order at its end; due while it is started it
-- loses
starting_latest : (t : ℕ) (s : State) → (starting t s).order ≡ t ∷ s.order
starting_latest t s = refl

finish_latest : (i : ℕ) (s : State) → (finish_timed i s).order ≡ rest s.order
finish_latest i s = refl

trigger_loses : (t : ℕ) (s : State) → is_suspended (body_of s t).phase ≡ false → trigger t s ≡ changing t loses s
trigger_loses t s h = rw h

-- two events of different kinds are not equal
pub clash : ◌≡◌ {A = ℕ} 0 1 → ⊥
clash e = omega arith

abbrev KeepsLosses : (Body → Body) → Type 0
KeepsLosses f = (b : Body) → (f b).losses ≡ b.losses

pub finished_losses : KeepsLosses finished
finished_losses b = cond_either (λ (x : Body). x.losses ≡ b.losses) b.pending _ _ refl refl

pub requested_losses : KeepsLosses requested
requested_losses b = cond_either (λ (x : Body). x.losses ≡ b.losses) (has_begun b.phase) _ _ refl refl

pub waits_losses : (w : ℕ) → KeepsLosses (waits w)
waits_losses w b = cond_either (λ (x : Body). x.losses ≡ b.losses) (any_set b.bits w) _ _ refl refl

-- what the effects keep: each changes bodies and leaves their losses, or changes a table, or is that of a Tick; a
-- time-triggered task that ends leaves the order besides
pub effect_of_keeps : (c : Config) (s : State) (P : State → Type 0)
    → ((i : ℕ) (f : Body → Body) (x : State) → KeepsLosses f → P x → P (changing i f x))
    → ((js : List ℕ) (x : State) → P x → P (with_order js x))
    → ((t : ℕ) (y : Table) → P (with_table t y s))
    → P s
    → (e : Event)
    → (e ≡ Tick → P (ticked c s))
    → P (effect_of c s e)
effect_of_keeps c s P on_body on_order on_table p (Activate t) tick = on_body t activated s (λ b. refl) p
effect_of_keeps c s P on_body on_order on_table p Finish tick =
    let ends = on_body (caller c s) finished s finished_losses p in
    cond_either P (runner c s).timed (finish_timed (caller c s) s) (finish (caller c s) s)
    (on_order (rest s.order) (finish (caller c s) s) ends)
    ends
effect_of_keeps c s P on_body on_order on_table p (Chain t) tick =
    on_body t activated (finish (caller c s) s) (λ b. refl) (on_body (caller c s) finished s finished_losses p)
effect_of_keeps c s P on_body on_order on_table p (Get r) tick = on_body (caller c s) (gets r) s (λ b. refl) p
effect_of_keeps c s P on_body on_order on_table p (Release r) tick = on_body (caller c s) releases s (λ b. refl) p
effect_of_keeps c s P on_body on_order on_table p Tick tick = tick refl
effect_of_keeps c s P on_body on_order on_table p (Line i) tick = on_body i requested s requested_losses p
effect_of_keeps c s P on_body on_order on_table p (Start t d) tick = on_table t _
effect_of_keeps c s P on_body on_order on_table p (Stop t) tick = on_table t _
effect_of_keeps c s P on_body on_order on_table p (Wait w) tick = on_body (caller c s) (waits w) s (waits_losses w) p
effect_of_keeps c s P on_body on_order on_table p (Set t w) tick = on_body t (receives w) s (λ b. refl) p
effect_of_keeps c s P on_body on_order on_table p (Clear w) tick = on_body (caller c s) (clears w) s (λ b. refl) p

-- what a refusal keeps: it leaves the state, or is that of a lost line that is counted
pub else_of_keeps : (c : Config) (s : State) (P : State → Type 0) → P s → (st : ℕ) (e : Event)
    → ((i : ℕ) → counts_lines c ≡ true → e ≡ Line i → st ≡ limit_reached → P (changing i loses s))
    → P (else_of c s st e)
else_of_keeps c s P p st (Activate t) lost = p
else_of_keeps c s P p st Finish lost = p
else_of_keeps c s P p st (Chain t) lost = p
else_of_keeps c s P p st (Get r) lost = p
else_of_keeps c s P p st (Release r) lost = p
else_of_keeps c s P p st Tick lost = p
else_of_keeps c s P p st (Line i) lost = go (counts_lines c) refl
  where
    go : (b : Bool) → counts_lines c ≡ b → P (cond (b && eqb st limit_reached) (changing i loses s) s)
    go true e =
        by_eq st limit_reached
        (λ q. rw (eq-eqb st limit_reached q) (lost i e refl q))
        (λ q. rw (ne_eqb st limit_reached q) p)
    go false e = p
else_of_keeps c s P p st (Start t d) lost = p
else_of_keeps c s P p st (Stop t) lost = p
else_of_keeps c s P p st (Wait w) lost = p
else_of_keeps c s P p st (Set t w) lost = p
else_of_keeps c s P p st (Clear w) lost = p

-- an event is a Tick or not
pub by_tick : {C : Type 0} (e : Event) → (e ≡ Tick → C) → (is_tick e ≡ false → C) → C
by_tick (Activate t) f g = g refl
by_tick Finish f g = g refl
by_tick (Chain t) f g = g refl
by_tick (Get r) f g = g refl
by_tick (Release r) f g = g refl
by_tick Tick f g = f refl
by_tick (Line i) f g = g refl
by_tick (Start t d) f g = g refl
by_tick (Stop t) f g = g refl
by_tick (Wait w) f g = g refl
by_tick (Set t w) f g = g refl
by_tick (Clear w) f g = g refl

pub no_tick : (e : Event) → is_tick e ≡ false → e ≢ Tick
no_tick e h q = true≢false (sym (ap is_tick q) ∙ h)

-- what a due entry makes of its task's body; x: the task is time-triggered
abbrev triggered_by_entry : Body → Body
triggered_by_entry b = cond (is_suspended b.phase) (triggers b) (loses b)

abbrev pub entered : Bool → Body → Body
entered true = triggered_by_entry
entered false = activated_by_entry

-- what every due entry keeps
module _ (c : Config) (P : State → Type 0) where
  pub enters_keep : ((t : ℕ) (s : State) → P s → P (enter c t s)) → (ds : List Bool) (ts : List ℕ) (s : State) → P s
      → P (activating_due c ds ts s)
  unfolding activating_due
  enters_keep on_entry [] ts s p = p
  enters_keep on_entry (true ∷ ds) [] s p = p
  enters_keep on_entry (false ∷ ds) [] s p = p
  enters_keep on_entry (true ∷ ds) (t ∷ ts) s p = enters_keep on_entry ds ts (enter c t s) (on_entry t s p)
  enters_keep on_entry (false ∷ ds) (t ∷ ts) s p = enters_keep on_entry ds ts s p

  -- an entry changes its task's body, and perhaps the order
  enter_keeps : (t : ℕ) (s : State)
      → ((js : List ℕ) (x : State) → P x → P (with_order js x))
      → P (changing t (entered (is_timed c t)) s)
      → P (enter c t s)
  enter_keeps t s on_order = go (is_timed c t)
    where
      timed : (b : Bool) → P (changing t (λ x. cond b (triggers x) (loses x)) s)
          → P (cond b (starting t s) (changing t loses s))
      timed true p = on_order (t ∷ s.order) (changing t triggers s) p
      timed false p = p

      go : (b : Bool) → P (changing t (entered b) s) → P (cond b (trigger t s) (changing t activated_by_entry s))
      go true p = timed (is_suspended (body_of s t).phase) p
      go false p = p

  pub activating_due_keeps : ((js : List ℕ) (x : State) → P x → P (with_order js x))
      → ((t : ℕ) (b : Bool) (s : State) → P s → P (changing t (entered b) s))
      → (ds : List Bool) (ts : List ℕ) (s : State)
      → P s
      → P (activating_due c ds ts s)
  activating_due_keeps on_order on_entry = enters_keep (λ t s p. enter_keeps t s on_order (on_entry t (is_timed c t) s p))

pub enter_bodies : (c : Config) (t : ℕ) (s : State) → (enter c t s).bodies ≡ (changing t (entered (is_timed c t)) s).bodies
enter_bodies c t s =
    enter_keeps c (λ x. x.bodies ≡ (changing t (entered (is_timed c t)) s).bodies) t s (λ js x h. h) refl

-- what every change of a body keeps
module _ (P : State → Type 0) (on_body : (i : ℕ) (f : Body → Body) (s : State) → P s → P (changing i f s)) where
  pub dispatched_keeps : (c : Config) (s : State) → P s → P (dispatched c s)
  dispatched_keeps c s p =
      cond_either P (begins (runner c s)) _ s (on_body (runner c s).number (become (phase_begun (runner c s))) s p) p

  -- what the changes of the order and of a table, and their counting, keep too
  step_keeps : ((js : List ℕ) (s : State) → P s → P (with_order js s))
      → ((t : ℕ) (x : Table) (s : State) → P s → P (with_table t x s))
      → ((s : State) → P s → P (counted s))
      → (c : Config) (s : State)
      → P s
      → (e : Event)
      → P (step c s e).state
  unfolding step_by
  step_keeps on_order on_table on_counted c s p e =
      dispatched_keeps c _
      (cond_either P (eqb (status_of c s e) done) (effect_of c s e) (else_of c s (status_of c s e) e)
      (effect_of_keeps c s P (λ i f x k. on_body i f x) on_order (λ t y. on_table t y s p) p e
      (λ q. activating_due_keeps c P on_order (λ t b. on_body t (entered b)) (dues c (counted s)) c.task (counted s)
      (on_counted s p)))
      (else_of_keeps c s P p (status_of c s e) e (λ i _ _ _. on_body i loses s p)))

-- no event adds or takes away a body or a table
module _ (c : Config) where
  length_bodies_step : (s : State) (e : Event) → length (step c s e).state.bodies ≡ length s.bodies
  length_bodies_step s =
      step_keeps (λ x. length x.bodies ≡ length s.bodies)
      (λ i f x h. length_changing i f x ∙ h)
      (λ js x h. h)
      (λ t y x h. h)
      (λ x h. h)
      c
      s
      refl

  pub length_tables_step : (s : State) (e : Event) → length (step c s e).state.tables ≡ length s.tables
  length_tables_step s =
      step_keeps (λ x. length x.tables ≡ length s.tables)
      (λ i f x h. h)
      (λ js x h. h)
      (λ t y x h. length-set x.tables t y ∙ h)
      (λ x h. length-map x.tables counting ∙ h)
      c
      s
      refl

  pub tables_dispatched : (s : State) → (dispatched c s).tables ≡ s.tables
  tables_dispatched s = dispatched_keeps (λ x. x.tables ≡ s.tables) (λ i f x h. h) c s refl

  pub tables_ticked : (s : State) → (ticked c s).tables ≡ map counting s.tables
  tables_ticked s =
      activating_due_keeps c (λ x. x.tables ≡ map counting s.tables) (λ js x h. h) (λ t b x h. h)
      (dues c (counted s)) c.task (counted s)
      refl

  pub tables_fresh : (fresh c).tables ≡ replicate c.tables stopped
  tables_fresh = tables_dispatched (unstarted c)

  pub length_tables_fresh : length (fresh c).tables ≡ c.tables
  length_tables_fresh = ap length tables_fresh ∙ length-replicate c.tables stopped

-- losses come from due entries, and where they are counted from lost lines: no other event changes one
module _ (c : Config) where
  losses_changing : (i : ℕ) (f : Body → Body) (s : State) → KeepsLosses f → losses_of (changing i f s) ≡ losses_of s
  losses_changing i f s k = map-set_same (λ b. b.losses) s.bodies i (f (body_of s i)) no_body (k (body_of s i))

  pub losses_dispatched : (s : State) → losses_of (dispatched c s) ≡ losses_of s
  losses_dispatched s =
      cond_either (λ x. losses_of x ≡ losses_of s) (begins (runner c s)) _ s
      (losses_changing (runner c s).number (become (phase_begun (runner c s))) s (λ b. refl))
      refl

  pub losses_call : (s : State) (e : Event) → e ≢ Tick → ((i : ℕ) → LostLine c s e i → ⊥)
      → losses_of (step c s e).state ≡ losses_of s
  unfolding step_by
  losses_call s e d kept =
      losses_dispatched (leaves c s e)
      ∙ cond_either (λ x. losses_of x ≡ losses_of s) (eqb (status_of c s e) done) (effect_of c s e)
      (else_of c s (status_of c s e) e)
      (effect_of_keeps c s (λ x. losses_of x ≡ losses_of s) (λ i f x k h. losses_changing i f x k ∙ h) (λ js x h. h)
      (λ t y. refl) refl e
      (λ q. absurd (d q)))
      (else_of_keeps c s (λ x. losses_of x ≡ losses_of s) refl (status_of c s e) e
      (λ i w q h. absurd (kept i (w, q, h))))

  -- the losses that are seen are those of the state after the event
  pub losses_seen_lem : (s : State) (e : Event) → (step c s e).seen.losses ≡ losses_of (step c s e).state
  unfolding step_by
  losses_seen_lem s e = sym (losses_dispatched (leaves c s e))

-- the state after two lists of events, one after the other
pub after_append : (c : Config) (es fs : List Event) (s : State) → after c s (es ++ fs) ≡ after c (after c s es) fs
unfolding after_by
after_append c [] fs s = refl
after_append c (e ∷ es) fs s = after_append c es fs (step c s e).state

-- a body at the fresh start
pub new_body_lem : (c : Config) (i : ℕ) → body_of (unstarted c) i ≡ new_body (get_or (take c.bodies c.autostart) i 0)
new_body_lem c i = get_or-map new_body (take c.bodies c.autostart) i 0
