-- Two editions of the procedure are seen to do the same, but for the losses: `versions_alike`, at the end of the file.
--
-- In order: states that are alike but for their losses; changes of a body that do not look at them (`Blind`); the choice,
-- the statuses, the effects and the dues of two editions in two such states.
-- v and w are the editions, s and s' the states that they meet.
use Prim.Native.Nat.{ℕ, zero, suc}
use mathlib.Core.Path.{◌≡◌, refl, sym, ap, ap₂, ◌∙◌}
use mathlib.Core.Bool.{Bool, true, false, true≢false, cond, not}
use mathlib.Core.List.{List, [], ◌∷◌, ◌++◌, map}
use lib.Dec.{eqb}
use lib.ListN.{length, get_or, set, replicate, length-map, get_or-map}
use lib.Seq.{map-set_same}
use Rattle.config.specs.declared.Config.{Config}
use Rattle.config.specs.Value.{with_version}
use Rattle.config.specs.Meaning.{execution_level, is_isr, is_timed, offsets}
use Rattle.scheduler.specs.Status.{done, no_such, limit_reached, ◌gives◌, first_given}
use Rattle.scheduler.specs.Bits.{any_set}
use Rattle.scheduler.specs.Body.{Phase, suspended, ready, started, waiting, triggered, is_suspended, has_begun, Body, become, activated, finished, rest, requested, gets, releases, loses, activated_by_entry, triggers, waits, receives, clears}
use Rattle.scheduler.specs.Choice.{Candidate, by_holding, candidate, preferred, chosen_from, chosen}
use Rattle.scheduler.specs.State.{State, Table, stopped, running, no_body, body_of, changing, latest_of, runner, held_in}
use Rattle.scheduler.specs.Event.{Event, Activate, Finish, Chain, Get, Release, Tick, Line, Start, Stop, Wait, Set, Clear, is_tick}
use Rattle.scheduler.specs.Tick.{counting, counted, entry_due, dues_from, dues, starting, trigger, enter, activating_due, ticked}
use Rattle.scheduler.specs.Call.{request_waits, finish, finish_timed, checks_for, effect_for, else_of}
use Rattle.scheduler.specs.Scheduler.{begins, phase_begun, dispatched_to, ending_to, dues_at, status_for, leaves_for, step, step_by, unstarted, fresh, seen, seen_by}
use Rattle.scheduler.specs.History.{unlost}
use Rattle.scheduler.proofs.Event.Effects.{entered, else_of_keeps}

-- a body but for its losses
abbrev quiet : Body → Body
quiet b = record { phase = b.phase; pending = b.pending; held = b.held; losses = 0; bits = b.bits }

pub record Alike (s s' : State) : Type 0 where
  pub bodies : map quiet s.bodies ≡ map quiet s'.bodies
  pub tables : s.tables ≡ s'.tables
  pub order : s.order ≡ s'.order

alike_self : (s : State) → Alike s s
alike_self s = record { bodies = refl; tables = refl; order = refl }

pub alike_both : {r s t : State} → Alike r s → Alike s t → Alike r t
alike_both a b =
    record { bodies = a.bodies ∙ b.bodies; tables = a.tables ∙ b.tables; order = a.order ∙ b.order }

pub alike_turned : {s t : State} → Alike s t → Alike t s
alike_turned a = record { bodies = sym a.bodies; tables = sym a.tables; order = sym a.order }

body_alike : {s s' : State} → Alike s s' → (i : ℕ) → quiet (body_of s i) ≡ quiet (body_of s' i)
body_alike {s} {s'} a i =
    sym (get_or-map quiet s.bodies i no_body)
    ∙ ap (λ l. get_or l i no_body) a.bodies
    ∙ get_or-map quiet s'.bodies i no_body

pub phase_alike : {s s' : State} → Alike s s' → (i : ℕ) → (body_of s i).phase ≡ (body_of s' i).phase
phase_alike a i = ap (λ (b : Body). b.phase) (body_alike a i)

held_alike : {s s' : State} → Alike s s' → (i : ℕ) → (body_of s i).held ≡ (body_of s' i).held
held_alike a i = ap (λ (b : Body). b.held) (body_alike a i)

pub length_alike : {s s' : State} → Alike s s' → length s.bodies ≡ length s'.bodies
length_alike {s} {s'} a =
    sym (length-map s.bodies quiet) ∙ ap length a.bodies ∙ length-map s'.bodies quiet

-- f does not look at the losses
abbrev pub Blind : (Body → Body) → Type 0
Blind f = (b : Body) → quiet (f (quiet b)) ≡ quiet (f b)

map_set : (bs : List Body) (i : ℕ) (y : Body) → map quiet (set bs i y) ≡ set (map quiet bs) i (quiet y)
map_set [] i y = refl
map_set (x ∷ bs) zero y = refl
map_set (x ∷ bs) (suc i) y = ap (λ l. quiet x ∷ l) (map_set bs i y)

pub alike_changing : {s s' : State} (i : ℕ) (f : Body → Body) → Blind f → Alike s s'
    → Alike (changing i f s) (changing i f s')
alike_changing {s} {s'} i f blind a =
    record {
      bodies = map_set s.bodies i (f (body_of s i))
          ∙ ap₂ (λ l y. set l i y) a.bodies
          (sym (blind (body_of s i)) ∙ ap (λ b. quiet (f b)) (body_alike a i) ∙ blind (body_of s' i))
          ∙ sym (map_set s'.bodies i (f (body_of s' i)));
      tables = a.tables;
      order = a.order;
    }

chosen_by_lem : {A B : Type 0} (f g : A → B) (p : Bool) (x y x' y' : A) → f x ≡ g x' → f y ≡ g y'
    → f (cond p x y) ≡ g (cond p x' y')
chosen_by_lem f g true x y x' y' h k = h
chosen_by_lem f g false x y x' y' h k = k

blind_finished : Blind finished
blind_finished b = chosen_by_lem quiet quiet b.pending _ _ _ _ refl refl

pub blind_requested : Blind requested
blind_requested b = chosen_by_lem quiet quiet (has_begun b.phase) _ _ _ _ refl refl

pub blind_waits : (w : ℕ) → Blind (waits w)
blind_waits w b = chosen_by_lem quiet quiet (any_set b.bits w) _ _ _ _ refl refl

blind_entered : (x : Bool) → Blind (entered x)
blind_entered true b = chosen_by_lem quiet quiet (is_suspended b.phase) _ _ _ _ refl refl
blind_entered false b = chosen_by_lem quiet quiet (is_suspended b.phase) _ _ _ _ refl refl

-- a loss leaves a state alike
pub alike_loses : (i : ℕ) (s : State) → Alike (changing i loses s) s
alike_loses i s =
    record {
      bodies = map-set_same quiet s.bodies i (loses (body_of s i)) no_body refl;
      tables = refl;
      order = refl;
    }

held_in_quiet : (r : ℕ) (bs : List Body) → held_in r bs ≡ held_in r (map quiet bs)
unfolding held_in
held_in_quiet r [] = refl
held_in_quiet r (b ∷ bs) = rw (held_in_quiet r bs)

-- the choice looks at no losses
quiet_same : (c : Config) (i : ℕ) (bs : List Body) → chosen_from by_holding c i bs ≡ chosen_from by_holding c i (map quiet bs)
unfolding chosen_from candidate
quiet_same c i [] = refl
quiet_same c i (b ∷ bs) = ap₂ (preferred by_holding) (go b.phase) (quiet_same c (suc i) bs)
  where
    go : (p : Phase) → candidate c i b p ≡ candidate c i (quiet b) p
    go suspended = refl
    go ready = refl
    go started = refl
    go (waiting m) = refl
    go (triggered x) = refl

request_waits_quiet : (b : Body) (p : Phase) → request_waits b p ≡ request_waits (quiet b) p
request_waits_quiet b suspended = refl
request_waits_quiet b ready = refl
request_waits_quiet b started = refl
request_waits_quiet b (waiting m) = refl
request_waits_quiet b (triggered x) = refl

-- two editions of one configuration
module _ (c : Config) (v w : ℕ) where
  abbrev cv : Config
  cv = with_version c v

  abbrev cw : Config
  cw = with_version c w

  chosen_same : (i : ℕ) (bs : List Body) → chosen_from by_holding cv i bs ≡ chosen_from by_holding cw i bs
  unfolding chosen_from candidate
  chosen_same i [] = refl
  chosen_same i (b ∷ bs) = ap₂ (preferred by_holding) (go b.phase) (chosen_same (suc i) bs)
    where
      go : (p : Phase) → candidate cv i b p ≡ candidate cw i b p
      go suspended = refl
      go ready = refl
      go started = refl
      go (waiting m) = refl
      go (triggered x) = refl

  dues_from_same : (t : ℕ) (xs : List Table) → dues_from cv t xs ≡ dues_from cw t xs
  unfolding dues_from
  dues_from_same t [] = refl
  dues_from_same t (x ∷ xs) =
      ap (λ l. map (entry_due (get_or c.period t 0) x) (offsets c t) ++ l) (dues_from_same (suc t) xs)

  module _ {s s' : State} (a : Alike s s') where
    pub runner_alike : runner cv s ≡ runner cw s'
    runner_alike =
        ap (λ js. latest_of s.bodies js (chosen cv s.bodies)) a.order ∙ go s'.order
      where
        go : (js : List ℕ) → latest_of s.bodies js (chosen cv s.bodies) ≡ latest_of s'.bodies js (chosen cw s'.bodies)
        go [] =
            chosen_same 0 s.bodies
            ∙ quiet_same cw 0 s.bodies
            ∙ ap (chosen_from by_holding cw 0) a.bodies
            ∙ sym (quiet_same cw 0 s'.bodies)
        go (j ∷ js) =
            ap (λ (p : Phase).
            record { number = j; level = execution_level; began = has_begun p; holder = false; timed = true })
            (phase_alike a j)

    held_same : (r : ℕ) → held_in r s.bodies ≡ held_in r s'.bodies
    held_same r = held_in_quiet r s.bodies ∙ ap (held_in r) a.bodies ∙ sym (held_in_quiet r s'.bodies)

    checks_alike : (k : Candidate) (e : Event) → checks_for cv k s e ≡ checks_for cw k s' e
    checks_alike k (Activate t) = rw (phase_alike a t)
    checks_alike k Finish = rw (held_alike a k.number)
    checks_alike k (Chain t) = rw (phase_alike a t, held_alike a k.number)
    checks_alike k (Get r) = rw (held_same r)
    checks_alike k (Release r) = rw (held_alike a k.number)
    checks_alike k Tick = refl
    checks_alike k (Line i) =
        ap (λ (x : Bool). (not (is_isr c i) gives no_such) ∷ (x gives limit_reached) ∷ [])
        (request_waits_quiet (body_of s i) (body_of s i).phase
        ∙ ap (λ (b : Body). request_waits b b.phase) (body_alike a i)
        ∙ sym (request_waits_quiet (body_of s' i) (body_of s' i).phase))
    checks_alike k (Start t d) = rw a.tables
    checks_alike k (Stop t) = rw a.tables
    checks_alike k (Wait m) = rw (held_alike a k.number)
    checks_alike k (Set t m) = rw (phase_alike a t)
    checks_alike k (Clear m) = refl

    pub enter_alike : (t : ℕ) → Alike (enter cv t s) (enter cw t s')
    enter_alike t = go (is_timed c t)
      where
        begins_alike : (x y : Bool) → x ≡ y
            → Alike (cond x (starting t s) (changing t loses s)) (cond y (starting t s') (changing t loses s'))
        begins_alike true true e =
            let triggers_alike = alike_changing t triggers (λ b. refl) a in
            record { bodies = triggers_alike.bodies; tables = a.tables; order = ap (λ js. t ∷ js) a.order }
        begins_alike true false e = absurd (true≢false e)
        begins_alike false true e = absurd (true≢false (sym e))
        begins_alike false false e = alike_changing t loses (λ b. refl) a

        go : (x : Bool) → Alike (cond x (trigger t s) (changing t activated_by_entry s))
            (cond x (trigger t s') (changing t activated_by_entry s'))
        go true = begins_alike _ _ (ap is_suspended (phase_alike a t))
        go false = alike_changing t activated_by_entry (blind_entered false) a

    pub dues_same : dues cv s ≡ dues cw s'
    dues_same = dues_from_same 0 s.tables ∙ ap (dues_from cw 0) a.tables

    pub counted_alike : Alike (counted s) (counted s')
    counted_alike = record { bodies = a.bodies; tables = ap (map counting) a.tables; order = a.order }

    dispatched_alike : (k : Candidate) → Alike (dispatched_to k s) (dispatched_to k s')
    dispatched_alike k = go (begins k)
      where
        go : (x : Bool) → Alike (cond x (changing k.number (become (phase_begun k)) s) s)
            (cond x (changing k.number (become (phase_begun k)) s') s')
        go true = alike_changing k.number (become (phase_begun k)) (λ b. refl) a
        go false = a

  entering_alike : (ds : List Bool) (ts : List ℕ) {s s' : State} → Alike s s'
      → Alike (activating_due cv ds ts s) (activating_due cw ds ts s')
  unfolding activating_due
  entering_alike [] ts a = a
  entering_alike (true ∷ ds) [] a = a
  entering_alike (false ∷ ds) [] a = a
  entering_alike (true ∷ ds) (t ∷ ts) a = entering_alike ds ts (enter_alike a t)
  entering_alike (false ∷ ds) (t ∷ ts) a = entering_alike ds ts a

  module _ {s s' : State} (a : Alike s s') where
    ticked_alike : Alike (ticked cv s) (ticked cw s')
    ticked_alike =
        rw (dues_same (counted_alike a))
        (entering_alike (dues cw (counted s')) c.task (counted_alike a))

    pub effect_alike : (k : Candidate) (e : Event) → Alike (effect_for cv k s e) (effect_for cw k s' e)
    effect_alike k (Activate t) = alike_changing t activated (λ b. refl) a
    effect_alike k Finish = go k.timed
      where
        ends : Alike (changing k.number finished s) (changing k.number finished s')
        ends = alike_changing k.number finished blind_finished a

        go : (x : Bool) → Alike (cond x (finish_timed k.number s) (finish k.number s))
            (cond x (finish_timed k.number s') (finish k.number s'))
        go true = record { bodies = ends.bodies; tables = a.tables; order = ap rest a.order }
        go false = ends
    effect_alike k (Chain t) =
        alike_changing t activated (λ b. refl) (alike_changing k.number finished blind_finished a)
    effect_alike k (Get r) = alike_changing k.number (gets r) (λ b. refl) a
    effect_alike k (Release r) = alike_changing k.number releases (λ b. refl) a
    effect_alike k Tick = ticked_alike
    effect_alike k (Line i) = alike_changing i requested blind_requested a
    effect_alike k (Start t d) =
        record { bodies = a.bodies; tables = ap (λ xs. set xs t (running d 0)) a.tables; order = a.order }
    effect_alike k (Stop t) =
        record { bodies = a.bodies; tables = ap (λ xs. set xs t stopped) a.tables; order = a.order }
    effect_alike k (Wait m) = alike_changing k.number (waits m) (blind_waits m) a
    effect_alike k (Set t m) = alike_changing t (receives m) (λ b. refl) a
    effect_alike k (Clear m) = alike_changing k.number (clears m) (λ b. refl) a

    refusal_alike : (st : ℕ) (e : Event) → Alike (else_of cv s st e) (else_of cw s' st e)
    refusal_alike st e =
        alike_both (else_of_keeps cv s (λ x. Alike x s) (alike_self s) st e (λ i _ _ _. alike_loses i s))
        (alike_both a
        (alike_turned (else_of_keeps cw s' (λ x. Alike x s') (alike_self s') st e (λ i _ _ _. alike_loses i s'))))

    pub status_alike : (k : Candidate) (e : Event) → status_for cv k s e ≡ status_for cw k s' e
    status_alike k e = ap first_given (checks_alike a k e)

    leaves_alike : (k : Candidate) (e : Event) → Alike (leaves_for cv k s e) (leaves_for cw k s' e)
    leaves_alike k e = rw (status_alike k e) (go (eqb (status_for cw k s' e) done))
      where
        st : ℕ
        st = status_for cw k s' e

        go : (x : Bool) → Alike (cond x (effect_for cv k s e) (else_of cv s st e))
            (cond x (effect_for cw k s' e) (else_of cw s' st e))
        go true = effect_alike k e
        go false = refusal_alike st e

    dues_at_alike : (e : Event) → dues_at cv s e ≡ dues_at cw s' e
    dues_at_alike e =
        ap₂ (λ xs ys. cond (is_tick e) xs (replicate (length ys) false)) (dues_same (counted_alike a)) (dues_same a)

    pub step_alike : (e : Event)
        → (unlost (step cv s e).seen ≡ unlost (step cw s' e).seen) × Alike (step cv s e).state (step cw s' e).state
    unfolding step_by
    step_alike e =
        rw (runner_alike a) (
          ap₂ (λ x st. unlost (ending_to x st (dues_at cv s e) (leaves_for cv k s e)).seen) same (status_alike k e)
              ∙ ap (λ ds. unlost (ending_to (runner cw y) (status_for cw k s' e) ds y).seen) (dues_at_alike e),
          rw same (dispatched_alike left (runner cw y)),
        )
      where
        k : Candidate
        k = runner cw s'

        y : State
        y = leaves_for cw k s' e

        left : Alike (leaves_for cv k s e) y
        left = leaves_alike k e

        same : runner cv (leaves_for cv k s e) ≡ runner cw y
        same = runner_alike left

  pub fresh_alike : Alike (fresh cv) (fresh cw)
  fresh_alike =
      let start : Alike (unstarted cv) (unstarted cw) = alike_self (unstarted cv) in
      rw (runner_alike start) (dispatched_alike start (runner cw (unstarted cw)))

  seen_alike : (es : List Event) {s s' : State} → Alike s s' → map unlost (seen cv s es) ≡ map unlost (seen cw s' es)
  unfolding seen_by
  seen_alike [] a = refl
  seen_alike (e ∷ es) a =
      let now = step_alike a e in
      ap₂ (λ x xs. x ∷ xs) now.0 (seen_alike es now.1)

  pub versions_alike : (es : List Event) → map unlost (seen cv (fresh cv) es) ≡ map unlost (seen cw (fresh cw) es)
  versions_alike es = seen_alike es fresh_alike
