-- An event is accepted exactly if none of its checks fails,
-- and what each accepted call tells of the state that it meets.
--
-- In order: a list of checks; that each event's checks give statuses other than 0; what a time-triggered task may call,
-- and the calls that name one; the accepted calls one by one.
use Prim.Native.Nat.{ℕ, ◌+◌, ◌≤◌, ◌<◌}
use mathlib.Core.Path.{◌≡◌, refl, sym, ap, ap₂, ◌∙◌}
use mathlib.Core.Bool.{Bool, true, false, true≢false, cond, not, ◌&&◌, and-true, and-false}
use mathlib.Core.List.{List, [], ◌∷◌, ◌++◌, map}
use mathlib.Core.Logic.{◌≢◌, ◌↔◌}
use native.Mathlib.Omega.{arith}
use borrow.Author.Tests.{lt-leb, leb-false, ltb-false, eqb-true, eqb-false, ne_eqb, not-false}
use lib.Dec.{ltb, eqb}
use lib.ListN.{get_or}
use Rattle.number.proofs.Cases as Cases
use Rattle.config.specs.declared.Config.{Config}
use Rattle.config.specs.Meaning.{is_task, is_osek_task, is_isr, is_extended, is_timed, is_user, smallest_offset}
use Rattle.scheduler.specs.Status.{Check, done, call_level, no_such, limit_reached, ◌gives◌, first_given, NoneFails}
use Rattle.scheduler.specs.Body.{Phase, suspended, ready, started, waiting, triggered, is_suspended, holds}
use Rattle.scheduler.specs.Choice.{is_nobody}
use Rattle.scheduler.specs.State.{State, is_running, body_of, table_of, runner, held_in}
use Rattle.scheduler.specs.Event.{Event, Activate, Finish, Chain, Get, Release, Tick, Line, Start, Stop, Wait, Set, Clear}
use Rattle.scheduler.specs.Call.{no_caller, nobody_runs, caller, calling, active, latest_is, request_waits, checks_of, activate_status, finish_status, chain_status, get_status, release_status, line_status, longest_delay, start_status, stop_status, wait_status, set_status, clear_status}
use Rattle.scheduler.specs.Scheduler.{step, step_by}
use Rattle.scheduler.specs.History.{AcceptedIn}
use Rattle.scheduler.proofs.Choice.Runner.{runner_timed}
use Rattle.scheduler.proofs.Event.Effects.{clash}

-- none of the checks gives status 0; none of them fails
abbrev Refusing : List Check → Type 0
Refusing [] = Unit {0}
Refusing (k ∷ ks) = (k.status ≢ done) × Refusing ks

abbrev Passed : List Check → Type 0
Passed [] = Unit {0}
Passed (k ∷ ks) = (k.fails ≡ false) × Passed ks

first_fails : (before : List Check) (k : Check) (rest : List Check) → Passed before → k.fails ≡ true
    → first_given (before ++ k ∷ rest) ≡ k.status
unfolding first_given
first_fails [] k rest p q = rw q
first_fails (x ∷ before) k rest p q = rw p.0 (first_fails before k rest p.1 q)

all_passed : (ks : List Check) → Refusing ks → first_given ks ≡ done → Passed ks
unfolding first_given
all_passed [] r e = tt
all_passed (k ∷ ks) r e = go k.fails refl (all_passed ks r.1)
  where
    go : (b : Bool) → k.fails ≡ b → (first_given ks ≡ done → Passed ks) → Passed (k ∷ ks)
    go true q rest = absurd (r.0 (rw q at e))
    go false q rest = (q, rest (rw q at e))

passed_done : (ks : List Check) → Passed ks → first_given ks ≡ done
unfolding first_given
passed_done [] p = refl
passed_done (k ∷ ks) p = rw p.0 (passed_done ks p.1)

none_fails : (ks : List Check) → Passed ks → NoneFails ks
none_fails [] p k [] rest q = absurd (clash (cc))
none_fails [] p k (x ∷ before) rest q = absurd (clash (cc))
none_fails (x ∷ ks) p k [] rest q = let h : k ≡ x = cc in rw h p.0
none_fails (x ∷ ks) p k (y ∷ before) rest q = none_fails ks p.1 k before rest (cc)

none_passed : (ks : List Check) → NoneFails ks → Passed ks
none_passed [] none = tt
none_passed (k ∷ ks) none =
    (none k [] ks refl, none_passed ks (λ x before rest q. none x (k ∷ before) rest (ap (λ l. k ∷ l) q)))

-- every check of the table gives a status other than 0
refusing : (c : Config) (s : State) (e : Event) → Refusing (checks_of c s e)
refusing c s (Activate t) = omega arith
refusing c s Finish = omega arith
refusing c s (Chain t) = omega arith
refusing c s (Get r) = omega arith
refusing c s (Release r) = omega arith
refusing c s Tick = tt
refusing c s (Line i) = omega arith
refusing c s (Start t d) = omega arith
refusing c s (Stop t) = omega arith
refusing c s (Wait w) = omega arith
refusing c s (Set t w) = omega arith
refusing c s (Clear w) = omega arith

pub accepted_none_fails : (c : Config) (s : State) (e : Event) → AcceptedIn c s e ↔ NoneFails (checks_of c s e)
unfolding step_by
accepted_none_fails c s e = (
  λ a. none_fails (checks_of c s e) (all_passed (checks_of c s e) (refusing c s e) a),
  λ none. passed_done
      (checks_of c s e) (none_passed (checks_of c s e) none),
)

pub first_given_lem : (c : Config) (s : State) (e : Event) (before : List Check) (k : Check) (rest : List Check)
    → checks_of c s e ≡ before ++ k ∷ rest
    → NoneFails before
    → k.fails ≡ true
    → (step c s e).seen.status ≡ k.status
unfolding step_by
first_given_lem c s e before k rest q none f = ap first_given q ∙ first_fails before k rest (none_passed before none) f

inactive : (s : State) (t : ℕ) → active s t ≡ false → (body_of s t).phase ≡ suspended
inactive s t e = go (body_of s t).phase e
  where
    go : (p : Phase) → not (is_suspended p) ≡ false → p ≡ suspended
    go suspended e = refl
    go ready e = absurd (true≢false e)
    go started e = absurd (true≢false e)
    go (waiting w) e = absurd (true≢false e)
    go (triggered x) e = absurd (true≢false e)

-- the nine calls that a time-triggered task may not make: "no call but Finish"
abbrev is_barred : Event → Bool
is_barred (Activate t) = true
is_barred Finish = false
is_barred (Chain t) = true
is_barred (Get r) = true
is_barred (Release r) = true
is_barred Tick = false
is_barred (Line i) = false
is_barred (Start t d) = true
is_barred (Stop t) = true
is_barred (Wait w) = true
is_barred (Set t w) = true
is_barred (Clear w) = true

module _ (c : Config) (s : State) where
  timed_bars : (j : ℕ) (js : List ℕ) → s.order ≡ j ∷ js → no_caller (runner c s) ≡ true
  timed_bars j js e = ap no_caller (runner_timed c s j js e)

  pub timed_refused : (j : ℕ) (js : List ℕ) → s.order ≡ j ∷ js → (e : Event) → is_barred e ≡ true
      → (step c s e).seen.status ≡ 2
  unfolding step_by first_given
  timed_refused j js o (Activate t) b = rw (timed_bars j js o)
  timed_refused j js o Finish b = absurd (true≢false (sym b))
  timed_refused j js o (Chain t) b = rw (timed_bars j js o)
  timed_refused j js o (Get r) b = rw (timed_bars j js o)
  timed_refused j js o (Release r) b = rw (timed_bars j js o)
  timed_refused j js o Tick b = absurd (true≢false (sym b))
  timed_refused j js o (Line i) b = absurd (true≢false (sym b))
  timed_refused j js o (Start t d) b = rw (timed_bars j js o)
  timed_refused j js o (Stop t) b = rw (timed_bars j js o)
  timed_refused j js o (Wait w) b = rw (timed_bars j js o)
  timed_refused j js o (Set t w) b = rw (timed_bars j js o)
  timed_refused j js o (Clear w) b = rw (timed_bars j js o)

  -- so where one of them is accepted, none is started
  pub accepted_untimed : (e : Event) → is_barred e ≡ true → AcceptedIn c s e → s.order ≡ []
  accepted_untimed e b a = go s.order refl
    where
      go : (js : List ℕ) → s.order ≡ js → js ≡ []
      go [] o = refl
      go (j ∷ js) o = absurd (omega (arith, a, timed_refused j js o e b))

  -- Finish is open to it
  pub timed_finish : (j : ℕ) (js : List ℕ) → s.order ≡ j ∷ js → (step c s Finish).seen.status ≢ 2
  unfolding step_by first_given
  timed_finish j js o = rw (ap is_nobody (runner_timed c s j js o)) (go (holds (calling c s).held))
    where
      go : (b : Bool) → ◌≢◌ {A = ℕ} (cond b 6 0) 2
      go true h = omega arith
      go false h = omega arith

-- what the calls that name a time-triggered task give, where somebody may call
module _ (c : Config) (s : State) (free : no_caller (runner c s) ≡ false) (t : ℕ) (timed : is_timed c t ≡ true) where
  no_osek : is_osek_task c t ≡ false
  no_osek = ap (λ (b : Bool). is_task c t && not b) timed ∙ and-false (is_task c t)

  pub timed_activate : (step c s (Activate t)).seen.status ≡ 3
  unfolding step_by first_given
  timed_activate =
      ap₂
      (λ (x y : Bool). first_given ((x gives call_level) ∷ (not y gives no_such) ∷ (active s t gives limit_reached) ∷ []))
      free no_osek

  pub timed_set : (w : ℕ) → (step c s (Set t w)).seen.status ≡ 1
  unfolding step_by first_given
  timed_set w = rw (free, is_task_lem, no_extended)
    where
      both : (ltb t c.bodies ≡ true) × (eqb (get_or c.kind t 0) 3 ≡ true)
      both = Cases.and_true (ltb t c.bodies) (eqb (get_or c.kind t 0) 3) timed

      third : get_or c.kind t 0 ≡ 3
      third = eqb-true (get_or c.kind t 0) 3 both.1

      is_task_lem : is_task c t ≡ true
      is_task_lem = rw (both.0, third)

      no_extended : is_extended c t ≡ false
      no_extended = rw (both.0, third)

-- who gets a resource is a declared user, and gets what nobody holds; Start's statuses come in this order
get_user : (c : Config) (s : State) (r : ℕ) → get_status c s r ≡ done → is_user c r (caller c s) ≡ true
get_user c s r e = not-false (is_user c r (caller c s)) (all_passed (checks_of c s (Get r)) (omega arith) e).1.1.0

get_accepted : (c : Config) (s : State) (r : ℕ) → no_caller (runner c s) ≡ false → r < c.resources
    → is_user c r (caller c s) ≡ true
    → held_in r s.bodies ≡ false
    → get_status c s r ≡ done
unfolding first_given
get_accepted c s r free there user none = rw (free, lt-leb c.resources r there, user, none)

start_statuses : (c : Config) (s : State) (t d : ℕ)
    → map (λ k. k.status) (checks_of c s (Start t d)) ≡ 2 ∷ 3 ∷ 8 ∷ 7 ∷ []
start_statuses c s t d = refl

module _ (c : Config) (s : State) where
  -- somebody runs whom the call is open to
  someone : no_caller (runner c s) ≡ false → nobody_runs c s ≡ false
  someone e = (Cases.neither (nobody_runs c s) (runner c s).timed e).0

  -- somebody runs, and t is a suspended task
  pub activate_passed : (t : ℕ) → activate_status c s t ≡ done
      → (nobody_runs c s ≡ false) × (is_osek_task c t ≡ true) × ((body_of s t).phase ≡ suspended)
  activate_passed t e =
      let p = all_passed _ (omega arith) e in
      (someone p.0, not-false (is_osek_task c t) p.1.0, inactive s t p.1.1.0)

  -- the runner holds no resource
  pub finish_passed : finish_status c s ≡ done → (nobody_runs c s ≡ false) × (holds (calling c s).held ≡ false)
  finish_passed e =
      let p = all_passed _ (omega arith) e in
      (p.0, p.1.0)

  -- the runner is a task that holds no resource, and t is a task that is suspended, or the runner itself
  pub chain_passed : (t : ℕ) → chain_status c s t ≡ done
      → (nobody_runs c s ≡ false) × (is_isr c (caller c s) ≡ false) × (is_osek_task c t ≡ true)
      × (holds (calling c s).held ≡ false)
      × (t ≢ caller c s → (body_of s t).phase ≡ suspended)
  chain_passed t e =
      let p = all_passed _ (omega arith) e in
      let q = Cases.neither (no_caller (runner c s)) (is_isr c (caller c s)) p.0 in (
        someone q.0,
        q.1,
        not-false (is_osek_task c t) p.1.0,
        p.1.1.0,
        λ d. inactive s t
            (other d p.1.1.1.0),
      )
    where
      other : t ≢ caller c s → (active s t && not (eqb t (caller c s))) ≡ false → active s t ≡ false
      other d h = rw (ne_eqb t (caller c s) d, and-true) at h

  -- the runner is a declared user of r, and nobody holds it
  pub get_passed : (r : ℕ) → get_status c s r ≡ done
      → (nobody_runs c s ≡ false) × (r < c.resources) × (is_user c r (caller c s) ≡ true)
      × (held_in r s.bodies ≡ false)
  get_passed r e =
      let p = all_passed _ (omega arith) e in
      (someone p.0, leb-false c.resources r p.1.0, get_user c s r e, p.1.1.1.0)

  -- r is the one that the runner took last
  pub release_passed : (r : ℕ) → release_status c s r ≡ done
      → (nobody_runs c s ≡ false) × (r < c.resources) × (latest_is r (calling c s).held ≡ true)
  release_passed r e =
      let p = all_passed _ (omega arith) e in
      (someone p.0, leb-false c.resources r p.1.0, not-false (latest_is r (calling c s).held) p.1.1.0)

  -- i is an ISR of which no request waits
  pub line_passed : (i : ℕ) → line_status c s i ≡ done
      → (is_isr c i ≡ true) × (request_waits (body_of s i) (body_of s i).phase ≡ false)
  line_passed i e =
      let p = all_passed _ (omega arith) e in
      (not-false (is_isr c i) p.0, p.1.0)

  -- t is a table that doesn't run, and the delays fit
  pub start_passed : (t d : ℕ) → start_status c s t d ≡ done
      → (nobody_runs c s ≡ false) × (t < c.tables) × (d ≢ 0) × (d + smallest_offset c t ≤ longest_delay)
      × (is_running (table_of s t) ≡ false)
  start_passed t d e =
      let p = all_passed _ (omega arith) e in
      let q = Cases.neither (eqb d 0) (ltb longest_delay (d + smallest_offset c t)) p.1.1.0 in (
        someone p.0,
        leb-false c.tables t p.1.0,
        eqb-false d 0 q.0,
        ltb-false longest_delay
            (d + smallest_offset c t) q.1,
        p.1.1.1.0,
      )

  -- t is a table that runs
  pub stop_passed : (t : ℕ) → stop_status c s t ≡ done
      → (nobody_runs c s ≡ false) × (t < c.tables) × (is_running (table_of s t) ≡ true)
  stop_passed t e =
      let p = all_passed _ (omega arith) e in
      (someone p.0, leb-false c.tables t p.1.0, not-false (is_running (table_of s t)) p.1.1.0)

  -- the runner is an extended task that holds no resource
  pub wait_passed : (w : ℕ) → wait_status c s w ≡ done
      → (nobody_runs c s ≡ false) × (is_extended c (caller c s) ≡ true) × (holds (calling c s).held ≡ false)
  wait_passed w e =
      let p = all_passed _ (omega arith) e in
      (someone p.0, not-false (is_extended c (caller c s)) p.1.0, p.1.1.0)

  -- t is an extended task that isn't suspended
  pub set_passed : (t w : ℕ) → set_status c s t w ≡ done
      → (nobody_runs c s ≡ false) × (is_task c t ≡ true) × (is_extended c t ≡ true) × (active s t ≡ true)
  set_passed t w e =
      let p = all_passed _ (omega arith) e in (
        someone p.0,
        not-false (is_task c t) p.1.0,
        not-false (is_extended c t) p.1.1.0,
        not-false (active s t)
            p.1.1.1.0,
      )

  -- the runner is an extended task
  pub clear_passed : (w : ℕ) → clear_status c s w ≡ done → (nobody_runs c s ≡ false) × (is_extended c (caller c s) ≡ true)
  clear_passed w e =
      let p = all_passed _ (omega arith) e in
      (someone p.0, not-false (is_extended c (caller c s)) p.1.0)

-- Chain naming a time-triggered task
module _ (c : Config) (s : State) (free : no_caller (runner c s) ≡ false) (t : ℕ) (timed : is_timed c t ≡ true) where
  pub timed_chain : is_isr c (caller c s) ≡ false → (step c s (Chain t)).seen.status ≡ 3
  unfolding step_by first_given
  timed_chain task = rw (free, task, no_osek c s free t timed)
