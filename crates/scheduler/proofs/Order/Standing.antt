-- Where each body stands to the order of the started time-triggered tasks (`Placed`), and that every effect but a
-- Tick's leaves it so (`effect_placed`, at the end of the file).
--
-- In order: one body's place; what a change of one body, an end and the runner are to it; the effects. `late i` says
-- that body i may be triggered and still have to begin: nobody after an event, the latest before a dispatch.
use Prim.Native.Nat.{ℕ, ◌≤◌, ◌<◌}
use mathlib.Core.Path.{◌≡◌, refl, sym, ap, subst, subst⁻¹, ◌∙◌}
use mathlib.Core.Bool.{Bool, true, false, true≢false, cond}
use mathlib.Core.List.{List, [], ◌∷◌}
use mathlib.Core.Logic.{◌≢◌}
use native.Mathlib.Omega.{arith}
use lib.ListN.{length, get_or, set, length-set}
use lib.Seq.{set_out, get_or-set_same, get_or-set_other}
use Rattle.number.proofs.Cases.{by_lt, by_eq, cond_either}
use Rattle.config.specs.declared.Config.{Config}
use Rattle.config.specs.Meaning.{is_timed, first_of}
use Rattle.scheduler.specs.Bits.{any_set, with_bits}
use Rattle.scheduler.specs.Body.{Phase, suspended, ready, started, waiting, triggered, has_begun, competes, Body, become, activated, ended, finished, requested, gets, rest, releases, loses, waits, resumed, receives, clears}
use Rattle.scheduler.specs.Choice.{Candidate, by_holding, chosen}
use Rattle.scheduler.specs.State.{State, Table, no_body, body_of, changing, with_table, runner, among}
use Rattle.scheduler.specs.Event.{Event, Activate, Finish, Chain, Get, Release, Tick, Line, Start, Stop, Wait, Set, Clear}
use Rattle.scheduler.specs.Call.{nobody_runs, caller, finish, finish_timed, effect_of}
use Rattle.scheduler.specs.Scheduler.{step_by}
use Rattle.scheduler.specs.History.{AcceptedIn}
use Rattle.scheduler.proofs.Choice.Runner.{Taken, no_one, body, chosen_from_lem, candidate_active, runner_timed, runner_untimed}
use Rattle.scheduler.proofs.Event.Checks.{activate_passed, finish_passed, chain_passed, get_passed, release_passed, line_passed, wait_passed, set_passed, clear_passed, accepted_untimed}
use Rattle.scheduler.proofs.Kind.{timed_body, isr_untimed, extended_untimed, osek_untimed}
use Rattle.scheduler.proofs.Members.{Distinct, among_head, among_other, among_tail}

abbrev pub is_triggered : Phase → Bool
is_triggered suspended = false
is_triggered ready = false
is_triggered started = false
is_triggered (waiting w) = false
is_triggered (triggered x) = true

pub never_triggered : {C : Type 0} (p : Phase) (x : Bool) → is_triggered p ≡ false → p ≡ triggered x → C
never_triggered p x n e = absurd (true≢false (sym (ap is_triggered e) ∙ n))

-- where body i, which is b, stands; m: whether it is in the order
pub data Place (c : Config) (i : ℕ) (b : Body) (m : Bool) : Type 0 where
  other : is_timed c i ≡ false → m ≡ false → is_triggered b.phase ≡ false → Place c i b m
  asleep : is_timed c i ≡ true → m ≡ false → b.phase ≡ suspended → b.held ≡ [] → b.pending ≡ false → Place c i b m
  awake : is_timed c i ≡ true → m ≡ true → (x : Bool) → b.phase ≡ triggered x → b.held ≡ [] → b.pending ≡ false
      → Place c i b m

pub record Placed (c : Config) (late : ℕ → Type 0) (s : State) : Type 0 where
  pub bodies_there : length s.bodies ≡ c.bodies
  pub tables_there : length s.tables ≡ c.tables
  pub none_twice : Distinct s.order
  pub places : (i : ℕ) → Place c i (body_of s i) (among i s.order)
  pub to_begin : (i : ℕ) → (body_of s i).phase ≡ triggered false → late i
  pub has_entry : (j : ℕ) → among j s.order ≡ true → (e : ℕ) × (e < first_of c c.tables) × (get_or c.task e 0 ≡ j)

-- no event makes a phase triggered but a Tick
abbrev KeepsPlain : (Body → Body) → Type 0
KeepsPlain f = (b : Body) → is_triggered b.phase ≡ false → is_triggered (f b).phase ≡ false

cond_plain : (p : Bool) (x y : Body) → is_triggered x.phase ≡ false → is_triggered y.phase ≡ false
    → is_triggered (cond p x y).phase ≡ false
cond_plain = cond_either (λ (x : Body). is_triggered x.phase ≡ false)

finished_plain : KeepsPlain finished
finished_plain b h = cond_plain b.pending (activated (ended b)) (ended b) refl refl

requested_plain : KeepsPlain requested
requested_plain b h = cond_plain (has_begun b.phase) _ (activated b) h refl

waits_plain : (w : ℕ) → KeepsPlain (waits w)
waits_plain w b h = cond_plain (any_set b.bits w) b (become (waiting w) b) h refl

receives_plain : (w : ℕ) → KeepsPlain (receives w)
receives_plain w b h = go b.phase h
  where
    go : (p : Phase) → is_triggered p ≡ false → is_triggered (resumed (with_bits b.bits w) p) ≡ false
    go suspended e = refl
    go ready e = refl
    go started e = refl
    go (waiting v) e =
        cond_either (λ (p : Phase). is_triggered p ≡ false) (any_set (with_bits b.bits w) v) started (waiting v)
        refl refl
    go (triggered x) e = e

module _ (c : Config) where
  -- the same of those that are still to begin
  pub placed_with : {late later : ℕ → Type 0} {s : State} → Placed c late s
      → ((i : ℕ) → (body_of s i).phase ≡ triggered false → later i)
      → Placed c later s
  placed_with p f =
      record {
        bodies_there = p.bodies_there;
        tables_there = p.tables_there;
        none_twice = p.none_twice;
        places = p.places;
        to_begin = f;
        has_entry = p.has_entry;
      }

  pub placed_weaken : {late later : ℕ → Type 0} {s : State} → Placed c late s → ((i : ℕ) → late i → later i)
      → Placed c later s
  placed_weaken p f = placed_with p (λ i h. f i (p.to_begin i h))

  -- who is not time-triggered is not in the order
  untimed_place : {i : ℕ} {b : Body} {m : Bool} → is_timed c i ≡ false → Place c i b m
      → (m ≡ false) × (is_triggered b.phase ≡ false)
  untimed_place t (other n m h) = (m, h)
  untimed_place t (asleep n m p h q) = absurd (true≢false (sym n ∙ t))
  untimed_place t (awake n m x p h q) = absurd (true≢false (sym n ∙ t))

  -- who is in the order is a triggered body that holds nothing
  pub awake_place : {i : ℕ} {b : Body} {m : Bool} → m ≡ true → Place c i b m
      → (is_timed c i ≡ true) × ((x : Bool) × (b.phase ≡ triggered x)) × (b.held ≡ []) × (b.pending ≡ false)
  awake_place t (other n m h) = absurd (true≢false (sym t ∙ m))
  awake_place t (asleep n m p h q) = absurd (true≢false (sym t ∙ m))
  awake_place t (awake n m x p h q) = (n, (x, p), h, q)

  -- who is triggered is in it
  pub triggered_place : {i : ℕ} {b : Body} {m : Bool} (x : Bool) → b.phase ≡ triggered x → Place c i b m → m ≡ true
  triggered_place {b = b} x e (other n m h) = never_triggered b.phase x h e
  triggered_place {b = b} x e (asleep n m p h q) = never_triggered b.phase x (ap is_triggered p) e
  triggered_place x e (awake n m y p h q) = m

  module _ {late : ℕ → Type 0} where
    -- body k becomes y
    pub becomes_placed : {s : State} → Placed c late s → (k : ℕ) (y : Body)
        → (Place c k (body_of s k) (among k s.order) → Place c k y (among k s.order))
        → (y.phase ≡ triggered false → late k)
        → Placed c late (record { bodies = set s.bodies k y; tables = s.tables; order = s.order })
    becomes_placed {s} p k y stands begin =
        record {
          bodies_there = length-set s.bodies k y ∙ p.bodies_there;
          tables_there = p.tables_there;
          none_twice = p.none_twice;
          places = λ i. (at i).0;
          to_begin = λ i. (at i).1;
          has_entry = p.has_entry;
        }
      where
        Fine : ℕ → Body → Type 0
        Fine i b = Place c i b (among i s.order) × (b.phase ≡ triggered false → late i)

        at : (i : ℕ) → Fine i (get_or (set s.bodies k y) i no_body)
        at i =
            by_eq i k
            (λ same. by_lt k (length s.bodies)
            (λ fits. rw (same, get_or-set_same s.bodies k y no_body fits) (stands (p.places k), begin))
            (λ past. rw (set_out s.bodies k y past) (p.places i, p.to_begin i)))
            (λ differs. rw (get_or-set_other s.bodies k i y no_body differs) (p.places i, p.to_begin i))

    -- a body that is not time-triggered stays so
    pub plain_placed : {s : State} → Placed c late s → (k : ℕ) → is_timed c k ≡ false → (f : Body → Body) → KeepsPlain f
        → Placed c late (changing k f s)
    plain_placed {s} p k t f keeps =
        let now = untimed_place t (p.places k) in
        let still = keeps (body_of s k) now.1 in
        becomes_placed p k (f (body_of s k)) (λ _. other t now.0 still)
        (λ e. never_triggered (f (body_of s k)).phase false still e)

    pub loses_placed : {s : State} → Placed c late s → (k : ℕ) → Placed c late (changing k loses s)
    loses_placed {s} p k = becomes_placed p k (loses (body_of s k)) go (p.to_begin k)
      where
        go : Place c k (body_of s k) (among k s.order) → Place c k (loses (body_of s k)) (among k s.order)
        go (other n m h) = other n m h
        go (asleep n m q h r) = asleep n m q h r
        go (awake n m x q h r) = awake n m x q h r

    -- the latest ends
    ended_placed : {s : State} → Placed c late s → (j : ℕ) (js : List ℕ) → s.order ≡ j ∷ js
        → Placed c late (record { bodies = set s.bodies j (finished (body_of s j)); tables = s.tables; order = js })
    ended_placed {s} p j js o =
        record {
          bodies_there = length-set s.bodies j (finished (body_of s j)) ∙ p.bodies_there;
          tables_there = p.tables_there;
          none_twice = distinct.1;
          places = λ i. (at i).0;
          to_begin = λ i. (at i).1;
          has_entry = λ i h. p.has_entry i (subst⁻¹ (λ (l : List ℕ). among i l ≡ true) o (among_tail i j js h));
        }
      where
        distinct : Distinct (j ∷ js)
        distinct = subst Distinct o p.none_twice

        stood : (i : ℕ) → Place c i (body_of s i) (among i (j ∷ js))
        stood i = subst (λ (l : List ℕ). Place c i (body_of s i) (among i l)) o (p.places i)

        Fine : ℕ → Body → Type 0
        Fine i b = Place c i b (among i js) × (b.phase ≡ triggered false → late i)

        -- it held nothing, and no request waited
        end : Fine j (finished (body_of s j))
        end =
            let a = awake_place (among_head j js) (stood j) in
            rw a.3
            (asleep a.0 distinct.0 refl a.2 refl, λ e. never_triggered suspended false refl e)

        at : (i : ℕ) → Fine i (get_or (set s.bodies j (finished (body_of s j))) i no_body)
        at i =
            by_eq i j
            (λ same. by_lt j (length s.bodies)
            (λ fits. rw (same, get_or-set_same s.bodies j (finished (body_of s j)) no_body fits) end)
            (λ past. past_last past))
            (λ differs.
            rw (get_or-set_other s.bodies j i (finished (body_of s j)) no_body differs, ← among_other i j js differs)
            (stood i, p.to_begin i))
          where
            -- it is one of the bodies
            past_last : {C : Type 0} → length s.bodies ≤ j → C
            past_last past =
                absurd (omega
                (arith, past, p.bodies_there, timed_body c j (awake_place (among_head j js) (stood j)).0))

    -- the runner, where no time-triggered task is started
    pub runner_placed : {s : State} → Placed c late s → s.order ≡ [] → nobody_runs c s ≡ false
        → (is_timed c (caller c s) ≡ false) × ((runner c s).timed ≡ false)
    runner_placed {s} p o some = go (chosen_from_lem by_holding refl c s.bodies)
      where
        up : (k : ℕ) → competes (body_of s k).phase ≡ true → Place c k (body_of s k) (among k s.order)
            → is_timed c k ≡ false
        up k h (other n m t) = n
        up k h (asleep n m q r t) = absurd (true≢false (sym h ∙ ap competes q))
        up k h (awake n m x q r t) = absurd (true≢false (sym h ∙ ap competes q))

        go : Taken c s.bodies (chosen c s.bodies) → (is_timed c (caller c s) ≡ false) × ((runner c s).timed ≡ false)
        go (no_one z) = absurd (true≢false (sym (rw (runner_untimed c s o ∙ z)) ∙ some))
        go (body k h q z) =
            let is = runner_untimed c s o ∙ z ∙ candidate_active c k (body_of s k) (body_of s k).phase q in (
              ap (λ (x : Candidate). is_timed c x.number) is
                  ∙ up k q (p.places k),
              ap (λ (x : Candidate). x.timed) is,
            )

    module _ {s : State} (p : Placed c late s) where
      tabled : (t : ℕ) (x : Table) → Placed c late (with_table t x s)
      tabled t x =
          record {
            bodies_there = p.bodies_there;
            tables_there = length-set s.tables t x ∙ p.tables_there;
            none_twice = p.none_twice;
            places = p.places;
            to_begin = p.to_begin;
            has_entry = p.has_entry;
          }

      -- a call of a body that is not time-triggered
      call : (f : Body → Body) → KeepsPlain f → s.order ≡ [] → nobody_runs c s ≡ false
          → Placed c late (changing (caller c s) f s)
      call f keeps o some = plain_placed p (caller c s) (runner_placed p o some).0 f keeps

      ends : AcceptedIn c s Finish → Placed c late (effect_of c s Finish)
      unfolding step_by
      ends a = go s.order refl
        where
          go : (js : List ℕ) → s.order ≡ js → Placed c late (effect_of c s Finish)
          go [] o =
              let some = (finish_passed c s a).0 in
              rw (runner_placed p o some).1 (call finished finished_plain o some)
          go (j ∷ js) o =
              subst⁻¹ (λ (x : Candidate). Placed c late
              (cond x.timed (finish_timed x.number s) (finish x.number s)))
              (runner_timed c s j js o)
              (subst⁻¹
              (λ (l : List ℕ). Placed c late
              (record { bodies = (finish j s).bodies; tables = s.tables; order = rest l }))
              o
              (ended_placed p j js o))

      pub effect_placed : (e : Event) → e ≢ Tick → AcceptedIn c s e → Placed c late (effect_of c s e)
      unfolding step_by
      effect_placed (Activate t) n a =
          plain_placed p t (osek_untimed c t (activate_passed c s t a).1) activated (λ b h. refl)
      effect_placed Finish n a = ends a
      effect_placed (Chain t) n a =
          let q = chain_passed c s t a in
          plain_placed (call finished finished_plain (accepted_untimed c s (Chain t) refl a) q.0) t
          (osek_untimed c t q.2) activated
          (λ b h. refl)
      effect_placed (Get r) n a = call (gets r) (λ b h. h) (accepted_untimed c s (Get r) refl a) (get_passed c s r a).0
      effect_placed (Release r) n a =
          call releases (λ b h. h) (accepted_untimed c s (Release r) refl a) (release_passed c s r a).0
      effect_placed Tick n a = absurd (n refl)
      effect_placed (Line i) n a = plain_placed p i (isr_untimed c i (line_passed c s i a).0) requested requested_plain
      effect_placed (Start t d) n a = tabled t _
      effect_placed (Stop t) n a = tabled t _
      effect_placed (Wait w) n a =
          call (waits w) (waits_plain w) (accepted_untimed c s (Wait w) refl a) (wait_passed c s w a).0
      effect_placed (Set t w) n a =
          plain_placed p t (extended_untimed c t (set_passed c s t w a).2) (receives w) (receives_plain w)
      effect_placed (Clear w) n a =
          call (clears w) (λ b h. h) (accepted_untimed c s (Clear w) refl a) (clear_passed c s w a).0
