-- When each status is given: `conditions`, at the end of the file.
--
-- In order: a test decides a condition (`Decides`), and tests of which each decides its rule's condition give what the
-- rules say (`given`); the conditions of the configuration, of the state, of the events.
use Prim.Native.Nat.{ℕ, zero, suc, ◌+◌, ◌≤◌, ◌<◌}
use mathlib.Core.Path.{◌≡◌, refl, sym, ap, ◌∙◌}
use mathlib.Core.Bool.{Bool, true, false, true≢false, not, ◌&&◌, ◌||◌}
use mathlib.Core.List.{List, [], ◌∷◌, ◌++◌}
use mathlib.Core.Logic.{◌≢◌, ◌↔◌, ◌⊎◌, inl, inr}
use native.Mathlib.Omega.{arith}
use borrow.Author.Tests.{ltb-true, ltb-false, leb-true, leb-false, eqb-true, eqb-false}
use lib.Dec.{ltb, leb, eqb}
use lib.ListN.{get_or}
use Rattle.config.specs.declared.Config.{Config}
use Rattle.config.specs.Meaning.{is_task, is_osek_task, is_isr, is_extended, is_user, smallest_offset}
use Rattle.scheduler.specs.Status.{Check, ◌gives◌, first_given}
use Rattle.scheduler.specs.Body.{Phase, suspended, ready, started, waiting, triggered, is_suspended, Body, holds}
use Rattle.scheduler.specs.Choice.{Candidate, by_holding, chosen, is_nobody}
use Rattle.scheduler.specs.State.{State, Table, stopped, running, is_running, no_body, body_of, table_of, runner, among, held_in}
use Rattle.scheduler.specs.Call.{no_caller, caller, calling, latest_is, request_waits}
use Rattle.scheduler.specs.Scheduler.{step_by}
use Rattle.scheduler.specs.Conditions.{Rule, ◌if◌, Decided, Task, OsekTask, Isr, Extended, User, NobodyRuns, NobodyCalls, In, Requested, Conditions}
use Rattle.scheduler.proofs.Choice.Runner.{Taken, no_one, body, chosen_from_lem, candidate_active, runner_timed, runner_untimed}
use Rattle.scheduler.proofs.Event.Effects.{clash}

-- the test b says whether P holds
record Decides (b : Bool) (P : Type 0) : Type 0 where
  holds : b ≡ true → P
  fails : b ≡ false → ¬ P

-- the tests ks decide the conditions of the rules rs, one by one
data Matching : List Check → List Rule → Type 1 where
  end : Matching [] []
  rule : {b : Bool} {P : Type 0} {ks : List Check} {rs : List Rule} (n : ℕ) → Decides b P → Matching ks rs
      → Matching ((b gives n) ∷ ks) ((n if P) ∷ rs)

given : {ks : List Check} {rs : List Rule} → Matching ks rs → Decided (first_given ks) rs
unfolding first_given
given end = refl
given (rule {b = true} n d rest) = inl (d.holds refl, refl)
given (rule {b = false} n d rest) = inr (d.fails refl, given rest)

opposite : {b : Bool} {P : Type 0} → Decides b P → Decides (not b) (¬ P)
opposite {b = true} d = record { holds = λ e. absurd (true≢false (sym e)); fails = λ e n. n (d.holds refl) }
opposite {b = false} d = record { holds = λ e. d.fails refl; fails = λ e. absurd (true≢false e) }

both : {a b : Bool} {P Q : Type 0} → Decides a P → Decides b Q → Decides (a && b) (P × Q)
both {a = true} d f = record { holds = λ e. (d.holds refl, f.holds e); fails = λ e pq. f.fails e pq.1 }
both {a = false} d f = record { holds = λ e. absurd (true≢false (sym e)); fails = λ e pq. d.fails refl pq.0 }

either : {a b : Bool} {P Q : Type 0} → Decides a P → Decides b Q → Decides (a || b) (P ⊎ Q)
either {a = true} d f = record { holds = λ e. inl (d.holds refl); fails = λ e. absurd (true≢false e) }
either {a = false} {b = b} {P = P} {Q = Q} d f = record { holds = λ e. inr (f.holds e); fails = neither }
  where
    neither : b ≡ false → P ⊎ Q → ⊥
    neither e (inl p) = d.fails refl p
    neither e (inr q) = f.fails e q

same : {b : Bool} {P Q : Type 0} → P ↔ Q → Decides b P → Decides b Q
same h d = record { holds = λ e. h.0 (d.holds e); fails = λ e q. d.fails e (h.1 q) }

less : (a b : ℕ) → Decides (ltb a b) (a < b)
less a b = record { holds = ltb-true a b; fails = λ e h. omega (arith, ltb-false a b e) }

least : (a b : ℕ) → Decides (leb a b) (a ≤ b)
least a b = record { holds = leb-true a b; fails = λ e h. omega (arith, leb-false a b e) }

equal : (a b : ℕ) → Decides (eqb a b) (a ≡ b)
equal a b = record { holds = eqb-true a b; fails = eqb-false a b }

-- the configuration
module _ (c : Config) (t : ℕ) where
  task : Decides (is_task c t) (Task c t)
  task = both (less t c.bodies) (opposite (equal (get_or c.kind t 0) 1))

  osek_task : Decides (is_osek_task c t) (OsekTask c t)
  osek_task =
      same ((λ p. (p.0, λ e. p.1 (p.0.0, e))), (λ p. (p.0, λ q. p.1 q.1)))
      (both task (opposite (both (less t c.bodies) (equal (get_or c.kind t 0) 3))))

  isr : Decides (is_isr c t) (Isr c t)
  isr = both (less t c.bodies) (equal (get_or c.kind t 0) 1)

  extended : Decides (is_extended c t) (Extended c t)
  extended = both (less t c.bodies) (equal (get_or c.kind t 0) 2)

  user : (b : ℕ) → Decides (is_user c t b) (User c t b)
  user b = both (less t c.resources) (equal _ 1)

-- a body
suspends : (p : Phase) → Decides (is_suspended p) (p ≡ suspended)
suspends suspended = record { holds = λ e. refl; fails = λ e. absurd (true≢false e) }
suspends ready = record { holds = λ e. absurd (true≢false (sym e)); fails = λ e q. clash (cc) }
suspends started = record { holds = λ e. absurd (true≢false (sym e)); fails = λ e q. clash (cc) }
suspends (waiting w) = record { holds = λ e. absurd (true≢false (sym e)); fails = λ e q. clash (cc) }
suspends (triggered x) = record { holds = λ e. absurd (true≢false (sym e)); fails = λ e q. clash (cc) }

holding : (rs : List ℕ) → Decides (holds rs) (rs ≢ [])
holding [] = record { holds = λ e. absurd (true≢false (sym e)); fails = λ e n. n refl }
holding (r ∷ rs) = record { holds = λ e q. clash (cc); fails = λ e. absurd (true≢false e) }

latest : (r : ℕ) (rs : List ℕ) → Decides (latest_is r rs) ((rest : List ℕ) × (rs ≡ r ∷ rest))
latest r [] = record { holds = λ e. absurd (true≢false (sym e)); fails = λ e q. clash (cc q.1) }
latest r (x ∷ rs) =
    same ((λ e. (rs, rw e refl)), (λ q. let e : x ∷ rs ≡ r ∷ q.0 = q.1 in cc)) (equal r x)

stands : (r : ℕ) (rs : List ℕ) → Decides (among r rs) (In r rs)
unfolding among
stands r [] = record { holds = λ e. absurd (true≢false (sym e)); fails = λ e q. none q.0 q.1 q.2 }
  where
    none : (before rest : List ℕ) → ◌≡◌ {A = List ℕ} [] (before ++ r ∷ rest) → ⊥
    none [] rest q = clash (cc)
    none (x ∷ before) rest q = clash (cc)
stands r (x ∷ rs) = same (there, back) (either (equal r x) (stands r rs))
  where
    there : (r ≡ x) ⊎ In r rs → In r (x ∷ rs)
    there (inl e) = ([], rs, rw e refl)
    there (inr q) = (x ∷ q.0, q.1, ap (λ l. x ∷ l) q.2)

    split : (before rest : List ℕ) → x ∷ rs ≡ before ++ r ∷ rest → (r ≡ x) ⊎ In r rs
    split [] rest q = inl (cc)
    split (y ∷ before) rest q = inr (before, rest, cc)

    back : In r (x ∷ rs) → (r ≡ x) ⊎ In r rs
    back q = split q.0 q.1 q.2

held : (r : ℕ) (bs : List Body) → Decides (held_in r bs) ((b : ℕ) × In r (get_or bs b no_body).held)
unfolding held_in among
held r [] = record { holds = λ e. absurd (true≢false (sym e)); fails = λ e q. (stands r []).fails refl q.1 }
held r (x ∷ bs) = same (there, back) (either (stands r x.held) (held r bs))
  where
    there : In r x.held ⊎ ((b : ℕ) × In r (get_or bs b no_body).held)
        → (b : ℕ) × In r (get_or (x ∷ bs) b no_body).held
    there (inl q) = (0, q)
    there (inr q) = (suc q.0, q.1)

    split : (b : ℕ) → In r (get_or (x ∷ bs) b no_body).held
        → In r x.held ⊎ ((b : ℕ) × In r (get_or bs b no_body).held)
    split zero q = inl q
    split (suc b) q = inr (b, q)

    back : (b : ℕ) × In r (get_or (x ∷ bs) b no_body).held
        → In r x.held ⊎ ((b : ℕ) × In r (get_or bs b no_body).held)
    back q = split q.0 q.1

requested : (b : Body) (p : Phase) → b.phase ≡ p → Decides (request_waits b p) (Requested b)
requested b suspended e = record { holds = λ t. absurd (true≢false (sym t)); fails = λ t. none }
  where
    none : Requested b → ⊥
    none (inl q) = clash (cc)
    none (inr (inl (inl q, h))) = clash (cc)
    none (inr (inl (inr q, h))) = clash (cc q.1)
    none (inr (inr q)) = clash (cc)
requested b ready e = record { holds = λ t. inl e; fails = λ t. absurd (true≢false t) }
requested b started e = record { holds = λ t. inr (inl (inl e, t)); fails = none }
  where
    none : b.pending ≡ false → Requested b → ⊥
    none t (inl q) = clash (cc)
    none t (inr (inl (k, h))) = true≢false (sym h ∙ t)
    none t (inr (inr q)) = clash (cc)
requested b (waiting w) e = record { holds = λ t. inr (inl (inr (w, e), t)); fails = none }
  where
    none : b.pending ≡ false → Requested b → ⊥
    none t (inl q) = clash (cc)
    none t (inr (inl (k, h))) = true≢false (sym h ∙ t)
    none t (inr (inr q)) = clash (cc)
requested b (triggered true) e = record { holds = λ t. absurd (true≢false (sym t)); fails = λ t. none }
  where
    none : Requested b → ⊥
    none (inl q) = clash (cc)
    none (inr (inl (inl q, h))) = clash (cc)
    none (inr (inl (inr q, h))) = clash (cc q.1)
    none (inr (inr q)) = clash (cc)
requested b (triggered false) e = record { holds = λ t. inr (inr e); fails = λ t. absurd (true≢false t) }

runs : (x : Table) → Decides (is_running x) (x ≢ stopped)
runs stopped = record { holds = λ e. absurd (true≢false (sym e)); fails = λ e n. n refl }
runs (running d n) = record { holds = λ e q. clash (cc); fails = λ e. absurd (true≢false e) }

stands_still : (x : Table) → Decides (not (is_running x)) (x ≡ stopped)
stands_still stopped = record { holds = λ e. refl; fails = λ e. absurd (true≢false e) }
stands_still (running d n) = record { holds = λ e. absurd (true≢false (sym e)); fails = λ e q. clash (cc) }

-- whoever is chosen by priority is not time-triggered
pub chosen_untimed : (c : Config) (bs : List Body) → (chosen c bs).timed ≡ false
chosen_untimed c bs = go (chosen_from_lem by_holding refl c bs)
  where
    go : Taken c bs (chosen c bs) → (chosen c bs).timed ≡ false
    go (no_one e) = ap (λ (x : Candidate). x.timed) e
    go (body k h p e) =
        ap (λ (x : Candidate). x.timed) (e ∙ candidate_active c k (get_or bs k no_body) (get_or bs k no_body).phase p)

-- who may call
module _ (c : Config) (s : State) where
  timed : Decides (runner c s).timed (s.order ≢ [])
  timed = go s.order refl
    where
      go : (js : List ℕ) → s.order ≡ js → Decides (runner c s).timed (s.order ≢ [])
      go [] o =
          let free : (runner c s).timed ≡ false =
          ap (λ (x : Candidate). x.timed) (runner_untimed c s o)
          ∙ chosen_untimed c s.bodies in
          record { holds = λ e. absurd (true≢false (sym e ∙ free)); fails = λ e n. n o }
      go (j ∷ js) o =
          let first : (runner c s).timed ≡ true = ap (λ (x : Candidate). x.timed) (runner_timed c s j js o) in
          record { holds = λ e q. clash (cc); fails = λ e. absurd (true≢false (sym first ∙ e)) }

  idle : Decides (is_nobody (runner c s)) (NobodyRuns c s)
  idle = equal (runner c s).level 0

  nobody_calls_lem : Decides (no_caller (runner c s)) (NobodyCalls c s)
  nobody_calls_lem = either idle timed

  pub conditions : Conditions c s
  unfolding step_by
  conditions =
      record {
        one_activate = λ t. given
            (rule 2 nobody_calls_lem (rule 3 (opposite (osek_task c t)) (rule 4 (opposite (suspends (body_of s t).phase)) end)));
        two_finish = given (rule 2 idle (rule 6 (holding (calling c s).held) end));
        three_chain = λ t. given
            (rule 2 (either nobody_calls_lem (isr c (caller c s)))
            (rule 3 (opposite (osek_task c t))
            (rule 6 (holding (calling c s).held)
            (rule 4 (both (opposite (suspends (body_of s t).phase)) (opposite (equal t (caller c s)))) end))));
        four_get = λ r. given
            (rule 2 nobody_calls_lem
            (rule 3 (least c.resources r)
            (rule 33 (opposite (user c r (caller c s))) (rule 1 (held r s.bodies) end))));
        five_release = λ r. given
            (rule 2 nobody_calls_lem
            (rule 3 (least c.resources r) (rule 5 (opposite (latest r (calling c s).held)) end)));
        six_tick = given end;
        seven_line = λ i. given
            (rule 3 (opposite (isr c i)) (rule 4 (requested (body_of s i) (body_of s i).phase refl) end));
        eight_start = λ t d. given
            (rule 2 nobody_calls_lem
            (rule 3 (least c.tables t)
            (rule 8 (either (equal d 0) (less 65535 (d + smallest_offset c t))) (rule 7 (runs (table_of s t)) end))));
        nine_stop = λ t. given
            (rule 2 nobody_calls_lem (rule 3 (least c.tables t) (rule 5 (stands_still (table_of s t)) end)));
        ten_wait = λ w. given
            (rule 2 nobody_calls_lem
            (rule 1 (opposite (extended c (caller c s))) (rule 6 (holding (calling c s).held) end)));
        eleven_set = λ t w. given
            (rule 2 nobody_calls_lem
            (rule 3 (opposite (task c t))
            (rule 1 (opposite (extended c t)) (rule 7 (still_suspended (body_of s t).phase) end))));
        twelve_clear = λ w. given (rule 2 nobody_calls_lem (rule 1 (opposite (extended c (caller c s))) end));
      }
    where
      still_suspended : (p : Phase) → Decides (not (not (is_suspended p))) (p ≡ suspended)
      still_suspended suspended = suspends suspended
      still_suspended ready = suspends ready
      still_suspended started = suspends started
      still_suspended (waiting w) = suspends (waiting w)
      still_suspended (triggered x) = suspends (triggered x)
