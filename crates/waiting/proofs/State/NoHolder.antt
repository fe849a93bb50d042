-- A state in which no resource is held: who runs is the body with the greatest priority of its own.
--
-- In order: nobody holds; such a state (`NoHolder`), and what its changes keep; who leads (`leads`).
use Prim.Native.Nat.{ℕ, zero, suc, ◌≤◌, ◌<◌}
use mathlib.Core.Path.{◌≡◌, refl, sym, ap, ◌∙◌}
use mathlib.Core.Bool.{true, false, true≢false}
use mathlib.Core.List.{List, [], ◌∷◌}
use native.Mathlib.Omega.{arith}
use lib.ListN.{length, get_or, get_or-eq_default}
use Rattle.number.proofs.Cases.{by_lt, by_eq, neither, cond_either}
use Rattle.config.specs.declared.Config.{Config}
use Rattle.config.specs.Meaning.{priority_of}
use Rattle.config.specs.Accepted as Configuration
use Rattle.scheduler.specs.Body.{is_started, competes, Body, holds, activated, ended, finished}
use Rattle.scheduler.specs.Choice.{Candidate, by_holding, chosen, is_nobody}
use Rattle.scheduler.specs.State.{State, no_body, body_of, changing, runner}
use Rattle.scheduler.specs.Call.{finish}
use Rattle.scheduler.proofs.Body.{nothing_held}
use Rattle.scheduler.proofs.Choice.Runner.{Taken, no_one, body, chosen_from_lem, chosen_greatest, chosen_someone, candidate_active, current_free, runner_untimed}
use Rattle.scheduler.proofs.Event.Effects.{body_of_changing_same, body_of_changing_other, length_changing}
use Rattle.waiting.specs.Conditions.{some_hold, resource_held}
use Rattle.waiting.proofs.State.Basic.{BasicBody, BasicState, changing_basic, finished_basic}

-- nobody holds a resource: so no body does
nobody_holds : (bs : List Body) → some_hold bs ≡ false → (i : ℕ) → holds (get_or bs i no_body).held ≡ false
unfolding some_hold
nobody_holds [] h i = refl
nobody_holds (x ∷ xs) h zero = (neither (holds x.held) (some_hold xs) h).0
nobody_holds (x ∷ xs) h (suc i) = nobody_holds xs (neither (holds x.held) (some_hold xs) h).1 i

pub held_none : (s : State) → resource_held s ≡ false → (i : ℕ) → (body_of s i).held ≡ []
held_none s h i = nothing_held (body_of s i).held (nobody_holds s.bodies h i)

some_hold_lem : (bs : List Body) → ((b : ℕ) → (get_or bs b no_body).held ≡ []) → some_hold bs ≡ false
unfolding some_hold
some_hold_lem [] h = refl
some_hold_lem (x ∷ xs) h =
    let here : x.held ≡ [] = h 0 in
    let rest : some_hold xs ≡ false = some_hold_lem xs (λ b. h (suc b)) in
    simp (here, rest)

pub none_held : (s : State) → ((i : ℕ) → (body_of s i).held ≡ []) → resource_held s ≡ false
none_held s = some_hold_lem s.bodies

pub record NoHolder (c : Config) (s : State) : Type 0 where
  pub basic : BasicState s
  pub free : (i : ℕ) → (body_of s i).held ≡ []
  pub size : length s.bodies ≡ c.bodies

-- a body is changed, and gets no resource
pub changing_free : {c : Config} {s : State} → NoHolder c s → (k : ℕ) (f : Body → Body)
    → BasicBody (f (body_of s k))
    → (f (body_of s k)).held ≡ []
    → NoHolder c (changing k f s)
changing_free {c} {s} a k f h e =
    record {
      basic = changing_basic a.basic k f h;
      free = λ i. by_eq i k
          (λ same. by_lt i (length s.bodies)
          (λ fits. rw (← same, body_of_changing_same i f s fits) (rw same e))
          (λ past.
          let beyond : length (changing k f s).bodies ≤ i = rw (length_changing k f s) past in
          rw (get_or-eq_default (changing k f s).bodies no_body beyond) refl))
          (λ other. rw (body_of_changing_other k f s i other) (a.free i));
      size = length_changing k f s ∙ a.size;
    }

pub finish_free : {c : Config} {s : State} → NoHolder c s → (k : ℕ) → NoHolder c (finish k s)
finish_free {c} {s} a k =
    changing_free a k finished (finished_basic (body_of s k))
    (cond_either (λ (y : Body). y.held ≡ []) (body_of s k).pending (activated (ended (body_of s k)))
    (ended (body_of s k)) (a.free k) (a.free k))

-- the body k runs: of those that may it has the greatest priority
pub record Leads (c : Config) (s : State) (k : ℕ) : Type 0 where
  pub fits : k < c.bodies
  pub active : competes (body_of s k).phase ≡ true
  pub top : (i : ℕ) → competes (body_of s i).phase ≡ true → priority_of c i ≤ priority_of c k
  pub is : runner c s
      ≡ record {
        number = k;
        level = priority_of c k;
        began = is_started (body_of s k).phase;
        holder = false;
        timed = false;
      }

module _ (c : Config) (ok : Configuration.Accepted c) {s : State} (a : NoHolder c s) where
  pub active_fits : (i : ℕ) → competes (body_of s i).phase ≡ true → i < c.bodies
  active_fits i h =
      by_lt i (length s.bodies)
      (λ l. rw a.size at l)
      (λ past. absurd
      (true≢false (sym h ∙ ap (λ (x : Body). competes x.phase) (get_or-eq_default s.bodies no_body past))))

  -- where somebody may run, somebody leads
  pub leads : (b : ℕ) → competes (body_of s b).phase ≡ true → (k : ℕ) × Leads c s k
  leads b h = go (chosen_from_lem by_holding refl c s.bodies)
    where
      someone : is_nobody (chosen c s.bodies) ≡ false
      someone = chosen_someone by_holding refl c s.bodies b h (ok.priority_low b (active_fits b h))

      go : Taken c s.bodies (chosen c s.bodies) → (k : ℕ) × Leads c s k
      go (no_one e) = absurd (true≢false (sym (ap is_nobody e) ∙ someone))
      go (body k l p e) =
          let own = current_free c k (body_of s k) (a.free k) in
          let is = e ∙ candidate_active c k (body_of s k) (body_of s k).phase p in
          let level : (chosen c s.bodies).level ≡ priority_of c k =
          ap (λ (x : Candidate). x.level) is ∙ own in (
            k,
            record {
              fits = rw a.size at l;
              active = p;
              top = λ i q.
                  let low = chosen_greatest by_holding refl c s.bodies i q in
                  let free = current_free c i (body_of s i) (a.free i) in
                  omega arith;
              is = runner_untimed c s a.basic.untimed ∙ is ∙ rw (a.free k);
            },
          )
