-- The states before and after an event tell who ended and who became ready, but for a Chain to the caller itself
-- (`both_told` of one event, `states_tell` after a list of events, at the end of the file).
--
-- In order: no request of a task waits (`Quiet`); who runs isn't suspended; who ended is suspended, and the dispatch does
-- not choose it; a Chain to the caller leaves it ready.
use Prim.Native.Nat.{ℕ, ◌<◌}
use mathlib.Core.Path.{◌≡◌, refl, sym, ap, subst, ◌∙◌}
use mathlib.Core.Bool.{Bool, true, false, true≢false, cond, not, ◌&&◌, ◌||◌}
use mathlib.Core.List.{List, [], ◌∷◌}
use mathlib.Core.Logic.{◌≢◌, ◌⊎◌, inl, inr, ⊎_elim}
use native.Mathlib.Omega.{arith}
use borrow.Author.Tests.{eq-eqb, eqb-true, eqb-false}
use lib.Dec.{eqb}
use lib.ListN.{length, get_or, take, get_or-eq_default, get_or-map}
use lib.Seq.{set_out}
use Rattle.number.proofs.Cases.{by_test, by_eq, by_lt, cond_either, and_true}
use Rattle.config.specs.declared.Config.{Config}
use Rattle.config.specs.Meaning.{is_isr}
use Rattle.config.specs.Accepted.{Accepted, Shaped}
use Rattle.scheduler.specs.Bits.{any_set}
use Rattle.scheduler.specs.Status.{done}
use Rattle.scheduler.specs.Body.{Phase, suspended, ready, started, waiting, triggered, is_suspended, competes, Body, become, activated, triggers, rest, ended, finished, requested, gets, releases, loses, waits, receives, clears}
use Rattle.scheduler.specs.Choice.{is_nobody, by_holding, chosen}
use Rattle.scheduler.specs.State.{State, no_body, body_of, changing, runner, among}
use Rattle.scheduler.specs.Event.{Event, Activate, Finish, Chain, Get, Release, Tick, Line, Start, Stop, Wait, Set, Clear}
use Rattle.scheduler.specs.Call.{active, caller, finish, finish_timed, status_of, effect_of, else_of}
use Rattle.scheduler.specs.Tick.{counted, dues}
use Rattle.scheduler.specs.Scheduler.{begins, phase_begun, new_body, unstarted, step_by, leaves, dispatched, fresh, after, after_by}
use Rattle.scheduler.specs.History.{next}
use Rattle.scheduler.proofs.Choice.Runner.{Taken, no_one, body, chosen_from_lem, candidate_active, runner_timed, runner_untimed}
use Rattle.scheduler.proofs.Event.Checks.{finish_passed, chain_passed, line_passed, accepted_untimed}
use Rattle.scheduler.proofs.Event.Effects.{body_of_changing_same, body_of_changing_other, length_changing, else_of_keeps, entered, activating_due_keeps}
use Rattle.scheduler.proofs.Choice.Dispatch.{begins_some}
use Rattle.scheduler.proofs.Members.{Distinct, among_head}
use Rattle.scheduler.proofs.Order.Invariant.{Orderly, orderly_fresh, orderly_after}
use Rattle.deadlines.specs.Activation.{is_end, ends_at, ready_at, chains_to, chains_itself}
use Rattle.deadlines.proofs.Active.{Awake, dispatched_awake, active_until_end}

-- no request of the body b waits
abbrev Quiet : ℕ → State → Type 0
Quiet b s = (body_of s b).pending ≡ false

abbrev KeepsQuiet : (Body → Body) → Type 0
KeepsQuiet f = (x : Body) → x.pending ≡ false → (f x).pending ≡ false

finished_quiet : KeepsQuiet finished
finished_quiet x h = cond_either (λ (y : Body). y.pending ≡ false) x.pending (activated (ended x)) (ended x) refl refl

waits_quiet : (w : ℕ) → KeepsQuiet (waits w)
waits_quiet w x h = cond_either (λ (y : Body). y.pending ≡ false) (any_set x.bits w) x (become (waiting w) x) h h

entered_quiet : (t : Bool) → KeepsQuiet (entered t)
entered_quiet true x h =
    cond_either (λ (y : Body). y.pending ≡ false) (is_suspended x.phase) (triggers x) (loses x) h h
entered_quiet false x h =
    cond_either (λ (y : Body). y.pending ≡ false) (is_suspended x.phase) (activated x) (loses x) h h

module _ (c : Config) (b : ℕ) (task : is_isr c b ≡ false) where
  quiet_other : (i : ℕ) (f : Body → Body) (s : State) → b ≢ i → Quiet b s → Quiet b (changing i f s)
  quiet_other i f s d h = ap (λ (x : Body). x.pending) (body_of_changing_other i f s b d) ∙ h

  quiet_changing : (i : ℕ) (f : Body → Body) (s : State) → KeepsQuiet f → Quiet b s → Quiet b (changing i f s)
  quiet_changing i f s keeps h = by_eq b i (λ e. same i (sym e)) (λ d. quiet_other i f s d h)
    where
      itself : Quiet b (changing b f s)
      itself =
          by_lt b (length s.bodies)
          (λ fits. ap (λ (x : Body). x.pending) (body_of_changing_same b f s fits) ∙ keeps (body_of s b) h)
          (λ past.
          ap (λ (bs : List Body). (get_or bs b no_body).pending) (set_out s.bodies b (f (body_of s b)) past) ∙ h)

      same : (i : ℕ) → i ≡ b → Quiet b (changing i f s)
      same i e = rw e itself

  quiet_effect : (s : State) (e : Event) → status_of c s e ≡ done → Quiet b s → Quiet b (effect_of c s e)
  quiet_effect s (Activate t) ok h = quiet_changing t activated s (λ x w. w) h
  quiet_effect s Finish ok h =
      cond_either (Quiet b) (runner c s).timed (finish_timed (caller c s) s) (finish (caller c s) s)
      (quiet_changing (caller c s) finished s finished_quiet h)
      (quiet_changing (caller c s) finished s finished_quiet h)
  quiet_effect s (Chain t) ok h =
      quiet_changing t activated (finish (caller c s) s) (λ x w. w)
      (quiet_changing (caller c s) finished s finished_quiet h)
  quiet_effect s (Get r) ok h = quiet_changing (caller c s) (gets r) s (λ x w. w) h
  quiet_effect s (Release r) ok h = quiet_changing (caller c s) releases s (λ x w. w) h
  quiet_effect s Tick ok h =
      activating_due_keeps c (Quiet b) (λ js x w. w) (λ t y x w. quiet_changing t (entered y) x (entered_quiet y) w)
      (dues c (counted s)) c.task (counted s) h
  quiet_effect s (Line i) ok h =
      quiet_other i requested s
      (λ e. true≢false (sym (line_passed c s i ok).0 ∙ sym (ap (is_isr c) e) ∙ task)) h
  quiet_effect s (Start t d) ok h = h
  quiet_effect s (Stop t) ok h = h
  quiet_effect s (Wait w) ok h = quiet_changing (caller c s) (waits w) s (waits_quiet w) h
  quiet_effect s (Set t w) ok h = quiet_changing t (receives w) s (λ x v. v) h
  quiet_effect s (Clear w) ok h = quiet_changing (caller c s) (clears w) s (λ x v. v) h

  quiet_dispatched : (s : State) → Quiet b s → Quiet b (dispatched c s)
  quiet_dispatched s h =
      cond_either (Quiet b) (begins (runner c s)) _ s
      (quiet_changing (runner c s).number (become (phase_begun (runner c s))) s (λ x w. w) h)
      h

  quiet_step : (s : State) (e : Event) → Quiet b s → Quiet b (next c s e)
  unfolding step_by
  quiet_step s e h =
      quiet_dispatched (leaves c s e)
      (by_test (eqb (status_of c s e) done)
      (λ ok. rw ok (quiet_effect s e (eqb-true _ _ ok) h))
      (λ bad. rw bad
      (else_of_keeps c s (Quiet b) h (status_of c s e) e (λ i _ _ _. quiet_changing i loses s (λ x w. w) h))))

  quiet_after : (es : List Event) (s : State) → Quiet b s → Quiet b (after c s es)
  unfolding after_by
  quiet_after [] s h = h
  quiet_after (e ∷ es) s h = quiet_after es (next c s e) (quiet_step s e h)

  quiet_fresh : Quiet b (fresh c)
  quiet_fresh =
      quiet_dispatched (unstarted c)
      (ap (λ (x : Body). x.pending) (get_or-map new_body (take c.bodies c.autostart) b 0)
      ∙ cond_either (λ (x : Body). x.pending ≡ false) (eqb (get_or (take c.bodies c.autostart) b 0) 1)
      (activated no_body) no_body refl refl)

-- who runs isn't suspended
competes_awake : (p : Phase) → competes p ≡ true → is_suspended p ≡ false
competes_awake suspended h = sym h
competes_awake ready h = refl
competes_awake started h = refl
competes_awake (waiting w) h = refl
competes_awake (triggered x) h = refl

module _ (c : Config) (s : State) where
  runner_awake : ((j : ℕ) (js : List ℕ) → s.order ≡ j ∷ js → Awake j s) → is_nobody (runner c s) ≡ false
      → Awake (caller c s) s
  runner_awake timed some = by_order s.order refl
    where
      go : s.order ≡ [] → Taken c s.bodies (chosen c s.bodies) → Awake (caller c s) s
      go o (no_one z) = absurd (true≢false (sym (ap is_nobody (runner_untimed c s o ∙ z)) ∙ some))
      go o (body k h p z) =
          let is = runner_untimed c s o ∙ z ∙ candidate_active c k (body_of s k) (body_of s k).phase p in
          ap (λ n. is_suspended (body_of s n).phase) (ap (λ x. x.number) is) ∙ competes_awake (body_of s k).phase p

      by_order : (js : List ℕ) → s.order ≡ js → Awake (caller c s) s
      by_order [] o = go o (chosen_from_lem by_holding refl c s.bodies)
      by_order (j ∷ js) o =
          ap (λ n. is_suspended (body_of s n).phase) (ap (λ x. x.number) (runner_timed c s j js o)) ∙ timed j js o

  -- a suspended body that isn't among the started time-triggered ones is not chosen
  dispatched_asleep : (b : ℕ) → is_suspended (body_of s b).phase ≡ true
      → ((j : ℕ) (js : List ℕ) → s.order ≡ j ∷ js → b ≢ j)
      → is_suspended (body_of (dispatched c s) b).phase ≡ true
  dispatched_asleep b h apart =
      by_test (begins (runner c s))
      (λ going. rw going
      (ap (λ (x : Body). is_suspended x.phase)
      (body_of_changing_other (runner c s).number (become (phase_begun (runner c s))) s b (other going)) ∙ h))
      (λ none. rw none h)
    where
      go : begins (runner c s) ≡ true → s.order ≡ [] → Taken c s.bodies (chosen c s.bodies)
          → b ≢ (runner c s).number
      go going o (no_one z) e =
          true≢false (sym (ap is_nobody (runner_untimed c s o ∙ z)) ∙ (begins_some (runner c s) going).0)
      go going o (body k m p z) e =
          let is = runner_untimed c s o ∙ z ∙ candidate_active c k (body_of s k) (body_of s k).phase p in
          true≢false
          (sym h ∙ ap (λ n. is_suspended (body_of s n).phase) (e ∙ ap (λ x. x.number) is)
          ∙ competes_awake (body_of s k).phase p)

      by_order : begins (runner c s) ≡ true → (js : List ℕ) → s.order ≡ js → b ≢ (runner c s).number
      by_order going [] o e = go going o (chosen_from_lem by_holding refl c s.bodies) e
      by_order going (j ∷ js) o e = apart j js o (e ∙ ap (λ x. x.number) (runner_timed c s j js o))

      other : begins (runner c s) ≡ true → b ≢ (runner c s).number
      other going e = by_order going s.order refl e

  -- a body of which no request waits is suspended once it has ended
  finished_asleep : (b : ℕ) → Quiet b s → is_suspended (body_of (changing b finished s) b).phase ≡ true
  finished_asleep b quiet =
      by_lt b (length s.bodies)
      (λ fits. ap (λ (x : Body). is_suspended x.phase) (body_of_changing_same b finished s fits) ∙ rw quiet)
      (λ past. ap (λ (x : Body). is_suspended x.phase)
      (ap (λ (bs : List Body). get_or bs b no_body) (set_out s.bodies b (finished (body_of s b)) past)
      ∙ get_or-eq_default s.bodies no_body past))

  awake_fits : (b : ℕ) → Awake b s → b < length s.bodies
  awake_fits b h =
      by_lt b (length s.bodies)
      (λ fits. fits)
      (λ past. absurd (true≢false
      (sym (ap (λ (x : Body). is_suspended x.phase) (get_or-eq_default s.bodies no_body past)) ∙ h)))

-- Finish and Chain
end_cases : (e : Event) → is_end e ≡ true → (e ≡ Finish) ⊎ ((t : ℕ) × (e ≡ Chain t))
end_cases (Activate t) h = absurd (true≢false (sym h))
end_cases Finish h = inl refl
end_cases (Chain t) h = inr (t, refl)
end_cases (Get r) h = absurd (true≢false (sym h))
end_cases (Release r) h = absurd (true≢false (sym h))
end_cases Tick h = absurd (true≢false (sym h))
end_cases (Line i) h = absurd (true≢false (sym h))
end_cases (Start t d) h = absurd (true≢false (sym h))
end_cases (Stop t) h = absurd (true≢false (sym h))
end_cases (Wait w) h = absurd (true≢false (sym h))
end_cases (Set t w) h = absurd (true≢false (sym h))
end_cases (Clear w) h = absurd (true≢false (sym h))

cons_clash : {C : Type 0} {j : ℕ} {js l : List ℕ} → l ≡ [] → l ≡ j ∷ js → C
cons_clash p q = absurd (let z : ◌≡◌ {A = ℕ} 0 1 = cc in omega arith)

not_latest : (k j : ℕ) (ks js l : List ℕ) → l ≡ k ∷ ks → Distinct l → rest l ≡ j ∷ js → k ≢ j
not_latest k j ks js l e d f same =
    let tail : ks ≡ j ∷ js = sym (ap rest e) ∙ f in
    let apart : among k ks ≡ false = (rw e at d).0 in
    true≢false (sym (among_head j js) ∙ ap (λ i. among i (j ∷ js)) (sym same) ∙ ap (among k) (sym tail) ∙ apart)

-- the caller ends
module _ (c : Config) (s : State) (o : Orderly c s) (quiet : Quiet (caller c s) s) where
  timed_awake : (j : ℕ) (js : List ℕ) → s.order ≡ j ∷ js → Awake j s
  timed_awake j js e = ap is_suspended (o.started_begun j (rw e (among_head j js)))

  -- the caller is suspended, and not the latest started one
  abbrev Away : State → Type 0
  Away x =
      (is_suspended (body_of x (caller c s)).phase ≡ true)
      × ((j : ℕ) (js : List ℕ) → x.order ≡ j ∷ js → caller c s ≢ j)

  away_finish : Away (effect_of c s Finish)
  away_finish = by_order s.order refl
    where
      by_order : (js : List ℕ) → s.order ≡ js → Away (effect_of c s Finish)
      by_order [] e =
          cond_either Away (runner c s).timed (finish_timed (caller c s) s) (finish (caller c s) s)
          (finished_asleep c s (caller c s) quiet, λ j js f. cons_clash (ap rest e) f)
          (finished_asleep c s (caller c s) quiet, λ j js f. cons_clash e f)
      by_order (k ∷ ks) e =
          let is = runner_timed c s k ks e in
          rw (ap (λ x. x.timed) is) (
            finished_asleep c s (caller c s) quiet,
            λ j js f same.
                not_latest k j ks js s.order e o.none_twice f
                (sym (ap (λ x. x.number) is) ∙ same),
          )

  ended_asleep : is_suspended (body_of (dispatched c (effect_of c s Finish)) (caller c s)).phase ≡ true
  ended_asleep = dispatched_asleep c (effect_of c s Finish) (caller c s) away_finish.0 away_finish.1

  chained_asleep : (t : ℕ) → status_of c s (Chain t) ≡ done → t ≢ caller c s
      → is_suspended (body_of (dispatched c (effect_of c s (Chain t))) (caller c s)).phase ≡ true
  unfolding step_by
  chained_asleep t ok d =
      dispatched_asleep c (effect_of c s (Chain t)) (caller c s)
      (ap (λ (x : Body). is_suspended x.phase)
      (body_of_changing_other t activated (finish (caller c s) s) (caller c s) (λ e. d (sym e)))
      ∙ finished_asleep c s (caller c s) quiet)
      (λ j js f. cons_clash (accepted_untimed c s (Chain t) refl ok) f)

  chained_awake : Awake (caller c s) s → Awake (caller c s) (dispatched c (effect_of c s (Chain (caller c s))))
  chained_awake h =
      dispatched_awake (caller c s) c (effect_of c s (Chain (caller c s)))
      (ap (λ (x : Body). is_suspended x.phase)
      (body_of_changing_same (caller c s) activated (finish (caller c s) s)
      (rw (length_changing (caller c s) finished s) (awake_fits c s (caller c s) h))))

accepted_next : (c : Config) (s : State) (e : Event) → status_of c s e ≡ done → next c s e ≡ dispatched c (effect_of c s e)
unfolding step_by
accepted_next c s e ok = ap (dispatched c) (leaves_effect (status_of c s e) ok)
  where
    leaves_effect : (st : ℕ) → st ≡ done → cond (eqb st done) (effect_of c s e) (else_of c s (status_of c s e) e) ≡ effect_of c s e
    leaves_effect st ok = rw (eq-eqb st done ok)

module _ (c : Config) (s : State) (o : Orderly c s) (e : Event) where
  pub some_runs : is_end e ≡ true → status_of c s e ≡ done → is_nobody (runner c s) ≡ false
  some_runs is ok =
      ⊎_elim
      (λ f. (finish_passed c s (rw f at ok)).0)
      (λ f. (chain_passed c s f.0 (rw f.1 at ok)).0)
      (end_cases e is)

  -- who ends its body wasn't suspended
  caller_awake : is_end e ≡ true → status_of c s e ≡ done → Awake (caller c s) s
  caller_awake is ok = runner_awake c s (λ j js q. ap is_suspended (o.started_begun j (rw q (among_head j js)))) (some_runs is ok)

  module _ (quiet : Quiet (caller c s) s) where
    caller_asleep : is_end e ≡ true → status_of c s e ≡ done → chains_to (caller c s) e ≡ false
        → is_suspended (body_of (next c s e) (caller c s)).phase ≡ true
    caller_asleep is ok other =
        rw (accepted_next c s e ok)
        (⊎_elim
        (λ f. rw f (ended_asleep c s o quiet))
        (λ f. rw f.1
        (chained_asleep c s o quiet f.0 (rw f.1 at ok) (eqb-false f.0 (caller c s) (rw f.1 at other))))
        (end_cases e is))

    caller_anew : is_end e ≡ true → status_of c s e ≡ done → chains_to (caller c s) e ≡ true
        → Awake (caller c s) (next c s e)
    caller_anew is ok itself =
        rw (accepted_next c s e ok)
        (⊎_elim
        (λ f. absurd (true≢false (sym (rw f at itself))))
        (λ f. rw (f.1, eqb-true f.0 (caller c s) (rw f.1 at itself))
        (chained_awake c s o quiet (caller_awake is ok)))
        (end_cases e is))

-- of a task
module _ (c : Config) (s : State) (o : Orderly c s) (b : ℕ) (quiet : Quiet b s) (e : Event) where
  ended_parts : ends_at c s e b ≡ true → (is_end e ≡ true) × (status_of c s e ≡ done) × (caller c s ≡ b)
  unfolding ends_at step_by
  ended_parts h =
      let p = and_true (is_end e) _ h in
      let q = and_true (eqb (status_of c s e) done) _ p.1 in
      (p.0, eqb-true _ _ q.0, eqb-true _ _ q.1)

  ended_active : ends_at c s e b ≡ true → active s b ≡ true
  ended_active h =
      let p = ended_parts h in
      subst (λ k. active s k ≡ true) p.2 (ap not (caller_awake c s o e p.0 p.1))

  ended_inactive : ends_at c s e b ≡ true → chains_to b e ≡ false → active (next c s e) b ≡ false
  ended_inactive h other =
      let p = ended_parts h in
      subst (λ k. Quiet k s → chains_to k e ≡ false → active (next c s e) k ≡ false) p.2
      (λ q n. ap not (caller_asleep c s o e q p.0 p.1 n))
      quiet
      other

  anew_active : ends_at c s e b ≡ true → chains_to b e ≡ true → active (next c s e) b ≡ true
  anew_active h itself =
      let p = ended_parts h in
      subst (λ k. Quiet k s → chains_to k e ≡ true → active (next c s e) k ≡ true) p.2
      (λ q n. ap not (caller_anew c s o e q p.0 p.1 n))
      quiet
      itself

  -- x: active before; y: active after; q: ended; t: by a Chain to itself
  told : (x y q t : Bool) → (q ≡ true → x ≡ true) → (q ≡ true → t ≡ false → y ≡ false) → (q ≡ true → t ≡ true → y ≡ true)
      → (x ≡ true → q ≡ false → y ≡ true)
      → (q ≡ (x && not y) || (t && q)) × (y && (not x || q) ≡ (y && not x) || (t && q))
  told true true true true was ends anew stays = (refl, refl)
  told true true true false was ends anew stays = absurd (true≢false (ends refl refl))
  told true true false true was ends anew stays = (refl, refl)
  told true true false false was ends anew stays = (refl, refl)
  told true false true true was ends anew stays = absurd (true≢false (sym (anew refl refl)))
  told true false true false was ends anew stays = (refl, refl)
  told true false false t was ends anew stays = absurd (true≢false (sym (stays refl refl)))
  told false y true t was ends anew stays = absurd (true≢false (sym (was refl)))
  told false true false true was ends anew stays = (refl, refl)
  told false true false false was ends anew stays = (refl, refl)
  told false false false true was ends anew stays = (refl, refl)
  told false false false false was ends anew stays = (refl, refl)

  pub both_told : (ends_at c s e b ≡ (active s b && not (active (next c s e) b)) || chains_itself c s e b)
      × (ready_at c s e b ≡ (active (next c s e) b && not (active s b)) || chains_itself c s e b)
  unfolding ready_at chains_itself
  both_told =
      told (active s b) (active (next c s e) b) (ends_at c s e b) (chains_to b e) ended_active ended_inactive anew_active
      (active_until_end b c s e)

-- after every list of events
pub states_tell : (c : Config) → Accepted c → Shaped c → (b : ℕ) → is_isr c b ≡ false → (es : List Event) (e : Event)
    → (ends_at c (after c (fresh c) es) e b
    ≡ (active (after c (fresh c) es) b && not (active (next c (after c (fresh c) es) e) b))
    || chains_itself c (after c (fresh c) es) e b)
    × (ready_at c (after c (fresh c) es) e b
    ≡ (active (next c (after c (fresh c) es) e) b && not (active (after c (fresh c) es) b))
    || chains_itself c (after c (fresh c) es) e b)
states_tell c ok shaped b task es e =
    both_told c (after c (fresh c) es) (orderly_after c ok shaped es (orderly_fresh c ok shaped)) b
    (quiet_after c b task es (fresh c) (quiet_fresh c b task)) e
