-- Who holds a resource while another body runs, and what a Get by a declared user is refused for.
--
--   holder_below      the runner's own priority, or a time-triggered task's trigger level, is above the level of every
--                     other body that holds a resource
--   declared_refused  so a declared user is refused a resource only where it holds it itself
--
-- and the same of the machine's slots: `slot_below`, `slot_user`, `machine_refused`. All for a model that stands for a
-- state, whatever the kinds of its bodies.
use Prim.Native.Nat.{ℕ, zero, suc, ◌≤◌, ◌<◌}
use mathlib.Core.Path.{◌≡◌, refl, sym, ap, ◌∙◌}
use mathlib.Core.Logic.{◌≢◌, ◌⊎◌, inl, inr, ⊎_elim}
use mathlib.Core.Bool.{Bool, true, false, true≢false, cond}
use mathlib.Core.List.{List, [], ◌∷◌, ◌++◌}
use native.Mathlib.Omega.{arith}
use borrow.Author.Tests.{lt-leb, ltb-true}
use lib.Dec.{ltb}
use lib.ListN.{get_or}
use Rattle.number.proofs.Cases.{by_eq, and_true, refuted}
use Rattle.config.specs.declared.Config.{Config}
use Rattle.config.specs.Value.{max_priority}
use Rattle.config.specs.Meaning.{trigger_level, is_timed, is_user, priority_of, ceiling}
use Rattle.config.proofs.Theorems.{timed_no_user}
use Rattle.plan.specs.declared.Plan.{Plan}
use Rattle.plan.specs.Plan.{trigger_of}
use Rattle.plan.proofs.Fitted.{Fitted}
use Rattle.word.specs.Word.{has}
use Rattle.stack.specs.Stack.{row_bytes}
use Rattle.scheduler.specs.Status.{done, access, first_given}
use Rattle.scheduler.specs.Body.{Body, current}
use Rattle.scheduler.specs.Choice.{Candidate}
use Rattle.scheduler.specs.State.{State, body_of, among, held_in}
use Rattle.scheduler.specs.Call.{nobody_runs, nobody_calls, caller, calling, get_status}
use Rattle.scheduler.specs.Scheduler.{Get, Seen, step_by}
use Rattle.scheduler.proofs.Body.{started_competes}
use Rattle.scheduler.proofs.Choice.Runner.{current_held}
use Rattle.scheduler.proofs.Members.{among_head, among_tail, by_among}
use Rattle.scheduler.proofs.Resource.Users.{held_by}
use Rattle.machine.specs.Model.{Model, no_rank}
use Rattle.machine.specs.Events.{idles}
use Rattle.machine.specs.Machine.{machine_step, runner_of}
use Rattle.machine.proofs.Relation.Words.{at}
use Rattle.machine.proofs.Relation.Slots.{Slot, slots_for, slots_along, resources_in, holders_in, levels_in, level_with}
use Rattle.machine.proofs.Relation.Nest.{Nested, Seats, nest_level, nest_exists}
use Rattle.machine.proofs.Relation.Kinds.{trigger_plain, trigger_timed}
use Rattle.machine.proofs.Relation.Order.{latest_timed, latest_exists, plain_competes}
use Rattle.machine.proofs.Relation.Whole.{Tied, Sim, latest_seat}
use Rattle.machine.proofs.Arbitration.Seat.{current_few}
use Rattle.machine.proofs.Arbitration.Choice.{chosen_seated}
use Rattle.machine.proofs.Arbitration.Dispatch.{runner_of_is}
use Rattle.machine.proofs.Change.Hold.{slots_are}
use Rattle.machine.proofs.Event.Agrees.{runner_is, by_runner}
use Rattle.machine.proofs.Event.Resources.{holder_nested}
use Rattle.machine.proofs.Whole.Lists.{event_agrees}

-- a declared user's resource exists
user_exists : (c : Config) (r b : ℕ) → is_user c r b ≡ true → r < c.resources
user_exists c r b u = ltb-true r c.resources (and_true (ltb r c.resources) _ u).0

module _ (c : Config) (rk : ℕ → ℕ) where
  -- the slot of a resource that body b holds; ys: the slots below its own
  slot_at : (b r : ℕ) (rs : List ℕ) (ys : List Slot) → among r rs ≡ true
      → (k : ℕ)
      × (get_or (resources_in (slots_for c rk b rs ++ ys)) k no_rank ≡ r)
      × (get_or (holders_in (slots_for c rk b rs ++ ys)) k no_rank ≡ rk b)
  unfolding slots_for among
  slot_at b r [] ys h = absurd (true≢false (sym h))
  slot_at b r (x ∷ rs) ys h =
      by_among r x rs h
      (λ e. (0, sym e, refl))
      (λ _ q. let k = slot_at b r rs ys q in (suc k.0, k.1, k.2))

  module _ (bs : List Body) where
    -- the k-th of the slots ss is none, or that of a body of the nest, which holds its resource and whose level is not
    -- below the slot's
    abbrev SlotOf : List ℕ → List Slot → ℕ → Type 0
    SlotOf ns ss k =
        (get_or (holders_in ss) k no_rank ≡ no_rank)
        ⊎ ((i : ℕ)
        × (among i ns ≡ true)
        × (get_or (holders_in ss) k no_rank ≡ rk i)
        × (get_or (levels_in ss) k no_rank ≤ current c i (at bs i))
        × (among (get_or (resources_in ss) k no_rank) (at bs i).held ≡ true))

    along_slot : (ns : List ℕ) (k : ℕ) → SlotOf ns (slots_along c rk bs ns) k
    unfolding slots_along slots_for
    along_slot [] k = inl refl
    along_slot (b ∷ ns) k = go (along_slot ns) (at bs b).held k (omega arith) (λ _ h. h)
      where
        wider : (j : ℕ) → SlotOf ns (slots_along c rk bs ns) j → SlotOf (b ∷ ns) (slots_along c rk bs ns) j
        wider j s = ⊎_elim (λ e. inl e) (λ x. inr (x.0, among_tail x.0 b ns x.1, x.2, x.3, x.4)) s

        go : ((j : ℕ) → SlotOf ns (slots_along c rk bs ns) j)
            → (rs : List ℕ) (j : ℕ) → level_with c b rs ≤ current c b (at bs b)
            → ((q : ℕ) → among q rs ≡ true → among q (at bs b).held ≡ true)
            → SlotOf (b ∷ ns) (slots_for c rk b rs ++ slots_along c rk bs ns) j
        go below [] j low own = wider j (below j)
        go below (r ∷ rs) zero low own = inr (b, among_head b ns, refl, low, own r (among_head r rs))
        go below (r ∷ rs) (suc j) low own = go below rs j (omega arith) (λ q h. own q (among_tail q r rs h))

module _ {c : Config} {p : Plan} {rk : ℕ → ℕ} (fit : Fitted c p rk) {m : Model} {s : State} (sim : Sim c p rk m s) where
  -- of the nest all but the first are below the first one's own priority
  nest_below : (b : ℕ) (ns : List ℕ) → Nested c s.bodies (b ∷ ns) → (i : ℕ) → among i (b ∷ ns) ≡ true → i ≢ b
      → current c i (body_of s i) < priority_of c b
  unfolding Nested
  nest_below b ns k i h other =
      by_among i b ns h
      (λ e. absurd (other e))
      (λ _ q. omega (arith, nest_level c s.bodies i ns k.1.1.1 q, k.1.1.0))

  -- the first of a nest is started, so that its own priority is what it is compared by
  nested_plain : (b : ℕ) (ns : List ℕ) → Nested c s.bodies (b ∷ ns) → trigger_of c b ≡ priority_of c b
  unfolding Nested
  nested_plain b ns k =
      trigger_plain c b k.0 (plain_competes sim.orderly b (started_competes (body_of s b).phase k.1.0))

  -- whoever holds a resource is a body of the nest
  holder_few : (i r : ℕ) → among r (body_of s i).held ≡ true → current c i (body_of s i) ≤ max_priority
  holder_few i r h =
      current_few fit i (body_of s i)
      (nest_exists c s.bodies i sim.nest sim.tied.nested (holder_nested sim.tied r i h))

  -- a time-triggered task that runs is compared by its trigger level
  module _ (j : ℕ) (js : List ℕ) (e : s.order ≡ j ∷ js) where
    timed_caller : caller c s ≡ j
    timed_caller = ap (λ (x : Candidate). x.number) (runner_is c s e)

    timed_trigger : trigger_of c j ≡ trigger_level
    timed_trigger = trigger_timed c j (latest_exists sim.orderly j js e) (latest_timed sim.orderly j js e)

  -- where nobody runs nothing is held, so the law has no case for it
  pub holder_below : (i r : ℕ) → i ≢ caller c s → among r (body_of s i).held ≡ true
      → current c i (body_of s i) < trigger_of c (caller c s)
  unfolding among
  holder_below i r other h = by s.order refl
    where
      go : s.order ≡ [] → (ns : List ℕ) → Tied c rk m s.bodies [] ns
          → current c i (body_of s i) < trigger_of c (caller c s)
      go e [] t = absurd (true≢false (sym (holder_nested t r i h)))
      go e (b ∷ ns) t =
          let runs = runner_is c s e ∙ chosen_seated fit t sim.calm b ns refl in
          let calls : caller c s ≡ b = ap (λ (x : Candidate). x.number) runs in
          rw (calls, nested_plain b ns t.nested)
          (nest_below b ns t.nested i (holder_nested t r i h) (λ e. other (e ∙ sym calls)))

      by : (js : List ℕ) → s.order ≡ js → current c i (body_of s i) < trigger_of c (caller c s)
      by [] e = go e sim.nest (rw e at sim.tied)
      by (j ∷ js) e = rw (timed_caller j js e) (omega (arith, holder_few i r h, timed_trigger j js e))

  pub ceiling_below : (i r : ℕ) → i ≢ caller c s → among r (body_of s i).held ≡ true
      → ceiling c r < trigger_of c (caller c s)
  ceiling_below i r other h = omega (arith, holder_below i r other h, current_held c i (body_of s i) r h)

  -- a declared user is no time-triggered task
  user_untimed : (r b : ℕ) → is_user c r b ≡ true → is_timed c b ≡ false
  user_untimed r b u =
      refuted (is_timed c b) (λ e. true≢false (sym u ∙ timed_no_user c fit.accepted r b e))

  user_waits : (r j : ℕ) (js : List ℕ) → s.order ≡ j ∷ js → is_user c r j ≡ true → ⊥
  user_waits r j js e u = true≢false (sym (latest_timed sim.orderly j js e) ∙ user_untimed r j u)

  -- the runner itself holds what a declared user is refused
  own_held : (r : ℕ) → caller c s < c.bodies → is_user c r (caller c s) ≡ true → held_in r s.bodies ≡ true
      → among r (calling c s).held ≡ true
  own_held r exists user h =
      let x = held_by r s.bodies h in
      by_eq x.0 (caller c s)
      (λ same. rw same at x.2)
      (λ other. absurd (omega (
        arith,
        ceiling_below x.0 r other x.2,
        fit.user_ceiling r (caller c s) exists user,
        trigger_plain c (caller c s) exists (user_untimed r (caller c s) user),
      )))

  pub declared_refused : (r : ℕ) → nobody_runs c s ≡ false → is_user c r (caller c s) ≡ true → get_status c s r ≢ done
      → (get_status c s r ≡ access) × (among r (calling c s).held ≡ true)
  unfolding first_given
  declared_refused r somebody user refused = go (held_in r s.bodies) refl
    where
      exists : caller c s < c.bodies
      exists =
          by_runner fit sim
          (λ _ n. absurd (true≢false (sym n ∙ somebody)))
          (λ b ns k. rw k.calls k.exists)
          (λ j js k. rw k.calls k.exists)

      -- a declared user may call
      calls : nobody_calls c s ≡ false
      calls =
          by_runner fit sim
          (λ _ n. absurd (true≢false (sym n ∙ somebody)))
          (λ b ns k. k.calls_there)
          (λ j js k. absurd (user_waits r j js k.order_is (ap (is_user c r) (sym k.calls) ∙ user)))

      checked : (b : Bool) → held_in r s.bodies ≡ b → get_status c s r ≡ cond b access done
      checked b e = rw (calls, lt-leb c.resources r (user_exists c r (caller c s) user), user, e)

      go : (b : Bool) → held_in r s.bodies ≡ b → (get_status c s r ≡ access) × (among r (calling c s).held ≡ true)
      go true e = (checked true e, own_held r exists user e)
      go false e = absurd (refused (checked false e))

  -- the machine in its own words: the k-th slot's resource, holder and level
  abbrev resource_at : ℕ → ℕ
  resource_at k = get_or (row_bytes m.resource) k no_rank

  abbrev holder_at : ℕ → ℕ
  holder_at k = get_or (row_bytes m.holder) k no_rank

  abbrev raised_at : ℕ → ℕ
  raised_at k = get_or (row_bytes m.raised) k no_rank

  -- a slot of another holder has a level below the runner's own priority
  pub slot_below : (k : ℕ) → holder_at k ≢ no_rank → holder_at k ≢ m.core.runner
      → raised_at k < get_or p.priority m.core.runner 0
  unfolding slots_along Nested Seats
  slot_below k some other = by s.order refl
    where
      go : (ns : List ℕ) → Tied c rk m s.bodies [] ns → raised_at k < get_or p.priority m.core.runner 0
      go [] t = absurd (some (t.slots.holders.at k))
      go (b ∷ ns) t =
          ⊎_elim
          (λ e. absurd (some (t.slots.holders.at k ∙ e)))
          (λ x.
          let another : x.0 ≢ b = λ e. other (t.slots.holders.at k ∙ x.2 ∙ ap rk e ∙ sym t.seats.0) in
          let low = nest_below b ns t.nested x.0 x.1 another in
          rw (t.slots.levels.at k, t.seats.0, fit.priority_at_lem b t.nested.0, nested_plain b ns t.nested)
          (omega (arith, low, x.3)))
          (along_slot c rk s.bodies (b ∷ ns) k)

      by : (js : List ℕ) → s.order ≡ js → raised_at k < get_or p.priority m.core.runner 0
      by [] e = go sim.nest (rw e at sim.tied)
      by (j ∷ js) e =
          ⊎_elim
          (λ z. absurd (some (sim.tied.slots.holders.at k ∙ z)))
          (λ x.
          let seat = latest_seat (rw e at sim.tied) in
          let i< = nest_exists c s.bodies x.0 sim.nest sim.tied.nested x.1 in
          let trigger = fit.priority_at_lem j (latest_exists sim.orderly j js e) in
          rw (sim.tied.slots.levels.at k, seat.0, trigger, timed_trigger j js e)
          (omega (arith, x.3, current_few fit x.0 (body_of s x.0) i<)))
          (along_slot c rk s.bodies sim.nest k)

  -- and where only declared users hold resources, the rank of a slot's holder is in the word of its resource
  pub slot_user : ((i r : ℕ) → among r (body_of s i).held ≡ true → is_user c r i ≡ true)
      → (k : ℕ) → holder_at k ≢ no_rank → has (get_or p.users (resource_at k) 0) (holder_at k) ≡ true
  slot_user declared k some =
      ⊎_elim
      (λ e. absurd (some (sim.tied.slots.holders.at k ∙ e)))
      (λ x.
      let u = declared x.0 _ x.4 in
      let i< = nest_exists c s.bodies x.0 sim.nest sim.tied.nested x.1 in
      rw (sim.tied.slots.holders.at k, sim.tied.slots.resources.at k, x.2)
      (fit.users_at_lem _ x.0 (user_exists c _ x.0 u) i< ∙ u))
      (along_slot c rk s.bodies sim.nest k)

  -- a Get by a declared user is refused with 1, and a slot of that resource has the runner's rank
  pub machine_refused : (r : ℕ) → idles m ≡ false → is_user c r (runner_of p m) ≡ true
      → (machine_step c p m (Get r)).status ≢ done
      → ((machine_step c p m (Get r)).status ≡ access)
      × ((k : ℕ) × (resource_at k ≡ r) × (holder_at k ≡ m.core.runner))
  unfolding step_by
  machine_refused r somebody user refused =
      by_runner fit sim
      (λ i _. absurd (true≢false (sym i ∙ somebody)))
      (λ b ns k.
      let same : (machine_step c p m (Get r)).status ≡ get_status c s r =
      ap (λ (x : Seen). x.status) (event_agrees fit (Get r) sim).seen in
      let shown : runner_of p m ≡ caller c s = runner_of_is fit m b k.exists k.rank ∙ sym k.calls in
      let x = declared_refused r k.somebody (ap (is_user c r) (sym shown) ∙ user) (λ e. refused (same ∙ e)) in
      let y = slot_at c rk b r (at s.bodies b).held (slots_along c rk s.bodies ns) (rw k.calls at x.1) in
      let z = slots_are fit k.tied in
      (same ∙ x.0, (y.0, z.resources.at y.0 ∙ y.1, z.holders.at y.0 ∙ y.2 ∙ sym k.rank)))
      (λ j js k.
      let shown : runner_of p m ≡ j = runner_of_is fit m j k.exists k.rank in
      absurd (user_waits r j js k.order_is (ap (is_user c r) (sym shown) ∙ user)))
