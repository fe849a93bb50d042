-- Get and Release do the same to the model as to the state.
use Prim.Native.Nat.{ℕ, max, ◌<◌}
use mathlib.Core.Path.{◌≡◌, refl, sym, ap, ◌∙◌}
use mathlib.Core.Bool.{Bool, true, false, true≢false, not}
use mathlib.Core.List.{List, [], ◌∷◌, ◌++◌, map-append}
use native.Mathlib.Omega.{arith}
use borrow.Author.Tests.{eqb-true, leb-false}
use lib.ListN.{length, get_or}
use Rattle.number.proofs.Cases.{by_test}
use Rattle.config.specs.declared.Config.{Config}
use Rattle.config.specs.Meaning.{is_user}
use Rattle.plan.specs.declared.Plan.{Plan}
use Rattle.word.specs.Word.{has}
use Rattle.scheduler.specs.Status.{no_such, access, no_function, not_user}
use Rattle.scheduler.specs.Body.{Body, competes, gets, releases}
use Rattle.scheduler.specs.State.{State, among, held_in, body_of}
use Rattle.scheduler.specs.Call.{caller, latest_is, get_status, release_status, get, release}
use Rattle.scheduler.specs.Tick.{dues}
use Rattle.scheduler.specs.Scheduler.{Get, Release, step_by}
use Rattle.scheduler.proofs.Body.{started_competes}
use Rattle.scheduler.proofs.Event.Checks.{get_passed, release_passed}
use Rattle.scheduler.proofs.Members.{among_append_left, among_append_right, among_nil, by_among, by_append}
use Rattle.scheduler.proofs.Resource.Users.{held_at, held_by}
use Rattle.machine.specs.Model.{Model, done_with}
use Rattle.machine.specs.Arbiter.{settled}
use Rattle.machine.specs.Resources.{getting, releasing}
use Rattle.machine.specs.Events as Machine
use Rattle.machine.specs.Machine.{status_of, effect_of, else_of}
use Rattle.plan.proofs.Fitted.{Fitted}
use Rattle.machine.proofs.Relation.Words.{at}
use Rattle.machine.proofs.Relation.Slots.{Slot, slots_for, slots_along, resources_in}
use Rattle.machine.proofs.Relation.Nest.{Nested}
use Rattle.machine.proofs.Relation.Losses.{lost_same}
use Rattle.machine.proofs.Relation.Bits.{event_bits, noted_same}
use Rattle.machine.proofs.Relation.Whole.{Tied, Sim}
use Rattle.machine.proofs.Relation.Order.{plain_competes}
use Rattle.machine.proofs.Change.Hold.{latest_is_lem}
use Rattle.machine.proofs.Change.Get.{get_tied}
use Rattle.machine.proofs.Change.Release.{release_tied}
use Rattle.machine.proofs.Event.Agrees.{kept, first_same, Agrees, Keeps, call_same, by_call, untimed_tied, settled_done, calm_done, agrees_attempt}

-- a Bool is what another is if each follows from the other
iff_bool : (a b : Bool) → (a ≡ true → b ≡ true) → (b ≡ true → a ≡ true) → a ≡ b
iff_bool true b f g = sym (f refl)
iff_bool false true f g = g refl
iff_bool false false f g = refl

module _ (c : Config) (rk : ℕ → ℕ) (bs : List Body) where
  resources_for : (b : ℕ) (rs : List ℕ) → resources_in (slots_for c rk b rs) ≡ rs
  unfolding slots_for
  resources_for b [] = refl
  resources_for b (r ∷ rs) = ap (λ (l : List ℕ). r ∷ l) (resources_for b rs)

  along_step : (b : ℕ) (ns : List ℕ)
      → resources_in (slots_along c rk bs (b ∷ ns)) ≡ (at bs b).held ++ resources_in (slots_along c rk bs ns)
  unfolding slots_along
  along_step b ns =
      map-append (λ (x : Slot). x.resource) (slots_for c rk b (at bs b).held) (slots_along c rk bs ns)
      ∙ ap (λ (l : List ℕ). l ++ resources_in (slots_along c rk bs ns)) (resources_for b (at bs b).held)

  -- what a body of the nest holds has a slot, and what has a slot is held by a body of the nest
  slot_of : (r i : ℕ) (ns : List ℕ) → among i ns ≡ true → among r (at bs i).held ≡ true
      → among r (resources_in (slots_along c rk bs ns)) ≡ true
  unfolding among
  slot_of r i [] h a = absurd (true≢false (sym h))
  slot_of r i (b ∷ ns) h a =
      rw (along_step b ns)
      (by_among i b ns h
      (λ e. among_append_left r (at bs b).held _ (rw e at a))
      (λ _ q. among_append_right r (at bs b).held _ (slot_of r i ns q a)))

  slot_by : (r : ℕ) (ns : List ℕ) → Nested c bs ns → among r (resources_in (slots_along c rk bs ns)) ≡ true
      → (i : ℕ) × ((i < c.bodies) × (among r (at bs i).held ≡ true))
  unfolding slots_along among Nested
  slot_by r [] k h = absurd (true≢false (sym h))
  slot_by r (b ∷ ns) k h =
      by_append r (at bs b).held (resources_in (slots_along c rk bs ns)) (rw (along_step b ns) at h)
      (λ a. (b, (k.0, a)))
      (λ q. slot_by r ns k.1.1.1 q)

module _ {c : Config} {rk : ℕ → ℕ} {m : Model} {bs : List Body} {js ns : List ℕ} (t : Tied c rk m bs js ns) where
  -- who holds a resource is in the nest
  pub holder_nested : (r i : ℕ) → among r (at bs i).held ≡ true → among i ns ≡ true
  holder_nested r i a =
      by_test (among i ns)
      (λ e. e)
      (λ e. absurd (true≢false (sym (rw (t.loose i e) at a) ∙ among_nil r)))

  -- the machine's flag of a resource says whether anybody holds it
  flag_is : (r : ℕ) → has m.held r ≡ held_in r bs
  flag_is r =
      t.slots.flags r
      ∙ iff_bool (among r (resources_in (slots_along c rk bs ns))) (held_in r bs)
      (λ h. let x = slot_by c rk bs r ns t.nested h in held_at r bs x.0 (rw t.size x.1.0) x.1.1)
      (λ h. let x = held_by r bs h in slot_of c rk bs r x.0 ns (holder_nested r x.0 x.2) x.2)

-- the latest of a list of held resources
latest_split : (r : ℕ) (rs : List ℕ) → latest_is r rs ≡ true → (q : List ℕ) × (rs ≡ r ∷ q)
latest_split r [] h = absurd (true≢false (sym h))
latest_split r (x ∷ xs) h = (xs, ap (λ (y : ℕ). y ∷ xs) (sym (eqb-true r x h)))

module _ {c : Config} {p : Plan} {rk : ℕ → ℕ} (fit : Fitted c p rk) {m : Model} {s : State} (sim : Sim c p rk m s)
    (keeps : Keeps c s) (long : length (dues c s) ≡ p.count) where
  abbrev bs : List Body
  bs = s.bodies

  -- Get
  get_status_lem : (r : ℕ) → status_of c p m (Get r) ≡ get_status c s r
  unfolding status_of
  get_status_lem r =
      call_same fit sim _ _
      (λ b ns k. first_same no_such _ _ refl
      (λ h.
      let user = fit.users_at_lem r b (leb-false c.resources r h) k.exists in
      first_same not_user _ _
      (ap not (ap (has (get_or p.users r 0)) k.rank ∙ user ∙ ap (is_user c r) (sym k.calls)))
      (λ _. first_same access _ _ (flag_is sim.tied r) (λ _. refl))))

  -- Get changes no phase
  get_phase {ℓ} : {A : Type ℓ} (f : Body → A) → ((x : Body) (r : ℕ) → f (gets r x) ≡ f x) → (r i : ℕ)
      → f (at (get (caller c s) r s).bodies i) ≡ f (at bs i)
  get_phase f keeps r = kept f (gets r) (λ x. keeps x r) bs (caller c s)

  -- the level then
  abbrev raised : ℕ → ℕ
  raised r = max (get_or p.ceiling r 0) m.core.level

  pub agrees_get : (r : ℕ) → Agrees c p rk m s (Get r)
  unfolding status_of effect_of else_of step_by
  agrees_get r =
      agrees_attempt fit sim keeps long (Get r) (done_with (getting r (raised r) m) false) (get (caller c s) r s)
      refl refl refl (get_status_lem r)
      (λ z.
      let a = get_passed c s r z in
      by_call fit sim _ z
      (λ b ns k.
      let free = flag_is sim.tied r ∙ a.3 in
      let t : Tied c rk (getting r (raised r) m) (get (caller c s) r s).bodies s.order (b ∷ ns) =
      untimed_tied fit k.none_timed (rw k.calls (get_tied fit k.tied r a.1 free)) in
      calm_done fit (keeps.effect (Get r) refl z) t
      sim.row
      sim.cells
      (lost_same (get_phase (λ x. x.losses) (λ x _. refl) r) sim.lost)
      (noted_same (get_phase event_bits (λ x _. refl) r)
      (λ i w h. sym (get_phase (λ x. x.phase) (λ x _. refl) r i) ∙ h) sim.noted)
      (λ i i< u.
      let q = sim.calm i i< (sym (get_phase (λ x. competes x.phase) (λ x _. refl) r i) ∙ u) in
      omega arith)))

  -- Release
  release_status_lem : (r : ℕ) → Machine.release_status c.resources m r ≡ release_status c s r
  release_status_lem r =
      call_same fit sim _ _
      (λ b ns k. first_same no_such _ _ refl
      (λ _. first_same no_function _ _
      (ap not (latest_is_lem fit k.tied r ∙ ap (λ (i : ℕ). latest_is r (body_of s i).held) (sym k.calls)))
      (λ _. refl)))

  pub agrees_release : (r : ℕ) → Agrees c p rk m s (Release r)
  unfolding status_of effect_of else_of step_by
  agrees_release r =
      agrees_attempt fit sim keeps long (Release r)
      (settled p.priority (releasing p.priority r m)) (release (caller c s) s)
      refl refl refl (release_status_lem r)
      (λ z.
      let a = release_passed c s r z in
      by_call fit sim _ z
      (λ b ns k.
      let h = latest_split r (at bs b).held (rw k.calls at a.2) in
      let plain = plain_competes sim.orderly b (started_competes (at bs b).phase k.started_now) in
      let t : Tied c rk (releasing p.priority r m) (release (caller c s) s).bodies s.order (b ∷ ns) =
      untimed_tied fit k.none_timed (rw k.calls (release_tied fit k.tied plain r a.1 h.0 h.1)) in
      settled_done fit (keeps.effect (Release r) refl z) t
      sim.row
      sim.cells
      (lost_same (kept (λ x. x.losses) releases (λ x. refl) bs (caller c s)) sim.lost)
      (noted_same (kept event_bits releases (λ x. refl) bs (caller c s))
      (λ i w h. sym (kept (λ x. x.phase) releases (λ x. refl) bs (caller c s) i) ∙ h) sim.noted)))
