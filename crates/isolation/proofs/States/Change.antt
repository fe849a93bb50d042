-- What is the same above L in two states stays so, where the same body runs and an event names nobody else:
-- `status_same`, `leaves_same`, and by the dispatch `dispatched_same`.
--
-- In order: a change of one body in both; what a change makes of a body's begun_part; the entries; each event; the
-- dispatch.
use Prim.Native.Nat.{ℕ, zero, suc, ◌<◌, ◌≤◌}
use mathlib.Core.Path.{◌≡◌, refl, sym, ap, ap₂, ◌∙◌}
use mathlib.Core.Bool.{Bool, true, false, true≢false, cond, not, ◌&&◌, ◌||◌}
use mathlib.Core.List.{List, [], ◌∷◌, map}
use native.Mathlib.Omega.{arith}
use borrow.Author.Tests.{eqb-true}
use lib.Dec.{eqb}
use lib.ListN.{length, get_or, set, length-set, get_or-eq_default}
use Rattle.number.proofs.Cases.{by_test, by_lt, cond_either}
use Rattle.config.specs.declared.Config.{Config}
use Rattle.config.specs.Meaning.{counts_lines, is_timed, is_task, is_extended}
use Rattle.scheduler.specs.Status.{done, limit_reached, first_given}
use Rattle.scheduler.specs.Bits.{any_set}
use Rattle.scheduler.specs.Body.{Phase, suspended, ready, started, waiting, triggered, is_suspended, has_begun, Body, become, activated, triggers, ended, finished, requested, gets, releases, rest, loses, activated_by_entry, waits, receives, clears}
use Rattle.scheduler.specs.Choice.{Candidate}
use Rattle.scheduler.specs.State.{State, Table, no_body, body_of, changing, with_table, held_in, among}
use Rattle.scheduler.specs.Event.{Event, Activate, Finish, Chain, Get, Release, Tick, Line, Start, Stop, Wait, Set, Clear}
use Rattle.scheduler.specs.Tick.{counting, counted, dues, dues_from, starting, trigger, enter, activating_due, ticked}
use Rattle.scheduler.specs.Call.{no_caller, effect_for, else_of, finish, finish_timed}
use Rattle.scheduler.specs.Scheduler.{begins, phase_begun, dispatched_to, status_for, leaves_for}
use Rattle.isolation.specs.Above.{above, NamesAbove}
use Rattle.isolation.specs.States.{begun_phase, begun_part, SameState}
use Rattle.scheduler.proofs.Body.{begun_active, begun_phase_active}

-- what holds of each two bodies holds after the k-th became y and y'
pair : (P : ℕ → Body → Body → Type 0) (bs bs' : List Body) → length bs ≡ length bs'
    → ((j : ℕ) → P j (get_or bs j no_body) (get_or bs' j no_body))
    → (k : ℕ) (y y' : Body)
    → P k y y'
    → (j : ℕ)
    → P j (get_or (set bs k y) j no_body) (get_or (set bs' k y') j no_body)
pair P [] [] e all k y y' h j = all j
pair P [] (b ∷ bs) e all k y y' h j = absurd (omega arith)
pair P (b ∷ bs) [] e all k y y' h j = absurd (omega arith)
pair P (b ∷ bs) (b' ∷ bs') e all zero y y' h zero = h
pair P (b ∷ bs) (b' ∷ bs') e all zero y y' h (suc j) = all (suc j)
pair P (b ∷ bs) (b' ∷ bs') e all (suc k) y y' h zero = all zero
pair P (b ∷ bs) (b' ∷ bs') e all (suc k) y y' h (suc j) =
    pair (λ n. P (suc n)) bs bs' (omega arith) (λ n. all (suc n)) k y y' h j

-- the begun_part of a changed body
abbrev part_with : Phase → List ℕ → Body
part_with p rs = record { phase = p; pending = false; held = rs; losses = 0; bits = 0 }

finished_part : (b : Body) → begun_part (finished b) ≡ part_with suspended b.held
finished_part b =
    cond_either (λ (x : Body). begun_part x ≡ part_with suspended b.held) b.pending (activated (ended b)) (ended b)
    refl refl

unbegun_part : (p : Phase) → has_begun p ≡ false → suspended ≡ begun_phase p
unbegun_part suspended h = refl
unbegun_part ready h = refl
unbegun_part started h = absurd (true≢false h)
unbegun_part (waiting w) h = absurd (true≢false h)
unbegun_part (triggered true) h = absurd (true≢false h)
unbegun_part (triggered false) h = refl

suspended_unbegun : (p : Phase) → is_suspended p ≡ true → has_begun p ≡ false
suspended_unbegun suspended h = refl
suspended_unbegun ready h = refl
suspended_unbegun started h = absurd (true≢false (sym h))
suspended_unbegun (waiting w) h = absurd (true≢false (sym h))
suspended_unbegun (triggered x) h = absurd (true≢false (sym h))

entry_part : (b : Body) → begun_part (activated_by_entry b) ≡ begun_part b
entry_part b =
    by_test (is_suspended b.phase)
    (λ h. rw h
    (ap (λ (p : Phase). part_with p b.held) (unbegun_part b.phase (suspended_unbegun b.phase h))))
    (λ h. rw (h, h))

begun_kept : (p : Phase) → has_begun (begun_phase p) ≡ has_begun p
begun_kept suspended = refl
begun_kept ready = refl
begun_kept started = refl
begun_kept (waiting w) = refl
begun_kept (triggered true) = refl
begun_kept (triggered false) = refl

waits_part : (w : ℕ) (b : Body) → is_suspended b.phase ≡ false → begun_part (waits w b) ≡ waits w (begun_part b)
waits_part w b a = rw a (by_test (any_set b.bits w) (λ h. rw (h, a)) (λ h. rw h))

clears_part : (w : ℕ) (b : Body) → is_suspended b.phase ≡ false → begun_part (clears w b) ≡ clears w (begun_part b)
clears_part w b a = rw a

begins_part : (p : Phase) (b : Body) → is_suspended p ≡ false → is_suspended b.phase ≡ false
    → begun_part (become p b) ≡ become (begun_phase p) (begun_part b)
begins_part p b h a = rw (h, a)

held_in_same : (r : ℕ) (bs bs' : List Body) → length bs ≡ length bs'
    → ((j : ℕ) → (get_or bs j no_body).held ≡ (get_or bs' j no_body).held)
    → held_in r bs ≡ held_in r bs'
unfolding held_in
held_in_same r [] [] e all = refl
held_in_same r [] (b ∷ bs) e all = absurd (omega arith)
held_in_same r (b ∷ bs) [] e all = absurd (omega arith)
held_in_same r (b ∷ bs) (b' ∷ bs') e all =
    ap₂ (λ (rs : List ℕ) (x : Bool). among r rs || x) (all zero)
    (held_in_same r bs bs' (omega arith) (λ j. all (suc j)))

module _ (c : Config) (L : ℕ) where
  module _ {s s' : State} (same : SameState c L s s') where
    changed : (i : ℕ) (f : Body → Body) → begun_part (f (body_of s i)) ≡ begun_part (f (body_of s' i))
        → SameState c L (changing i f s) (changing i f s')
    changed i f e =
        record {
          size = length-set s.bodies i (f (body_of s i)) ∙ same.size
              ∙ sym (length-set s'.bodies i (f (body_of s' i)));
          tables = same.tables;
          order = same.order;
          high = pair (λ j x y. above c L j ≡ true → x ≡ y) s.bodies s'.bodies same.size same.high i
              (f (body_of s i)) (f (body_of s' i)) (λ a. ap f (same.high i a));
          low = pair (λ j x y. begun_part x ≡ begun_part y) s.bodies s'.bodies same.size same.low i
              (f (body_of s i)) (f (body_of s' i)) e;
        }

    held_same : (i : ℕ) → (body_of s i).held ≡ (body_of s' i).held
    held_same i = ap (λ (b : Body). b.held) (same.low i)

    -- a change after which the begun_part is that of a phase and of what was held
    settles : (i : ℕ) (f : Body → Body) (p : Phase) → ((b : Body) → begun_part (f b) ≡ part_with p b.held)
        → SameState c L (changing i f s) (changing i f s')
    settles i f p g = changed i f (g (body_of s i) ∙ ap (part_with p) (held_same i) ∙ sym (g (body_of s' i)))

    -- a change that leaves the begun_part
    keeps : (i : ℕ) (f : Body → Body) → ((b : Body) → begun_part (f b) ≡ begun_part b)
        → SameState c L (changing i f s) (changing i f s')
    keeps i f g = changed i f (g (body_of s i) ∙ same.low i ∙ sym (g (body_of s' i)))

    with_table_lem : (t : ℕ) (x : Table) → SameState c L (with_table t x s) (with_table t x s')
    with_table_lem t x =
        record {
          size = same.size;
          tables = ap (λ (xs : List Table). set xs t x) same.tables;
          order = same.order;
          high = same.high;
          low = same.low;
        }

    count_same : SameState c L (counted s) (counted s')
    count_same =
        record {
          size = same.size;
          tables = ap (map counting) same.tables;
          order = same.order;
          high = same.high;
          low = same.low;
        }

    with_order_lem : {js js' : List ℕ} → js ≡ js'
        → SameState c L (record { bodies = s.bodies; tables = s.tables; order = js })
        (record { bodies = s'.bodies; tables = s'.tables; order = js' })
    with_order_lem o =
        record { size = same.size; tables = same.tables; order = o; high = same.high; low = same.low }

  enter_same : (t : ℕ) {s s' : State} → SameState c L s s' → SameState c L (enter c t s) (enter c t s')
  enter_same t {s} {s'} same =
      by_test (is_timed c t)
      (λ h. rw h (timed h))
      (λ h. rw h (keeps same t activated_by_entry entry_part))
    where
      timed : is_timed c t ≡ true → SameState c L (trigger t s) (trigger t s')
      timed h =
          let e : body_of s t ≡ body_of s' t = same.high t (rw h) in
          go (is_suspended (body_of s t).phase) (is_suspended (body_of s' t).phase)
          (ap (λ (b : Body). is_suspended b.phase) e)
        where
          go : (x y : Bool) → x ≡ y
              → SameState c L (cond x (starting t s) (changing t loses s)) (cond y (starting t s') (changing t loses s'))
          go true true e =
              with_order_lem (settles same t triggers suspended (λ b. refl)) (ap (λ (js : List ℕ). t ∷ js) same.order)
          go true false e = absurd (true≢false e)
          go false true e = absurd (true≢false (sym e))
          go false false e = keeps same t loses (λ b. refl)

  activating_due_same : (ds : List Bool) (ts : List ℕ) {s s' : State} → SameState c L s s'
      → SameState c L (activating_due c ds ts s) (activating_due c ds ts s')
  unfolding activating_due
  activating_due_same [] ts same = same
  activating_due_same (true ∷ ds) [] same = same
  activating_due_same (false ∷ ds) [] same = same
  activating_due_same (true ∷ ds) (t ∷ ts) same = activating_due_same ds ts (enter_same t same)
  activating_due_same (false ∷ ds) (t ∷ ts) same = activating_due_same ds ts same

  ticked_same : {s s' : State} → SameState c L s s' → SameState c L (ticked c s) (ticked c s')
  ticked_same {s} {s'} same =
      rw (ap (λ (xs : List Table). dues_from c 0 (map counting xs)) same.tables)
      (activating_due_same (dues c (counted s')) c.task (count_same same))

  module _ {s s' : State} (same : SameState c L s s') where
    begun_same : (i : ℕ) → has_begun (body_of s i).phase ≡ has_begun (body_of s' i).phase
    begun_same i =
        sym (begun_kept (body_of s i).phase) ∙ ap (λ (b : Body). has_begun b.phase) (same.low i)
        ∙ begun_kept (body_of s' i).phase

    -- a change of one that is not suspended, which its begun_part follows
    follows : (i : ℕ) (f g : Body → Body) → ((b : Body) → is_suspended b.phase ≡ false → begun_part (f b) ≡ g (begun_part b))
        → is_suspended (body_of s i).phase ≡ false
        → is_suspended (body_of s' i).phase ≡ false
        → SameState c L (changing i f s) (changing i f s')
    follows i f g h a a' = changed same i f (h (body_of s i) a ∙ ap g (same.low i) ∙ sym (h (body_of s' i) a'))

    follows_begun : (i : ℕ) (f : Body → Body) → ((b : Body) → is_suspended b.phase ≡ false → begun_part (f b) ≡ f (begun_part b))
        → has_begun (body_of s i).phase ≡ true
        → SameState c L (changing i f s) (changing i f s')
    follows_begun i f h begun =
        follows i f f h (begun_active (body_of s i).phase begun)
        (begun_active (body_of s' i).phase (sym (begun_same i) ∙ begun))

  -- one event, while k runs, who has begun
  module _ {s s' : State} (same : SameState c L s s') (size : length s.bodies ≡ c.bodies) (k : Candidate)
      (begun : no_caller k ≡ false → has_begun (body_of s k.number).phase ≡ true) where
    named_same : (t : ℕ) → (t < c.bodies → above c L t ≡ true) → body_of s t ≡ body_of s' t
    named_same t names =
        by_lt t c.bodies
        (λ h. same.high t (names h))
        (λ h.
        let past : length s.bodies ≤ t = omega arith in
        let past' : length s'.bodies ≤ t = omega (arith, same.size) in
        get_or-eq_default s.bodies no_body past ∙ sym (get_or-eq_default s'.bodies no_body past'))

    pub status_same : (e : Event) → NamesAbove c L e → status_for c k s e ≡ status_for c k s' e
    unfolding first_given
    status_same (Activate t) u = rw (named_same t u)
    status_same Finish u = rw (held_same same k.number)
    status_same (Chain t) u = rw (named_same t u, held_same same k.number)
    status_same (Get r) u = rw (held_in_same r s.bodies s'.bodies same.size (held_same same))
    status_same (Release r) u = rw (held_same same k.number)
    status_same Tick u = refl
    status_same (Line i) u = rw (named_same i u)
    status_same (Start t d) u = rw same.tables
    status_same (Stop t) u = rw same.tables
    status_same (Wait w) u = rw (held_same same k.number)
    status_same (Set t w) u =
        by_test (is_extended c t)
        (λ e. rw (same.high t (u e)))
        (λ e. rw e)
    status_same (Clear w) u = refl

    -- what a status 0 says
    first : (x : Bool) (n : ℕ) → ◌≡◌ {A = ℕ} (cond x 2 n) 0 → x ≡ false
    first true n e = absurd (omega arith)
    first false n e = refl

    third : (x y z : Bool) (n : ℕ) → ◌≡◌ {A = ℕ} (cond x 2 (cond y 3 (cond (not z) 1 n))) 0 → z ≡ true
    third true y z n e = absurd (omega arith)
    third false true z n e = absurd (omega arith)
    third false false true n e = refl
    third false false false n e = absurd (omega arith)

    effect_same : (e : Event) → NamesAbove c L e → status_for c k s e ≡ done
        → SameState c L (effect_for c k s e) (effect_for c k s' e)
    unfolding first_given
    effect_same (Activate t) u z = settles same t activated suspended (λ b. refl)
    effect_same Finish u z = go k.timed
      where
        go : (x : Bool)
            → SameState c L (cond x (finish_timed k.number s) (finish k.number s))
            (cond x (finish_timed k.number s') (finish k.number s'))
        go true = with_order_lem (settles same k.number finished suspended finished_part) (ap rest same.order)
        go false = settles same k.number finished suspended finished_part
    effect_same (Chain t) u z =
        settles (settles same k.number finished suspended finished_part) t activated suspended (λ b. refl)
    effect_same (Get r) u z = changed same k.number (gets r) (ap (gets r) (same.low k.number))
    effect_same (Release r) u z = changed same k.number releases (ap releases (same.low k.number))
    effect_same Tick u z = ticked_same same
    effect_same (Line i) u z = changed same i requested (ap (λ (b : Body). begun_part (requested b)) (named_same i u))
    effect_same (Start t d) u z = with_table_lem same t _
    effect_same (Stop t) u z = with_table_lem same t _
    effect_same (Wait w) u z =
        follows_begun same k.number (waits w) (waits_part w) (begun (first (no_caller k) _ z))
    effect_same (Set t w) u z =
        changed same t (receives w)
        (ap (λ (b : Body). begun_part (receives w b))
        (same.high t (u (third (no_caller k) (not (is_task c t)) (is_extended c t) _ z))))
    effect_same (Clear w) u z =
        follows_begun same k.number (clears w) (clears_part w) (begun (first (no_caller k) _ z))

    refusal_same : (st : ℕ) (e : Event) → SameState c L (else_of c s st e) (else_of c s' st e)
    refusal_same st (Activate t) = same
    refusal_same st Finish = same
    refusal_same st (Chain t) = same
    refusal_same st (Get r) = same
    refusal_same st (Release r) = same
    refusal_same st Tick = same
    refusal_same st (Line i) = go (counts_lines c && eqb st limit_reached)
      where
        go : (x : Bool) → SameState c L (cond x (changing i loses s) s) (cond x (changing i loses s') s')
        go true = keeps same i loses (λ b. refl)
        go false = same
    refusal_same st (Start t d) = same
    refusal_same st (Stop t) = same
    refusal_same st (Wait w) = same
    refusal_same st (Set t w) = same
    refusal_same st (Clear w) = same

    pub leaves_same : (e : Event) → NamesAbove c L e → SameState c L (leaves_for c k s e) (leaves_for c k s' e)
    leaves_same e u =
        rw (sym (status_same e u))
        (by_test (eqb (status_for c k s e) done)
        (λ h. rw h (effect_same e u (eqb-true (status_for c k s e) done h)))
        (λ h. rw h (refusal_same (status_for c k s e) e)))

  -- the dispatch of k: it is above L, or in neither state suspended
  pub data Begins (s s' : State) (k : Candidate) : Type 0 where
    alike : body_of s k.number ≡ body_of s' k.number → Begins s s' k
    active : is_suspended (body_of s k.number).phase ≡ false → is_suspended (body_of s' k.number).phase ≡ false
        → Begins s s' k

  pub dispatched_same : (k : Candidate) {s s' : State} → SameState c L s s' → (begins k ≡ true → Begins s s' k)
      → SameState c L (dispatched_to k s) (dispatched_to k s')
  dispatched_same k {s} {s'} same which =
      by_test (begins k)
      (λ h. rw h (go (which h)))
      (λ h. rw h same)
    where
      go : Begins s s' k
          → SameState c L (changing k.number (become (phase_begun k)) s)
          (changing k.number (become (phase_begun k)) s')
      go (alike e) =
          changed same k.number (become (phase_begun k)) (ap (λ (b : Body). begun_part (become (phase_begun k) b)) e)
      go (active a a') =
          follows same k.number (become (phase_begun k)) (become (begun_phase (phase_begun k)))
          (λ b. begins_part (phase_begun k) b (begun_phase_active k.timed)) a a'
