-- What a Tick does to the order of the started time-triggered tasks: it leaves it, or starts one (`tick_outcome`, at
-- the end of the file).
--
-- In order: one due entry; the entries one after the other, of which at most one is of kind 3; a Tick.
use Prim.Native.Nat.{ℕ, zero, suc, ◌<◌}
use mathlib.Core.Path.{◌≡◌, refl, sym, ap, subst⁻¹, ◌∙◌}
use mathlib.Core.Bool.{Bool, true, false, true≢false, cond}
use mathlib.Core.List.{List, [], ◌∷◌}
use mathlib.Core.Logic.{◌≢◌}
use native.Mathlib.Omega.{arith}
use lib.ListN.{length, get_or, length-set, length-map, get_or-eq_default}
use lib.Seq.{get_or-set_same, get_or-set_other, set_out}
use Rattle.number.proofs.Cases.{by_test, by_lt, by_eq}
use Rattle.config.specs.declared.Config.{Config}
use Rattle.config.specs.Meaning.{is_timed, first_of}
use Rattle.config.specs.Accepted.{Accepted, Shaped}
use Rattle.scheduler.specs.Body.{suspended, triggered, is_suspended, Body, activated, triggers, loses, activated_by_entry}
use Rattle.scheduler.specs.State.{State, no_body, body_of, changing, among}
use Rattle.scheduler.specs.Tick.{counting, counted, dues, starting, trigger, enter, activating_due, ticked}
use Rattle.scheduler.proofs.Event.Effects.{body_of_changing_other}
use Rattle.scheduler.proofs.Table.Dues.{length_dues}
use Rattle.scheduler.proofs.Table.Entries.{entries_long}
use Rattle.scheduler.proofs.Kind.{timed_body}
use Rattle.scheduler.proofs.Members.{among_head, among_other}
use Rattle.scheduler.proofs.Order.Standing.{is_triggered, Place, other, asleep, awake, Placed, plain_placed, loses_placed}
use Rattle.scheduler.proofs.Table.TimedEntries.{timed_once}

entry_plain : (b : Body) → is_triggered b.phase ≡ false → is_triggered (activated_by_entry b).phase ≡ false
entry_plain b h = go (is_suspended b.phase)
  where
    go : (p : Bool) → is_triggered (cond p (activated b) (loses b)).phase ≡ false
    go true = refl
    go false = h

module _ (c : Config) where
  -- the state x has the order of s, and the phases of its time-triggered tasks
  pub record Stays (late : ℕ → Type 0) (s x : State) : Type 0 where
    pub order_same : x.order ≡ s.order
    pub phase_same : (i : ℕ) → is_timed c i ≡ true → (body_of x i).phase ≡ (body_of s i).phase
    pub placed : Placed c late x

  -- or j was started besides
  pub record Starts (s x : State) (j : ℕ) : Type 0 where
    pub timed : is_timed c j ≡ true
    pub was_suspended : (body_of s j).phase ≡ suspended
    pub new : among j s.order ≡ false
    pub order_is : x.order ≡ j ∷ s.order
    pub to_begin : (body_of x j).phase ≡ triggered false
    pub phase_same : (i : ℕ) → i ≢ j → is_timed c i ≡ true → (body_of x i).phase ≡ (body_of s i).phase
    pub placed : Placed c (λ i. i ≡ j) x

  pub data Outcome (s x : State) : Type 0 where
    same : Stays (λ i. ⊥) s x → Outcome s x
    starts : (j : ℕ) → Starts s x j → Outcome s x

  stays_refl : {late : ℕ → Type 0} {s : State} → Placed c late s → Stays late s s
  stays_refl p = record { order_same = refl; phase_same = λ i t. refl; placed = p }

  stays_then : {late : ℕ → Type 0} {s y x : State} → Stays late s y → Stays late y x → Stays late s x
  stays_then a b =
      record {
        order_same = b.order_same ∙ a.order_same;
        phase_same = λ i t. b.phase_same i t ∙ a.phase_same i t;
        placed = b.placed;
      }

  then_starts : {s y x : State} {j : ℕ} → Stays (λ i. ⊥) s y → Starts y x j → Starts s x j
  then_starts {j = j} a b =
      record {
        timed = b.timed;
        was_suspended = sym (a.phase_same j b.timed) ∙ b.was_suspended;
        new = sym (ap (among j) a.order_same) ∙ b.new;
        order_is = b.order_is ∙ ap (λ (l : List ℕ). j ∷ l) a.order_same;
        to_begin = b.to_begin;
        phase_same = λ i d t. b.phase_same i d t ∙ a.phase_same i t;
        placed = b.placed;
      }

  starts_then : {s y x : State} {j : ℕ} → Starts s y j → Stays (λ i. i ≡ j) y x → Starts s x j
  starts_then {j = j} a b =
      record {
        timed = a.timed;
        was_suspended = a.was_suspended;
        new = a.new;
        order_is = b.order_same ∙ a.order_is;
        to_begin = b.phase_same j a.timed ∙ a.to_begin;
        phase_same = λ i d t. b.phase_same i t ∙ a.phase_same i d t;
        placed = b.placed;
      }

  then_outcome : {s y x : State} → Stays (λ i. ⊥) s y → Outcome y x → Outcome s x
  then_outcome a (same b) = same (stays_then a b)
  then_outcome a (starts j b) = starts j (then_starts a b)

  -- a loss
  loses_stays : {late : ℕ → Type 0} {s : State} → Placed c late s → (t : ℕ) → Stays late s (changing t loses s)
  loses_stays {s = s} p t = record { order_same = refl; phase_same = λ i _. phases i; placed = loses_placed c p t }
    where
      phases : (i : ℕ) → (body_of (changing t loses s) i).phase ≡ (body_of s i).phase
      phases i =
          by_eq i t
          (λ e. by_lt t (length s.bodies)
          (λ fits. rw (e, get_or-set_same s.bodies t (loses (body_of s t)) no_body fits))
          (λ past. rw (set_out s.bodies t (loses (body_of s t)) past)))
          (λ d. ap (λ (b : Body). b.phase) (body_of_changing_other t loses s i d))

  -- a due entry of a task of another kind
  other_stays : {late : ℕ → Type 0} {s : State} → Placed c late s → (t : ℕ) → is_timed c t ≡ false
      → Stays late s (enter c t s)
  other_stays {late} {s} p t n =
      rw n
      (record {
        order_same = refl;
        phase_same = λ i h. ap (λ (b : Body). b.phase)
            (body_of_changing_other t activated_by_entry s i (λ e. true≢false (sym h ∙ ap (is_timed c) e ∙ n)));
        placed = plain_placed c p t n activated_by_entry entry_plain;
      })

  -- the entry e of the task t
  abbrev Known : ℕ → Type 0
  Known t = (e : ℕ) × (e < first_of c c.tables) × (get_or c.task e 0 ≡ t)

  -- a suspended time-triggered task is started
  starting_starts : {s : State} → Placed c (λ i. ⊥) s → (t : ℕ) → Known t → is_timed c t ≡ true
      → (body_of s t).phase ≡ suspended
      → among t s.order ≡ false → (body_of s t).held ≡ [] → (body_of s t).pending ≡ false
      → Starts s (starting t s) t
  starting_starts {s} p t known timed h new free single =
      record {
        timed = timed;
        was_suspended = h;
        new = new;
        order_is = refl;
        to_begin = ap (λ (b : Body). b.phase) here;
        phase_same = λ i d _. ap (λ (b : Body). b.phase) (there i d);
        placed = record {
          bodies_there = length-set s.bodies t (triggers (body_of s t)) ∙ p.bodies_there;
          tables_there = p.tables_there;
          none_twice = (new, p.none_twice);
          places = λ i. by_eq i t
              (λ e. rw (e, here) (awake timed (among_head t s.order) false refl free single))
              (λ d. rw (there i d, among_other i t s.order d) (p.places i));
          to_begin = λ i. by_eq i t (λ e _. e)
              (λ d q. absurd (p.to_begin i (sym (ap (λ (b : Body). b.phase) (there i d)) ∙ q)));
          has_entry = λ i. by_eq i t
              (λ e _. subst⁻¹ Known e known)
              (λ d q. p.has_entry i (sym (among_other i t s.order d) ∙ q));
        };
      }
    where
      here : body_of (starting t s) t ≡ triggers (body_of s t)
      here =
          get_or-set_same s.bodies t (triggers (body_of s t)) no_body
          (omega (arith, p.bodies_there, timed_body c t timed))

      there : (i : ℕ) → i ≢ t → body_of (starting t s) i ≡ body_of s i
      there i d = get_or-set_other s.bodies t i (triggers (body_of s t)) no_body d

  -- a due entry of a time-triggered task
  timed_outcome : {s : State} → Placed c (λ i. ⊥) s → (t : ℕ) → Known t → is_timed c t ≡ true → Outcome s (enter c t s)
  timed_outcome {s} p t known timed = rw timed (go (p.places t))
    where
      go : Place c t (body_of s t) (among t s.order) → Outcome s (trigger t s)
      go (other n m h) = absurd (true≢false (sym timed ∙ n))
      go (asleep n m q h r) = rw (ap is_suspended q) (starts t (starting_starts p t known timed q m h r))
      go (awake n m x q h r) = rw (ap is_suspended q) (same (loses_stays p t))

  -- none of the due entries is of kind 3, or at most one
  abbrev NoneTimed : List Bool → List ℕ → Type 0
  NoneTimed ds ts = (e : ℕ) → get_or ds e false ≡ true → is_timed c (get_or ts e 0) ≡ false

  abbrev OneTimed : List Bool → List ℕ → Type 0
  OneTimed ds ts =
      (e e' : ℕ) → e < e' → get_or ds e false ≡ true → get_or ds e' false ≡ true → is_timed c (get_or ts e 0) ≡ true
      → is_timed c (get_or ts e' 0) ≡ false

  others_stay : {late : ℕ → Type 0} (ds : List Bool) (ts : List ℕ) (s : State) → NoneTimed ds ts → Placed c late s
      → Stays late s (activating_due c ds ts s)
  unfolding activating_due
  others_stay [] ts s none p = stays_refl p
  others_stay (true ∷ ds) [] s none p = stays_refl p
  others_stay (false ∷ ds) [] s none p = stays_refl p
  others_stay (true ∷ ds) (t ∷ ts) s none p =
      let first = other_stays p t (none zero refl) in
      stays_then first (others_stay ds ts (enter c t s) (λ e. none (suc e)) first.placed)
  others_stay (false ∷ ds) (t ∷ ts) s none p = others_stay ds ts s (λ e. none (suc e)) p

  entries_outcome : (ds : List Bool) (ts : List ℕ) (s : State) → OneTimed ds ts
      → ((e : ℕ) → get_or ds e false ≡ true → Known (get_or ts e 0))
      → Placed c (λ i. ⊥) s
      → Outcome s (activating_due c ds ts s)
  unfolding activating_due
  entries_outcome [] ts s one known p = same (stays_refl p)
  entries_outcome (true ∷ ds) [] s one known p = same (stays_refl p)
  entries_outcome (false ∷ ds) [] s one known p = same (stays_refl p)
  entries_outcome (true ∷ ds) (t ∷ ts) s one known p =
      by_test (is_timed c t)
      (λ timed. go timed (timed_outcome p t (known zero refl) timed))
      (λ n.
      let first = other_stays p t n in
      then_outcome first
      (entries_outcome ds ts (enter c t s) (λ e e' l. one (suc e) (suc e') (omega arith)) (λ e. known (suc e))
      first.placed))
    where
      go : is_timed c t ≡ true → Outcome s (enter c t s) → Outcome s (activating_due c ds ts (enter c t s))
      go timed (same a) =
          same (stays_then a
          (others_stay ds ts (enter c t s) (λ e h. one zero (suc e) (omega arith) refl h timed) a.placed))
      go timed (starts j a) =
          starts j
          (starts_then a
          (others_stay ds ts (enter c t s) (λ e h. one zero (suc e) (omega arith) refl h timed) a.placed))
  entries_outcome (false ∷ ds) (t ∷ ts) s one known p =
      entries_outcome ds ts s (λ e e' l. one (suc e) (suc e') (omega arith)) (λ e. known (suc e)) p

  module _ (ok : Accepted c) (shaped : Shaped c) where
    pub tick_outcome : (s : State) → Placed c (λ i. ⊥) s → Outcome s (ticked c s)
    tick_outcome s p = go (entries_outcome (dues c (counted s)) c.task (counted s) one known counts)
      where
        counts : Placed c (λ i. ⊥) (counted s)
        counts =
            record {
              bodies_there = p.bodies_there;
              tables_there = length-map s.tables counting ∙ p.tables_there;
              none_twice = p.none_twice;
              places = p.places;
              to_begin = p.to_begin;
              has_entry = p.has_entry;
            }

        -- only entries that there are are due
        there : (e : ℕ) → get_or (dues c (counted s)) e false ≡ true → e < first_of c c.tables
        there e h =
            by_lt e (length (dues c (counted s)))
            (λ l. rw
            (length_dues c (counted s) counts.tables_there
            ∙ entries_long c (omega (arith, ok.few_entries, shaped.offsets))) at l)
            (λ l. absurd (true≢false (sym h ∙ get_or-eq_default (dues c (counted s)) false l)))

        one : OneTimed (dues c (counted s)) c.task
        one e e' l h h' k =
            by_test (is_timed c (get_or c.task e' 0))
            (λ k'. absurd (timed_once c ok shaped (counted s) e e' (there e h) (there e' h') (omega arith) k k' h h'))
            (λ n. n)

        known : (e : ℕ) → get_or (dues c (counted s)) e false ≡ true → Known (get_or c.task e 0)
        known e h = (e, there e h, refl)

        go : Outcome (counted s) (ticked c s) → Outcome s (ticked c s)
        go (same a) = same (record { order_same = a.order_same; phase_same = a.phase_same; placed = a.placed })
        go (starts j a) =
            starts j
            (record {
              timed = a.timed;
              was_suspended = a.was_suspended;
              new = a.new;
              order_is = a.order_is;
              to_begin = a.to_begin;
              phase_same = a.phase_same;
              placed = a.placed;
            })
