-- The losses of two editions of the procedure differ by the lost lines alone: `losses_apart`, at the end of the file.
--
-- In order: of one body, the second of two alike states has lost n more (`Behind`); entries, effects and the dispatch keep
-- that; a refused Line adds one.
use Prim.Native.Nat.{ℕ, ◌+◌, ◌≤◌, ◌<◌, min}
use mathlib.Core.Path.{◌≡◌, refl, sym, ap, ◌∙◌}
use mathlib.Core.Bool.{Bool, true, false, true≢false, cond, ◌&&◌, and-false}
use mathlib.Core.List.{List, [], ◌∷◌}
use mathlib.Core.Logic.{inl, inr}
use native.Mathlib.Nat.{zero-add, add_assoc}
use native.Mathlib.Omega.{arith}
use borrow.Author.Tests.{le-leb, eq-eqb, ne_eqb, eqb-true}
use lib.Dec.{leb, eqb}
use lib.ListN.{length, get_or, take, get_or-map}
use lib.Seq.{map-set_same, set_out}
use Rattle.number.proofs.Cases.{by_lt, by_eq, cond_either}
use Rattle.config.specs.declared.Config.{Config}
use Rattle.config.specs.Value.{with_version}
use Rattle.config.specs.Meaning.{is_timed}
use Rattle.scheduler.specs.Status.{done, limit_reached}
use Rattle.scheduler.specs.Body.{is_suspended, Body, become, activated, finished, requested, gets, releases, loses, most_losses, triggers, waits, receives, clears}
use Rattle.scheduler.specs.Choice.{Candidate}
use Rattle.scheduler.specs.State.{State, no_body, body_of, changing, runner}
use Rattle.scheduler.specs.Event.{Event, Activate, Finish, Chain, Get, Release, Tick, Line, Start, Stop, Wait, Set, Clear}
use Rattle.scheduler.specs.Tick.{counted, dues, enter, activating_due}
use Rattle.scheduler.specs.Call.{finish, finish_timed, effect_for, else_of}
use Rattle.scheduler.specs.Scheduler.{begins, phase_begun, dispatched_to, mark_of, status_for, leaves, step, step_by, new_body, unstarted, fresh, after, after_by}
use Rattle.scheduler.specs.History.{is_line_of, lines_lost}
use Rattle.scheduler.specs.Conditions.{◌if◌, Decided, Isr, Requested}
use Rattle.scheduler.proofs.Event.Effects.{body_of_changing_same, body_of_changing_other, entered, enter_bodies, finished_losses, requested_losses, waits_losses}
use Rattle.scheduler.proofs.Event.Conditions.{conditions}
use Rattle.scheduler.proofs.Event.Bits.{there}
use Rattle.scheduler.proofs.Version.Agreement.{Alike, alike_both, alike_turned, phase_alike, length_alike, Blind, alike_changing, blind_requested, blind_waits, alike_loses, runner_alike, enter_alike, dues_same, counted_alike, effect_alike, status_alike, step_alike, fresh_alike}

-- Of the body i: the second of two alike states has lost n more, "up to 65,535"
record Behind (i n : ℕ) (s s' : State) : Type 0 where
  alike : Alike s s'
  losses : (body_of s' i).losses ≡ min ((body_of s i).losses + n) most_losses

losses_changing : (j : ℕ) (f : Body → Body) (s : State) → (f (body_of s j)).losses ≡ (body_of s j).losses
    → (i : ℕ) → (body_of (changing j f s) i).losses ≡ (body_of s i).losses
losses_changing j f s keeps i =
    sym (get_or-map (λ (x : Body). x.losses) (changing j f s).bodies i no_body)
    ∙ ap (λ l. get_or l i 0) (map-set_same (λ (x : Body). x.losses) s.bodies j (f (body_of s j)) no_body keeps)
    ∙ get_or-map (λ (x : Body). x.losses) s.bodies i no_body

module _ (c : Config) (v : ℕ) (counts : 2 ≤ v) (i : ℕ) where
  abbrev first : Config
  first = with_version c 1

  abbrev later : Config
  later = with_version c v

  kept : {n : ℕ} {s s' x x' : State} → Behind i n s s' → Alike x x' → (body_of x i).losses ≡ (body_of s i).losses
      → (body_of x' i).losses ≡ (body_of s' i).losses
      → Behind i n x x'
  kept {n} b a h h' = record { alike = a; losses = h' ∙ b.losses ∙ ap (λ l. min (l + n) most_losses) (sym h) }

  -- an entry
  entered_behind : (x : Bool) (n : ℕ) (b b' : Body) → b.phase ≡ b'.phase
      → b'.losses ≡ min (b.losses + n) most_losses
      → (entered x b').losses ≡ min ((entered x b).losses + n) most_losses
  entered_behind x n b b' e h = of x
    where
      more : min (b'.losses + 1) most_losses ≡ min (min (b.losses + 1) most_losses + n) most_losses
      more = omega arith

      -- f: what becomes of a suspended body
      go : (f : Body → Body) → ((f b).losses ≡ b.losses) → ((f b').losses ≡ b'.losses) → (p q : Bool) → p ≡ q
          → (cond q (f b') (loses b')).losses ≡ min ((cond p (f b) (loses b)).losses + n) most_losses
      go f k k' true true d = k' ∙ h ∙ ap (λ l. min (l + n) most_losses) (sym k)
      go f k k' false false d = more
      go f k k' true false d = absurd (true≢false d)
      go f k k' false true d = absurd (true≢false (sym d))

      of : (x : Bool) → (entered x b').losses ≡ min ((entered x b).losses + n) most_losses
      of true = go triggers refl refl (is_suspended b.phase) (is_suspended b'.phase) (ap is_suspended e)
      of false = go activated refl refl (is_suspended b.phase) (is_suspended b'.phase) (ap is_suspended e)

  enter_behind : {n : ℕ} {s s' : State} (t : ℕ) → Behind i n s s' → Behind i n (enter first t s) (enter later t s')
  enter_behind {n} {s} {s'} t b =
      record {
        alike = enter_alike c 1 v b.alike t;
        losses = ap (λ bs. (get_or bs i no_body).losses) (enter_bodies later t s')
            ∙ go (is_timed c t)
            ∙ ap (λ bs. min ((get_or bs i no_body).losses + n) most_losses) (sym (enter_bodies first t s));
      }
    where
      go : (x : Bool)
          → (body_of (changing t (entered x) s') i).losses
          ≡ min ((body_of (changing t (entered x) s) i).losses + n) most_losses
      go x =
          by_eq i t
          (λ q. by_lt i (length s.bodies)
          (λ fits.
          let fits' : i < length s'.bodies = omega (arith, length_alike b.alike) in
          rw (← q, body_of_changing_same i (entered x) s fits, body_of_changing_same i (entered x) s' fits')
          (entered_behind x n (body_of s i) (body_of s' i) (phase_alike b.alike i) b.losses))
          (λ past.
          let past' : length s'.bodies ≤ t = omega (arith, length_alike b.alike) in
          let out = set_out s.bodies t (entered x (body_of s t)) (omega arith) in
          let out' = set_out s'.bodies t (entered x (body_of s' t)) past' in
          ap (λ bs. (get_or bs i no_body).losses) out'
          ∙ b.losses
          ∙ ap (λ bs. min ((get_or bs i no_body).losses + n) most_losses) (sym out)))
          (λ d. rw (body_of_changing_other t (entered x) s i d, body_of_changing_other t (entered x) s' i d) b.losses)

  entering_behind : (ds : List Bool) (ts : List ℕ) {n : ℕ} {s s' : State} → Behind i n s s'
      → Behind i n (activating_due first ds ts s) (activating_due later ds ts s')
  unfolding activating_due
  entering_behind [] ts b = b
  entering_behind (true ∷ ds) [] b = b
  entering_behind (false ∷ ds) [] b = b
  entering_behind (true ∷ ds) (t ∷ ts) b = entering_behind ds ts (enter_behind t b)
  entering_behind (false ∷ ds) (t ∷ ts) b = entering_behind ds ts b

  dispatched_losses : (k : Candidate) (s : State) → (body_of (dispatched_to k s) i).losses ≡ (body_of s i).losses
  dispatched_losses k s =
      cond_either (λ (x : State). (body_of x i).losses ≡ (body_of s i).losses) (begins k) _ s
      (losses_changing k.number (become (phase_begun k)) s refl i)
      refl

  more : {n : ℕ} {s s' : State} → Behind i n s s' → Behind i (n + 0) s s'
  more {n} {s} b = record { alike = b.alike; losses = b.losses ∙ same }
    where
      same : min ((body_of s i).losses + n) most_losses ≡ min ((body_of s i).losses + (n + 0)) most_losses
      same = omega arith

  module _ {n : ℕ} {s s' : State} (b : Behind i n s s') (k : Candidate) where
    -- a change that keeps the losses
    changed : (j : ℕ) (f : Body → Body) → Blind f → ((x : Body) → (f x).losses ≡ x.losses)
        → Behind i n (changing j f s) (changing j f s')
    changed j f blind keeps =
        kept b (alike_changing j f blind b.alike)
        (losses_changing j f s (keeps (body_of s j)) i)
        (losses_changing j f s' (keeps (body_of s' j)) i)

    effect_behind : (e : Event) → Behind i n (effect_for first k s e) (effect_for later k s' e)
    effect_behind (Activate t) = changed t activated (λ x. refl) (λ x. refl)
    effect_behind Finish =
        kept b (effect_alike c 1 v b.alike k Finish) (go s) (go s')
      where
        go : (x : State) → (body_of (cond k.timed (finish_timed k.number x) (finish k.number x)) i).losses
            ≡ (body_of x i).losses
        go x =
            cond_either (λ (y : State). (body_of y i).losses ≡ (body_of x i).losses) k.timed _ _
            (losses_changing k.number finished x (finished_losses (body_of x k.number)) i)
            (losses_changing k.number finished x (finished_losses (body_of x k.number)) i)
    effect_behind (Chain t) =
        kept b (effect_alike c 1 v b.alike k (Chain t)) (go s) (go s')
      where
        go : (x : State) → (body_of (changing t activated (changing k.number finished x)) i).losses ≡ (body_of x i).losses
        go x =
            losses_changing t activated (changing k.number finished x) refl i
            ∙ losses_changing k.number finished x (finished_losses (body_of x k.number)) i
    effect_behind (Get r) = changed k.number (gets r) (λ x. refl) (λ x. refl)
    effect_behind (Release r) = changed k.number releases (λ x. refl) (λ x. refl)
    effect_behind Tick =
        rw (dues_same c 1 v (counted_alike c 1 v b.alike))
        (entering_behind (dues later (counted s')) c.task
        (kept b (counted_alike c 1 v b.alike) refl refl))
    effect_behind (Line j) = changed j requested blind_requested requested_losses
    effect_behind (Start t d) = kept b (effect_alike c 1 v b.alike k (Start t d)) refl refl
    effect_behind (Stop t) = kept b (effect_alike c 1 v b.alike k (Stop t)) refl refl
    effect_behind (Wait m) = changed k.number (waits m) (blind_waits m) (waits_losses m)
    effect_behind (Set t m) = changed t (receives m) (λ x. refl) (λ x. refl)
    effect_behind (Clear m) = changed k.number (clears m) (λ x. refl) (λ x. refl)

    -- a refusal: only a Line of i with status 4 counts
    refusal_behind : (st : ℕ) (e : Event) → (e ≡ Line i → st ≡ limit_reached → i < length s'.bodies)
        → Behind i (n + mark_of (is_line_of i e && eqb st limit_reached)) (else_of first s st e) (else_of later s' st e)
    refusal_behind st (Activate t) named = more b
    refusal_behind st Finish named = more b
    refusal_behind st (Chain t) named = more b
    refusal_behind st (Get r) named = more b
    refusal_behind st (Release r) named = more b
    refusal_behind st Tick named = more b
    refusal_behind st (Line j) named = go (eqb st limit_reached) (eqb-true st limit_reached)
      where
        here : (x : Bool) → x ≡ true → st ≡ limit_reached → Behind i (n + mark_of (eqb j i && x)) s (changing j loses s')
        here x e four =
            by_eq j i
            (λ q. record {
              alike = alike_both b.alike (alike_turned (alike_loses j s'));
              losses = rw (q, e, eq-eqb i i refl)
                  (ap (λ (y : Body). y.losses) (body_of_changing_same i loses s' (named (ap Line q) four)) ∙ sum);
            })
            (λ d. rw (ne_eqb j i d)
            (more (kept b (alike_both b.alike (alike_turned (alike_loses j s'))) refl
            (ap (λ (y : Body). y.losses) (body_of_changing_other j loses s' i (λ q. d (sym q)))))))
          where
            sum : min ((body_of s' i).losses + 1) most_losses ≡ min ((body_of s i).losses + (n + 1)) most_losses
            sum = omega (arith, b.losses)

        go : (x : Bool) → (x ≡ true → st ≡ limit_reached) → Behind i (n + mark_of (eqb j i && x)) s
            (cond (leb 2 v && x) (changing j loses s') s')
        go true four = rw (le-leb 2 v counts) (here true refl (four refl))
        go false four = rw (and-false (leb 2 v), and-false (eqb j i)) (more b)
    refusal_behind st (Start t d) named = more b
    refusal_behind st (Stop t) named = more b
    refusal_behind st (Wait m) named = more b
    refusal_behind st (Set t m) named = more b
    refusal_behind st (Clear m) named = more b

  module _ {n : ℕ} {s s' : State} (b : Behind i n s s') where
    -- whose Line is refused with 4 is not suspended, so it is one of the bodies
    named : (step later s' (Line i)).seen.status ≡ limit_reached → i < length s'.bodies
    named four = go ((conditions later s').seven_line i)
      where
        waits_there : Requested (body_of s' i) → is_suspended (body_of s' i).phase ≡ false
        waits_there (inl q) = ap is_suspended q
        waits_there (inr (inl (inl q, h))) = ap is_suspended q
        waits_there (inr (inl (inr q, h))) = ap is_suspended q.1
        waits_there (inr (inr q)) = ap is_suspended q

        go : Decided (step later s' (Line i)).seen.status
            ((3 if ¬ Isr later i) ∷ (4 if Requested (body_of s' i)) ∷ [])
            → i < length s'.bodies
        go (inl (p, e)) = absurd (omega (arith, four, e))
        go (inr (p, inl (r, e))) = there s' i (waits_there r)
        go (inr (p, inr (r, e))) = absurd (omega (arith, four, e))

    leaves_behind : (e : Event)
        → Behind i (n + mark_of (is_line_of i e && eqb (step first s e).seen.status limit_reached)) (leaves first s e)
        (leaves later s' e)
    unfolding step_by
    leaves_behind e =
        rw (runner_alike c 1 v b.alike, status_alike c 1 v b.alike k e)
        (by_eq st done
        (λ z. rw (eq-eqb st done z, unlost_done z) (more (effect_behind b k e)))
        (λ z. rw (ne_eqb st done z) (refusal_behind b k st e (λ q four. named (line_status_lem q four)))))
      where
        k : Candidate
        k = runner later s'

        st : ℕ
        st = status_for later k s' e

        unlost_done : st ≡ done → is_line_of i e && eqb st limit_reached ≡ false
        unlost_done z = rw z (and-false (is_line_of i e))

        line_status_lem : e ≡ Line i → st ≡ limit_reached → status_for later k s' (Line i) ≡ limit_reached
        line_status_lem q four = ap (status_for later k s') (sym q) ∙ four

    step_behind : (e : Event)
        → Behind i (n + mark_of (is_line_of i e && eqb (step first s e).seen.status limit_reached)) (step first s e).state
        (step later s' e).state
    unfolding step_by
    step_behind e =
        let left = leaves_behind e in
        kept left (step_alike c 1 v b.alike e).1
        (dispatched_losses (runner first (leaves first s e)) (leaves first s e))
        (dispatched_losses (runner later (leaves later s' e)) (leaves later s' e))

  fresh_behind : Behind i 0 (fresh first) (fresh later)
  fresh_behind =
      record {
        alike = fresh_alike c 1 v;
        losses = dispatched_losses (runner later (unstarted later)) (unstarted later)
            ∙ none
            ∙ ap (λ l. min (l + 0) most_losses)
            (sym (dispatched_losses (runner first (unstarted first)) (unstarted first)));
      }
    where
      zero_losses : (x : ℕ) → (new_body x).losses ≡ 0
      zero_losses x = cond_either (λ (b : Body). b.losses ≡ 0) (eqb x 1) _ _ refl refl

      lost : (body_of (unstarted first) i).losses ≡ 0
      lost =
          ap (λ (b : Body). b.losses) (get_or-map new_body (take c.bodies c.autostart) i 0)
          ∙ zero_losses (get_or (take c.bodies c.autostart) i 0)

      none : (body_of (unstarted first) i).losses ≡ min ((body_of (unstarted first) i).losses + 0) most_losses
      none = omega (arith, lost)

  after_behind : (es : List Event) {n : ℕ} {s s' : State} → Behind i n s s'
      → (body_of (after later s' es) i).losses
      ≡ min ((body_of (after first s es) i).losses + (n + lines_lost first i s es)) most_losses
  unfolding after_by lines_lost
  after_behind [] {n} {s} {s'} b = b.losses ∙ same
    where
      same : min ((body_of s i).losses + n) most_losses ≡ min ((body_of s i).losses + (n + 0)) most_losses
      same = omega arith
  after_behind (e ∷ es) {n} {s} {s'} b =
      after_behind es (step_behind b e)
      ∙ ap (λ m. min ((body_of (after first s (e ∷ es)) i).losses + m) most_losses)
      (add_assoc n (mark_of (is_line_of i e && eqb (step first s e).seen.status limit_reached))
      (lines_lost first i (step first s e).state es))

  pub losses_apart : (es : List Event)
      → (body_of (after later (fresh later) es) i).losses
      ≡ min ((body_of (after first (fresh first) es) i).losses + lines_lost first i (fresh first) es) most_losses
  losses_apart es =
      after_behind es fresh_behind
      ∙ ap (λ m. min ((body_of (after first (fresh first) es) i).losses + m) most_losses)
      (zero-add (lines_lost first i (fresh first) es))
