-- The dispatch: the chosen body begins, and is chosen again (`runner_dispatched`); after an event nobody is left to begin
-- (`Underway`), so that another dispatch would do nothing.
use Prim.Native.Nat.{ℕ, ◌≤◌, ◌<◌}
use mathlib.Core.Path.{◌≡◌, refl, sym, ap, ◌∙◌}
use mathlib.Core.Bool.{Bool, true, false, true≢false, cond, not, ◌&&◌, ◌||◌, or-true, or-false}
use mathlib.Core.List.{List, [], ◌∷◌}
use mathlib.Core.Logic.{◌≢◌}
use native.Mathlib.Omega.{arith}
use borrow.Author.Tests.{eq-eqb, ne_eqb}
use lib.Dec.{eqb}
use lib.ListN.{length}
use lib.Seq.{set_out}
use Rattle.number.proofs.Cases.{by_test, by_lt}
use Rattle.config.specs.declared.Config.{Config}
use Rattle.config.specs.Meaning.{execution_level}
use Rattle.scheduler.specs.Body.{Phase, suspended, ready, started, waiting, triggered, is_started, has_begun, competes, Body, holds, current, become}
use Rattle.scheduler.specs.Choice.{Candidate, is_nobody, candidate, by_holding, goes_before, preferred, chosen}
use Rattle.scheduler.specs.State.{State, body_of, changing, runner, among}
use Rattle.scheduler.specs.Event.{Event}
use Rattle.scheduler.specs.Scheduler.{begins, phase_begun, dispatched, leaves, step, step_by, unstarted, fresh, after, after_by}
use Rattle.scheduler.proofs.Choice.Runner.{contender, candidate_active, chosen_mapped, Taken, no_one, body, chosen_from_lem, runner_timed, runner_untimed}
use Rattle.scheduler.proofs.Event.Effects.{body_of_changing_same, length_changing, dispatched_keeps}

-- the candidate x, begun
abbrev once_begun : Candidate → Candidate
once_begun x =
    record { number = x.number; level = x.level; began = x.began || begins x; holder = x.holder; timed = x.timed }

pub begins_some : (x : Candidate) → begins x ≡ true → (is_nobody x ≡ false) × (x.began ≡ false)
begins_some x h = both (is_nobody x) x.began h
  where
    both : (a b : Bool) → (not a && not b) ≡ true → (a ≡ false) × (b ≡ false)
    both true b e = absurd (true≢false (sym e))
    both false true e = absurd (true≢false (sym e))
    both false false e = (refl, refl)

begun_or : (x : Candidate) → begins x ≡ true → x.began || begins x ≡ true
begun_or x e = ap (λ (b : Bool). x.began || b) e ∙ or-true x.began

begins_once_begun : (x : Candidate) → begins (once_begun x) ≡ false
begins_once_begun x = both (is_nobody x) x.began
  where
    both : (a b : Bool) → (not a && not (b || (not a && not b))) ≡ false
    both true b = refl
    both false true = refl
    both false false = refl

-- A body that begins is to the choice what it was but for `began`, on which the choice does not rest:
-- x begun, where it is the body k
abbrev beginning : ℕ → Candidate → Candidate
beginning k x =
    record {
      number = x.number;
      level = x.level;
      began = x.began ||
          (not (is_nobody x) && eqb x.number k);
      holder = x.holder;
      timed = x.timed;
    }

beginning_preferred : (k : ℕ) (x y : Candidate)
    → preferred by_holding (beginning k x) (beginning k y) ≡ beginning k (preferred by_holding x y)
beginning_preferred k x y = go (goes_before by_holding y x)
  where
    go : (b : Bool) → cond b (beginning k y) (beginning k x) ≡ beginning k (cond b y x)
    go true = refl
    go false = refl

began_same : (x : Candidate) (b : Bool) → b ≡ x.began
    → record { number = x.number; level = x.level; began = b; holder = x.holder; timed = x.timed } ≡ x
began_same x b e i = record { number = x.number; level = x.level; began = e i; holder = x.holder; timed = x.timed }

-- another body stays what it is
beginning_other : (c : Config) (k j : ℕ) (b : Body) → j ≢ k
    → beginning k (candidate c j b b.phase) ≡ candidate c j b b.phase
unfolding candidate
beginning_other c k j b d = go b.phase
  where
    never : (p q : Bool) → q ≡ false → p && q ≡ false
    never true q e = e
    never false q e = refl

    go : (p : Phase) → beginning k (candidate c j b p) ≡ candidate c j b p
    go suspended = refl
    go ready =
        began_same (candidate c j b ready) (not (eqb (current c j b) 0) && eqb j k)
        (never (not (eqb (current c j b) 0)) (eqb j k) (ne_eqb j k d))
    go started = refl
    go (waiting w) = refl
    go (triggered x) = refl

-- the runner of s is the body k, which begins; no time-triggered task is started
module _ (c : Config) (s : State) (none : s.order ≡ []) (k : ℕ) (active : competes (body_of s k).phase ≡ true)
    (taken : chosen c s.bodies ≡ contender c s.bodies k) (begin : begins (runner c s) ≡ true)
  where
    abbrev it : Bool → Candidate
    it b =
        record {
          number = k;
          level = current c k (body_of s k);
          began = b;
          holder = holds
              (body_of s k).held;
          timed = false;
        }

    runner_is : runner c s ≡ it (is_started (body_of s k).phase)
    runner_is = runner_untimed c s none ∙ taken ∙ candidate_active c k (body_of s k) (body_of s k).phase active

    dispatched_now : dispatched c s ≡ changing k (become started) s
    dispatched_now = rw begin (ap (λ (x : Candidate). changing x.number (become (phase_begun x)) s) runner_is)

    -- the runner, begun
    once_begun_is : beginning k (runner c s) ≡ once_begun (runner c s)
    once_begun_is =
        ap (λ (b : Bool). record {
          number = (runner c s).number;
          level = (runner c s).level;
          began = (runner c s).began || b;
          holder = (runner c s).holder;
          timed = (runner c s).timed;
        })
        (ap (λ a. not a && eqb (runner c s).number k) (begins_some (runner c s) begin).0
        ∙ eq-eqb (runner c s).number k number_is ∙ sym begin)
      where
        number_is : (runner c s).number ≡ k
        number_is = ap (λ (x : Candidate). x.number) runner_is

    begins_so : candidate c k (become started (body_of s k)) started ≡ beginning k (contender c s.bodies k)
    unfolding candidate
    begins_so =
        sym (
        ap (beginning k) (sym (runner_untimed c s none ∙ taken)) ∙ once_begun_is
        ∙ ap once_begun runner_is
        ∙ ap it (ap (λ (x : Candidate). x.began || begins x) (sym runner_is) ∙ begun_or (runner c s) begin)
        )

    chosen_again : runner c (changing k (become started) s) ≡ once_begun (runner c s)
    chosen_again =
        runner_untimed c (changing k (become started) s) none
        ∙ chosen_mapped by_holding c (beginning k) (beginning_preferred k) refl k (beginning_other c k)
        (become started (body_of s k)) s.bodies begins_so
        ∙ ap (beginning k) (sym (runner_untimed c s none))
        ∙ once_begun_is

-- the runner of s is the time-triggered task j, which begins
module _ (c : Config) (s : State) (j : ℕ) (js : List ℕ) (latest : s.order ≡ j ∷ js) (fits : j < length s.bodies)
    (begin : begins (runner c s) ≡ true)
  where
    triggered_now : dispatched c s ≡ changing j (become (triggered true)) s
    triggered_now =
        rw begin (ap (λ (x : Candidate). changing x.number (become (phase_begun x)) s) (runner_timed c s j js latest))

    triggered_again : runner c (changing j (become (triggered true)) s) ≡ once_begun (runner c s)
    triggered_again =
        runner_timed c (changing j (become (triggered true)) s) j js latest
        ∙ ap it (ap (λ (b : Body). has_begun b.phase) (body_of_changing_same j (become (triggered true)) s fits))
        ∙ sym (ap once_begun is
        ∙ ap it (ap (λ (x : Candidate). x.began || begins x) (sym is) ∙ begun_or (runner c s) begin))
      where
        it : Bool → Candidate
        it b = record { number = j; level = execution_level; began = b; holder = false; timed = true }

        is : runner c s ≡ it (has_begun (body_of s j).phase)
        is = runner_timed c s j js latest

-- the dispatch makes the chosen body begin, and it is chosen again
pub runner_dispatched : (c : Config) (s : State) → (runner c s).number < length s.bodies
    → runner c (dispatched c s) ≡ once_begun (runner c s)
runner_dispatched c s fits = by_test (begins (runner c s)) (λ e. go s.order refl e) (λ e. rw (e, or-false))
  where
    chosen_begins : s.order ≡ [] → Taken c s.bodies (chosen c s.bodies) → begins (runner c s) ≡ true
        → runner c (dispatched c s) ≡ once_begun (runner c s)
    chosen_begins o (no_one z) e =
        absurd (true≢false (rw (runner_untimed c s o ∙ z) at (begins_some (runner c s) e).0))
    chosen_begins o (body k h p z) e = ap (runner c) (dispatched_now c s o k p z e) ∙ chosen_again c s o k p z e

    go : (js : List ℕ) → s.order ≡ js → begins (runner c s) ≡ true → runner c (dispatched c s) ≡ once_begun (runner c s)
    go [] o e = chosen_begins o (chosen_from_lem by_holding refl c s.bodies) e
    go (j ∷ js) o e =
        let is : (runner c s).number ≡ j = ap (λ (x : Candidate). x.number) (runner_timed c s j js o) in
        let here : j < length s.bodies = omega (arith, fits, is) in
        ap (runner c) (triggered_now c s j js o here e) ∙ triggered_again c s j js o here e

-- no body that there is not changes
dispatched_out : (c : Config) (s : State) → length s.bodies ≤ (runner c s).number → dispatched c s ≡ s
dispatched_out c s past =
    by_test (begins (runner c s))
    (λ e. rw e
    (ap (λ (bs : List Body). record { bodies = bs; tables = s.tables; order = s.order })
    (set_out s.bodies (runner c s).number (become (phase_begun (runner c s)) (body_of s (runner c s).number)) past)))
    (λ e. rw e)

-- nobody is left to begin, of the bodies that there are
abbrev pub Underway : Config → State → Type 0
Underway c s = begins (runner c s) ≡ true → length s.bodies ≤ (runner c s).number

pub dispatched_same : (c : Config) (s : State) → Underway c s → dispatched c s ≡ s
dispatched_same c s underway = by_test (begins (runner c s)) (λ e. dispatched_out c s (underway e)) (λ e. rw e)

pub dispatched_underway : (c : Config) (s : State) → Underway c (dispatched c s)
dispatched_underway c s e =
    by_lt (runner c s).number (length s.bodies)
    (λ fits. absurd (true≢false (sym e ∙ ap begins (runner_dispatched c s fits) ∙ begins_once_begun (runner c s))))
    (λ past. rw (dispatched_out c s past) past)

-- whom the dispatch chose is chosen again
pub runner_same : (c : Config) (s : State)
    → ((runner c (dispatched c s)).number ≡ (runner c s).number) × ((runner c (dispatched c s)).level ≡ (runner c s).level)
runner_same c s =
    by_lt (runner c s).number (length s.bodies)
    (λ fits. (
      ap (λ (x : Candidate). x.number) (runner_dispatched c s fits),
      ap (λ (x : Candidate). x.level) (runner_dispatched c s fits),
    ))
    (λ past. rw (dispatched_out c s past) (refl, refl))

module _ (c : Config) (s : State) (underway : Underway c s) where
  -- where no time-triggered task is started
  pub underway_untimed : s.order ≡ [] → begins (runner c s) ≡ false
  underway_untimed o = by_test (begins (runner c s)) (λ e. go e (chosen_from_lem by_holding refl c s.bodies)) (λ e. e)
    where
      go : begins (runner c s) ≡ true → Taken c s.bodies (chosen c s.bodies) → begins (runner c s) ≡ false
      go e (no_one z) = ap begins (runner_untimed c s o ∙ z)
      go e (body k h p z) =
          let is = runner_untimed c s o ∙ z ∙ candidate_active c k (body_of s k) (body_of s k).phase p in
          absurd (omega (arith, underway e, ap (λ (x : Candidate). x.number) is))

  -- where all that are started are bodies
  pub underway_named : ((j : ℕ) → among j s.order ≡ true → j < length s.bodies) → begins (runner c s) ≡ false
  unfolding among
  underway_named named = go s.order refl
    where
      go : (js : List ℕ) → s.order ≡ js → begins (runner c s) ≡ false
      go [] o = underway_untimed o
      go (j ∷ js) o =
          by_test (begins (runner c s))
          (λ e. absurd (omega (
            arith,
            underway e,
            named j (rw o (rw (eq-eqb j j refl))),
            ap (λ (x : Candidate). x.number) (runner_timed c s j js o),
          )))
          (λ e. e)

module _ (c : Config) where
  pub underway_fresh : Underway c (fresh c)
  underway_fresh = dispatched_underway c (unstarted c)

  pub underway_step : (s : State) (e : Event) → Underway c (step c s e).state
  unfolding step_by
  underway_step s e = dispatched_underway c (leaves c s e)

  pub underway_after : (es : List Event) (s : State) → Underway c s → Underway c (after c s es)
  unfolding after_by
  underway_after [] s h = h
  underway_after (e ∷ es) s h = underway_after es (step c s e).state (underway_step s e)

-- the one that a dispatch chose is chosen again, and has begun
pub chosen_again_begun : (c : Config) (s : State)
    → ((runner c (dispatched c s)).number ≡ (runner c s).number) × ((runner c (dispatched c s)).level ≡ (runner c s).level)
    × (((j : ℕ) → among j s.order ≡ true → j < length s.bodies) → begins (runner c (dispatched c s)) ≡ false)
chosen_again_begun c s = (
  (runner_same c s).0,
  (runner_same c s).1,
  λ named. underway_named c (dispatched c s) (dispatched_underway c s) (kept named),
)
  where
    kept : ((j : ℕ) → among j s.order ≡ true → j < length s.bodies)
        → (j : ℕ) → among j (dispatched c s).order ≡ true → j < length (dispatched c s).bodies
    kept named =
        dispatched_keeps (λ x. (j : ℕ) → among j x.order ≡ true → j < length x.bodies)
        (λ i f x h j a. rw (length_changing i f x) (h j a))
        c
        s
        named
