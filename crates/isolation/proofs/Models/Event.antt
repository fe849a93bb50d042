-- One event in two models that are the same above L: `event_same`.
--
-- In order: a body that an event names is not low; the statuses; the effects; the refusals.
use Prim.Native.Nat.{ℕ, ◌≤◌, ◌<◌}
use mathlib.Core.Path.{◌≡◌, refl, sym, ◌∙◌}
use mathlib.Core.Bool.{Bool, true, false, true≢false, cond, not, ◌&&◌}
use mathlib.Core.List.{List}
use native.Mathlib.Omega.{arith}
use borrow.Author.Tests.{ltb-true}
use lib.Dec.{ltb, eqb}
use lib.ListN.{get_or}
use Rattle.number.proofs.Cases.{by_test, by_lt, and_true}
use Rattle.config.specs.declared.Config.{Config}
use Rattle.config.specs.Value.{max_entries}
use Rattle.config.specs.Meaning.{counts_lines, is_task, is_timed, is_osek_task, is_isr, is_extended}
use Rattle.config.specs.Accepted as Configuration
use Rattle.word.specs.Word.{has, with}
use Rattle.plan.specs.Rank.{no_rank, rank_of}
use Rattle.plan.specs.Plan.{plan_of}
use Rattle.plan.proofs.Fitted.{Fitted, fitted}
use Rattle.scheduler.specs.Status.{done, limit_reached, first_given}
use Rattle.scheduler.specs.Bits.{any_set}
use Rattle.scheduler.specs.Event.{Event, Activate, Finish, Chain, Get, Release, Tick, Line, Start, Stop, Wait, Set, Clear}
use Rattle.machine.specs.Model.{Model, done_with}
use Rattle.machine.specs.Arbiter.{settled, leaving, requesting, triggering, timed, returning}
use Rattle.machine.specs.Resources.{releasing}
use Rattle.machine.specs.Events.{bits_at, due_of, ticking, tick, pausing, receiving, begun_word, marks_of}
use Rattle.machine.specs.Machine.{status_of, effect_of, else_of, machine_step}
use Rattle.isolation.specs.Above.{above, NamesAbove}
use Rattle.isolation.specs.Models.{waiting_with, LowRank, SameWord, SameLosses, SameModel}
use Rattle.isolation.proofs.Models.Rank.{high_rank}
use Rattle.isolation.proofs.Models.Dispatch.{SameOutcome, Follows, settled_same, triggering_same}
use Rattle.isolation.proofs.Models.Match.{with_same, lost_same, SameTally, requests_due_same}

module _ (c : Config) (ok : Configuration.Accepted c) (shaped : Configuration.Shaped c) (L : ℕ) where
  fit : Fitted c (plan_of c) (rank_of c)
  fit = fitted c ok shaped

  -- a rank by which the body t is named, or none
  named_high : (t r : ℕ) (is : Bool) → r ≡ cond is (rank_of c t) no_rank → (is ≡ true → t < c.bodies)
      → (t < c.bodies → above c L t ≡ true)
      → LowRank c L r
      → ⊥
  named_high t r true e there high l =
      high_rank c ok shaped L t (there refl) (high (there refl))
      (record { body = l.body; exists = l.exists; low = l.low; rank = l.rank ∙ e })
  named_high t r false e there high l =
      omega (arith, l.rank, e, fit.rank_lt l.body l.exists, fit.few)

  there : (b : ℕ) (x : Bool) → ltb b c.bodies && x ≡ true → b < c.bodies
  there b x e = ltb-true b c.bodies (and_true (ltb b c.bodies) x e).0

  module _ (m : Model) (w : ℕ) (ls : List ℕ) (same : SameWord c L m.core.request w)
      (lost : SameLosses c L m.losses ls) where
    abbrev other : Model
    other = waiting_with m w ls

    task_same : (t : ℕ) → (t < c.bodies → above c L t ≡ true)
        → has m.core.request (get_or (plan_of c).callable t no_rank) ≡ has w (get_or (plan_of c).callable t no_rank)
    task_same t high =
        same (get_or (plan_of c).callable t no_rank)
        (named_high t (get_or (plan_of c).callable t no_rank) (is_osek_task c t) (fit.callable_rank_lem t)
        (λ e. there t (not (eqb (get_or c.kind t 0) 1)) (and_true (is_task c t) (not (is_timed c t)) e).0) high)

    line_same : (i : ℕ) → (i < c.bodies → above c L i ≡ true)
        → has m.core.request (get_or (plan_of c).line i no_rank) ≡ has w (get_or (plan_of c).line i no_rank)
    line_same i high =
        same (get_or (plan_of c).line i no_rank)
        (named_high i (get_or (plan_of c).line i no_rank) (is_isr c i) (fit.line_rank_lem i)
        (λ e. there i (eqb (get_or c.kind i 0) 1) e) high)

    status_same : (e : Event) → NamesAbove c L e → status_of c (plan_of c) m e ≡ status_of c (plan_of c) other e
    unfolding status_of first_given
    status_same (Activate t) u = rw (task_same t u)
    status_same Finish u = refl
    status_same (Chain t) u = rw (task_same t u)
    status_same (Get r) u = refl
    status_same (Release r) u = refl
    status_same Tick u = refl
    status_same (Line i) u = rw (line_same i u)
    status_same (Start t d) u = refl
    status_same (Stop t) u = refl
    status_same (Wait v) u = refl
    status_same (Set t v) u =
        by_lt t c.bodies
        (λ h. by_test (is_extended c t)
        (λ e. rw (same (get_or (plan_of c).rank t no_rank)
        (named_high t (get_or (plan_of c).rank t no_rank) true (fit.body_rank t h) (λ _. h) (λ _. u e))))
        (λ e. rw (fit.body_rank t h, fit.extended_at t h, e)))
        (λ h. rw (same (get_or (plan_of c).rank t no_rank)
        (named_high t (get_or (plan_of c).rank t no_rank) false (fit.rank_none t h) (λ n. absurd (true≢false (sym n)))
        (λ l. absurd (omega arith)))))
    status_same (Clear v) u = refl

    -- where an event leaves who runs and the level, and nobody begins
    quiet : {x y : Model} → SameModel c L x y → SameOutcome c L (done_with x false) (done_with y false)
    quiet a = record { status = refl; begun = refl; model = a }

    requested_same : (r : ℕ) (x : Model) (v : ℕ) → SameWord c L x.core.request v → SameLosses c L x.losses ls
        → Follows c L (settled (plan_of c).priority (requesting r x))
        (settled (plan_of c).priority (requesting r (waiting_with x v ls)))
    requested_same r x v waits left =
        settled_same c ok shaped L (requesting r x) (with v r) ls (with_same c L x.core.request v r waits) left

    due_same : SameTally c L (due_of (plan_of c).compare (plan_of c).entry m)
        (due_of (plan_of c).compare (plan_of c).entry other)
    due_same =
        requests_due_same c L ok shaped (begun_word m) (marks_of max_entries (plan_of c).compare m) (plan_of c).entry
        (record { requests = same; losses = lost })

    tick_same : L ≤ m.core.level
        → Follows c L (triggering (plan_of c).priority (ticking (plan_of c).compare (plan_of c).entry m))
        (triggering (plan_of c).priority (ticking (plan_of c).compare (plan_of c).entry other))
    tick_same high =
        triggering_same c ok shaped L (ticking (plan_of c).compare (plan_of c).entry m)
        (due_of (plan_of c).compare (plan_of c).entry other).request
        (due_of (plan_of c).compare (plan_of c).entry other).losses
        due_same.requests due_same.losses high

    effect_same : (e : Event) → L ≤ m.core.level
        → Follows c L (effect_of c (plan_of c) m e) (effect_of c (plan_of c) other e)
    unfolding effect_of tick
    effect_same (Activate t) high = requested_same (get_or (plan_of c).callable t no_rank) m w same lost
    effect_same Finish high = go (timed m)
      where
        go : (x : Bool)
            → Follows c L (settled (plan_of c).priority (cond x (returning m) (leaving m)))
            (settled (plan_of c).priority (cond x (returning other) (leaving other)))
        go true = settled_same c ok shaped L (returning m) w ls same lost
        go false = settled_same c ok shaped L (leaving m) w ls same lost
    effect_same (Chain t) high = requested_same (get_or (plan_of c).callable t no_rank) (leaving m) w same lost
    effect_same (Get r) high = λ _ _. quiet (record { rest = refl; requests = same; losses = lost })
    effect_same (Release r) high = settled_same c ok shaped L (releasing (plan_of c).priority r m) w ls same lost
    effect_same Tick high = tick_same high
    effect_same (Line i) high = requested_same (get_or (plan_of c).line i no_rank) m w same lost
    effect_same (Start t d) high = λ _ _. quiet (record { rest = refl; requests = same; losses = lost })
    effect_same (Stop t) high = λ _ _. quiet (record { rest = refl; requests = same; losses = lost })
    effect_same (Wait v) high =
        by_test (any_set (bits_at m m.core.runner) v)
        (λ h. rw h (λ _ _. quiet (record { rest = refl; requests = same; losses = lost })))
        (λ h. rw h (settled_same c ok shaped L (pausing v m) w ls same lost))
    effect_same (Set t v) high =
        settled_same c ok shaped L (receiving (get_or (plan_of c).rank t no_rank) v m) w ls same lost
    effect_same (Clear v) high = λ _ _. quiet (record { rest = refl; requests = same; losses = lost })

    kept : SameModel c L m other
    kept = record { rest = refl; requests = same; losses = lost }

    refusal_same : (st : ℕ) (e : Event)
        → SameModel c L (else_of c (plan_of c) m st e) (else_of c (plan_of c) other st e)
    unfolding else_of
    refusal_same st (Activate t) = kept
    refusal_same st Finish = kept
    refusal_same st (Chain t) = kept
    refusal_same st (Get r) = kept
    refusal_same st (Release r) = kept
    refusal_same st Tick = kept
    refusal_same st (Line i) =
        by_test (counts_lines c && eqb st limit_reached)
        (λ h. rw h
        (record {
          rest = refl;
          requests = same;
          losses = lost_same c L m.losses ls (get_or (plan_of c).line i no_rank) lost;
        }))
        (λ h. rw h kept)
    refusal_same st (Start t d) = kept
    refusal_same st (Stop t) = kept
    refusal_same st (Wait v) = kept
    refusal_same st (Set t v) = kept
    refusal_same st (Clear v) = kept

    pub event_same : (e : Event) → NamesAbove c L e → L ≤ m.core.level
        → Follows c L (machine_step c (plan_of c) m e) (machine_step c (plan_of c) (waiting_with m w ls) e)
    event_same e u high =
        rw (status_same e u)
        (by_test (eqb (status_of c (plan_of c) other e) done)
        (λ h. rw h (effect_same e high))
        (λ h. rw h (λ _ _. record {
          status = refl;
          begun = refl;
          model = refusal_same (status_of c (plan_of c) other e) e;
        })))
