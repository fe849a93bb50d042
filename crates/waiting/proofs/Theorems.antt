-- How long a body waits to begin, if only Finish events follow. Each law stands here in full, over
-- specs/ alone; the modules it cites prove it.
--
-- In order: the closed count; when the body begins, and that there is one such number; the result
-- that says it; who counts twice; when 35 and 32 are given; the call by the words of the machine's
-- model.
use Prim.Native.Nat.{ℕ, ◌+◌, ◌^◌, ◌<◌}
use mathlib.Core.Path.{◌≡◌, sym, ◌∙◌}
use mathlib.Core.Bool.{true, false, true≢false}
use mathlib.Core.List.{List, []}
use mathlib.Core.Logic.{◌↔◌}
use native.Mathlib.Omega.{arith}
use borrow.Author.Tests.{le-leb, lt-leb}
use Rattle.number.proofs.Cases.{by_test, by_lt}
use Rattle.config.specs.declared.Config.{Config}
use Rattle.config.specs.Meaning.{is_isr, is_extended, is_timed}
use Rattle.config.specs.Accepted.{Accepted, Shaped}
use Rattle.word.specs.Word.{ranks}
use Rattle.plan.specs.Plan.{plan_of}
use Rattle.scheduler.specs.Body.{is_started}
use Rattle.scheduler.specs.State.{State, body_of}
use Rattle.scheduler.specs.Scheduler.{Event, fresh, after}
use Rattle.machine.specs.Machine.{fresh_model, machine_after}
use Rattle.run.proofs.Theorems.{places}
use Rattle.waiting.specs.Conditions.{beyond_basic, waits_to_begin, resource_held}
use Rattle.waiting.specs.Finishes.{finishes_until, BeginsAt}
use Rattle.waiting.specs.Jobs.{jobs_ahead}
use Rattle.waiting.specs.Result.{wait_in}
use Rattle.waiting.specs.Words.{wait_by}
use Rattle.waiting.proofs.State.BasicKinds as BasicKinds
use Rattle.waiting.proofs.State.Basic as Basic
use Rattle.waiting.proofs.State.Requests as Requests
use Rattle.waiting.proofs.State.NoHolder as NoHolder
use Rattle.waiting.proofs.Count.Steps as Steps
use Rattle.waiting.proofs.Model.Result as Result

-- Of every accepted configuration without extended and time-triggered tasks, after every list of
-- events, of a body that waits to begin while no resource is held
module _ (c : Config) (ok : Accepted c) (shaped : Shaped c) (basic : beyond_basic c ≡ false)
    (es : List Event) (b : ℕ) (waits : waits_to_begin (after c (fresh c) es) b ≡ true)
    (free : resource_held (after c (fresh c) es) ≡ false) where
  -- "the count equals the Finish events that demand 2's scheduler makes, and equals the number of
  -- other bodies with greater priority that are ready or started, a started ISR requested again
  -- counting twice. For an ISR that is itself started its own first end is added"
  pub finishes_jobs : finishes_until c (after c (fresh c) es) b ≡ jobs_ahead c (after c (fresh c) es) b
  finishes_jobs = Steps.finishes_jobs c ok b shaped (BasicKinds.basic_kinds c basic) es waits free

  -- it is 1 to 63; none of those Finish events is refused, and in none of them but the last the
  -- body begins; no greater bound of the search gives another number
  pub begins_at : BeginsAt c (after c (fresh c) es) b (finishes_until c (after c (fresh c) es) b)
  begins_at = rw finishes_jobs (Steps.begins_at c ok b shaped (BasicKinds.basic_kinds c basic) es waits free)

-- there is no other number of which that holds
pub begins_at_unique : {c : Config} {s : State} {b n k : ℕ} → BeginsAt c s b n → BeginsAt c s b k → n ≡ k
begins_at_unique {n = n} {k = k} p q = sym (p.enough (n + k) (omega arith)) ∙ q.enough (n + k) (omega arith)

-- so a result that says no refusal is the number of the Finish in which the body begins
pub wait_begins : (c : Config) → Accepted c → Shaped c → (es : List Event) (b : ℕ)
    → wait_in c (after c (fresh c) es) b < places
    → BeginsAt c (after c (fresh c) es) b (wait_in c (after c (fresh c) es) b)
unfolding wait_in
wait_begins c ok shaped es b low =
    by_test (beyond_basic c)
    (λ other. let far = simp other at low in absurd (omega arith))
    (λ basic. by_lt b c.bodies
    (λ l. by_test (waits_to_begin (after c (fresh c) es) b)
    (λ w. by_test (resource_held (after c (fresh c) es))
    (λ h. let far = simp (basic, lt-leb c.bodies b l, w, h) at low in absurd (omega arith))
    (λ h. simp (basic, lt-leb c.bodies b l, w, h) (begins_at c ok shaped basic es b w h)))
    (λ w. let far = simp (basic, lt-leb c.bodies b l, w) at low in absurd (omega arith)))
    (λ l. let far = simp (basic, le-leb c.bodies b l) at low in absurd (omega arith)))

-- "a started ISR requested again": whoever has a request waiting besides is an ISR, and where no
-- task is extended or time-triggered it is started
pub pending_isr : (c : Config) (es : List Event) (i : ℕ) → (body_of (after c (fresh c) es) i).pending ≡ true
    → is_isr c i ≡ true
pending_isr = Requests.pending_isr

pub pending_started : (c : Config) → beyond_basic c ≡ false → (es : List Event) (i : ℕ)
    → (body_of (after c (fresh c) es) i).pending ≡ true
    → is_started (body_of (after c (fresh c) es) i).phase ≡ true
pending_started c basic es i h =
    by_test (is_started (body_of (after c (fresh c) es) i).phase) (λ e. e)
    (λ n. absurd (true≢false
    (sym h
    ∙ Basic.unstarted_quiet (body_of (after c (fresh c) es) i).phase (body_of (after c (fresh c) es) i).pending
    ((Basic.reached_basic c (BasicKinds.basic_kinds c basic) es).bodies i) n)))

-- "35 .. for a configuration with kind 2", "for kind 3 too", and for no other
pub beyond_basic_lem : (c : Config)
    → (beyond_basic c ≡ false) ↔ ((b : ℕ) → (is_extended c b ≡ false) × (is_timed c b ≡ false))
beyond_basic_lem c = (
  λ h b. ((BasicKinds.basic_kinds c h).no_extended b, (BasicKinds.basic_kinds c h).no_timed b),
  λ h. (BasicKinds.beyond_basic_lem c).1 (record { no_extended = λ b. (h b).0; no_timed = λ b. (h b).1 }),
)

-- "32 if a resource is held": by any body
pub resource_held_lem : (s : State) → (resource_held s ≡ false) ↔ ((b : ℕ) → (body_of s b).held ≡ [])
resource_held_lem s = (NoHolder.held_none s, NoHolder.none_held s)

-- what the call returns, by the words of the model that the events left
pub wait_by_words : (c : Config) → Accepted c → Shaped c → (es : List Event) (b : ℕ)
    → (let m = machine_after c (plan_of c) (fresh_model (plan_of c)) es in
    m.held < 2 ^ ranks
    → wait_in c (after c (fresh c) es) b ≡ wait_by c m.core.request m.core.started m.held b)
wait_by_words = Result.wait_by_words
