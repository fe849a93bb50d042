-- The closed count is two counts of bits: of the requests above the body's rank, and of the started
-- ones from its rank on. After every list of events, whatever is held.
use Prim.Native.Nat.{ℕ, suc, ◌+◌, ◌/◌, ◌^◌, ◌≤◌, ◌<◌}
use mathlib.Core.Path.{◌≡◌, refl, sym, ap, ap₂, ◌∙◌}
use mathlib.Core.Bool.{true, true≢false, ◌&&◌}
use mathlib.Core.List.{List, [], ◌∷◌}
use native.Mathlib.Nat.{zero-add, add-zero, pow-suc, div-div-eq-div-mul}
use native.Mathlib.Omega.{arith}
use borrow.Author.Tests.{le-leb, lt-leb}
use lib.Dec.{leb}
use lib.Count.{ones}
use lib.ListN.{length, get_or}
use Rattle.number.proofs.Cases.{by_test, by_lt, by_eq}
use Rattle.config.specs.declared.Config.{Config}
use Rattle.config.specs.Meaning.{priority_of}
use Rattle.config.specs.Accepted as Configuration
use Rattle.config.proofs.Theorems.{priority_inj}
use Rattle.word.specs.Word.{ranks, has}
use Rattle.scheduler.specs.Body.{Phase, suspended, ready, started, waiting, triggered, is_started, Body}
use Rattle.scheduler.specs.State.{State, no_body, body_of}
use Rattle.scheduler.specs.Event.{Event}
use Rattle.scheduler.specs.Call.{request_waits}
use Rattle.scheduler.specs.Scheduler.{mark_of, fresh, after}
use Rattle.scheduler.proofs.Choice.Separation.{holders, set_holds, reached_kept}
use Rattle.waiting.specs.Conditions.{waits_to_begin}
use Rattle.waiting.specs.Jobs.{jobs, jobs_before, jobs_ahead_from, jobs_ahead}
use Rattle.waiting.proofs.Count.Sum.{before_own, before_above, before_below}
use Rattle.waiting.proofs.State.BasicKinds.{Basic}
use Rattle.waiting.proofs.State.Basic.{basic_phase, BasicState, reached_basic}
use Rattle.waiting.specs.Words.{jobs_ahead_in}
use Rattle.waiting.proofs.Words.Sum.{sum_from, sum_add}
use Rattle.waiting.proofs.Words.Ones.{ones_from}

-- ranks by priority
pub record Ranked (c : Config) (rk : ℕ → ℕ) : Type 0 where
  pub rank_lt : (b : ℕ) → b < c.bodies → rk b < ranks
  pub rank_order : (a b : ℕ) → a < c.bodies → b < c.bodies → priority_of c a < priority_of c b → rk a < rk b
  pub rank_inj : (a b : ℕ) → a < c.bodies → b < c.bodies → rk a ≡ rk b → a ≡ b

-- two words that stand for a state's bodies by rank: who waits to begin, and who is started
pub record Reflected (c : Config) (rk : ℕ → ℕ) (request begun : ℕ) (s : State) : Type 0 where
  pub request_lt : request < 2 ^ ranks
  pub begun_lt : begun < 2 ^ ranks
  pub asks : (b : ℕ) → b < c.bodies → has request (rk b) ≡ waits_to_begin s b
  pub goes_on : (b : ℕ) → b < c.bodies → has begun (rk b) ≡ is_started (body_of s b).phase
  pub asks_real : (r : ℕ) → has request r ≡ true → (b : ℕ) × ((b < c.bodies) × (rk b ≡ r))
  pub goes_on_real : (r : ℕ) → has begun r ≡ true → (b : ℕ) × ((b < c.bodies) × (rk b ≡ r))

-- a body's jobs are its bits in the two words
jobs_bits : (x : Body) (p : Phase) → basic_phase p x.pending ≡ true
    → jobs p x.pending ≡ mark_of (request_waits x p) + mark_of (is_started p)
jobs_bits x suspended h = refl
jobs_bits x ready h = refl
jobs_bits x started h = by_test x.pending (λ e. rw e) (λ e. rw e)
jobs_bits x (waiting w) h = absurd (true≢false (sym h))
jobs_bits x (triggered y) h = absurd (true≢false (sym h))

module _ (c : Config) (b : ℕ) where
  ahead_sum : (i : ℕ) (bs : List Body) (f : ℕ → ℕ)
      → ((k : ℕ) → k < length bs → jobs_before c b (i + k) (get_or bs k no_body) ≡ f (i + k))
      → jobs_ahead_from c b i bs ≡ sum_from i (length bs) f
  unfolding jobs_ahead_from sum_from
  ahead_sum i [] f h = refl
  ahead_sum i (x ∷ xs) f h =
      ap₂ (λ (m n : ℕ). m + n) (rw (add-zero i) at (h 0 (omega arith)))
      (ahead_sum (suc i) xs f (λ k l.
      let shift : i + suc k ≡ suc i + k = omega arith in
      rw shift at (h (suc k) (omega arith))))

module _ (c : Config) (ok : Configuration.Accepted c) (rk : ℕ → ℕ) (ranked : Ranked c rk)
    (b : ℕ) (b< : b < c.bodies) where
  abbrev mark : ℕ → ℕ → ℕ → ℕ
  mark w t j = mark_of (has w (rk j) && leb t (rk j))

  mark_from : (w t j : ℕ) → t ≤ rk j → mark w t j ≡ mark_of (has w (rk j))
  mark_from w t j l = by_test (has w (rk j)) (λ h. simp (h, le-leb t (rk j) l)) (λ h. simp h)

  mark_below : (w t j : ℕ) → rk j < t → mark w t j ≡ 0
  mark_below w t j l = by_test (has w (rk j)) (λ h. simp (h, lt-leb t (rk j) l)) (λ h. simp h)

  module _ (request begun : ℕ) (s : State) (basic : BasicState s) (size : length s.bodies ≡ c.bodies)
      (words : Reflected c rk request begun s) where
    before_bits : (j : ℕ) → j < c.bodies
        → jobs_before c b j (body_of s j) ≡ mark request (suc (rk b)) j + mark begun (rk b) j
    before_bits j j< =
        by_eq j b
        (λ e. rw e
        (omega (
          arith,
          before_own c b (body_of s b),
          mark_below request (suc (rk b)) b (omega arith),
          mark_from begun (rk b) b (omega arith),
          ap mark_of (words.goes_on b b<),
        )))
        (λ d. by_lt (priority_of c b) (priority_of c j)
        (λ l.
        let up = ranked.rank_order b j b< j< l in
        omega (
          arith,
          before_above c b j (body_of s j) d l,
          jobs_bits (body_of s j) (body_of s j).phase (basic.bodies j),
          mark_from request (suc (rk b)) j (omega arith),
          mark_from begun (rk b) j (omega arith),
          ap mark_of (words.asks j j<),
          ap mark_of (words.goes_on j j<),
        ))
        (λ l.
        let less : priority_of c j < priority_of c b =
        by_lt (priority_of c j) (priority_of c b) (λ h. h)
        (λ h. absurd (d (priority_inj c ok j b j< b< (omega arith)))) in
        let down = ranked.rank_order j b j< b< less in
        omega (
          arith,
          before_below c b j (body_of s j) d l,
          mark_below request (suc (rk b)) j (omega arith),
          mark_below begun (rk b) j (omega arith),
        )))

    pub ahead_bits : jobs_ahead c s b ≡ jobs_ahead_in request begun (rk b)
    ahead_bits =
        ahead_sum c b 0 s.bodies (λ j. mark request (suc (rk b)) j + mark begun (rk b) j) each
        ∙ ap (λ (n : ℕ). sum_from 0 n (λ j. mark request (suc (rk b)) j + mark begun (rk b) j)) size
        ∙ sum_add 0 c.bodies (mark request (suc (rk b))) (mark begun (rk b))
        ∙ ap₂ (λ (m n : ℕ). m + n) (sym requests) (sym started_ones)
      where
        each : (k : ℕ) → k < length s.bodies
            → jobs_before c b (0 + k) (get_or s.bodies k no_body)
            ≡ mark request (suc (rk b)) (0 + k) + mark begun (rk b) (0 + k)
        each k l = rw (zero-add k) (before_bits k (rw size at l))

        requests : ones (request / 2 ^ rk b / 2) ≡ sum_from 0 c.bodies (mark request (suc (rk b)))
        requests =
            ap ones (div-div-eq-div-mul request (2 ^ rk b) 2 ∙ ap (λ (x : ℕ). request / x) (sym (pow-suc 2 (rk b))))
            ∙ ones_from c.bodies rk ranked.rank_lt ranked.rank_inj request words.request_lt
            words.asks_real (suc (rk b)) (omega (arith, ranked.rank_lt b b<))

        started_ones : ones (begun / 2 ^ rk b) ≡ sum_from 0 c.bodies (mark begun (rk b))
        started_ones =
            ones_from c.bodies rk ranked.rank_lt ranked.rank_inj begun words.begun_lt
            words.goes_on_real (rk b) (omega (arith, ranked.rank_lt b b<))

  -- of every state that the fresh start leads to
  pub ahead_words : Configuration.Shaped c → Basic c → (es : List Event) (request begun : ℕ)
      → Reflected c rk request begun (after c (fresh c) es)
      → jobs_ahead c (after c (fresh c) es) b ≡ jobs_ahead_in request begun (rk b)
  ahead_words shaped basic es request begun =
      ahead_bits request begun (after c (fresh c) es) (reached_basic c basic es)
      (reached_kept c ok holders (set_holds c) shaped es).size
