-- The run on the machine tells of exactly the misses (`machine_misses_lem`, at the end of the file).
--
-- In order: a model that stands for a state has its words tell who is active, who ended and who became ready; the cell
-- of a body without a deadline stays as it is; the two rows, step by step.
use Prim.Native.Nat.{ℕ, zero, suc, ◌+◌, ◌≤◌, ◌<◌}
use mathlib.Core.Path.{◌≡◌, refl, sym, ap, ap₂, ◌∙◌}
use mathlib.Core.Bool.{Bool, true, false, true≢false, cond, ◌||◌}
use mathlib.Core.List.{List, [], ◌∷◌, ◌++◌}
use native.Mathlib.Omega.{arith}
use borrow.Author.Tests.{eqb-true}
use lib.Dec.{eqb}
use lib.ListN.{length, get_or}
use Rattle.number.proofs.Cases.{by_test, cond_either, refuted}
use Rattle.config.specs.declared.Config.{Config}
use Rattle.config.specs.Meaning.{is_isr}
use Rattle.config.specs.Accepted.{Accepted, Shaped}
use Rattle.cell.specs.declared.Cell.{Cell}
use Rattle.cell.specs.Cell.{tick_cell_in}
use Rattle.word.specs.Word.{has}
use Rattle.word.proofs.Theorems.{has_union}
use Rattle.plan.specs.declared.Plan.{Plan}
use Rattle.plan.specs.Rank.{no_rank, rank_of}
use Rattle.plan.specs.Plan.{plan_of}
use Rattle.plan.proofs.Fitted.{Fitted, fitted}
use Rattle.scheduler.specs.Status.{done}
use Rattle.scheduler.specs.State.{State, body_of}
use Rattle.scheduler.specs.Event.{Event, Activate, Finish, Chain, Get, Release, Tick, Line, Start, Stop, Wait, Set, Clear, is_tick}
use Rattle.scheduler.specs.Call.{active, caller, status_of}
use Rattle.scheduler.specs.Scheduler.{Seen, step_by, fresh}
use Rattle.machine.specs.Model.{Model, Outcome}
use Rattle.machine.specs.Machine.{runner_of, machine_step}
use Rattle.machine.proofs.Relation.Words.{busy_is}
use Rattle.machine.proofs.Relation.Whole.{Sim}
use Rattle.machine.proofs.Arbitration.Dispatch.{runner_of_is}
use Rattle.machine.proofs.Event.Agrees.{Agrees, by_runner}
use Rattle.machine.proofs.Whole.Fresh.{fresh_sim}
use Rattle.machine.proofs.Whole.Lists.{event_agrees}
use Rattle.deadlines.specs.Activation.{is_end, ends_at, ready_at, chains_to, chains_itself}
use Rattle.deadlines.specs.Miss.{Miss, deadline_in, misses}
use Rattle.deadlines.specs.DeadlineCells.{suspended_cell, ready_cell, counted_cell, moved_cell, fresh_cell, row_of, step_row, matches_of, run_row, cell_misses}
use Rattle.deadlines.specs.Words.{active_at, plan_rank, chains_by, ends_by, ready_by, step_row_by, machine_row, fresh_cell_by, machine_misses}
use Rattle.deadlines.proofs.Rows.{run_misses}
use Rattle.deadlines.proofs.States.{some_runs, both_told}

-- within a list it does not matter what lies past it
past_any : (xs : List ℕ) (n d e : ℕ) → n < length xs → get_or xs n d ≡ get_or xs n e
past_any [] n d e h = absurd (omega arith)
past_any (x ∷ xs) zero d e h = refl
past_any (x ∷ xs) (suc n) d e h = past_any xs n d e (omega arith)

chains_end : (b : ℕ) (e : Event) → chains_to b e ≡ true → is_end e ≡ true
chains_end b (Activate t) h = h
chains_end b Finish h = refl
chains_end b (Chain t) h = refl
chains_end b (Get r) h = h
chains_end b (Release r) h = h
chains_end b Tick h = h
chains_end b (Line i) h = h
chains_end b (Start t d) h = h
chains_end b (Stop t) h = h
chains_end b (Wait w) h = h
chains_end b (Set t w) h = h
chains_end b (Clear w) h = h

-- the model m stands for the state s
module _ {c : Config} {p : Plan} {rk : ℕ → ℕ} (fit : Fitted c p rk) where
  rank_is : (b : ℕ) → b < c.bodies → plan_rank p b ≡ rk b
  rank_is b b< =
      past_any p.rank b 0 no_rank (omega (arith, fit.ranks_long, fit.few)) ∙ fit.body_rank b b<

  active_is : {m : Model} {s : State} → Sim c p rk m s → (b : ℕ) → b < c.bodies → active_at m (plan_rank p b) ≡ active s b
  active_is {m} sim b b< =
      ap (active_at m) (rank_is b b<)
      ∙ ap (λ (x : Bool). has m.core.request (rk b) || x) (sym (has_union m.core.started m.core.aside (rk b)))
      ∙ busy_is sim.tied.words b b<

  module _ {m : Model} {s : State} (sim : Sim c p rk m s) (e : Event) where
    abbrev outcome : Outcome
    outcome = machine_step c p m e

    agrees : Agrees c p rk m s e
    agrees = event_agrees fit e sim

    status_is : outcome.status ≡ status_of c s e
    unfolding step_by
    status_is = ap (λ (x : Seen). x.status) agrees.seen

    runner_is : is_end e ≡ true → status_of c s e ≡ done → runner_of p m ≡ caller c s
    runner_is ends ok =
        by_runner fit sim
        (λ _ none. absurd (true≢false (sym none ∙ some_runs c s sim.orderly e ends ok)))
        (λ b ns k. runner_of_is fit m b k.exists k.rank ∙ sym k.calls)
        (λ j js k. runner_of_is fit m j k.exists k.rank ∙ sym k.calls)

    chains_is : (b : ℕ) → chains_by p m e outcome b ≡ chains_itself c s e b
    unfolding chains_itself ends_at step_by
    chains_is b =
        by_test (chains_to b e)
        (λ to. rw (to, chains_end b e to, status_is) (by_test (eqb (status_of c s e) done)
        (λ ok. rw (ok, runner_is (chains_end b e to) (eqb-true _ _ ok)))
        (λ bad. rw bad)))
        (λ other. rw other)

    -- of a task no second request waits
    task_quiet : (b : ℕ) → is_isr c b ≡ false → (body_of s b).pending ≡ false
    task_quiet b task = refuted _ (λ h. true≢false (sym ((sim.tied.words.suits b).0 h) ∙ task))

    module _ (b : ℕ) (b< : b < c.bodies) (task : is_isr c b ≡ false) where
      ends_is : ends_by p m e outcome b ≡ ends_at c s e b
      ends_is =
          rw (active_is sim b b<, active_is agrees.sim b b<, chains_is b)
          (sym (both_told c s sim.orderly b (task_quiet b task) e).0)

      ready_is : ready_by p m e outcome b ≡ ready_at c s e b
      ready_is =
          rw (active_is sim b b<, active_is agrees.sim b b<, chains_is b)
          (sym (both_told c s sim.orderly b (task_quiet b task) e).1)

-- a body without a deadline has a cell that stays as it is, whatever happens
moved_resting : (r q t : Bool) → moved_cell 0 r q t (suspended_cell 0) ≡ suspended_cell 0
unfolding moved_cell ready_cell counted_cell tick_cell_in
moved_resting true q t = refl
moved_resting false true t = refl
moved_resting false false true = refl
moved_resting false false false = refl

-- the cells xs from body b on are those of bodies, and those of bodies without a deadline rest
unfoldable Row : Config → List ℕ → ℕ → List Cell → Type 0
Row c ds b [] = Unit {0}
Row c ds b (x ∷ xs) = (b < c.bodies) × ((deadline_in ds b ≡ 0 → x ≡ suspended_cell 0) × Row c ds (suc b) xs)

module _ (c : Config) (ds : List ℕ) where
  fresh_row_lem : (f : ℕ → Cell) → ((b : ℕ) → deadline_in ds b ≡ 0 → f b ≡ suspended_cell 0)
      → (b n : ℕ) → b + n ≤ c.bodies → Row c ds b (row_of f b n)
  unfolding Row row_of
  fresh_row_lem f rests b zero fits = tt
  fresh_row_lem f rests b (suc n) fits = (omega arith, (rests b, fresh_row_lem f rests (suc b) n (omega arith)))

  step_row_lem : (s : State) (e : Event) (b : ℕ) (xs : List Cell) → Row c ds b xs → Row c ds b (step_row c ds s e b xs)
  unfolding Row step_row
  step_row_lem s e b [] row = tt
  step_row_lem s e b (x ∷ xs) row =
      (row.0, ((λ z. rw (z, row.1.0 z) (moved_resting _ _ _)), step_row_lem s e (suc b) xs row.1.1))

-- of an ISR there is none
module _ (c : Config) (ok : Accepted c) (shaped : Shaped c) (ds : List ℕ)
    (tasks_alone : (b : ℕ) → is_isr c b ≡ true → deadline_in ds b ≡ 0) where
  abbrev Stands : Model → State → Type 0
  Stands = Sim c (plan_of c) (rank_of c)

  fit : Fitted c (plan_of c) (rank_of c)
  fit = fitted c ok shaped

  row_is : {m : Model} {s : State} → Stands m s → (e : Event) (b : ℕ) (xs : List Cell) → Row c ds b xs
      → step_row_by (plan_of c) ds m e (machine_step c (plan_of c) m e) b xs ≡ step_row c ds s e b xs
  unfolding Row step_row step_row_by
  row_is sim e b [] row = refl
  row_is sim e b (x ∷ xs) row =
      ap₂ (λ (y : Cell) (ys : List Cell). y ∷ ys)
      (by_test (is_isr c b)
      (λ is. let z = tasks_alone b is in rw (z, row.1.0 z) (moved_resting _ _ _ ∙ sym (moved_resting _ _ _)))
      (λ task. rw (ends_is fit sim e b row.0 task, ready_is fit sim e b row.0 task)))
      (row_is sim e (suc b) xs row.1.1)

  -- from any model that stands for a state
  run_is : (es : List Event) (k : ℕ) {m : Model} {s : State} → Stands m s → (xs : List Cell) → Row c ds 0 xs
      → machine_row c (plan_of c) ds k m xs es ≡ run_row c ds k s xs es
  unfolding machine_row run_row
  run_is [] k sim xs row = refl
  run_is (e ∷ es) k {m} {s} sim xs row =
      rw (row_is sim e 0 xs row)
      (ap (λ (ms : List Miss). cond (is_tick e) (matches_of (suc k) 0 xs) [] ++ ms)
      (run_is es (cond (is_tick e) (suc k) k) (event_agrees fit e sim).sim (step_row c ds s e 0 xs)
      (step_row_lem c ds s e 0 xs row)))

  fresh_is : (b n : ℕ) → b + n ≤ c.bodies
      → row_of (fresh_cell_by (plan_of c) ds) b n ≡ row_of (λ i. fresh_cell c (deadline_in ds i) i) b n
  unfolding row_of fresh_cell
  fresh_is b zero fits = refl
  fresh_is b (suc n) fits =
      rw (active_is fit (fresh_sim fit) b (omega arith), fresh_is (suc b) n (omega arith))

  fresh_rests : (b : ℕ) → deadline_in ds b ≡ 0 → fresh_cell c (deadline_in ds b) b ≡ suspended_cell 0
  unfolding fresh_cell ready_cell
  fresh_rests b z = rw z (cond_either (λ (x : Cell). x ≡ suspended_cell 0) (active (fresh c) b) _ _ refl refl)

  machine_cells : (es : List Event) → machine_misses c (plan_of c) ds es ≡ cell_misses c ds es
  machine_cells es =
      rw (fresh_is 0 c.bodies (omega arith))
      (run_is es 0 (fresh_sim fit) _ (fresh_row_lem c ds _ fresh_rests 0 c.bodies (omega arith)))

  pub machine_misses_lem : ((b : ℕ) → b < c.bodies → deadline_in ds b ≤ 65535) → (es : List Event)
      → machine_misses c (plan_of c) ds es ≡ misses c ds es
  machine_misses_lem few es = machine_cells es ∙ run_misses c ds (λ b l. let h = few b l in omega arith) es
