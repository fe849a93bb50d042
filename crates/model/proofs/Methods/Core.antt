-- What the code of the arbiter computes.
use Prim.Native.Nat.{ℕ, ◌≤◌, ◌<◌}
use mathlib.Core.Path.{◌≡◌, sym, ap, ◌∙◌}
use mathlib.Core.Bool.{Bool, true, false, cond, not, ◌&&◌}
use mathlib.Core.List.{List}
use native.Mathlib.Omega.{arith}
use borrow.Author.Tests.{lt-ltb, le-ltb}
use lib.Dec.{ltb, eqb}
use lib.ListN.{get_or}
use Rattle.word.specs.Word.{has, with, without, winner}
use Rattle.number.proofs.Cases.{by_lt}
use Rattle.config.specs.Meaning.{execution_level, trigger_level}
use Rattle.stack.specs.declared.Row.{Row}
use Rattle.stack.specs.Stack.{second_row, push_row, pop_row}
use Rattle.machine.specs.Model.{Core, Picked, Model, no_rank, with_core, with_request, with_event_bits, with_triggered, done_with}
use Rattle.machine.specs.Arbiter.{bids, winning, arbitrated, settled, left_with, leaving, is_triggered, triggering, returning}
use Rattle.model.specs.View.{core}

-- the winner r has the priority l
module _ (ps : List ℕ) (k : Core) {r l : ℕ} (won : r ≡ winner (bids k)) (worth : l ≡ get_or ps r 0) where
  pub arbitrated_same : l ≤ k.level → ◌≡◌ {A = Picked} (record { core = k; begun = false }) (arbitrated ps k)
  unfolding arbitrated
  arbitrated_same h = rw (le-ltb k.level (winning ps k) (rw (worth, won) at h))

  pub arbitrated_above : k.level < l → {b : Bool} → b ≡ not (has k.started r)
      → {w : ℕ} → w ≡ cond b (without k.request r) k.request → {s : ℕ} → s ≡ with k.started r
      → ◌≡◌ {A = Picked} (record {
        core =
            record { request = w; started = s; aside = k.aside; runner = r; level = l };
        begun = b;
      }) (arbitrated ps k)
  unfolding arbitrated
  arbitrated_above h begun used runs =
      rw (used, runs, begun, worth, won, lt-ltb k.level (winning ps k) (rw (worth, won) at h))

-- the model m with the core k, after arbitration
pub settled_made : (ps : List ℕ) (m : Model) (k : Core) {p : Picked} → p ≡ arbitrated ps k
    → done_with (with_core m p.core) p.begun ≡ settled ps (with_core m k)
settled_made ps m k picked = rw picked

-- other requests q beside what a core k says
pub asked : (ps : List ℕ) (m : Model) {k : Core} → k ≡ m.core → (q : ℕ)
    → settled ps (with_core m (with_request k q)) ≡ settled ps (with_core m (with_request m.core q))
asked ps m same q = ap (λ (k : Core). settled ps (with_core m (with_request k q))) same

-- the model that a runner which ended leaves, after arbitration with the requests q
pub ended_made : (ps : List ℕ) (m : Model) (q : ℕ) {v : ℕ} → v ≡ without m.core.started m.core.runner
    → {z : ℕ} → z ≡ with m.cleared m.core.runner
    → {k : Core} → k ≡ left_with m v m.core.aside
    → settled ps (with_core (with_event_bits m m.core z m.bits m.waited) (with_request k q))
    ≡ settled ps (with_core (leaving m) (with_request (leaving m).core q))
ended_made ps m q ended unset left = rw (left, ended, unset)

-- the model that a time-triggered task which ended leaves, after arbitration
pub returned_made : (ps : List ℕ) (m : Model) {a : ℕ} → a ≡ without m.core.aside m.core.runner
    → {z : ℕ} → z ≡ with m.cleared m.core.runner
    → {k : Core} → k ≡ left_with m m.core.started a
    → {e : ℕ} → e ≡ second_row m.triggered
    → {r : ℕ} → r ≡ cond (eqb e no_rank) k.runner e
    → {l : ℕ} → l ≡ cond (eqb e no_rank) k.level execution_level
    → {x : Row} → x ≡ pop_row m.triggered
    → settled ps (with_core (with_triggered m m.core z x) (core k.request k.started k.aside r l))
    ≡ settled ps (returning m)
returned_made ps m ended unset left earlier next last popped =
    rw (next, last, popped, left, ended, unset, earlier)

-- Arbitration after a Tick of a model m: p is whom it picked, and b whether that is a time-triggered task that it
-- dispatched.
module _ (ps : List ℕ) (m : Model) {p : Picked} (picked : p ≡ arbitrated ps m.core)
    {b : Bool} (test : b ≡ ltb m.core.level p.core.level && eqb p.core.level trigger_level) where
  -- the test looks at whom it picked, and the definition at the winner
  same_test : is_triggered ps m.core ≡ b
  unfolding arbitrated
  same_test =
      by_lt m.core.level (winning ps m.core)
      (λ h. rw (
        test,
        picked,
        lt-ltb m.core.level (winning ps m.core) h,
        lt-ltb m.core.level (winning ps m.core) h,
      ))
      (λ h. rw (
        test,
        picked,
        le-ltb m.core.level (winning ps m.core) h,
        le-ltb m.core.level m.core.level (omega arith),
      ))

  lowered : winning ps m.core ≤ m.core.level → b ≡ false
  unfolding arbitrated
  lowered l =
      rw (
        test,
        picked,
        le-ltb m.core.level (winning ps m.core) l,
        le-ltb m.core.level m.core.level (omega arith),
      )

  same_winner : b ≡ true → p.core.runner ≡ winner (bids m.core)
  unfolding arbitrated
  same_winner h =
      by_lt m.core.level (winning ps m.core)
      (λ l. rw (picked, lt-ltb m.core.level (winning ps m.core) l))
      (λ l. absurd (let z : ◌≡◌ {A = Bool} false true = sym (lowered l) ∙ h in let o : ◌≡◌ {A = ℕ} 0 1 = cc in
      omega arith))

  pub triggering_launched : b ≡ true
      → done_with (with_triggered m (core (without m.core.request p.core.runner) m.core.started
      (with m.core.aside p.core.runner) p.core.runner execution_level) m.cleared
      (push_row m.triggered p.core.runner)) true
      ≡ triggering ps m
  triggering_launched h = rw (same_winner h, same_test, h)

  pub triggering_settled : b ≡ false → done_with (with_core m p.core) p.begun ≡ triggering ps m
  triggering_settled h = rw (same_test, h, picked)
