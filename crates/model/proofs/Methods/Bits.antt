-- The events of extended tasks, case by case in the order of their checks, as the code goes through them: refused
-- with each status, and done. A variable before an equation is what the code has in its place.
use Prim.Native.Nat.{ℕ, ◌-◌, ◌^◌, ◌<◌}
use mathlib.Core.Path.{◌≡◌, refl, sym, ◌∙◌}
use mathlib.Core.Bool.{Bool, true, false, cond, ◌&&◌, ◌||◌}
use mathlib.Core.List.{List}
use native.Mathlib.Omega.{arith}
use lib.ListN.{get_or, set}
use Rattle.std.specs.Int.Bits.{bit_and, bit_or}
use borrow.Author.Tests.{eq-eqb, ne_eqb}
use Rattle.number.proofs.Bits.{and_not}
use Rattle.scheduler.specs.Status.{call_level, no_such, access, holds_resource, wrong_state, first_given}
use Rattle.scheduler.specs.Bits.{any_set, with_bits, without_bits}
use Rattle.word.specs.Word.{has, with, without}
use Rattle.stack.specs.Stack.{top_row}
use Rattle.machine.specs.Model.{Core, Model, no_rank, with_core, with_begun, with_event_bits, done_with, refused_with}
use Rattle.machine.specs.Arbiter.{settled, left_with}
use Rattle.machine.specs.Events.{no_caller, begun_word, bits_at, no_task, wait, set_event, clear}

-- Wait w
module _ (xs : ℕ) (ps : List ℕ) (m : Model) (w : ℕ) {a : Bool} (calls : a ≡ no_caller m) where
  pub wait_idle : a ≡ true → refused_with m call_level ≡ wait xs ps m w
  unfolding wait first_given
  wait_idle h = rw (sym calls ∙ h)

  module _ (runs : a ≡ false) {b : Bool} (kind : b ≡ has xs m.core.runner) where
    pub wait_basic : b ≡ false → refused_with m access ≡ wait xs ps m w
    unfolding wait first_given
    wait_basic h = rw (sym calls ∙ runs, sym kind ∙ h)

    module _ (extended : b ≡ true) {h : ℕ} (holder : h ≡ top_row m.holder) where
      pub wait_holding : h ≡ m.core.runner → refused_with m holds_resource ≡ wait xs ps m w
      unfolding wait first_given
      wait_holding own = rw (sym calls ∙ runs, sym kind ∙ extended, ← holder, eq-eqb h m.core.runner own)

      module _ (free : h ≡ m.core.runner → ⊥) {v : ℕ} (bits : v ≡ bits_at m m.core.runner) {s : Bool}
          (some : s ≡ any_set v w) where
        pub wait_on : s ≡ true → done_with m false ≡ wait xs ps m w
        unfolding wait first_given
        wait_on e =
            rw (sym calls ∙ runs, sym kind ∙ extended, ← holder, ne_eqb h m.core.runner free, ← bits, sym some ∙ e)

        pub wait_pauses : s ≡ false → {ws : List ℕ} → ws ≡ set m.waited m.core.runner w
            → {c : ℕ} → c ≡ without m.core.started m.core.runner
            → {e : ℕ} → e ≡ with m.core.aside m.core.runner
            → {k : Core} → k ≡ left_with m c e
            → settled ps (with_core (with_event_bits m m.core m.cleared m.bits ws) k) ≡ wait xs ps m w
        unfolding wait first_given
        wait_pauses z waits left asleep seat =
            rw (
              sym calls ∙ runs,
              sym kind ∙ extended,
              ← bits,
              sym some ∙ z,
              seat,
              waits,
              left,
              asleep,
              ← holder,
              ne_eqb h m.core.runner free,
            )

-- the bits of a mask beside others
pub more_bits : (b w : ℕ) → bit_or b w ≡ with_bits b w
unfolding with_bits
more_bits b w = refl

-- and those of others that it does not have
pub other_bits : (b w : ℕ) → b < 2 ^ 32 → w < 2 ^ 32 → bit_and b (2 ^ 32 - 1 - w) ≡ without_bits b w
unfolding without_bits
other_bits b w lo hi = omega (arith, and_not 32 b w lo hi)

-- Set t w
module _ (ws xs : ℕ) (rs ps : List ℕ) (m : Model) (t w : ℕ) {a : Bool} (calls : a ≡ no_caller m) where
  pub set_idle : a ≡ true → refused_with m call_level ≡ set_event ws xs rs ps m t w
  unfolding set_event first_given
  set_idle h = rw (sym calls ∙ h)

  module _ (runs : a ≡ false) {r : ℕ} (rank : r ≡ get_or rs t no_rank) {n : Bool} (task : n ≡ no_task ws r) where
    pub set_none : n ≡ true → refused_with m no_such ≡ set_event ws xs rs ps m t w
    unfolding set_event first_given
    set_none h = rw (sym calls ∙ runs, ← rank, sym task ∙ h)

    module _ (some : n ≡ false) {b : Bool} (kind : b ≡ has xs r) where
      pub set_basic : b ≡ false → refused_with m access ≡ set_event ws xs rs ps m t w
      unfolding set_event first_given
      set_basic h = rw (sym calls ∙ runs, ← rank, sym task ∙ some, sym kind ∙ h)

      module _ (extended : b ≡ true) {v : ℕ} (begun : v ≡ begun_word m) {d : Bool}
          (test : d ≡ has m.core.request r || has v r) where
        pub set_suspended : d ≡ false → refused_with m wrong_state ≡ set_event ws xs rs ps m t w
        unfolding set_event first_given
        set_suspended h = rw (sym calls ∙ runs, ← rank, sym task ∙ some, sym kind ∙ extended, ← begun, sym test ∙ h)

        pub set_done : d ≡ true → {v : ℕ} → v ≡ bits_at m r
            → {u : ℕ} → u ≡ with_bits v w
            → {bs : List ℕ} → bs ≡ set m.bits r u
            → {z : ℕ} → z ≡ without m.cleared r
            → {x : ℕ} → x ≡ get_or m.waited r 0
            → {g : Bool} → g ≡ has m.core.aside r && any_set u x
            → {c : ℕ} → c ≡ cond g (with m.core.started r) m.core.started
            → {e : ℕ} → e ≡ cond g (without m.core.aside r) m.core.aside
            → {k : Core} → k ≡ m.core
            → settled ps (with_core (with_event_bits m m.core z bs m.waited) (with_begun k c e))
            ≡ set_event ws xs rs ps m t w
        unfolding set_event first_given
        set_done h bits more stored kept waits goes on aside same =
            rw (
              sym calls ∙ runs,
              ← rank,
              sym task ∙ some,
              sym kind ∙ extended,
              ← begun,
              sym test ∙ h,
              same,
              on,
              aside,
              goes,
              waits,
              kept,
              stored,
              more,
              bits,
            )

-- Clear w
module _ (xs : ℕ) (m : Model) (w : ℕ) {a : Bool} (calls : a ≡ no_caller m) where
  pub clear_idle : a ≡ true → refused_with m call_level ≡ clear xs m w
  unfolding clear first_given
  clear_idle h = rw (sym calls ∙ h)

  module _ (runs : a ≡ false) {b : Bool} (kind : b ≡ has xs m.core.runner) where
    pub clear_basic : b ≡ false → refused_with m access ≡ clear xs m w
    unfolding clear first_given
    clear_basic h = rw (sym calls ∙ runs, sym kind ∙ h)

    pub clear_done : b ≡ true → {v : ℕ} → v ≡ bits_at m m.core.runner
        → {u : ℕ} → u ≡ without_bits v w
        → {bs : List ℕ} → bs ≡ set m.bits m.core.runner u
        → {z : ℕ} → z ≡ without m.cleared m.core.runner
        → done_with (with_event_bits m m.core z bs m.waited) false ≡ clear xs m w
    unfolding clear first_given
    clear_done h bits less stored kept =
        rw (sym calls ∙ runs, kept, stored, less, bits, sym kind ∙ h)
