-- The events of bodies and of resources, case by case in the order of their checks, as the code goes through them:
-- refused with each status, and done. A variable before an equation is what the code has in its place.
use Prim.Native.Nat.{ℕ, ◌≤◌, ◌<◌, max}
use mathlib.Core.Path.{◌≡◌, refl, sym, ◌∙◌}
use mathlib.Core.Bool.{Bool, true, false, cond, not, ◌&&◌, ◌||◌}
use mathlib.Core.List.{List}
use lib.Dec.{eqb}
use lib.ListN.{get_or}
use borrow.Author.Tests.{le-leb, lt-leb, eq-eqb, ne_eqb}
use Rattle.scheduler.specs.Status.{call_level, no_such, limit_reached, access, no_function, holds_resource, not_user, first_given}
use Rattle.config.specs.Meaning.{execution_level}
use Rattle.word.specs.Word.{has, with, without}
use Rattle.stack.specs.declared.Row.{Row}
use Rattle.stack.specs.Stack.{top_row, push_row, pop_row}
use Rattle.machine.specs.Model.{Core, Model, no_rank, with_core, with_request, with_level, with_slots, with_losses, done_with, refused_with}
use Rattle.machine.specs.Cells.{one_lost}
use Rattle.machine.specs.Arbiter.{settled, leaving, returning}
use Rattle.machine.specs.Resources.{latest, level_without}
use Rattle.machine.specs.Events.{no_caller, begun_word, activate, finish, chain, get, release, line}

-- Finish
module _ (ps : List ℕ) (m : Model) where
  pub finish_idle : m.core.runner ≡ no_rank → refused_with m call_level ≡ finish ps m
  unfolding finish first_given
  finish_idle h = rw (eq-eqb m.core.runner no_rank h)

  module _ (runs : m.core.runner ≡ no_rank → ⊥) {h : ℕ} (holder : h ≡ top_row m.holder) where
    pub finish_holding : h ≡ m.core.runner → refused_with m holds_resource ≡ finish ps m
    unfolding finish first_given
    finish_holding own = rw (ne_eqb m.core.runner no_rank runs, ← holder, eq-eqb h m.core.runner own)

    module _ (free : h ≡ m.core.runner → ⊥) where
      pub finish_timed_lem : m.core.level ≡ execution_level → settled ps (returning m) ≡ finish ps m
      unfolding finish first_given
      finish_timed_lem e =
          rw (
            ne_eqb m.core.runner no_rank runs,
            ← holder,
            ne_eqb h m.core.runner free,
            eq-eqb m.core.level execution_level e,
          )

      pub finish_done : (m.core.level ≡ execution_level → ⊥) → settled ps (leaving m) ≡ finish ps m
      unfolding finish first_given
      finish_done e =
          rw (ne_eqb m.core.runner no_rank runs, ne_eqb m.core.level execution_level e)
          (rw (← holder, ne_eqb h m.core.runner free))

-- Activate t
module _ (trs ps : List ℕ) (m : Model) (t : ℕ) {a : Bool} (calls : a ≡ no_caller m) where
  pub activate_idle : a ≡ true → refused_with m call_level ≡ activate trs ps m t
  unfolding activate first_given
  activate_idle h = rw (sym calls ∙ h)

  module _ (runs : a ≡ false) {r : ℕ} (rank : r ≡ get_or trs t no_rank) where
    pub activate_none : r ≡ no_rank → refused_with m no_such ≡ activate trs ps m t
    unfolding activate first_given
    activate_none h = rw (sym calls ∙ runs, ← rank, eq-eqb r no_rank h)

    module _ (some : r ≡ no_rank → ⊥) {v : ℕ} (begun : v ≡ begun_word m) {b : Bool}
        (test : b ≡ has m.core.request r || has v r) where
      pub activate_busy : b ≡ true → refused_with m limit_reached ≡ activate trs ps m t
      unfolding activate first_given
      activate_busy h = rw (sym calls ∙ runs, ← rank, ne_eqb r no_rank some, ← begun, sym test ∙ h)

      pub activate_done : b ≡ false → {q : ℕ} → q ≡ with m.core.request r
          → settled ps (with_core m (with_request m.core q)) ≡ activate trs ps m t
      unfolding activate first_given
      activate_done h asked = rw (sym calls ∙ runs, ← rank, ne_eqb r no_rank some, ← begun, sym test ∙ h, asked)

-- Line i
module _ (w : Bool) (lrs ps : List ℕ) (m : Model) (i : ℕ) {r : ℕ} (rank : r ≡ get_or lrs i no_rank) where
  pub line_none : r ≡ no_rank → refused_with m no_such ≡ line w lrs ps m i
  unfolding line first_given
  line_none h = rw (← rank, eq-eqb r no_rank h) (uncounted w)
    where
      uncounted : (b : Bool)
          → refused_with m no_such ≡ refused_with (cond (b && false) (with_losses m (one_lost r m.losses)) m) no_such
      uncounted true = refl
      uncounted false = refl

  module _ (some : r ≡ no_rank → ⊥) {b : Bool} (test : b ≡ has m.core.request r) where
    -- ls: the losses after it
    pub line_waits : b ≡ true → {ls : List ℕ} → ls ≡ cond w (one_lost r m.losses) m.losses
        → refused_with (with_losses m ls) limit_reached ≡ line w lrs ps m i
    unfolding line first_given
    line_waits h lost = rw (lost, ← rank, ne_eqb r no_rank some, sym test ∙ h) (either w)
      where
        either : (x : Bool)
            → refused_with (with_losses m (cond x (one_lost r m.losses) m.losses)) limit_reached
            ≡ refused_with (cond (x && true) (with_losses m (one_lost r m.losses)) m) limit_reached
        either true = refl
        either false = refl

    pub line_done : b ≡ false → {q : ℕ} → q ≡ with m.core.request r
        → settled ps (with_core m (with_request m.core q)) ≡ line w lrs ps m i
    unfolding line first_given
    line_done h asked = rw (← rank, ne_eqb r no_rank some, sym test ∙ h, asked)

-- Chain t
module _ (ws : ℕ) (trs ps : List ℕ) (m : Model) (t : ℕ) {a : Bool}
    (calls : a ≡ no_caller m || has ws m.core.runner) where
  pub chain_idle : a ≡ true → refused_with m call_level ≡ chain ws trs ps m t
  unfolding chain first_given
  chain_idle h = rw (sym calls ∙ h)

  module _ (runs : a ≡ false) {r : ℕ} (rank : r ≡ get_or trs t no_rank) where
    pub chain_none : r ≡ no_rank → refused_with m no_such ≡ chain ws trs ps m t
    unfolding chain first_given
    chain_none h = rw (sym calls ∙ runs, ← rank, eq-eqb r no_rank h)

    module _ (some : r ≡ no_rank → ⊥) {h : ℕ} (holder : h ≡ top_row m.holder) where
      pub chain_holding : h ≡ m.core.runner → refused_with m holds_resource ≡ chain ws trs ps m t
      unfolding chain first_given
      chain_holding own = rw (sym calls ∙ runs, ← rank, ne_eqb r no_rank some, ← holder, eq-eqb h m.core.runner own)

      module _ (free : h ≡ m.core.runner → ⊥) {v : ℕ} (begun : v ≡ begun_word m)
          {d : Bool} (test : d ≡ (has m.core.request r || has v r) && not (eqb r m.core.runner)) where
        pub chain_busy : d ≡ true → refused_with m limit_reached ≡ chain ws trs ps m t
        unfolding chain first_given
        chain_busy e =
            rw (
              sym calls ∙ runs,
              ← rank,
              ne_eqb r no_rank some,
              ← holder,
              ne_eqb h m.core.runner free,
              ← begun,
              sym test ∙ e,
            )

        pub chain_done : d ≡ false → {q : ℕ} → q ≡ with m.core.request r
            → settled ps (with_core (leaving m) (with_request (leaving m).core q)) ≡ chain ws trs ps m t
        unfolding chain first_given
        chain_done e asked =
            rw (
              sym calls ∙ runs,
              ← rank,
              ne_eqb r no_rank some,
              ← holder,
              ne_eqb h m.core.runner free,
              ← begun,
              sym test ∙ e,
              asked,
            )

-- Get r
module _ (n : ℕ) (us cs : List ℕ) (m : Model) (r : ℕ) {a : Bool} (calls : a ≡ no_caller m) where
  pub get_idle : a ≡ true → refused_with m call_level ≡ get n us cs m r
  unfolding get first_given
  get_idle h = rw (sym calls ∙ h)

  module _ (runs : a ≡ false) where
    pub get_none : n ≤ r → refused_with m no_such ≡ get n us cs m r
    unfolding get first_given
    get_none h = rw (sym calls ∙ runs, le-leb n r h)

    module _ (some : r < n) {w : ℕ} (word : w ≡ get_or us r 0) {u : Bool} (user : u ≡ has w m.core.runner) where
      pub get_undeclared : u ≡ false → refused_with m not_user ≡ get n us cs m r
      unfolding get first_given
      get_undeclared e = rw (sym calls ∙ runs, lt-leb n r some, ← word, sym user ∙ e)

      module _ (declared : u ≡ true) {b : Bool} (test : b ≡ has m.held r) where
        pub get_held : b ≡ true → refused_with m access ≡ get n us cs m r
        unfolding get first_given
        get_held h = rw (sym calls ∙ runs, lt-leb n r some, ← word, sym user ∙ declared, sym test ∙ h)

        pub get_done : b ≡ false → {l : ℕ} → l ≡ get_or cs r 0
            → {v : ℕ} → v ≡ max l m.core.level
            → {q : ℕ} → q ≡ with m.held r
            → {xs : Row} → xs ≡ push_row m.resource r
            → {hs : Row} → hs ≡ push_row m.holder m.core.runner
            → {vs : Row} → vs ≡ push_row m.raised v
            → done_with (with_slots m v q xs hs vs) false ≡ get n us cs m r
        unfolding get first_given
        get_done h ceil level x₁ x₂ x₃ x₄ =
            rw (
              sym calls ∙ runs,
              lt-leb n r some,
              ← word,
              sym user ∙ declared,
              sym test ∙ h,
              x₁,
              x₂,
              x₃,
              x₄,
              level,
              ceil,
            )

-- Release r
module _ (n : ℕ) (ps : List ℕ) (m : Model) (r : ℕ) {a : Bool} (calls : a ≡ no_caller m) where
  pub release_idle : a ≡ true → refused_with m call_level ≡ release n ps m r
  unfolding release first_given
  release_idle h = rw (sym calls ∙ h)

  module _ (runs : a ≡ false) where
    pub release_none : n ≤ r → refused_with m no_such ≡ release n ps m r
    unfolding release first_given
    release_none h = rw (sym calls ∙ runs, le-leb n r h)

    module _ (some : r < n) {b : Bool} (test : b ≡ latest m r) where
      pub release_other : b ≡ false → refused_with m no_function ≡ release n ps m r
      unfolding release first_given
      release_other h = rw (sym calls ∙ runs, lt-leb n r some, sym test ∙ h)

      pub release_done : b ≡ true → {l : ℕ} → l ≡ level_without ps m
          → {w : ℕ} → w ≡ without m.held r
          → {xs : Row} → xs ≡ pop_row m.resource
          → {hs : Row} → hs ≡ pop_row m.holder
          → {vs : Row} → vs ≡ pop_row m.raised
          → {k : Core} → k ≡ m.core
          → settled ps (with_core (with_slots m m.core.level w xs hs vs) (with_level k l)) ≡ release n ps m r
      unfolding release first_given
      release_done h level x₁ x₂ x₃ x₄ same =
          rw (sym calls ∙ runs, lt-leb n r some, sym test ∙ h, same, x₁, x₂, x₃, x₄, level)
