-- The events of tables, case by case in the order of their checks, as the code goes through them.
use Prim.Native.Nat.{ℕ, ◌+◌, ◌≤◌, ◌<◌}
use mathlib.Core.Path.{◌≡◌, sym, ap, ◌∙◌}
use mathlib.Core.Bool.{Bool, true, false, ◌&&◌, ◌||◌}
use mathlib.Core.List.{List}
use lib.Dec.{ltb, eqb}
use lib.ListN.{get_or}
use borrow.Author.Tests.{ltb-false, le-leb, lt-leb}
use Rattle.number.proofs.Cases.{neither}
use Rattle.config.specs.Value.{max_entries}
use Rattle.scheduler.specs.Status.{call_level, no_such, bad_delay, wrong_state, no_function, first_given}
use Rattle.scheduler.specs.Call.{longest_delay}
use Rattle.machine.specs.Model.{Model, with_core, with_request, with_rest, with_cells, done_with, refused_with}
use Rattle.machine.specs.Arbiter.{triggering}
use Rattle.machine.specs.Cells.{is_on, counters_ticked, some_turn, counters_started, switches_started, some_long, counters_stopped, switches_stopped, in_row, Tally, requests_due}
use Rattle.machine.specs.Events.{no_caller, begun_word, marks_of, switches_of, tick, start, stop}
use Rattle.cells.specs.Methods.{tally_with}

-- Tick, up to arbitration. v has who has begun, q and ls are the requests and losses, ns, ws and z the cells after it.
module _ (ks rs ps : List ℕ) (m : Model) {v : ℕ} (begun : v ≡ begun_word m) {q : ℕ} {ls : List ℕ}
    (due : tally_with q ls ≡ requests_due v (marks_of max_entries ks m) rs (tally_with m.core.request m.losses)) where
  pub tick_done : {ns : List ℕ} → ns ≡ counters_ticked max_entries 0 m.turning ks m.on m.counter
      → {ws : List ℕ} → ws ≡ switches_of ks m → {z : Bool} → z ≡ m.turning && some_turn max_entries 0 ws
      → triggering ps (with_core (with_rest m ns ws z ls) (with_request m.core q)) ≡ tick ks rs ps m
  unfolding tick
  tick_done counted switches turns =
      rw (
        counted,
        turns,
        switches,
        ap (λ (x : Tally). x.request) due,
        ap (λ (x : Tally). x.losses) due,
        begun,
      )

-- a delay that is not refused
pub short_sum : (d g : ℕ) → eqb d 0 || ltb longest_delay (d + g) ≡ false → d + g ≤ longest_delay
short_sum d g e = ltb-false longest_delay (d + g) (neither (eqb d 0) _ e).1

-- Start t, d
module _ (n : ℕ) (fs es qs os : List ℕ) (m : Model) (t d : ℕ) {a : Bool} (calls : a ≡ no_caller m) where
  pub start_idle : a ≡ true → refused_with m call_level ≡ start n fs es qs os m t d
  unfolding start first_given
  start_idle h = rw (sym calls ∙ h)

  module _ (runs : a ≡ false) where
    pub start_none : n ≤ t → refused_with m no_such ≡ start n fs es qs os m t d
    unfolding start first_given
    start_none h = rw (sym calls ∙ runs, le-leb n t h)

    module _ (some : t < n) {f : ℕ} (from : f ≡ get_or fs t 0) {g : ℕ} (smallest : g ≡ get_or os f 0) {b : Bool}
        (test : b ≡ eqb d 0 || ltb longest_delay (d + g)) where
      pub start_bad : b ≡ true → refused_with m bad_delay ≡ start n fs es qs os m t d
      unfolding start first_given
      start_bad h = rw (sym calls ∙ runs, lt-leb n t some, ← from, ← smallest, sym test ∙ h)

      module _ (good : b ≡ false) {o : Bool} (on : o ≡ is_on (get_or m.on f 0)) where
        pub start_runs : o ≡ true → refused_with m wrong_state ≡ start n fs es qs os m t d
        unfolding start first_given
        start_runs h =
            rw (sym calls ∙ runs, lt-leb n t some, ← from, ← smallest, sym test ∙ good, sym on ∙ h)

        pub start_done : o ≡ false → {k : ℕ} → k ≡ get_or es t 0 → {P : ℕ} → P ≡ get_or qs t 0
            → {w : Bool} → w ≡ m.turning || some_long (in_row k f) f d os
            → {ns : List ℕ} → ns ≡ counters_started (in_row k f) f P d os m.counter → {xs : List ℕ}
            → xs ≡ switches_started (in_row k f) f d os m.on
            → done_with (with_cells m ns xs w) false ≡ start n fs es qs os m t d
        unfolding start first_given
        start_done h many period turns counted switches =
            rw (
              sym calls ∙ runs,
              lt-leb n t some,
              ← from,
              ← smallest,
              sym test ∙ good,
              sym on ∙ h,
              turns,
              counted,
              switches,
              many,
              period,
            )

-- Stop t
module _ (n : ℕ) (fs es : List ℕ) (m : Model) (t : ℕ) {a : Bool} (calls : a ≡ no_caller m) where
  pub stop_idle : a ≡ true → refused_with m call_level ≡ stop n fs es m t
  unfolding stop first_given
  stop_idle h = rw (sym calls ∙ h)

  module _ (runs : a ≡ false) where
    pub stop_none : n ≤ t → refused_with m no_such ≡ stop n fs es m t
    unfolding stop first_given
    stop_none h = rw (sym calls ∙ runs, le-leb n t h)

    module _ (some : t < n) {f : ℕ} (from : f ≡ get_or fs t 0) {o : Bool} (on : o ≡ is_on (get_or m.on f 0)) where
      pub stop_stopped : o ≡ false → refused_with m no_function ≡ stop n fs es m t
      unfolding stop first_given
      stop_stopped h = rw (sym calls ∙ runs, lt-leb n t some, ← from, sym on ∙ h)

      pub stop_done : o ≡ true → {k : ℕ} → k ≡ get_or es t 0
          → {ns : List ℕ} → ns ≡ counters_stopped (in_row k f) f m.counter
          → {xs : List ℕ} → xs ≡ switches_stopped (in_row k f) f m.on
          → done_with (with_cells m ns xs m.turning) false ≡ stop n fs es m t
      unfolding stop first_given
      stop_done h many counted switches =
          rw (sym calls ∙ runs, lt-leb n t some, ← from, sym on ∙ h, counted, switches, many)
