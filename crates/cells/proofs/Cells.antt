-- The loops over the cells: what each has done of its definition before entry e, from its start to its end.
--
-- In order: a tick's counters and match marks; a tick's requests and losses; its switches; starts and stops.
use Rattle.std.proofs.Common.{◌≡◌, ℕ, zero, suc, ◌+◌, ◌-◌, ◌<◌, ◌≤◌, min, Bool, true, false, cond, ◌&&◌, ◌||◌, List, [], ◌∷◌, ◌++◌, length, get_or, take, drop, set, replicate, sym, refl, ap, ◌∙◌, ap₂, append_assoc, append-nil, add-one, add-zero, arith, drop-set-lt, length-drop, length-set, take-append-drop, drop_of_length-le, length-take-le, take_all, get_or-set_other, drop-drop, take-suc-set}
use mathlib.Core.Bool.{or_assoc, or-false}
use lib.Seq.{set-get_or}
use Rattle.number.proofs.Cases.{by_lt}
use Rattle.config.specs.Value.{max_entries}
use Rattle.cell.specs.declared.Cell.{Cell}
use Rattle.cell.specs.Cell.{unmarked, tick_cell}
use Rattle.cells.specs.Methods.{group}
use Rattle.machine.specs.Cells.{is_on, has_turn, switch_for, cell_at, counters_ticked, switches_ticked, some, marks, Tally, requests_due, in_row, spread}
use Rattle.machine.proofs.Change.Matches.{due_append}

-- a loop over the k entries from f on begins with those that lie in the row, and each step takes one
pub span : (f k : ℕ) → min (f + k) max_entries - f ≡ in_row k f
span f k = omega arith

next : (u e : ℕ) → e < u → u - e ≡ suc (u - (e + 1))
next u e h = omega arith

none : (u e : ℕ) → u ≤ e → u - e ≡ 0
none u e h = omega arith

-- what a tick makes of later cells does not see an earlier counter or switch
module _ (w : Bool) (ks : List ℕ) where
  marks_counted : (k e i x : ℕ) (on ns : List ℕ) → i < e → marks k e w ks on (set ns i x) ≡ marks k e w ks on ns
  unfolding marks
  marks_counted zero e i x on ns h = refl
  marks_counted (suc k) e i x on ns h =
      ap₂ (λ (n : ℕ) (bs : List Bool). (tick_cell
      (unmarked n (get_or ks e 0) (is_on (get_or on e 0)) (w && has_turn (get_or on e 0)))).matched ∷ bs)
      (get_or-set_other ns i e x 0 (λ q. absurd (omega arith)))
      (marks_counted k (suc e) i x on ns (omega arith))

  marks_switched : (k e i x : ℕ) (on ns : List ℕ) → i < e → marks k e w ks (set on i x) ns ≡ marks k e w ks on ns
  unfolding marks
  marks_switched zero e i x on ns h = refl
  marks_switched (suc k) e i x on ns h =
      ap₂ (λ (o : ℕ) (bs : List Bool). (tick_cell
      (unmarked (get_or ns e 0) (get_or ks e 0) (is_on o) (w && has_turn o))).matched ∷ bs)
      (get_or-set_other on i e x 0 (λ q. absurd (omega arith)))
      (marks_switched k (suc e) i x on ns (omega arith))

  counters_switched : (k e i x : ℕ) (on ns : List ℕ) → i < e
      → counters_ticked k e w ks (set on i x) ns ≡ counters_ticked k e w ks on ns
  unfolding counters_ticked
  counters_switched zero e i x on ns h = refl
  counters_switched (suc k) e i x on ns h =
      counters_switched k (suc e) i x on _ (omega arith)
      ∙ ap (λ (o : ℕ). counters_ticked k (suc e) w ks on
      (set ns e (tick_cell (unmarked (get_or ns e 0) (get_or ks e 0) (is_on o) (w && has_turn o))).counter))
      (get_or-set_other on i e x 0 (λ q. absurd (omega arith)))

switches_counted : (ks : List ℕ) (k e i x : ℕ) (on ns : List ℕ) → i < e
    → switches_ticked k e ks (set ns i x) on ≡ switches_ticked k e ks ns on
unfolding switches_ticked
switches_counted ks zero e i x on ns h = refl
switches_counted ks (suc k) e i x on ns h =
    switches_counted ks k (suc e) i x _ ns (omega arith)
    ∙ ap (λ (n : ℕ). switches_ticked k (suc e) ks ns
    (set on e (switch_for (is_on (get_or on e 0))
    (tick_cell (unmarked n (get_or ks e 0) (is_on (get_or on e 0)) (has_turn (get_or on e 0)))).turn)))
    (get_or-set_other ns i e x 0 (λ q. absurd (omega arith)))

module _ (w : Bool) (ks on₀ ns₀ : List ℕ) where
  -- the cells before e are ticked: on are the switches, ns the counters, ms the marks
  pub record Ticking (on ns : List ℕ) (ms : List Bool) (e : ℕ) : Type 0 where
    pub reached : e ≤ max_entries
    pub long : length ms ≡ max_entries
    pub counters : counters_ticked (max_entries - e) e w ks on ns ≡ counters_ticked max_entries 0 w ks on₀ ns₀
    pub matches : take e ms ++ marks (max_entries - e) e w ks on ns ≡ marks max_entries 0 w ks on₀ ns₀

  pub ticking_start : Ticking on₀ ns₀ (replicate max_entries false) 0
  ticking_start = record { reached = omega arith; long = refl; counters = refl; matches = refl }

  module _ (on ns : List ℕ) (ms : List Bool) (e : ℕ) (so_far : Ticking on ns ms e) where
    pub ticking_step : e < max_entries → {c : Cell} → c ≡ tick_cell (cell_at w ks on ns e)
        → Ticking on (set ns e c.counter) (set ms e c.matched) (e + 1)
    unfolding counters_ticked marks
    ticking_step more {c} is =
        record {
          reached = omega arith;
          long = length-set ms e c.matched ∙ so_far.long;
          counters = rw (is, add-one e) (rw (next max_entries e more, add-one e) at so_far.counters);
          matches =
              rw (
                add-one e,
                take-suc-set ms e c.matched (omega (arith, so_far.long)),
                append_assoc,
                marks_counted w ks (max_entries - suc e) (suc e) e c.counter on ns (omega arith),
                is,
              )
              (rw (next max_entries e more, add-one e) at so_far.matches);
        }

    -- a switch before e may change
    pub ticking_switched : (i x : ℕ) → i < e → Ticking (set on i x) ns ms e
    ticking_switched i x h =
        record {
          reached = so_far.reached;
          long = so_far.long;
          counters = counters_switched w ks (max_entries - e) e i x on ns h ∙ so_far.counters;
          matches =
              ap (λ (bs : List Bool). take e ms ++ bs) (marks_switched w ks (max_entries - e) e i x on ns h)
              ∙ so_far.matches;
        }

    pub ticking_end : max_entries ≤ e
        → (ms ≡ marks max_entries 0 w ks on₀ ns₀) × (ns ≡ counters_ticked max_entries 0 w ks on₀ ns₀)
    unfolding counters_ticked marks
    ticking_end h = (
      sym (take_all e ms (omega (arith, so_far.long))) ∙ sym (append-nil (take e ms))
          ∙ (rw (none max_entries e h) at so_far.matches),
      (rw (none max_entries e h) at so_far.counters),
    )

pub length_marks : (k e : ℕ) (w : Bool) (ks os ns : List ℕ) → length (marks k e w ks os ns) ≡ k
unfolding marks
length_marks zero e w ks os ns = refl
length_marks (suc k) e w ks os ns = ap suc (length_marks k (suc e) w ks os ns)

pub length_group : (ms : List Bool) (e : ℕ) → e + group ≤ length ms → length (take group (drop e ms)) ≡ group
length_group ms e h = length-take-le group (drop e ms) (rw (length-drop e ms) (omega arith))

module _ (w : ℕ) where
  due_over : (rs : List ℕ) (x : Tally) → requests_due w [] rs x ≡ x
  unfolding requests_due
  due_over rs x = refl

  module _ (ms : List Bool) (rs : List ℕ) where
    -- the group from e on taken
    pub group_step : (e : ℕ) → e + group ≤ length ms → (x : Tally) {y : Tally}
        → y ≡ requests_due w (take group (drop e ms)) (drop e rs) x
        → requests_due w (drop (e + group) ms) (drop (e + group) rs) y ≡ requests_due w (drop e ms) (drop e rs) x
    group_step e h x {y} is =
        ap₂ (λ (bs : List Bool) (ls : List ℕ). requests_due w bs ls y) (sym (drop-drop group e ms))
        (sym (drop-drop group e rs))
        ∙ ap (requests_due w (drop group (drop e ms)) (drop group (drop e rs))) is
        ∙ ap (λ (n : ℕ). requests_due w (drop group (drop e ms)) (drop n (drop e rs))
        (requests_due w (take group (drop e ms)) (drop e rs) x)) (sym (length_group ms e h))
        ∙ sym (due_append w (take group (drop e ms)) (drop group (drop e ms)) (drop e rs) x)
        ∙ ap (λ (bs : List Bool). requests_due w bs (drop e rs) x) (take-append-drop group (drop e ms))

    pub groups_end : (e : ℕ) → length ms ≤ e → (x : Tally) → requests_due w (drop e ms) (drop e rs) x ≡ x
    groups_end e h x = rw (drop_of_length-le ms {i = e} h) (due_over (drop e rs) x)

-- the switches of a tick, beside the counters, where w, a turn may pass; n is the counter of entry e after it
abbrev switches_in : Bool → ℕ → ℕ → List ℕ → List ℕ → List ℕ → List ℕ
switches_in w k e ks ns on = cond w (switches_ticked k e ks ns on) on

module _ (u e : ℕ) (ks ns on : List ℕ) where
  pub switches_step : (w : Bool) → e < u
      → {x : ℕ} → x ≡ cond w (switch_for (is_on (get_or on e 0)) (tick_cell (cell_at w ks on ns e)).turn) (get_or on e 0)
      → (n : ℕ)
      → switches_in w (u - (e + 1)) (e + 1) ks (set ns e n) (set on e x) ≡ switches_in w (u - e) e ks ns on
  unfolding switches_ticked
  switches_step true h {x} is n =
      switches_counted ks (u - (e + 1)) (e + 1) e n (set on e x) ns (omega arith) ∙ rw (next u e h, is, add-one e)
  switches_step false h is n = ap (set on e) is ∙ set-get_or on e 0

  pub switches_end : (w : Bool) → u ≤ e → switches_in w (u - e) e ks ns on ≡ on
  unfolding switches_ticked
  switches_end true h = rw (none u e h)
  switches_end false h = refl

-- a search that stops at nothing: b is what was found before e
module _ (f : ℕ → Bool) (u e : ℕ) (b : Bool) where
  pub some_step : e < u → {b' : Bool} → b' ≡ b || f e → b' || some f (u - (e + 1)) (e + 1) ≡ b || some f (u - e) e
  unfolding some
  some_step h is = rw (next u e h, is, add-one e) (or_assoc b (f e) (some f (u - suc e) (suc e)))

  pub some_end : u ≤ e → b || some f (u - e) e ≡ b
  unfolding some
  some_end h = rw (none u e h) (or-false b)

-- starts and stops
module _ (f : ℕ → ℕ) (u e : ℕ) (l : List ℕ) where
  pub spread_step : e < u → {x : ℕ} → x ≡ f e → spread f (u - (e + 1)) (e + 1) (set l e x) ≡ spread f (u - e) e l
  unfolding spread
  spread_step h is = rw (next u e h, is, add-one e)

  pub spread_end : u ≤ e → spread f (u - e) e l ≡ l
  unfolding spread
  spread_end h = rw (none u e h)

-- k elements from f on set to v, as the code writes them: those before and those behind stay
module _ (v : ℕ) where
  spread_filled : (k f : ℕ) (l : List ℕ) → f + k ≤ length l
      → spread (λ _. v) k f l ≡ take f l ++ (replicate k v ++ drop (f + k) l)
  unfolding spread
  spread_filled zero f l h = rw add-zero (sym (take-append-drop f l))
  spread_filled (suc k) f l h =
      spread_filled k (suc f) (set l f v) (rw length-set (omega arith))
      ∙ rw (take-suc-set l f v (omega arith), drop-set-lt (suc f + k) l f v (omega arith), append_assoc)
      (let e : suc f + k ≡ f + suc k = omega arith in ap (λ (n : ℕ). take f l ++ v ∷ (replicate k v ++ drop n l)) e)

  -- none, where they begin past the end e of the row; u is where they end
  pub part_filled : (f k e u : ℕ) (l : List ℕ) → e ≡ length l → u ≡ min (f + k) e
      → take (min f u) l ++ (replicate (u - min f u) v ++ drop (u - min f u) (drop (min f u) l))
      ≡ spread (λ _. v) (min k (e - f)) f l
  unfolding spread
  part_filled f k e u l whole ends =
      by_lt f e
      (λ inside.
      let from : min f u ≡ f = omega arith in
      let many : u - f ≡ min k (e - f) = omega arith in
      rw (from, many, drop-drop (min k (e - f)) f l) (sym (spread_filled (min k (e - f)) f l (omega arith))))
      (λ past.
      let from : min f u ≡ u = omega arith in
      let none : u - u ≡ 0 = omega arith in
      let few : min k (e - f) ≡ 0 = omega arith in
      rw (from, none, few) (take-append-drop u l))
