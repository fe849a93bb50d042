-- When a cell matches: `matches_when_due`, at the end of the file.
--
-- In order: how many additions of 1 lead a cell's counter to its compare value (`Counting`); what a start and a tick do
-- to that; the ticks at which the cell matches. Of the counter it uses `Reach` alone.
use Rattle.std.proofs.Common.{◌≡◌, ℕ, zero, suc, ◌+◌, ◌-◌, ◌%◌, ◌<◌, ◌≤◌, Bool, true, false, cond, sym, refl, ap, ◌∙◌, ⊎_elim, arith, le-ltb, lt-ltb}
use Rattle.cell.specs.declared.Cell.{Cell}
use Rattle.cell.specs.Cell.{compare_in, start_counter_in, start_cell_in, reset_in, tick_cell_in, ticks_in}
use Rattle.cell.specs.Due.{due}
use Rattle.cell.proofs.Order.{lt_or_le}
use Rattle.cell.proofs.Modulo.{minus_unique}
use Rattle.cell.proofs.Reach.{Reaches, reaches_next, reaches_later, reaches_start, turn_start, reset_start, start_later}
use Rattle.cell.proofs.Tick.{ticked_matched, ticked_turned, ticked_passed}
use Rattle.cell.proofs.Due as Due

module _ (M P : ℕ) (one_le : 1 ≤ P) (P_fits : P ≤ M) where
  compare_lt : P - 1 < M
  compare_lt = omega arith

  compare_one_less : compare_in M P ≡ P - 1
  compare_one_less = let e : P - 1 + 1 ≡ P = omega arith in sym (minus_unique P 1 compare_lt (ap (λ s. s % M) e))

  -- a match leaves the counter that a start with the period for its delay would
  reset_period : reset_in M ≡ start_counter_in M (P - 1) P
  reset_period =
      let e : P - 1 + 1 ≡ P = omega arith in
      reset_start M (P - 1) compare_lt ∙ ap (start_counter_in M (P - 1)) e

  -- a cell that is on, with period P and u ticks before its next match: those that bring the counter to the compare
  -- value, and a turn more where one must pass
  record Counting (c : Cell) (u : ℕ) : Type 0 where
    on : c.on ≡ true
    compares : c.compare ≡ P - 1
    ahead : ℕ
    reaches : Reaches M (P - 1) c.counter ahead
    left : u ≡ ahead + cond c.turn M 0

  start_counter_lem : (D : ℕ) → (start_cell_in M P D).counter ≡ start_counter_in M (P - 1) D
  start_counter_lem D = ap (λ k. start_counter_in M k D) compare_one_less

  -- a turn must pass where the first match is more than a turn ahead
  start_long : (D : ℕ) → M < D → (start_cell_in M P D).turn ≡ true
  start_long D more = lt-ltb M D more

  start_short : (D : ℕ) → D ≤ M → (start_cell_in M P D).turn ≡ false
  start_short D few = le-ltb M D few

  counting_start : (D : ℕ) → 1 ≤ D → D ≤ M + M → Counting (start_cell_in M P D) D
  counting_start D some fits =
      ⊎_elim
      (λ (more : M < D).
      record {
        on = refl;
        compares = compare_one_less;
        ahead = D - M;
        reaches =
            rw (start_counter_lem D, start_later M (P - 1) D (omega arith))
            (reaches_start M (P - 1) compare_lt (D - M) (omega arith) (omega arith));
        left = rw (start_long D more) (omega arith);
      })
      (λ (few : D ≤ M).
      record {
        on = refl;
        compares = compare_one_less;
        ahead = D;
        reaches = rw (start_counter_lem D) (reaches_start M (P - 1) compare_lt D some few);
        left = rw (start_short D few) (omega arith);
      })
      (lt_or_le M D)

  -- the compare value is not reached, or reached and a turn has passed: no match, and one tick less
  counting_passes : {c : Cell} {u : ℕ} → Counting c (suc (suc u))
      → ((tick_cell_in M c).matched ≡ false) × Counting (tick_cell_in M c) (suc u)
  counting_passes {c} {u} k = go k.ahead c.turn refl k.reaches k.left
    where
      go : (v : ℕ) (t : Bool) → c.turn ≡ t → Reaches M (P - 1) c.counter v → suc (suc u) ≡ v + cond t M 0
          → ((tick_cell_in M c).matched ≡ false) × Counting (tick_cell_in M c) (suc u)
      go zero t turn r left = absurd (omega (arith, r.some))
      go (suc zero) false turn r left = absurd (omega arith)
      go (suc zero) true turn r left =
          rw (ticked_turned M c k.on refl turn (reaches_next M (P - 1) r ∙ sym k.compares)) (
            refl,
            record {
              on = refl;
              compares = k.compares;
              ahead = M;
              reaches =
                  rw (reaches_next M (P - 1) r ∙ turn_start M (P - 1) compare_lt)
                  (reaches_start M (P - 1) compare_lt M (omega arith) (omega arith));
              left = omega arith;
            },
          )
      go (suc (suc v)) t turn r left =
          let p = reaches_later M (P - 1) r in
          rw (ticked_passed M c k.on refl (λ here. p.0 (here ∙ k.compares))) (
            refl,
            record {
              on = refl;
              compares = k.compares;
              ahead = suc v;
              reaches = p.1;
              left = rw turn (omega arith);
            },
          )

  counting_matches : {c : Cell} → Counting c 1 → ((tick_cell_in M c).matched ≡ true) × Counting (tick_cell_in M c) P
  counting_matches {c} k = go k.ahead c.turn refl k.reaches k.left
    where
      go : (v : ℕ) (t : Bool) → c.turn ≡ t → Reaches M (P - 1) c.counter v → 1 ≡ v + cond t M 0
          → ((tick_cell_in M c).matched ≡ true) × Counting (tick_cell_in M c) P
      go zero t turn r left = absurd (omega (arith, r.some))
      go (suc v) true turn r left = absurd (omega arith)
      go (suc (suc v)) false turn r left = absurd (omega arith)
      go (suc zero) false turn r left =
          rw (ticked_matched M c k.on refl turn (reaches_next M (P - 1) r ∙ sym k.compares)) (
            refl,
            record {
              on = refl;
              compares = k.compares;
              ahead = P;
              reaches = rw reset_period (reaches_start M (P - 1) compare_lt P one_le P_fits);
              left = omega arith;
            },
          )

  none : {c : Cell} → Counting c 0 → ⊥
  none k = omega (arith, k.reaches.some, k.left)

  counting_when_due : (n u : ℕ) {c : Cell} → Counting c u → (ticks_in M (suc n) c).matched ≡ due P u (suc n)
  unfolding ticks_in
  counting_when_due zero zero k = absurd (none k)
  counting_when_due zero (suc zero) k = (counting_matches k).0 ∙ sym (Due.due_first P 1)
  counting_when_due zero (suc (suc u)) k = (counting_passes k).0 ∙ sym (Due.due_before P (omega arith))
  counting_when_due (suc n) zero k = absurd (none k)
  counting_when_due (suc n) (suc zero) k =
      counting_when_due n P (counting_matches k).1 ∙ sym (Due.due_suc P 0 (suc n) ∙ Due.due_period P one_le n)
  counting_when_due (suc n) (suc (suc u)) k =
      counting_when_due n (suc u) (counting_passes k).1 ∙ sym (Due.due_suc P (suc u) (suc n))

  pub matches_when_due : (D n : ℕ) → 1 ≤ D → D ≤ M + M → (ticks_in M (suc n) (start_cell_in M P D)).matched
      ≡ due P D (suc n)
  matches_when_due D n some fits = counting_when_due n D (counting_start D some fits)
