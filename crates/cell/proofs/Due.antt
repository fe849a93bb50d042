-- The table's arithmetic: how `due` moves from one tick to the next, and how far it is to the next due tick
-- (`due_from`).
use Rattle.std.proofs.Common.{◌≡◌, ℕ, suc, ◌+◌, ◌-◌, ◌*◌, ◌/◌, ◌%◌, ◌<◌, ◌≤◌, true, false, eqb, sym, ap, ◌∙◌, ⊎_elim, true≢false, mod-lt, mod-eq_of_lt, div-add-mod', arith, le-ltb, lt-ltb, eq-eqb, ne_eqb, eqb-true, le-leb}
use native.Mathlib.Nat.{mod-add-mod, mod-eq-sub-mod, mul-mod_left, zero-mod}
use borrow.Author.Tests.{lt-leb}
use Rattle.cell.proofs.Order.{lt_or_le}
use Rattle.cell.specs.Due.{due, until_due}

module _ (P : ℕ) where
  -- before the first delay is over
  pub due_before : {D n : ℕ} → n < D → due P D n ≡ false
  unfolding due
  due_before before = simp (lt-leb _ _ before)

  due_after : {D n : ℕ} → D ≤ n → due P D n ≡ eqb ((n - D) % P) 0
  unfolding due
  due_after after = simp (le-leb _ _ after)

  -- a tick later with a delay that is a tick longer
  due_shift : (k D n : ℕ) → due P (k + D) (k + n) ≡ due P D n
  due_shift k D n =
      ⊎_elim
      (λ (before : n < D). due_before (omega arith) ∙ sym (due_before before))
      (λ (after : D ≤ n).
      let e : (k + n) - (k + D) ≡ n - D = omega arith in
      due_after (omega arith) ∙ ap (λ d. eqb (d % P) 0) e ∙ sym (due_after after))
      (lt_or_le n D)

  pub due_suc : (D n : ℕ) → due P (suc D) (suc n) ≡ due P D n
  due_suc D n =
      let d : suc D ≡ 1 + D = omega arith in
      let m : suc n ≡ 1 + n = omega arith in
      rw (d, m) (due_shift 1 D n)

  at_delay : (D : ℕ) → (D - D) % P ≡ 0
  at_delay D = let e : D - D ≡ 0 = omega arith in rw e (zero-mod P)

  pub due_first : (D : ℕ) → due P D D ≡ true
  due_first D = due_after (omega arith) ∙ eq-eqb _ _ (at_delay D)

  due_one : (u : ℕ) → 1 ≤ u → due P u 1 ≡ eqb u 1
  due_one u some =
      ⊎_elim
      (λ (more : 1 < u). due_before more ∙ sym (ne_eqb u 1 (λ (e : u ≡ 1). omega arith)))
      (λ (most : u ≤ 1).
      let e : u ≡ 1 = omega arith in
      rw e (due_first 1))
      (lt_or_le 1 u)

  -- the due ticks, one by one
  pub due_at : (D j : ℕ) → due P D (D + j * P) ≡ true
  due_at D j =
      let e : D + j * P - D ≡ j * P = omega arith in
      due_after (omega arith) ∙ ap (λ d. eqb (d % P) 0) e ∙ eq-eqb _ _ (mul-mod_left j P)

  pub due_only : (D n : ℕ) → due P D n ≡ true → (j : ℕ) × (n ≡ D + j * P)
  due_only D n is =
      ⊎_elim
      (λ (before : n < D). absurd (true≢false (sym is ∙ due_before before)))
      (λ (after : D ≤ n).
      let z : (n - D) % P ≡ 0 = eqb-true _ _ (sym (due_after after) ∙ is) in
      ((n - D) / P, omega (arith, div-add-mod' (n - D) P)))
      (lt_or_le n D)

  pub until_before : {D n : ℕ} → n < D → until_due P D n ≡ D - n
  unfolding until_due
  until_before before = simp (lt-ltb _ _ before)

  until_after : {D n : ℕ} → D ≤ n → until_due P D n ≡ P - (n - D) % P
  unfolding until_due
  until_after after = simp (le-ltb _ _ after)

  pub until_due_lem : (D : ℕ) → until_due P D D ≡ P
  until_due_lem D =
      until_after (omega arith) ∙ omega (arith, at_delay D)

  module _ (one_le : 1 ≤ P) where
    -- r ticks after a due one, the next is P − r ticks ahead
    due_again : (r k : ℕ) → r < P → due P (P - r) (suc k) ≡ eqb ((r + suc k) % P) 0
    due_again r k below =
        ⊎_elim
        (λ (before : suc k < P - r).
        let e : (r + suc k) % P ≡ r + suc k = mod-eq_of_lt (omega arith) in
        due_before before ∙ sym (ne_eqb _ _ (λ (z : (r + suc k) % P ≡ 0). omega arith)))
        (λ (after : P - r ≤ suc k).
        let e : (r + suc k) - P ≡ suc k - (P - r) = omega arith in
        due_after after ∙ sym (ap (λ d. eqb d 0) (mod-eq-sub-mod (omega arith) ∙ ap (λ d. d % P) e)))
        (lt_or_le (suc k) (P - r))

    -- at a due tick the next is a period ahead
    pub due_period : (k : ℕ) → due P 0 (suc k) ≡ due P P (suc k)
    due_period k =
        let e : suc k - 0 ≡ 0 + suc k = omega arith in
        let p : P - 0 ≡ P = omega arith in
        due_after (omega arith) ∙ ap (λ d. eqb (d % P) 0) e ∙ sym (due_again 0 k one_le) ∙ ap (λ u. due P u (suc k)) p

    -- from the n-th tick on an entry is due as one that starts there with the ticks that are left
    pub due_from : (D n k : ℕ) → due P D (n + suc k) ≡ due P (until_due P D n) (suc k)
    due_from D n k =
        ⊎_elim
        (λ (before : n < D).
        let e : D ≡ n + (D - n) = omega arith in
        rw (until_before before) (ap (λ d. due P d (n + suc k)) e ∙ due_shift n (D - n) (suc k)))
        (λ (after : D ≤ n).
        let e : n + suc k - D ≡ (n - D) + suc k = omega arith in
        rw (until_after after)
        (due_after (omega arith) ∙ ap (λ d. eqb (d % P) 0) e
        ∙ sym (ap (λ d. eqb d 0) (mod-add-mod (n - D) P (suc k)))
        ∙ sym (due_again ((n - D) % P) k (mod-lt (n - D) one_le))))
        (lt_or_le n D)

    until_some : (D n : ℕ) → 1 ≤ until_due P D n
    until_some D n =
        ⊎_elim
        (λ (before : n < D). rw (until_before before) (omega arith))
        (λ (after : D ≤ n). rw (until_after after) (omega (arith, mod-lt (n - D) one_le)))
        (lt_or_le n D)

    -- the next tick is a due one exactly when one tick is left
    pub due_next : (D n : ℕ) → due P D (suc n) ≡ eqb (until_due P D n) 1
    due_next D n =
        let e : suc n ≡ n + 1 = omega arith in
        rw e (due_from D n 0 ∙ due_one (until_due P D n) (until_some D n))
