-- How many additions of 1 bring a counter of any modulus M to the compare value k: from the start counter for D it is
-- the D-th, and none before it, for D from 1 to M (`reaches_start`). So the counter that a match leaves is a period
-- before the next, and one that stands at the compare value a turn.
use Rattle.std.proofs.Common.{◌≡◌, ℕ, zero, suc, ◌+◌, ◌-◌, ◌%◌, ◌<◌, ◌≤◌, ◌≢◌, sym, ap, ◌∙◌, mod-lt, mod-eq_of_lt, arith}
use native.Mathlib.Nat.{mod-add-mod, add-mod_right, mod-eq-sub-mod}
use Rattle.cell.specs.Cell.{start_counter_in, sum_in, sums_in, reset_in}
use Rattle.cell.proofs.Modulo.{minus_plus, minus_unique, turn_apart}

sums_add : (M n i : ℕ) → i < M → sums_in M n i ≡ (i + n) % M
unfolding sums_in
sums_add M zero i fits = let e : i + 0 ≡ i = omega arith in sym (ap (λ s. s % M) e ∙ mod-eq_of_lt fits)
sums_add M (suc n) i fits =
    let e : i + 1 + n ≡ i + suc n = omega arith in
    sums_add M n (sum_in M i) (mod-lt (i + 1) (omega arith)) ∙ mod-add-mod (i + 1) M n ∙ ap (λ s. s % M) e

module _ (M k : ℕ) where
  -- the u-th addition of 1 to i, and none before it, brings it to k
  pub record Reaches (i u : ℕ) : Type 0 where
    pub some : 1 ≤ u
    pub reached : sums_in M u i ≡ k
    pub none_before : (n : ℕ) → 1 ≤ n → n < u → sums_in M n i ≢ k

  -- one addition away
  pub reaches_next : {i : ℕ} → Reaches i 1 → sum_in M i ≡ k
  unfolding sums_in
  reaches_next r = r.reached

  -- more than one: one less after the next
  pub reaches_later : {i u : ℕ} → Reaches i (suc (suc u)) → (sum_in M i ≢ k) × Reaches (sum_in M i) (suc u)
  unfolding sums_in
  reaches_later r = (
    r.none_before 1 (omega arith) (omega arith),
    record {
      some = omega arith;
      reached = r.reached;
      none_before = λ n some less. r.none_before (suc n) (omega arith) (omega arith);
    },
  )

  module _ (fits : k < M) where
    pub reaches_start : (D : ℕ) → 1 ≤ D → D ≤ M → Reaches (start_counter_in M k D) D
    reaches_start D some few = record { some = some; reached = at_D; none_before = before }
      where
        below : start_counter_in M k D < M
        below = mod-lt _ (omega arith)

        at_D : sums_in M D (start_counter_in M k D) ≡ k
        at_D = sums_add M D _ below ∙ minus_plus k D (omega arith) ∙ mod-eq_of_lt fits

        -- otherwise the D − n additions that follow would lead from k to k, in less than a turn
        before : (n : ℕ) → 1 ≤ n → n < D → sums_in M n (start_counter_in M k D) ≢ k
        before n one less same =
            let e : start_counter_in M k D + n + (D - n) ≡ start_counter_in M k D + D = omega arith in
            turn_apart (D - n) fits (omega arith) (omega arith)
            (ap (λ s. (s + (D - n)) % M) (sym same ∙ sums_add M n _ below)
            ∙ mod-add-mod (start_counter_in M k D + n) M (D - n)
            ∙ ap (λ s. s % M) e
            ∙ sym (sums_add M D _ below)
            ∙ at_D)

    pub turn_start : k ≡ start_counter_in M k M
    turn_start = minus_unique k M fits (add-mod_right k M)

    pub reset_start : reset_in M ≡ start_counter_in M k (k + 1)
    reset_start =
        let e : M - 1 + (k + 1) ≡ k + M = omega arith in
        minus_unique k (k + 1) (omega arith) (ap (λ s. s % M) e ∙ add-mod_right k M)

-- a turn more before the compare value is reached starts at the same counter
pub start_later : (M k D : ℕ) → M ≤ D → start_counter_in M k D ≡ start_counter_in M k (D - M)
start_later M k D more = ap (λ r. (k + (M - r)) % M) (mod-eq-sub-mod more)
