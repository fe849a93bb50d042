-- Differences modulo any M: what the start counter of a cell comes to.
use Rattle.std.proofs.Common.{◌≡◌, ℕ, ◌+◌, ◌-◌, ◌%◌, ◌<◌, ◌≤◌, ◌≢◌, sym, ap, ◌∙◌, ⊎_elim, mod-lt, mod-eq_of_lt, arith}
use native.Mathlib.Nat.{mod-add-mod, add-mod-mod, add-mod_right, mod-eq-sub-mod}
use Rattle.cell.specs.Cell.{minus}
use Rattle.cell.proofs.Order.{lt_or_le}

-- what is taken away, added again
pub minus_plus : {M : ℕ} (a b : ℕ) → 1 ≤ M → (minus M a b + b) % M ≡ a % M
minus_plus {M} a b some =
    let e : a + (M - b % M) + b % M ≡ a + M = omega (arith, mod-lt b some) in
    mod-add-mod (a + (M - b % M)) M b ∙ sym (add-mod-mod (a + (M - b % M)) b M) ∙ ap (λ s. s % M) e ∙ add-mod_right a M

-- the difference is the one number below M that b takes back to a
pub minus_unique : {M r : ℕ} (a b : ℕ) → r < M → (r + b) % M ≡ a % M → r ≡ minus M a b
minus_unique {M} {r} a b fits back =
    let e : r + b % M + (M - b % M) ≡ r + M = omega (arith, mod-lt b {m = M} (omega arith)) in
    sym
    (sym (mod-add-mod a M (M - b % M))
    ∙ ap (λ s. (s + (M - b % M)) % M) (sym back ∙ sym (add-mod-mod r b M))
    ∙ mod-add-mod (r + b % M) M (M - b % M)
    ∙ ap (λ s. s % M) e
    ∙ add-mod_right r M
    ∙ mod-eq_of_lt fits)

-- less than a turn away from k is not k
pub turn_apart : {M k : ℕ} (v : ℕ) → k < M → 1 ≤ v → v < M → (k + v) % M ≢ k
turn_apart {M} {k} v fits some few same =
    ⊎_elim
    (λ (below : k + v < M).
    let e : (k + v) % M ≡ k + v = mod-eq_of_lt below in
    omega arith)
    (λ (above : M ≤ k + v).
    let e : (k + v) % M ≡ k + v - M = mod-eq-sub-mod above ∙ mod-eq_of_lt (omega arith) in
    omega arith)
    (lt_or_le (k + v) M)
