-- By cases on the order of two numbers.
use Rattle.std.proofs.Common.{ℕ, zero, suc, ◌<◌, ◌≤◌, ◌⊎◌, inl, inr, ⊎_elim, suc-le-suc, zero-le}

pub lt_or_le : (n m : ℕ) → (n < m) ⊎ (m ≤ n)
lt_or_le n zero = inr zero-le
lt_or_le zero (suc m) = inl (suc-le-suc zero-le)
lt_or_le (suc n) (suc m) = ⊎_elim (λ l. inl (suc-le-suc l)) (λ l. inr (suc-le-suc l)) (lt_or_le n m)
