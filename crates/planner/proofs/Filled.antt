-- What `listed` gives is the definition's list, where its function gives numbers.
use Rattle.std.proofs.Common.{◌≡◌, ℕ, ◌<◌, ◌≤◌, List, length, get_or, replicate, sym, ◌∙◌, arith}
use Rattle.std.proofs.lemmas.List.{length-replicate}
use Rattle.std.proofs.lemmas.List.{ext_get_or}
use Rattle.number.proofs.Cases.{by_lt}
use Rattle.plan.specs.Stores.{listed}
use Rattle.plan.proofs.Stores.{length_stored, listed_at, listed_past}

-- xs has f of each index below n, and z at the others below m
pub listed_made : (f : ℕ → ℕ) (n m z : ℕ) (xs : List ℕ) → n ≤ m → length xs ≡ m
    → ((i d : ℕ) → i < n → get_or xs i d ≡ f i) → ((i d : ℕ) → n ≤ i → i < m → get_or xs i d ≡ z)
    → xs ≡ listed f n (replicate m z)
listed_made f n m z xs fits long below past =
    ext_get_or z xs (listed f n (replicate m z))
    (long ∙ sym (length_stored (λ i. i) f n (replicate m z) ∙ length-replicate m z))
    (λ i within.
    by_lt i n
    (λ h. below i z h ∙ sym (listed_at f n m z i z h (omega (arith, long, within))))
    (λ h. past i z h (omega (arith, long, within)) ∙ sym (listed_past f n m z i h)))
