-- Lists whose elements are stored in turn: one store more, the length, and what stands where.
use Prim.Native.Nat.{ℕ, zero, suc, ◌+◌, ◌≤◌, ◌<◌}
use mathlib.Core.Path.{◌≡◌, refl, ◌∙◌}
use mathlib.Core.List.{List, [], ◌∷◌}
use native.Mathlib.Omega.{arith}
use native.Mathlib.Numerals.{add-one}
use lib.ListN.{length, get_or, set, take, drop, replicate, length-set, length-replicate, get_or-replicate, get_or-eq_default}
use lib.Seq.{get_or-set_same, get_or-set_other, drop-cons, get_or-take, length-take-le}
use Rattle.number.proofs.Cases.{by_lt, by_eq}
use Rattle.plan.specs.Stores.{stored, listed}

module _ (at f : ℕ → ℕ) where
  -- one store more, as a loop that counts up makes it
  stored_more : (n : ℕ) (l : List ℕ) → set (stored at f n l) (at n) (f n) ≡ stored at f (n + 1) l
  unfolding stored
  stored_more n l = rw add-one

  -- a step of a loop that stores: the value v at the index i
  pub stored_step : (n : ℕ) (l : List ℕ) {t : List ℕ} {i v : ℕ} → t ≡ stored at f n l → i ≡ at n → v ≡ f n
      → set t i v ≡ stored at f (n + 1) l
  stored_step n l e p q = rw (e, p, q) (stored_more n l)

  pub length_stored : (n : ℕ) (l : List ℕ) → length (stored at f n l) ≡ length l
  unfolding stored
  length_stored zero l = refl
  length_stored (suc n) l = simp length-set (length_stored n l)

  -- where no two are stored at one index, each stays
  pub stored_at : (n : ℕ) (l : List ℕ) → ((i j : ℕ) → i < n → j < n → at i ≡ at j → i ≡ j)
      → (i d : ℕ) → i < n → at i < length l → get_or (stored at f n l) (at i) d ≡ f i
  unfolding stored
  stored_at zero l inj i d h w = absurd (omega arith)
  stored_at (suc n) l inj i d h w =
      by_eq i n
      (λ e. rw e (get_or-set_same (stored at f n l) (at n) (f n) d (simp length_stored (rw e at w))))
      (λ ne. get_or-set_other (stored at f n l) (at n) (at i) (f n) d (λ e. ne (inj i n h (omega arith) e))
      ∙ stored_at n l (λ j k a b. inj j k (omega arith) (omega arith)) i d (omega arith) w)

  -- where nothing is stored, the list is as it was
  pub stored_past : (n : ℕ) (l : List ℕ) (j d : ℕ) → ((i : ℕ) → i < n → j ≡ at i → ⊥)
      → get_or (stored at f n l) j d ≡ get_or l j d
  unfolding stored
  stored_past zero l j d ne = refl
  stored_past (suc n) l j d ne =
      get_or-set_other (stored at f n l) (at n) j (f n) d (ne n (omega arith))
      ∙ stored_past n l j d (λ i h. ne i (omega arith))

-- only the indices and values below n count
pub stored_cong : (at at' f g : ℕ → ℕ) (n : ℕ) (l : List ℕ)
    → ((i : ℕ) → i < n → at i ≡ at' i) → ((i : ℕ) → i < n → f i ≡ g i) → stored at f n l ≡ stored at' g n l
unfolding stored
stored_cong at at' f g zero l p q = refl
stored_cong at at' f g (suc n) l p q =
    let rest = stored_cong at at' f g n l (λ i h. p i (omega arith)) (λ i h. q i (omega arith)) in
    rw (rest, p n (omega arith), q n (omega arith))

-- the same of lists that are filled from the front
module _ (f : ℕ → ℕ) (n : ℕ) where
  pub listed_cong : (g : ℕ → ℕ) (l : List ℕ) → ((i : ℕ) → i < n → f i ≡ g i) → listed f n l ≡ listed g n l
  listed_cong g l same = stored_cong (λ i. i) (λ i. i) f g n l (λ i _. refl) same

  pub listed_at : (m z i d : ℕ) → i < n → i < m → get_or (listed f n (replicate m z)) i d ≡ f i
  listed_at m z i d h l = stored_at (λ j. j) f n (replicate m z) (λ j k _ _ e. e) i d h (rw length-replicate l)

  pub listed_past : (m z i : ℕ) → n ≤ i → get_or (listed f n (replicate m z)) i z ≡ z
  listed_past m z i h = stored_past (λ j. j) f n (replicate m z) i z (λ j l e. omega arith) ∙ same
    where
      same : get_or (replicate m z) i z ≡ z
      same =
          by_lt i m
          (λ l. get_or-replicate m i z z l)
          (λ l. get_or-eq_default (replicate m z) z {n = i} (rw length-replicate l))

-- the first of what is left of a list's first n elements
pub drop_take_cons : (n : ℕ) (l : List ℕ) (b : ℕ) → b < n → n ≤ length l
    → drop b (take n l) ≡ (get_or l b 0 ∷ drop (suc b) (take n l))
drop_take_cons n l b h w = drop-cons (take n l) b 0 (rw (length-take-le n l w) h) ∙ rw (get_or-take n l b 0 h)

-- inside a list the default does not count
pub get_d_any : (l : List ℕ) (i d e : ℕ) → i < length l → get_or l i d ≡ get_or l i e
get_d_any [] i d e h = absurd (omega arith)
get_d_any (x ∷ xs) zero d e h = refl
get_d_any (x ∷ xs) (suc i) d e h = get_d_any xs i d e (omega arith)
