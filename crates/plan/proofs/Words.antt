-- Words of ranks, body by body: one body more, and which ranks are in.
use Prim.Native.Nat.{ℕ, zero, suc, ◌+◌, ◌^◌, ◌<◌}
use mathlib.Core.Path.{◌≡◌, refl, sym, ◌∙◌}
use mathlib.Core.Bool.{true, false, false≢true}
use native.Mathlib.Omega.{arith}
use native.Mathlib.Numerals.{add-one}
use lib.Dec.{eqb}
use borrow.Author.Tests.{eq-eqb, ne_eqb}
use Rattle.number.proofs.Cases.{by_eq}
use Rattle.word.specs.Word.{ranks, has, with}
use Rattle.word.proofs.Theorems as Word
use Rattle.plan.specs.Words.{marked}

-- only the ranks and fields below n count
pub marked_cong : (at at' f : ℕ → ℕ) (v n : ℕ) → ((i : ℕ) → i < n → at i ≡ at' i) → marked at f v n ≡ marked at' f v n
unfolding marked
marked_cong at at' f v zero p = refl
marked_cong at at' f v (suc n) p = rw (marked_cong at at' f v n (λ i h. p i (omega arith)), p n (omega arith))

module _ (at f : ℕ → ℕ) (v : ℕ) where
  module _ (n : ℕ) where
    marked_with : f n ≡ v → with (marked at f v n) (at n) ≡ marked at f v (n + 1)
    unfolding marked
    marked_with e = rw (add-one, eq-eqb (f n) v e)

    pub marked_without : (f n ≡ v → ⊥) → marked at f v n ≡ marked at f v (n + 1)
    unfolding marked
    marked_without e = rw (add-one, ne_eqb (f n) v e)

    -- a step of a loop over the bodies, at one whose field is v
    pub marked_step : (w : ℕ) → w ≡ marked at f v n → f n ≡ v → with w (at n) ≡ marked at f v (n + 1)
    marked_step w p e = rw p (marked_with e)

    -- one body more changes only its own rank
    marked_other : (r : ℕ) → (r ≡ at n → ⊥) → has (marked at f v (suc n)) r ≡ has (marked at f v n) r
    unfolding marked
    marked_other r ne =
        by_eq (f n) v
        (λ e. rw (eq-eqb (f n) v e) (Word.has_with_other (marked at f v n) (at n) r ne))
        (λ e. rw (ne_eqb (f n) v e))

  -- what is no body's rank is not in
  marked_none : (n r : ℕ) → ((i : ℕ) → i < n → r ≡ at i → ⊥) → has (marked at f v n) r ≡ false
  unfolding marked
  marked_none zero r ne = Word.empty r
  marked_none (suc n) r ne = marked_other n r (ne n (omega arith)) ∙ marked_none n r (λ i h. ne i (omega arith))

  -- what is in is some body's rank
  pub marked_some : (n r : ℕ) → has (marked at f v n) r ≡ true → (i : ℕ) × (i < n) × (at i ≡ r)
  unfolding marked
  marked_some zero r e = absurd (false≢true (sym (Word.empty r) ∙ e))
  marked_some (suc n) r e =
      by_eq r (at n)
      (λ s. (n, omega arith, sym s))
      (λ ne. let p = marked_some n r (sym (marked_other n r ne) ∙ e) in (p.0, omega (arith, p.1), p.2))

  -- where no two bodies have one rank, each one's rank is in exactly if its field is v
  pub marked_has : (n : ℕ) → ((i j : ℕ) → i < n → j < n → at i ≡ at j → i ≡ j) → ((i : ℕ) → i < n → at i < ranks)
      → (i : ℕ) → i < n → has (marked at f v n) (at i) ≡ eqb (f i) v
  unfolding marked
  marked_has zero inj small i h = absurd (omega arith)
  marked_has (suc n) inj small i h =
      by_eq i n
      (λ s. rw s own)
      (λ ne. marked_other n (at i) (λ s. ne (inj i n h (omega arith) s))
      ∙ marked_has n (λ j k a b. inj j k (omega arith) (omega arith)) (λ j l. small j (omega arith)) i (omega arith))
    where
      alone : (j : ℕ) → j < n → at n ≡ at j → ⊥
      alone j l s = omega (arith, inj n j (omega arith) (omega arith) s)

      own : has (marked at f v (suc n)) (at n) ≡ eqb (f n) v
      own =
          by_eq (f n) v
          (λ e. rw (eq-eqb (f n) v e) (Word.has_with_same (marked at f v n) (at n) (small n (omega arith))))
          (λ e. rw (ne_eqb (f n) v e) (marked_none n (at n) alone))

  pub marked_lt : (n : ℕ) → marked at f v n < 2 ^ ranks
  unfolding marked
  marked_lt zero = omega arith
  marked_lt (suc n) =
      by_eq (f n) v
      (λ e. rw (eq-eqb (f n) v e) (Word.with_lt (marked at f v n) (at n) (marked_lt n)))
      (λ e. rw (ne_eqb (f n) v e) (marked_lt n))
