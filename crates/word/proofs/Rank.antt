-- A rank in a word is a bit of it that is set; and what `with` and `without` make of the word, by cases.
use Prim.Native.Nat.{ℕ, ◌+◌, ◌-◌, ◌^◌, ◌<◌}
use mathlib.Core.Path.{◌≡◌, sym, ap, ◌∙◌}
use mathlib.Core.Bool.{true, false, ◌&&◌, and-false}
use native.Mathlib.Omega.{arith}
use lib.Dec.{ltb, eqb}
use borrow.Author.Tests.{ltb-true, ltb-false, eqb-true, eqb-false, lt-ltb, eq-eqb, ne_eqb}
use Rattle.number.proofs.Cases.{by_test, and_true}
use Rattle.word.specs.Word.{ranks, has, with, without}
use Rattle.word.proofs.Bit.{bit}

module _ (w r : ℕ) where
  pub has_lt : has w r ≡ true → r < ranks
  unfolding has
  has_lt e = ltb-true r ranks (and_true (ltb r ranks) (eqb (bit w r) 1) e).0

  pub has_set : has w r ≡ true → bit w r ≡ 1
  unfolding has
  has_set e = eqb-true (bit w r) 1 (and_true (ltb r ranks) (eqb (bit w r) 1) e).1

  pub has_clear : r < ranks → has w r ≡ false → bit w r ≡ 0
  unfolding has
  has_clear l e = omega (arith, eqb-false (bit w r) 1 (rw (lt-ltb r ranks l) at e))

  pub set_has : r < ranks → bit w r ≡ 1 → has w r ≡ true
  unfolding has
  set_has l e = simp (lt-ltb r ranks l, eq-eqb (bit w r) 1 e)

  pub clear_has : bit w r ≡ 0 → has w r ≡ false
  unfolding has
  clear_has e = simp (ne_eqb (bit w r) 1 (omega arith), and-false)

  pub same_has : (v : ℕ) → bit v r ≡ bit w r → has v r ≡ has w r
  unfolding has
  same_has v e = ap (λ (n : ℕ). ltb r ranks && eqb n 1) e

pub has_bit : (w v i : ℕ) → i < ranks → has w i ≡ has v i → bit w i ≡ bit v i
has_bit w v i l e =
    by_test (has v i)
    (λ t. has_set w i (e ∙ t) ∙ sym (has_set v i t))
    (λ f. has_clear w i l (e ∙ f) ∙ sym (has_clear v i l f))

-- `with` leaves a word as it is, which then has the rank if it is one, or adds a clear bit
pub with_elim : (C : ℕ → Type 0) (w r : ℕ) → ((r < ranks → has w r ≡ true) → C w)
    → (r < ranks → bit w r ≡ 0 → C (w + 2 ^ r)) → C (with w r)
unfolding with
with_elim C w r kept added =
    by_test (ltb r ranks)
    (λ l. by_test (has w r)
    (λ e. rw (l, e) (kept (λ _. e)))
    (λ e. rw (l, e) (added (ltb-true r ranks l) (has_clear w r (ltb-true r ranks l) e))))
    (λ g. rw g (kept (λ l. absurd (omega (arith, ltb-false r ranks g)))))

-- `without` leaves a word that has not the rank, or takes a set bit away
pub without_elim : (C : ℕ → Type 0) (w r : ℕ) → (has w r ≡ false → C w) → (r < ranks → bit w r ≡ 1 → C (w - 2 ^ r))
    → C (without w r)
unfolding without
without_elim C w r kept taken =
    by_test (has w r)
    (λ e. rw e (taken (has_lt w r e) (has_set w r e)))
    (λ e. rw e (kept e))
