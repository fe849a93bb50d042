-- The bits of a word from a rank on, counted by the bodies that have them: `ones_from`.
use Prim.Native.Nat.{ℕ, zero, suc, ◌+◌, ◌-◌, ◌/◌, ◌%◌, ◌^◌, ◌≤◌, ◌<◌}
use mathlib.Core.Path.{◌≡◌, refl, sym, ap, ap₂, ◌∙◌}
use mathlib.Core.Bool.{true, false, ◌&&◌}
use mathlib.Core.Logic.{◌≢◌}
use native.Mathlib.Nat.{pow-suc, div-div-eq-div-mul, div-eq_of_lt, mod-lt}
use native.Mathlib.Omega.{arith}
use borrow.Author.Tests.{le-leb, lt-leb, lt-ltb, ne_eqb}
use lib.Dec.{leb, lit≤}
use lib.Count.{ones, ones_in, ones_step}
use Rattle.number.proofs.Cases.{by_test, by_lt, by_eq}
use Rattle.word.specs.Word.{ranks, has}
use Rattle.scheduler.specs.Scheduler.{mark_of}
use Rattle.waiting.proofs.Words.Sum.{sum_from, sum_same, sum_zero, sum_one}

ones_zero : ones 0 ≡ 0
unfolding ones ones_in
ones_zero = refl

-- n bodies with ranks, and a word that has only ranks of theirs
module _ (n : ℕ) (rk : ℕ → ℕ) (rank_lt : (b : ℕ) → b < n → rk b < ranks)
    (rank_inj : (a b : ℕ) → a < n → b < n → rk a ≡ rk b → a ≡ b)
    (w : ℕ) (small : w < 2 ^ ranks) (real : (r : ℕ) → has w r ≡ true → (b : ℕ) × ((b < n) × (rk b ≡ r))) where
  -- the body b has its bit in w, at the rank t or above
  abbrev bit : ℕ → ℕ → ℕ
  bit t b = mark_of (has w (rk b) && leb t (rk b))

  -- one rank more
  bit_other : (t b : ℕ) → rk b ≢ t → bit t b ≡ bit (suc t) b
  bit_other t b d =
      by_lt t (rk b)
      (λ l. simp (le-leb t (rk b) (omega arith), le-leb (suc t) (rk b) l))
      (λ l. simp (lt-leb t (rk b) (omega (arith, d)), lt-leb (suc t) (rk b) (omega arith)))

  -- below t it does not count
  bit_below : (t b : ℕ) → rk b < t → bit t b ≡ 0
  bit_below t b l = by_test (has w (rk b)) (λ h. simp (h, lt-leb t (rk b) l)) (λ h. simp h)

  bit_here : (t b : ℕ) → rk b ≡ t → has w t ≡ true → bit t b ≡ 1
  bit_here t b e h = rw e (simp (h, le-leb t t (omega arith)))

  bit_none : (t b : ℕ) → has w t ≡ false → bit t b ≡ bit (suc t) b
  bit_none t b h = by_eq (rk b) t (λ e. rw e (simp h)) (bit_other t b)

  sum_step : (t : ℕ) → sum_from 0 n (bit t) ≡ mark_of (has w t) + sum_from 0 n (bit (suc t))
  sum_step t =
      by_test (has w t)
      (λ h.
      let r = real t h in
      let here : bit t r.0 ≡ 1 = bit_here t r.0 r.1.1 h in
      let gone : bit (suc t) r.0 ≡ 0 = bit_below (suc t) r.0 (omega (arith, r.1.1)) in
      let one : sum_from 0 n (bit t) ≡ suc (sum_from 0 n (bit (suc t))) =
      sum_one 0 n (bit t) (bit (suc t)) r.0 (omega arith) (omega (arith, r.1.0)) (here ∙ ap suc (sym gone))
      (λ j p q d. bit_other t j (λ e. d (rank_inj j r.0 (omega arith) r.1.0 (e ∙ sym r.1.1)))) in
      rw h (omega arith))
      (λ h.
      let none : sum_from 0 n (bit t) ≡ sum_from 0 n (bit (suc t)) =
      sum_same 0 n (bit t) (bit (suc t)) (λ j p q. bit_none t j h) in
      rw h (omega arith))

  odd_has : (t : ℕ) → t < ranks → w / 2 ^ t % 2 ≡ mark_of (has w t)
  unfolding has
  odd_has t l =
      by_eq (w / 2 ^ t % 2) 1
      (λ e. simp (lt-ltb t ranks l, e))
      (λ d.
      let m : w / 2 ^ t % 2 < 2 = mod-lt (w / 2 ^ t) (lit≤ tt) in
      simp (lt-ltb t ranks l, ne_eqb (w / 2 ^ t % 2) 1 d) (omega (arith, d)))

  ones_next : (t : ℕ) → t < ranks → ones (w / 2 ^ t) ≡ mark_of (has w t) + ones (w / 2 ^ suc t)
  ones_next t l =
      ones_step (w / 2 ^ t)
      ∙ ap₂ (λ (x y : ℕ). x + ones y) (odd_has t l)
      (div-div-eq-div-mul w (2 ^ t) 2 ∙ ap (λ (x : ℕ). w / x) (sym (pow-suc 2 t)))

  -- d ranks are left above t
  ones_left : (d t : ℕ) → t + d ≡ ranks → ones (w / 2 ^ t) ≡ sum_from 0 n (bit t)
  ones_left zero t e =
      let top : t ≡ ranks = omega arith in
      ap ones (rw top (div-eq_of_lt small)) ∙ ones_zero
      ∙ sym (sum_zero 0 n (bit t) (λ j p q. bit_below t j (omega (arith, rank_lt j (omega arith)))))
  ones_left (suc d) t e =
      ones_next t (omega arith) ∙ ap (λ (x : ℕ). mark_of (has w t) + x) (ones_left d (suc t) (omega arith))
      ∙ sym (sum_step t)

  pub ones_from : (t : ℕ) → t ≤ ranks → ones (w / 2 ^ t) ≡ sum_from 0 n (bit t)
  ones_from t l = ones_left (ranks - t) t (omega arith)
