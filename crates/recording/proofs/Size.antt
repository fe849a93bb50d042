-- How many bytes the list of stretches of a recording takes at most: `near_fits`, at the end of the file.
--
-- A stretch and the kept byte after it take up two places or more. Where its offset has one byte a stretch costs two
-- bytes, further on three, and one more where it has 128 bytes or more.
use Prim.Native.Nat.{ℕ, suc, ◌+◌, ◌*◌, ◌-◌, ◌/◌, ◌≤◌, ◌<◌}
use mathlib.Core.List.{List, [], ◌∷◌}
use native.Mathlib.Omega.{arith}
use borrow.Author.Tests.{lt-ltb, le-ltb}
use lib.Dec.{lit≤}
use lib.ListN.{length, length-append}
use Rattle.number.specs.Number.{number_bytes, group_bytes}
use Rattle.number.proofs.Cases.{by_lt}
use Rattle.recording.specs.Stretch.{Stretch, stretch_bytes, Apart}

single_le : (v : ℕ) → v < 128 → length (number_bytes v) ≤ 1
unfolding number_bytes group_bytes
single_le v h = rw (lt-ltb v 128 h) (lit≤ tt)

double_le : (v : ℕ) → v < 16384 → length (number_bytes v) ≤ 2
unfolding number_bytes group_bytes
double_le v h =
    by_lt v 128
    (λ p. rw (lt-ltb v 128 p) (lit≤ tt))
    (λ p. rw (le-ltb v 128 p, lt-ltb (v / 128) 128 (omega arith)) (lit≤ tt))

-- the most that stretches from a place on take in a recording of n bytes: from a place whose number has two bytes, and
-- from one before
abbrev far : ℕ → ℕ → ℕ
far n at = 3 * ((n + 1 - at) / 2)

abbrev near : ℕ → ℕ → ℕ
near n at = 2 * ((129 - at) / 2) + far n 128

-- a stretch, where those after it take at most m bytes
list_le : (s : Stretch) (ss : List Stretch) (a b m : ℕ) → length (number_bytes s.offset) ≤ a
    → length (number_bytes s.size) ≤ b → length (stretch_bytes ss) ≤ m
    → length (stretch_bytes (s ∷ ss)) ≤ a + b + m
unfolding stretch_bytes
list_le s ss a b m p q r = simp length-append (omega arith)

module _ (n : ℕ) (short : n < 16384) where
  far_fits : (at : ℕ) (ss : List Stretch) → 128 ≤ at → Apart at n ss → length (stretch_bytes ss) ≤ far n at
  unfolding Apart stretch_bytes
  far_fits at [] h p = omega arith
  far_fits at (s ∷ ss) h p =
      let rest = far_fits (suc (s.offset + s.size)) ss (omega (arith, p.0)) p.1.1.1 in
      let offset = double_le s.offset (omega (arith, p.1.1.0)) in
      by_lt s.size 128
      (λ k. let c = list_le s ss 2 1 _ offset (single_le s.size k) rest in omega (arith, p.0, p.1.0, p.1.1.0))
      (λ k. let c = list_le s ss 2 2 _ offset (double_le s.size (omega (arith, p.1.1.0))) rest in
      omega (arith, p.0, p.1.0, p.1.1.0))

  pub near_fits : (at : ℕ) (ss : List Stretch) → at ≤ 128 → Apart at n ss → length (stretch_bytes ss) ≤ near n at
  unfolding Apart stretch_bytes
  near_fits at [] h p = omega arith
  near_fits at (s ∷ ss) h p =
      by_lt s.offset 128
      (λ lt. let offset = single_le s.offset lt in
      by_lt (s.offset + s.size) 128
      (λ k. let rest = near_fits (suc (s.offset + s.size)) ss (omega arith) p.1.1.1 in
      let c = list_le s ss 1 1 _ offset (single_le s.size (omega arith)) rest in
      omega (arith, p.0, p.1.0))
      (λ k. let rest = far_fits (suc (s.offset + s.size)) ss (omega arith) p.1.1.1 in
      by_lt s.size 128
      (λ few. let c = list_le s ss 1 1 _ offset (single_le s.size few) rest in
      omega (arith, p.0, p.1.0, p.1.1.0))
      (λ many. let c = list_le s ss 1 2 _ offset (double_le s.size (omega (arith, p.1.1.0))) rest in
      omega (arith, p.0, p.1.0, p.1.1.0))))
      (λ ge. let c = far_fits s.offset (s ∷ ss) ge (omega arith, p.1) in omega arith)
