-- Bytes laid over a slice: piece by piece, and by a callee that is lent the slice from a place on.
use Prim.Native.Nat.{ℕ, suc, ◌+◌, ◌-◌, ◌≤◌}
use mathlib.Core.Path.{◌≡◌, ap, ◌∙◌}
use mathlib.Core.List.{List, [], ◌∷◌, ◌++◌, append_assoc, append-nil}
use native.Mathlib.Omega.{arith}
use native.Mathlib.Nat.{zero-add, add_assoc}
use native.Mathlib.Numerals.{one-add}
use borrow.Rule.Slice.PartMut.{put_mid}
use lib.ListN.{length, take, drop, set, length-append, length-take, length-drop, drop_of_length-le}
use lib.Seq.{length-take-le, take_all, take_at, drop_at, drop-drop}
use Rattle.number.specs.Output.{written, laid}
use Rattle.number.proofs.Theorems.{written_fits}

pub length_laid : (at : ℕ) (bs d : List ℕ) → at + length bs ≤ length d → length (laid at bs d) ≡ length d
unfolding laid
length_laid at bs d h = simp (length-append, length-take, length-drop) (omega arith)

-- a piece laid after another is the two laid together
pub laid_laid : (at : ℕ) (bs cs d : List ℕ) → at + length bs + length cs ≤ length d
    → laid (at + length bs) cs (laid at bs d) ≡ laid at (bs ++ cs) d
unfolding laid
laid_laid at bs cs d h =
    rw (
      ← append_assoc (take at d) bs (drop (at + length bs) d),
      take_at front (drop (at + length bs) d) (at + length bs) long,
    )
    (ap (λ (l : List ℕ). front ++ (cs ++ l)) behind
    ∙ simp (append_assoc, length-append, ← add_assoc))
  where
    front : List ℕ
    front = take at d ++ bs

    long : length front ≡ at + length bs
    long = length-append (take at d) bs ∙ ap (λ (n : ℕ). n + length bs) (length-take-le at d (omega arith))

    behind : drop (at + length bs + length cs) (front ++ drop (at + length bs) d) ≡ drop (at + length bs + length cs) d
    behind =
        rw (
          ← drop-drop (length cs) (at + length bs) (front ++ drop (at + length bs) d),
          drop_at front (drop (at + length bs) d) (at + length bs) long,
        ) (drop-drop (length cs) (at + length bs) d)

-- a slice lent whole
pub laid_zero : (bs d : List ℕ) → length bs ≤ length d → written bs d ≡ laid 0 bs d
unfolding laid
laid_zero bs d h = rw (written_fits bs d h, zero-add)

-- a slice lent from a place on, to a writer that has room
pub laid_part : (at : ℕ) (bs d : List ℕ) → at + length bs ≤ length d
    → put_mid at (length d - at) d (written bs (take (length d - at) (drop at d))) ≡ laid at bs d
unfolding laid
laid_part at bs d h =
    rw (
      take_all (length d - at) (drop at d) (simp length-drop (omega arith)),
      written_fits bs (drop at d) (simp length-drop (omega arith)),
      drop-drop (length bs) at d,
    )
    (ap (λ (l : List ℕ). take at d ++ l) (simp (append_assoc, none_left, append-nil)))
  where
    none_left : drop (length d - at) (drop at d) ≡ []
    none_left = drop_of_length-le (drop at d) {i = length d - at} (simp length-drop (omega arith))

-- the first byte stored, and the rest laid after it
pub laid_first : (b : ℕ) (bs d : List ℕ) → suc (length bs) ≤ length d → laid 1 bs (set d 0 b) ≡ written (b ∷ bs) d
unfolding laid
laid_first b bs [] h = absurd (omega arith)
laid_first b bs (x ∷ xs) h = rw (written_fits (b ∷ bs) (x ∷ xs) h, one-add)
