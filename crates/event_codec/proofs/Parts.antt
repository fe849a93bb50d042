-- What is written to a slice in two parts, the second by a callee that is lent the slice after the first.
use Prim.Native.Nat.{ℕ, suc, ◌+◌, ◌-◌, ◌≤◌}
use Rattle.std.specs.Prelude.{Result, Ok, Err}
use mathlib.Core.Path.{◌≡◌, refl, sym, ap, ◌∙◌}
use mathlib.Core.List.{List, ◌∷◌, ◌++◌}
use borrow.Rule.Slice.PartMut.{put_mid}
use native.Mathlib.Omega.{arith}
use native.Mathlib.Nat.{zero-add}
use lib.ListN.{length, take, drop, set, length-set, length-take, length-drop, length-append}
use Rattle.number.specs.Output.{Written, writing, written}
use Rattle.number.specs.Answer.{as_written}
use Rattle.number.specs.declared.Refused.{Refused}
use Rattle.number.proofs.Answers.{code_some, as_written_injective}
use Rattle.number.proofs.Theorems.{writing_fits, length_written}
use Rattle.number.proofs.Laying.{laid_zero, laid_part, laid_laid, laid_first}

-- a writer that has room for bs gives their length
pub fits : (bs : List ℕ) (n : ℕ) (r : Result ℕ Refused) → length bs ≤ n → as_written r ≡ writing bs n
    → r ≡ Ok (length bs)
fits bs n r room e = as_written_injective r (Ok (length bs)) (e ∙ sym (writing_fits bs n (length bs) refl room))

-- .. and does not refuse
pub taken : (bs : List ℕ) (n : ℕ) (e : Refused) → length bs ≤ n → as_written (Err e) ≡ writing bs n → ⊥
taken bs n e room w =
    code_some e.refusal (ap (λ (x : Written). x.refusal) (w ∙ sym (writing_fits bs n (length bs) refl room)))

-- the same in the part of d from a place on
pub part_fits : (at : ℕ) (cs d : List ℕ) (r : Result ℕ Refused) → at + length cs ≤ length d
    → as_written r ≡ writing cs (length (take (length d - at) (drop at d)))
    → r ≡ Ok (length cs)
part_fits at cs d r room e =
    fits cs (length (take (length d - at) (drop at d))) r (simp (length-take, length-drop) (omega arith)) e

pub part_length : (at : ℕ) (cs d : List ℕ) (r : Result ℕ Refused) (n : ℕ) → at + length cs ≤ length d
    → as_written r ≡ writing cs (length (take (length d - at) (drop at d)))
    → r ≡ Ok n → n ≡ length cs
part_length at cs d r n room e u =
    ap (λ (x : Written). x.place) (ap as_written (sym u ∙ part_fits at cs d r room e))

-- a callee that has room for cs in the part from a place on does not refuse
pub part_taken : (at : ℕ) (cs d : List ℕ) (e : Refused) → at + length cs ≤ length d
    → as_written (Err e) ≡ writing cs (length (take (length d - at) (drop at d)))
    → ⊥
part_taken at cs d e room w = taken cs (length (take (length d - at) (drop at d))) e (simp (length-take, length-drop) (omega arith)) w

-- a byte stored, and cs written after it
pub written_first : (b : ℕ) (cs d ys : List ℕ) → suc (length cs) ≤ length d
    → ys ≡ written cs (take (length (set d 0 b) - 1) (drop 1 (set d 0 b)))
    → put_mid 1 (length (set d 0 b) - 1) (set d 0 b) ys ≡ written (b ∷ cs) d
written_first b cs d ys room e =
    rw (e, laid_part 1 cs (set d 0 b) (simp length-set (omega arith)))
    (laid_first b cs d room)

-- bs written, which leaves m, and cs written to the part of m after them
pub written_parts : (at : ℕ) (bs cs d m ys : List ℕ) → at ≡ length bs → at + length cs ≤ length d
    → m ≡ written bs d
    → ys ≡ written cs (take (length m - at) (drop at m))
    → put_mid at (length m - at) m ys ≡ written (bs ++ cs) d
written_parts at bs cs d m ys here room first rest =
    rw (rest, laid_part at cs m long, first, laid_zero bs d (omega arith), here, ← zero-add (length bs))
    (laid_laid 0 bs cs d (omega arith)
    ∙ sym (laid_zero (bs ++ cs) d (simp length-append (omega arith))))
  where
    long : at + length cs ≤ length m
    long = omega (arith, ap length first ∙ length_written bs d)
