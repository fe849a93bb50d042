-- An output written piece by piece: what stands in it, and what is left to write.
use Prim.Native.Nat.{ℕ, ◌+◌, ◌≤◌, ◌<◌}
use mathlib.Core.Path.{◌≡◌, refl, sym, ap, ◌∙◌}
use mathlib.Core.List.{List, [], ◌∷◌, ◌++◌, append_assoc, append-nil}
use native.Mathlib.Omega.{arith}
use native.Mathlib.Nat.{zero-add, add-zero}
use native.Mathlib.Numerals.{add-one}
use lib.ListN.{length, set, length-append, take-append-drop}
use lib.Seq.{set_split}
use Rattle.number.specs.Output.{written, laid}
use Rattle.number.proofs.Laying.{length_laid, laid_zero, laid_laid}

-- out is d with `done` over its start, and `rest` is what is left of the whole
pub record Progress (whole d : List ℕ) (n : ℕ) (out rest : List ℕ) : Type 0 where
  pub done : List ℕ
  pub long : length done ≡ n
  pub output : out ≡ laid 0 done d
  pub split : done ++ rest ≡ whole
  pub room : length whole ≤ length d

pub progress_start : (whole d : List ℕ) → length whole ≤ length d → Progress whole d 0 d whole
unfolding laid
progress_start whole d h = record { done = []; long = refl; output = refl; split = refl; room = h }

module _ {whole d : List ℕ} {n : ℕ} {out : List ℕ} where
  -- a piece that is laid behind what stands there
  pub progress_more : (xs rest : List ℕ) → Progress whole d n out (xs ++ rest)
      → Progress whole d (n + length xs) (laid n xs out) rest
  progress_more xs rest w =
      record {
        done = w.done ++ xs;
        long = length-append w.done xs ∙ ap (λ (k : ℕ). k + length xs) w.long;
        output = rw (← w.long, w.output) (rw zero-add at (laid_laid 0 w.done xs d fits));
        split = append_assoc w.done xs rest ∙ w.split;
        room = w.room;
      }
    where
      fits : 0 + length w.done + length xs ≤ length d
      fits = omega (arith, w.room, simp length-append at (ap length w.split))

  -- the output is as long as it was
  pub progress_length : {rest : List ℕ} → Progress whole d n out rest → length out ≡ length d
  progress_length w =
      ap length w.output
      ∙ length_laid 0 w.done d (omega (arith, w.room, simp length-append at (ap length w.split)))

  -- what is left fits behind what stands there
  pub progress_room : (xs rest : List ℕ) → Progress whole d n out (xs ++ rest) → n + length xs ≤ length out
  progress_room xs rest w =
      omega (arith, w.room, simp length-append at (ap length w.split), progress_length w)

  pub progress_end : Progress whole d n out [] → out ≡ written whole d
  progress_end w =
      w.output ∙ ap (λ (l : List ℕ). laid 0 l d) (sym (append-nil w.done) ∙ w.split)
      ∙ sym (laid_zero whole d w.room)

-- one byte stored is a piece of one byte
pub laid_byte : (n b : ℕ) (d : List ℕ) → n < length d → set d n b ≡ laid n (b ∷ []) d
unfolding laid
laid_byte n b d h = rw add-one (set_split d n b h)

pub laid_nothing : (n : ℕ) (d : List ℕ) → laid n [] d ≡ d
unfolding laid
laid_nothing n d = rw add-zero (take-append-drop n d)
