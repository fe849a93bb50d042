-- The list of stretches reads back: `list_read`, at the end of the file.
use Prim.Native.Nat.{ℕ, zero, suc, ◌+◌, ◌≤◌, ◌<◌}
use mathlib.Core.Path.{◌≡◌, refl, sym, ap, ◌∙◌}
use mathlib.Core.List.{List, [], ◌∷◌, ◌++◌}
use native.Mathlib.Omega.{arith}
use borrow.Author.Tests.{lt-ltb, le-ltb}
use lib.ListN.{length, drop, length-append, length-drop}
use lib.Seq.{drop-drop, drop-append_seam}
use Rattle.number.specs.Number.{number_bound, accepted, read_number, number_bytes}
use Rattle.number.proofs.Theorems as Number
use Rattle.recording.specs.Stretch.{Stretch, stretch_bytes, listed_from, listed, Apart}

-- a number, and the bytes after it
module _ (ls : List ℕ) (at v : ℕ) (rest : List ℕ) (small : v < number_bound) (there : drop at ls ≡ number_bytes v ++ rest)
  where
    read : read_number ls at ≡ accepted v (at + length (number_bytes v))
    read = Number.read_at ls at v rest small there

    then : drop (at + length (number_bytes v)) ls ≡ rest
    then = sym (drop-drop (length (number_bytes v)) at ls) ∙ ap (drop (length (number_bytes v))) there
        ∙ drop-append_seam (number_bytes v) rest

    inside : at < length ls
    inside =
        omega (arith, length-drop at ls, simp length-append at (ap length there), Number.length_number_bytes v)

step_listed : (k : ℕ) (ls : List ℕ) (at o p n q : ℕ) → at < length ls → read_number ls at ≡ accepted o p
    → read_number ls p ≡ accepted n q
    → listed_from (suc k) ls at ≡ record { offset = o; size = n } ∷ listed_from k ls q
unfolding listed_from
step_listed k ls at o p n q h a b = rw (lt-ltb at (length ls) h, a, b)

end_listed : (k : ℕ) (ls : List ℕ) (at : ℕ) → length ls ≤ at → listed_from k ls at ≡ []
unfolding listed_from
end_listed zero ls at h = refl
end_listed (suc k) ls at h = rw (le-ltb at (length ls) h)

listed_from_lem : (end : ℕ) → end < number_bound → (ss : List Stretch) (from : ℕ) → Apart from end ss
    → (k : ℕ) (ls : List ℕ) (at : ℕ)
    → length ls ≤ at + k
    → drop at ls ≡ stretch_bytes ss
    → listed_from k ls at ≡ ss
unfolding stretch_bytes Apart
listed_from_lem end small [] from a k ls at few e =
    end_listed k ls at (omega (arith, length-drop at ls, ap length e))
listed_from_lem end small (s ∷ ss) from a zero ls at few e =
    absurd (omega (arith, inside ls at s.offset _ (omega (arith, a.1.1.0)) e))
listed_from_lem end small (s ∷ ss) from a (suc k) ls at few e =
    step_listed k ls at s.offset p s.size q (inside ls at s.offset _ low e)
    (read ls at s.offset _ low e) (read ls p s.size _ few_bytes second)
    ∙ ap (λ l. s ∷ l)
    (listed_from_lem end small ss (suc (s.offset + s.size)) a.1.1.1 k ls q
    (omega (arith, Number.length_number_bytes s.offset, Number.length_number_bytes s.size))
    (then ls p s.size _ few_bytes second))
  where
    p : ℕ
    p = at + length (number_bytes s.offset)

    q : ℕ
    q = p + length (number_bytes s.size)

    low : s.offset < number_bound
    low = omega (arith, a.1.1.0)

    few_bytes : s.size < number_bound
    few_bytes = omega (arith, a.1.1.0)

    second : drop p ls ≡ number_bytes s.size ++ stretch_bytes ss
    second = then ls at s.offset _ low e

pub list_read : (end : ℕ) → end < number_bound → (ss : List Stretch) → Apart 0 end ss → listed (stretch_bytes ss) ≡ ss
list_read end small ss a =
    listed_from_lem end small ss 0 a (length (stretch_bytes ss)) (stretch_bytes ss) 0 (omega arith) refl
