-- Two shift registers joined are one: what drops out of the one comes into the other. A word is one, a row two words.
use Prim.Native.Nat.{ℕ, suc, ◌+◌, ◌<◌}
use mathlib.Core.Path.{◌≡◌, sym, ap, ◌∙◌}
use mathlib.Core.List.{List, [], ◌∷◌, ◌++◌, append_assoc}
use native.Mathlib.Omega.{arith}
use lib.ListN.{length, take, drop, get_or}
use lib.Seq.{take_all, take-suc, take-append-add, append_snoc}

-- a push: the last of the first register's n + 1 bytes comes into the second
pub pushed_join : (A B : List ℕ) (n m x d : ℕ) → length A ≡ suc n
    → (x ∷ take n A) ++ (get_or A n d ∷ take m B) ≡ x ∷ take (suc n + m) (A ++ B)
pushed_join A B n m x d long =
    ap (λ l. x ∷ l)
    (sym (append_snoc (take n A) (get_or A n d) (take m B))
    ∙ ap (λ l. l ++ take m B) (sym (take-suc A n d (omega arith)) ∙ take_all (suc n) A (omega arith))
    ∙ sym (take-append-add A B m)
    ∙ ap (λ k. take (k + m) (A ++ B)) long)

-- a pop: the first byte of the second register comes into the first
pub popped_join : (A B : List ℕ) (y d : ℕ) → 0 < length A → 0 < length B
    → (drop 1 A ++ (get_or B 0 d ∷ [])) ++ (drop 1 B ++ (y ∷ [])) ≡ drop 1 (A ++ B) ++ (y ∷ [])
popped_join [] B y d some others = absurd (omega arith)
popped_join (a ∷ A) [] y d some others = absurd (omega arith)
popped_join (a ∷ A) (b ∷ B) y d some others =
    append_assoc A (b ∷ []) (B ++ (y ∷ [])) ∙ sym (append_assoc A (b ∷ B) (y ∷ []))
