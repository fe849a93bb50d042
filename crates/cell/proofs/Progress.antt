-- How far a loop is that goes through a list and puts f x in the place of each x: the elements before i are done, the
-- others are as they were. It starts with none done, each turn does one more, and at the end the list is `map f` of the
-- whole.
use Rattle.std.proofs.Common.{◌≡◌, ℕ, zero, suc, ◌+◌, ◌<◌, List, [], ◌∷◌, ◌++◌, map, length, get_or, set, take, drop, refl, ap, add-one, arith}

-- the list when the elements before i are done
abbrev pub done_below : {X : Type 0} → (X → X) → List X → ℕ → List X
done_below f xs i = map f (take i xs) ++ drop i xs

done_next_lem : {X : Type 0} (f : X → X) (xs : List X) (i : ℕ) (d : X) → i < length xs
    → set (done_below f xs i) i (f (get_or (done_below f xs i) i d)) ≡ done_below f xs (suc i)
done_next_lem f [] i d within = absurd (omega arith)
done_next_lem f (x ∷ xs) zero d within = refl
done_next_lem f (x ∷ xs) (suc i) d within = ap (λ ys. f x ∷ ys) (done_next_lem f xs i d (omega arith))

-- one more is done: of a list l that is done before i
pub done_next : {X : Type 0} (f : X → X) (xs l : List X) (i : ℕ) (d y : X) → i < length xs → l ≡ done_below f xs i
    → y ≡ f (get_or l i d) → set l i y ≡ done_below f xs (i + 1)
done_next f xs l i d y within so_far made =
    rw (made, so_far, add-one) (done_next_lem f xs i d within)
