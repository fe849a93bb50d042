-- What the bytes of a row show: a list from the top down, and past its end nothing but `no_byte`.
--
--   Shows ys xs  the bytes ys are xs, and `no_byte` from there on
--
-- and what a push and a pop make of it.
use Prim.Native.Nat.{ℕ, zero, suc, ◌≤◌, ◌<◌}
use mathlib.Core.Path.{◌≡◌, refl, sym, ap, ◌∙◌}
use mathlib.Core.List.{List, [], ◌∷◌, ◌++◌}
use native.Mathlib.Omega.{arith}
use lib.ListN.{length, get_or, take, drop, replicate, length-take, get_or-eq_default}
use lib.Seq.{get_or-take}
use Rattle.number.proofs.Cases.{by_lt}
use Rattle.stack.specs.declared.Row.{Row}
use Rattle.stack.specs.Stack.{no_byte, empty_row, top_row, second_row, push_row, pop_row, row_bytes}
use Rattle.stack.proofs.Theorems.{row_empty, row_top, row_second, row_cons, row_pushed, row_popped}

pub record Shows (ys xs : List ℕ) : Type 0 where
  pub at : (i : ℕ) → get_or ys i no_byte ≡ get_or xs i no_byte

-- what is below the first
below : {x y : ℕ} {ys xs : List ℕ} → Shows (y ∷ ys) (x ∷ xs) → Shows ys xs
below h = record { at = λ i. h.at (suc i) }

-- one more on top
on_top : {x y : ℕ} {ys xs : List ℕ} → y ≡ x → Shows ys xs → Shows (y ∷ ys) (x ∷ xs)
on_top {x} {y} {ys} {xs} e h = record { at = go }
  where
    go : (i : ℕ) → get_or (y ∷ ys) i no_byte ≡ get_or (x ∷ xs) i no_byte
    go zero = e
    go (suc i) = h.at i

-- what is not shown may be cut off
shows_cut : (k : ℕ) (ys xs : List ℕ) → length xs ≤ k → Shows ys xs → Shows (take k ys) xs
shows_cut k ys xs few h =
    record {
      at = λ i. by_lt i k
          (λ l. get_or-take k ys i no_byte l ∙ h.at i)
          (λ l. get_or-eq_default (take k ys) no_byte {n = i} (rw (length-take k ys) (omega arith))
          ∙ sym (get_or-eq_default xs no_byte {n = i} (omega arith)));
    }

-- `no_byte` in at the end
filled : (ys : List ℕ) (i : ℕ) → get_or (ys ++ (no_byte ∷ [])) i no_byte ≡ get_or ys i no_byte
filled [] zero = refl
filled [] (suc i) = refl
filled (y ∷ ys) zero = refl
filled (y ∷ ys) (suc i) = filled ys i

shows_filled : {ys xs : List ℕ} → Shows ys xs → Shows (ys ++ (no_byte ∷ [])) xs
shows_filled {ys} h = record { at = λ i. filled ys i ∙ h.at i }

-- a list of one value has it everywhere, past its end too
pub same_everywhere {ℓ} : {A : Type ℓ} (n : ℕ) (a : A) (i : ℕ) → get_or (replicate n a) i a ≡ a
same_everywhere zero a i = refl
same_everywhere (suc n) a zero = refl
same_everywhere (suc n) a (suc i) = same_everywhere n a i

-- empty it shows nothing
pub row_empty_shows : Shows (row_bytes empty_row) []
row_empty_shows = record { at = λ i. ap (λ (ys : List ℕ). get_or ys i no_byte) row_empty ∙ same_everywhere 16 no_byte i }

pub row_shows_pushed : (r : Row) (x : ℕ) (xs : List ℕ) → x < 256 → length xs ≤ 15 → Shows (row_bytes r) xs
    → Shows (row_bytes (push_row r x)) (x ∷ xs)
row_shows_pushed r x xs byte few h = rw (row_pushed r x byte) (on_top refl (shows_cut 15 (row_bytes r) xs few h))

pub row_shows_popped : (r : Row) (x : ℕ) (xs : List ℕ) → Shows (row_bytes r) (x ∷ xs) → Shows (row_bytes (pop_row r)) xs
row_shows_popped r x xs h =
    rw (row_popped r) (shows_filled {ys = drop 1 (row_bytes r)} (below {x = x} {y = top_row r} (rw (sym (row_cons r)) h)))

pub row_shows_top : (r : Row) (xs : List ℕ) → Shows (row_bytes r) xs → top_row r ≡ get_or xs 0 no_byte
row_shows_top r xs h = row_top r ∙ h.at 0

pub row_shows_second : (r : Row) (x : ℕ) (xs : List ℕ) → Shows (row_bytes r) (x ∷ xs) → second_row r ≡ get_or xs 0 no_byte
row_shows_second r x xs h = row_second r ∙ h.at 1
