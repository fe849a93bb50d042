-- The bytes of the first 64 misses, noted one by one: `noted_more`, `noted_first`.
use Prim.Native.Nat.{ℕ, suc, ◌+◌, ◌*◌, ◌-◌, ◌≤◌, ◌<◌, min}
use mathlib.Core.Path.{◌≡◌, refl, sym, ap, ◌∙◌}
use mathlib.Core.List.{List, [], ◌∷◌, ◌++◌}
use native.Mathlib.Omega.{arith}
use lib.ListN.{length, take, drop, length-take, take-append-drop}
use lib.Seq.{take-nil, take_at}
use borrow.Author.Tests.{lt-ltb, le-ltb}
use Rattle.number.specs.Output.{laid}
use Rattle.number.proofs.Cases.{by_lt}
use Rattle.number.proofs.Laying.{laid_laid, length_laid}
use Rattle.deadlines.specs.Miss.{Miss}
use Rattle.deadlines.specs.Report.{most_listed, first_misses, miss_bytes, bytes_needed}
use Rattle.deadlines.proofs.Theorems.{bytes_needed_lem}
use Rattle.misses.specs.Noted.{list_room, noted_one, noted}

pub bytes_length : (ms : List Miss) → length (miss_bytes ms) ≡ 3 * length ms
unfolding miss_bytes
bytes_length [] = refl
bytes_length (m ∷ ms) = omega (arith, bytes_length ms)

-- one miss behind the others
pub noted_more : (n : ℕ) (ms : List Miss) (m : Miss) (d : List ℕ)
    → noted n (ms ++ m ∷ []) d ≡ noted_one (n + length ms) m (noted n ms d)
unfolding noted
noted_more n [] m d = ap (λ (k : ℕ). noted_one k m d) (omega arith)
noted_more n (x ∷ ms) m d =
    noted_more (suc n) ms m (noted_one n x d)
    ∙ ap (λ (k : ℕ). noted_one k m (noted (suc n) ms (noted_one n x d))) (omega arith)

laid_none : (at : ℕ) (d : List ℕ) → laid at [] d ≡ d
unfolding laid
laid_none at d = ap (λ (k : ℕ). take at d ++ drop k d) zero_more ∙ take-append-drop at d
  where
    zero_more : at + 0 ≡ at
    zero_more = omega arith

-- no miss, and none for which there is a place
none_left : (n : ℕ) (d : List ℕ) → laid n (miss_bytes []) d ≡ d
unfolding miss_bytes
none_left n d = laid_none n d

module _ (n : ℕ) (m : Miss) (d : List ℕ) where
  pub one_laid : n < most_listed → noted_one n m d ≡ laid (3 * n) (miss_bytes (m ∷ [])) d
  unfolding noted_one
  one_laid few = rw (lt-ltb n most_listed few)

  pub one_left : most_listed ≤ n → noted_one n m d ≡ d
  unfolding noted_one
  one_left many = rw (le-ltb n most_listed many)

  module _ (long : length d ≡ list_room) where
    pub one_long : length (noted_one n m d) ≡ list_room
    one_long =
        by_lt n most_listed
        (λ few. ap length (one_laid few)
        ∙ length_laid (3 * n) (miss_bytes (m ∷ [])) d (omega (arith, bytes_length (m ∷ []))) ∙ long)
        (λ many. ap length (one_left many) ∙ long)

    module _ (ms : List Miss) where
      -- what is laid behind m, after it
      next_laid : n < most_listed
          → laid (3 * suc n) (miss_bytes (take (most_listed - suc n) ms)) (noted_one n m d)
          ≡ laid (3 * n) (miss_bytes (take (most_listed - n) (m ∷ ms))) d
      unfolding miss_bytes
      next_laid few =
          let rest = miss_bytes (take (most_listed - suc n) ms) in
          let size : length rest ≡ 3 * min (most_listed - suc n) (length ms)
          = bytes_length (take (most_listed - suc n) ms) ∙ ap (λ (k : ℕ). 3 * k) (length-take (most_listed - suc n) ms) in
          let behind : 3 * suc n ≡ 3 * n + length (miss_bytes (m ∷ [])) = omega arith in
          let more : most_listed - n ≡ suc (most_listed - suc n) = omega arith in
          ap (laid (3 * suc n) rest) (one_laid few)
          ∙ ap (λ (k : ℕ). laid k rest (laid (3 * n) (miss_bytes (m ∷ [])) d)) behind
          ∙ laid_laid (3 * n) (miss_bytes (m ∷ [])) rest d (omega arith)
          ∙ ap (λ (k : ℕ). laid (3 * n) (miss_bytes (take k (m ∷ ms))) d) (sym more)

      all_left : most_listed ≤ n
          → laid (3 * suc n) (miss_bytes (take (most_listed - suc n) ms)) (noted_one n m d)
          ≡ laid (3 * n) (miss_bytes (take (most_listed - n) (m ∷ ms))) d
      all_left many =
          let no_more : most_listed - suc n ≡ 0 = omega arith in
          let none : most_listed - n ≡ 0 = omega arith in
          ap (λ (k : ℕ). laid (3 * suc n) (miss_bytes (take k ms)) (noted_one n m d)) no_more
          ∙ none_left (3 * suc n) (noted_one n m d)
          ∙ one_left many
          ∙ sym (ap (λ (k : ℕ). laid (3 * n) (miss_bytes (take k (m ∷ ms))) d) none ∙ none_left (3 * n) d)

-- the misses ms after n others are laid behind them, as far as there is a place
noted_laid : (n : ℕ) (ms : List Miss) (d : List ℕ) → length d ≡ list_room
    → noted n ms d ≡ laid (3 * n) (miss_bytes (take (most_listed - n) ms)) d
unfolding noted
noted_laid n [] d long = sym (ap (λ (l : List Miss). laid (3 * n) (miss_bytes l) d) (take-nil (most_listed - n)) ∙ none_left (3 * n) d)
noted_laid n (m ∷ ms) d long =
    noted_laid (suc n) ms (noted_one n m d) (one_long n m d long)
    ∙ by_lt n most_listed (next_laid n m d long ms) (all_left n m d long ms)

-- what lies at the front after bytes are laid there
front : (n : ℕ) (bs d : List ℕ) → length bs ≡ n → take n (laid 0 bs d) ≡ bs
unfolding laid
front n bs d long = take_at bs (drop (0 + length bs) d) n long

-- "the list is the first 64 of them"
pub noted_first : (ms : List Miss) (d : List ℕ) → length d ≡ list_room
    → take (bytes_needed ms) (noted 0 ms d) ≡ miss_bytes (first_misses ms)
noted_first ms d long =
    ap (take (bytes_needed ms)) (noted_laid 0 ms d long) ∙ front (bytes_needed ms) (miss_bytes (first_misses ms)) d (bytes_needed_lem ms)
