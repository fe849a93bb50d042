-- The match marks of a group as one number: how the code sums it up, and how it finds the marks that are set.
--
-- In order: the zeros below a number's lowest set digit; the first mark set (`First`), found by them; the loop, at
-- which matches are left to take (`Left`); the sum. A mark is a byte, so that the zeros below the first mark set are
-- 8 for each mark before it.
use Rattle.std.proofs.Common.{◌≡◌, ℕ, zero, suc, ◌+◌, ◌-◌, ◌*◌, ◌/◌, ◌%◌, ◌^◌, ◌<◌, ◌≤◌, Bool, true, false, cond, ◌≢◌, List, [], ◌∷◌, length, get_or, take, drop, sym, refl, ap, ◌∙◌, ap₂, add-zero, add-suc, mul-one, arith, length-drop, drop_of_length-le, get_or-drop, drop-cons, drop-drop, shr-shr}
use mir.Val.{bool_byte}
use lib.ListN.{get_or-eq_default}
use lib.Seq.{take-nil}
use lib.Count.{count_trailing_zeros}
use lib.Bits.{shifted_half, shifted_even}
use Rattle.number.proofs.Cases.{by_lt}
use Rattle.machine.specs.Model.{no_rank}
use Rattle.cells.specs.Methods.{group, marks_word}
use Rattle.machine.specs.Cells.{Tally, match_at, requests_due}
use Rattle.machine.proofs.Change.Matches.{due_none, due_marked}
use Rattle.cells.proofs.Cells.{length_group}

-- j digits further up there are j zeros more
trailing_shifted : (k j n : ℕ) → count_trailing_zeros (k + j) (n * 2 ^ j) ≡ count_trailing_zeros k n + j
unfolding count_trailing_zeros
trailing_shifted k zero n = rw (mul-one n, add-zero k, add-zero (count_trailing_zeros k n))
trailing_shifted k (suc j) n =
    rw (
      add-suc k j,
      add-suc (count_trailing_zeros k n) j,
      shifted_even n j,
      shifted_half n j,
    ) (ap suc (trailing_shifted k j n))

trailing_odd : (k n : ℕ) → 0 < k → n % 2 ≡ 1 → count_trailing_zeros k n ≡ 0
unfolding count_trailing_zeros
trailing_odd zero n some odd = absurd (omega arith)
trailing_odd (suc k) n some odd = rw odd

-- marks whose number is 0 ask for nothing
pub due_unmarked : (w : ℕ) (ms : List Bool) (rs : List ℕ) (x : Tally) → marks_word ms ≡ 0 → requests_due w ms rs x ≡ x
unfolding requests_due marks_word
due_unmarked w [] rs x h = refl
due_unmarked w (true ∷ ms) rs x h = absurd (omega arith)
due_unmarked w (false ∷ ms) [] x h = refl
due_unmarked w (false ∷ ms) (r ∷ rs) x h = due_unmarked w ms rs x (omega arith)

-- the first mark of bs that is set is the i-th
record First (bs : List Bool) (i : ℕ) : Type 0 where
  within : i < length bs
  zeros : (k : ℕ) → 8 * length bs ≤ k → count_trailing_zeros k (marks_word bs) ≡ 8 * i
  rest : marks_word bs / 2 ^ (8 * i) / 256 ≡ marks_word (drop (suc i) bs)
  due : (w : ℕ) (rs : List ℕ) (x : Tally)
      → requests_due w bs rs x ≡ requests_due w (drop (suc i) bs) (drop (suc i) rs) (match_at w (get_or rs i no_rank) x)

first_now : (bs : List Bool) → First (true ∷ bs) 0
unfolding marks_word
first_now bs =
    record {
      within = omega arith;
      zeros = λ k h. trailing_odd k (1 + 256 * marks_word bs) (omega arith) (omega arith);
      rest = omega arith;
      due = λ w. due_marked w bs;
    }

first_later : (bs : List Bool) (i : ℕ) → First bs i → First (false ∷ bs) (suc i)
unfolding marks_word requests_due
first_later bs i f =
    record {
      within = omega (arith, f.within);
      zeros = λ k h.
          ap₂ count_trailing_zeros (eight k (omega arith)) (commuted (marks_word bs))
          ∙ trailing_shifted (k - 8) 8 (marks_word bs)
          ∙ ap (λ (n : ℕ). n + 8) (f.zeros (k - 8) (omega arith))
          ∙ omega arith;
      rest =
          ap (λ (n : ℕ). (0 + 256 * marks_word bs) / 2 ^ n / 256) (eightfold i)
          ∙ ap (λ (n : ℕ). n / 256) (sym (shr-shr (0 + 256 * marks_word bs) 8 (8 * i))
          ∙ ap (λ (n : ℕ). n / 2 ^ (8 * i)) (over (marks_word bs)))
          ∙ f.rest;
      due = later;
    }
  where
    eight : (k : ℕ) → 8 ≤ k → k ≡ k - 8 + 8
    eight k h = omega arith

    eightfold : (n : ℕ) → 8 * suc n ≡ 8 + 8 * n
    eightfold n = omega arith

    over : (n : ℕ) → (0 + 256 * n) / 256 ≡ n
    over n = omega arith

    commuted : (n : ℕ) → 0 + 256 * n ≡ n * 256
    commuted n = omega arith

    later : (w : ℕ) (rs : List ℕ) (x : Tally)
        → requests_due w (false ∷ bs) rs x
        ≡ requests_due w (drop (suc i) bs) (drop (suc (suc i)) rs) (match_at w (get_or rs (suc i) no_rank) x)
    later w [] x = sym (due_none w bs x) ∙ f.due w [] x
    later w (r ∷ rs) x = f.due w rs x

first : (bs : List Bool) → 0 < marks_word bs → (i : ℕ) × First bs i
unfolding marks_word
first [] some = absurd (omega arith)
first (true ∷ bs) some = (0, first_now bs)
first (false ∷ bs) some = let f = first bs (omega arith) in (suc f.0, first_later bs f.0 f.1)

past : (e i : ℕ) → e + i + 1 ≡ e + suc i
past e i = omega arith

-- at entry e the matches bs are left to take, up to entry u, as the number m: with what is due so far, x, they make y
pub record Left (w : ℕ) (rs : List ℕ) (u : ℕ) (y : Tally) (e m : ℕ) (x : Tally) (bs : List Bool) : Type 0 where
  pub few : length bs ≤ group
  pub until : e + length bs ≡ u
  pub word : m ≡ marks_word bs
  pub due : requests_due w bs (drop e rs) x ≡ y

module _ {w : ℕ} {rs : List ℕ} {u : ℕ} {y : Tally} {e m : ℕ} {x : Tally} {bs : List Bool} (l : Left w rs u y e m x bs)
    (some : m ≢ 0) where
  next : (i : ℕ) × First bs i
  next = first bs (omega (arith, l.word))

  zeros_are : count_trailing_zeros 64 m ≡ 8 * next.0
  zeros_are = ap (count_trailing_zeros 64) l.word ∙ next.1.zeros 64 (omega (arith, l.few))

  place_is : count_trailing_zeros 64 m / 8 ≡ next.0
  place_is = omega (arith, zeros_are)

  pub zeros_lt : count_trailing_zeros 64 m < 64
  zeros_lt = omega (arith, zeros_are, next.1.within, l.few)

  pub next_lt : e + count_trailing_zeros 64 m / 8 < u
  next_lt = omega (arith, place_is, next.1.within, l.until)

  -- the next match taken, of rank r
  pub left_step : {r : ℕ} → r ≡ get_or rs (e + count_trailing_zeros 64 m / 8) no_rank → {x' : Tally} → x' ≡ match_at w r x
      → (cs : List Bool) × Left w rs u y (e + count_trailing_zeros 64 m / 8 + 1) (m / 2 ^ count_trailing_zeros 64 m / 256) x' cs
  left_step rank is = (
    drop (suc next.0) bs,
    record {
      few = rw (length-drop (suc next.0) bs) (omega (arith, l.few));
      until = rw (length-drop (suc next.0) bs, place_is) (omega (arith, next.1.within, l.until));
      word = ap₂ (λ (n k : ℕ). n / 2 ^ k / 256) l.word zeros_are ∙ next.1.rest;
      due = rw (is, rank, place_is, past e next.0)
          (sym (rw (
            drop-drop (suc next.0) e rs,
            get_or-drop e rs next.0 no_rank,
          ) at (next.1.due w (drop e rs) x)) ∙ l.due);
    },
  )

-- at its first entry all of a group is left
pub left_start : (w : ℕ) (rs : List ℕ) (e : ℕ) (ms : List Bool) (x : Tally) → e + group ≤ length ms → {m : ℕ}
    → m ≡ marks_word (take group (drop e ms))
    → Left w rs (e + group) (requests_due w (take group (drop e ms)) (drop e rs) x) e m x (take group (drop e ms))
left_start w rs e ms x h is =
    let whole = length_group ms e h in
    record { few = omega (arith, whole); until = omega (arith, whole); word = is; due = refl }

-- the number as the code sums it up
module _ (ms : List Bool) where
  abbrev bit : ℕ → ℕ
  bit i = bool_byte (get_or ms i false)

  bit_is : (b : Bool) → cond b 1 0 ≡ bool_byte b
  bit_is true = refl
  bit_is false = refl

  module _ (e : ℕ) where
    word_step : (i k : ℕ)
        → marks_word (take (suc k) (drop (e + i) ms)) ≡ bit (e + i) + 256 * marks_word (take k (drop (e + suc i) ms))
    unfolding marks_word
    word_step i k =
        rw (add-suc e i)
        (by_lt (e + i) (length ms)
        (λ h. rw (drop-cons ms (e + i) false h, bit_is (get_or ms (e + i) false)))
        (λ h. rw (
          drop_of_length-le ms {i = e + i} h,
          drop_of_length-le ms {i = suc (e + i)} (omega arith),
          get_or-eq_default ms false h,
          take-nil (suc k),
          take-nil k,
        )))

    word_end : marks_word (take 0 (drop (e + group) ms)) ≡ 0
    unfolding marks_word
    word_end = refl

    pub word_sum : bit e + 256 * bit (e + 1) + 65536 * bit (e + 2) + 16777216 * bit (e + 3) + 4294967296 * bit (e + 4)
        + 1099511627776 * bit (e + 5) + 281474976710656 * bit (e + 6) + 72057594037927936 * bit (e + 7)
        ≡ marks_word (take group (drop e ms))
    word_sum =
        omega (
          arith,
          rw add-zero at (word_step 0 7),
          word_step 1 6,
          word_step 2 5,
          word_step 3 4,
          word_step 4 3,
          word_step 5 2,
          word_step 6 1,
          word_step 7 0,
          word_end,
        )
