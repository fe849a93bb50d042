-- The answers of a record beside those that are expected: how many at the front are right.
--
--   begin_with_lem, with_begin  what the test of four bytes says
--   answer_first, answer_later  the answers of a list of events, one by one
--   right_le .. first_right     `right_answers` is the first event that is wrong, or the number of events
use Prim.Native.Nat.{ℕ, zero, suc, ◌+◌, ◌*◌, ◌-◌, ◌%◌, ◌≤◌, ◌<◌, min}
use mathlib.Core.Path.{◌≡◌, refl, sym, ap, ap₂, ◌∙◌}
use mathlib.Core.Bool.{true, false, true≢false}
use mathlib.Core.Logic.{◌↔◌, ◌⊎◌, inl, inr, ◌≢◌}
use mathlib.Core.List.{List, [], ◌∷◌, ◌++◌, map, cons≢nil, head-eq_of_cons-eq, tail-eq_of_cons-eq}
use native.Mathlib.Omega.{arith}
use borrow.Author.Tests.{eqb-true, eq-eqb}
use lib.Dec.{eqb}
use lib.ListN.{length, take, drop, take-append-drop, length-take, length-drop}
use lib.Seq.{drop-drop, take-add, length-take-le, take-append-le, drop-append-le}
use Rattle.number.proofs.Cases.{by_test, by_lt, and_true}
use Rattle.scheduler.specs.Scheduler.{Seen}
use Rattle.run.specs.Run.{answer_bytes}
use Rattle.conformance.specs.Verdict.{four_bytes, begin_with, right_answers}
use Rattle.conformance.specs.Record.{answer_at, FirstWrong}

pub begin_with_lem : (bs rs : List ℕ) → begin_with bs rs ≡ true → take (length bs) rs ≡ bs
unfolding begin_with
begin_with_lem [] rs e = refl
begin_with_lem (b ∷ bs) [] e = absurd (true≢false (sym e))
begin_with_lem (b ∷ bs) (r ∷ rs) e =
    let h = and_true (eqb b r) (begin_with bs rs) e in
    ap₂ (λ (x : ℕ) (xs : List ℕ). x ∷ xs) (sym (eqb-true b r h.0)) (begin_with_lem bs rs h.1)

pub with_begin : (bs rs : List ℕ) → take (length bs) rs ≡ bs → begin_with bs rs ≡ true
unfolding begin_with
with_begin [] rs e = refl
with_begin (b ∷ bs) [] e = absurd (cons≢nil (sym e))
with_begin (b ∷ bs) (r ∷ rs) e =
    rw (eq-eqb b r (sym (head-eq_of_cons-eq e))) (with_begin bs rs (tail-eq_of_cons-eq e))

-- the answers of a list, one by one
answer_first : (x : Seen) (xs : List Seen) → answer_at (answer_bytes (x ∷ xs)) 0 ≡ four_bytes x
unfolding answer_bytes
answer_first x xs = refl

answer_rest : (x : Seen) (xs : List Seen) → drop 4 (answer_bytes (x ∷ xs)) ≡ answer_bytes xs
unfolding answer_bytes
answer_rest x xs = refl

answer_later : (bs : List ℕ) (j : ℕ) → answer_at bs (suc j) ≡ answer_at (drop 4 bs) j
answer_later bs j =
    let e : 4 * suc j ≡ 4 + 4 * j = omega arith in
    ap (take 4) (ap (λ (n : ℕ). drop n bs) e ∙ sym (drop-drop (4 * j) 4 bs))

-- an answer of a record that is right begins with its four bytes
first_right : (x : Seen) (xs : List Seen) (rs : List ℕ) → begin_with (four_bytes x) rs ≡ true
    → answer_at rs 0 ≡ answer_at (answer_bytes (x ∷ xs)) 0
unfolding answer_bytes
first_right x xs rs e = begin_with_lem (four_bytes x) rs e ∙ sym (answer_first x xs)

right_first : (x : Seen) (xs : List Seen) (rs : List ℕ) → answer_at rs 0 ≡ answer_at (answer_bytes (x ∷ xs)) 0
    → begin_with (four_bytes x) rs ≡ true
unfolding answer_bytes
right_first x xs rs e = with_begin (four_bytes x) rs (e ∙ answer_first x xs)

-- a record whose first answer is right, and one whose first is wrong
pub right_step : (x : Seen) (xs : List Seen) (rs : List ℕ) → begin_with (four_bytes x) rs ≡ true
    → right_answers (x ∷ xs) rs ≡ suc (right_answers xs (drop 4 rs))
unfolding right_answers
right_step x xs rs e = rw e refl

pub wrong_step : (x : Seen) (xs : List Seen) (rs : List ℕ) → begin_with (four_bytes x) rs ≡ false
    → right_answers (x ∷ xs) rs ≡ 0
unfolding right_answers
wrong_step x xs rs e = rw e refl

pub right_le : (xs : List Seen) (rs : List ℕ) → right_answers xs rs ≤ length xs
unfolding right_answers
right_le [] rs = omega arith
right_le (x ∷ xs) rs =
    by_test (begin_with (four_bytes x) rs)
    (λ e. omega (arith, right_step x xs rs e, right_le xs (drop 4 rs)))
    (λ e. omega (arith, wrong_step x xs rs e))

-- the answer after the first is the first of what follows
rest_same : (x : Seen) (xs : List Seen) (rs : List ℕ) (j : ℕ)
    → answer_at (drop 4 rs) j ≡ answer_at (answer_bytes xs) j ↔ answer_at rs (suc j) ≡ answer_at (answer_bytes (x ∷ xs)) (suc j)
rest_same x xs rs j = (λ e. answer_later rs j ∙ e ∙ sym there, λ e. sym (answer_later rs j) ∙ e ∙ there)
  where
    there : answer_at (answer_bytes (x ∷ xs)) (suc j) ≡ answer_at (answer_bytes xs) j
    there = answer_later (answer_bytes (x ∷ xs)) j ∙ ap (λ (bs : List ℕ). answer_at bs j) (answer_rest x xs)

pub right_before : (xs : List Seen) (rs : List ℕ) (j : ℕ) → j < right_answers xs rs
    → answer_at rs j ≡ answer_at (answer_bytes xs) j
unfolding right_answers
right_before [] rs j h = absurd (omega arith)
right_before (x ∷ xs) rs zero h =
    by_test (begin_with (four_bytes x) rs)
    (λ e. first_right x xs rs e)
    (λ e. absurd (omega (arith, wrong_step x xs rs e)))
right_before (x ∷ xs) rs (suc j) h =
    by_test (begin_with (four_bytes x) rs)
    (λ e. (rest_same x xs rs j).0 (right_before xs (drop 4 rs) j (omega (arith, right_step x xs rs e))))
    (λ e. absurd (omega (arith, wrong_step x xs rs e)))

pub wrong_there : (xs : List Seen) (rs : List ℕ) → right_answers xs rs < length xs
    → answer_at rs (right_answers xs rs) ≢ answer_at (answer_bytes xs) (right_answers xs rs)
wrong_there [] rs h e = omega arith
wrong_there (x ∷ xs) rs h e =
    by_test (begin_with (four_bytes x) rs)
    (λ t. wrong_there xs (drop 4 rs) (omega (arith, right_step x xs rs t))
    ((rest_same x xs rs (right_answers xs (drop 4 rs))).1 (rw (right_step x xs rs t) at e)))
    (λ t. true≢false (sym (right_first x xs rs (rw (wrong_step x xs rs t) at e)) ∙ t))

-- so it is the only first one that is wrong
pub first_wrong : (xs : List Seen) (rs : List ℕ) (i : ℕ) → FirstWrong (answer_bytes xs) rs (length xs) i
    → right_answers xs rs ≡ i
first_wrong xs rs i w =
    by_lt i (right_answers xs rs)
    (λ h. absurd (w.wrong (right_before xs rs i h)))
    (λ h. by_lt (right_answers xs rs) i
    (λ l. absurd (wrong_there xs rs (omega (arith, w.of_an_event)) (w.right_before (right_answers xs rs) l)))
    (λ l. omega arith))

pub wrong_first : (xs : List Seen) (rs : List ℕ) → right_answers xs rs < length xs
    → FirstWrong (answer_bytes xs) rs (length xs) (right_answers xs rs)
wrong_first xs rs h = record { of_an_event = h; right_before = right_before xs rs; wrong = wrong_there xs rs h }

-- all of them are right: the record begins with them
pub all_right : (xs : List Seen) (rs : List ℕ) → right_answers xs rs ≡ length xs → take (4 * length xs) rs ≡ answer_bytes xs
unfolding answer_bytes
all_right [] rs e = refl
all_right (x ∷ xs) rs e =
    by_test (begin_with (four_bytes x) rs)
    (λ t. let n : 4 * suc (length xs) ≡ 4 + 4 * length xs = omega arith in
    ap (λ (k : ℕ). take k rs) n
    ∙ take-add 4 (4 * length xs) rs
    ∙ ap₂ (λ (ss bs : List ℕ). ss ++ bs) (begin_with_lem (four_bytes x) rs t)
    (all_right xs (drop 4 rs) (omega (arith, right_step x xs rs t))))
    (λ t. absurd (omega (arith, wrong_step x xs rs t)))

pub right_all : (xs : List Seen) → right_answers xs (answer_bytes xs) ≡ length xs
unfolding right_answers answer_bytes
right_all [] = refl
right_all (x ∷ xs) = rw (with_begin (four_bytes x) (answer_bytes (x ∷ xs)) refl) (ap suc (right_all xs))

-- how much of an answer is there
length_answer_at : (bs : List ℕ) (j : ℕ) → length (answer_at bs j) ≡ min 4 (length bs - 4 * j)
length_answer_at bs j = length-take 4 (drop (4 * j) bs) ∙ ap (min 4) (length-drop (4 * j) bs)

-- an answer that is right is all there
pub right_there : (bs rs : List ℕ) (j : ℕ) → 4 * j + 4 ≤ length bs → answer_at rs j ≡ answer_at bs j → 4 * j + 4 ≤ length rs
right_there bs rs j room e = omega (arith, ap length e, length_answer_at bs j, length_answer_at rs j)

-- what the numbers of losses are makes no difference
pub answers_alike : (xs ys : List Seen) → map four_bytes xs ≡ map four_bytes ys → answer_bytes xs ≡ answer_bytes ys
unfolding answer_bytes
answers_alike [] [] e = refl
answers_alike [] (y ∷ ys) e = absurd (cons≢nil (sym e))
answers_alike (x ∷ xs) [] e = absurd (cons≢nil e)
answers_alike (x ∷ xs) (y ∷ ys) e =
    ap₂ (λ (ss bs : List ℕ). ss ++ bs) (head-eq_of_cons-eq e) (answers_alike xs ys (tail-eq_of_cons-eq e))

-- an answer that is all in the front of some bytes is no other in the whole
pub front_answer : (ss zs : List ℕ) (j : ℕ) → 4 * j + 4 ≤ length ss → answer_at (ss ++ zs) j ≡ answer_at ss j
front_answer ss zs j room =
    ap (take 4) (drop-append-le (4 * j) ss zs (omega arith))
    ∙ take-append-le 4 (drop (4 * j) ss) zs (omega (arith, length-drop (4 * j) ss))

-- the first k answers alone: the one that follows them is missing
pub taken_wrong : (bs : List ℕ) (n k : ℕ) → length bs ≡ 4 * n → k < n → FirstWrong bs (take (4 * k) bs) n k
taken_wrong bs n k size less =
    let long : length (take (4 * k) bs) ≡ 4 * k = length-take-le (4 * k) bs (omega arith) in
    record {
      of_an_event = less;
      right_before =
          λ j h. sym (front_answer (take (4 * k) bs) (drop (4 * k) bs) j (omega arith))
          ∙ ap (λ (l : List ℕ). answer_at l j) (take-append-drop (4 * k) bs);
      wrong = λ e. omega (arith, right_there bs (take (4 * k) bs) k (omega arith) e);
    }

-- the first wrong answer of whole ones is missing, or there and another
pub differs_missing : (bs rs : List ℕ) (n i : ℕ) → length bs ≡ 4 * n → FirstWrong bs rs n i → length rs % 4 ≡ 0
    → (length rs ≡ 4 * i) ⊎ ((4 * i + 4 ≤ length rs) × (answer_at rs i ≢ answer_at bs i))
differs_missing bs rs n i size w whole =
    by_lt (length rs) (4 * i + 4) (λ h. inl (ends i w h)) (λ h. inr (h, w.wrong))
  where
    ends : (i : ℕ) → FirstWrong bs rs n i → length rs < 4 * i + 4 → length rs ≡ 4 * i
    ends zero w h = omega arith
    ends (suc j) w h =
        omega (arith, w.of_an_event, right_there bs rs j (omega (arith, w.of_an_event)) (w.right_before j (omega arith)))
