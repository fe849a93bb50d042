-- Answers as numbers of four bytes, and how many of a record are right.
--
--   same_word, other_word  two answers are the same exactly if their numbers are
--   right-verdict          the verdict by how many answers are right
use Prim.Native.Nat.{ℕ, zero, suc, ◌+◌, ◌*◌, ◌≤◌, ◌<◌}
use mathlib.Core.Path.{◌≡◌, refl, sym, ap, ◌∙◌}
use mathlib.Core.List.{List, ◌++◌}
use mathlib.Core.Logic.{◌≢◌}
use native.Mathlib.Omega.{arith}
use native.Mathlib.Nat.{add-zero}
use lib.Dec.{lit<}
use lib.ListN.{length, drop, get_or, length-drop}
use lib.Seq.{length-take-le, get_or-take, get_or-drop, ext_get_or}
use Rattle.number.specs.Number.{Bytes}
use Rattle.number.proofs.Cases.{by_lt}
use Rattle.scheduler.specs.Scheduler.{Seen}
use Rattle.run.specs.Run.{answer_bytes}
use Rattle.conformance.specs.Verdict.{right_answers}
use Rattle.conformance.specs.Record.{answer_at, FirstWrong}
use Rattle.run.proofs.Answers.{length_answer_bytes}
use Rattle.conformance.proofs.Right.{right_le, wrong_there, first_wrong, front_answer, right_there}
use Rattle.verdict.specs.Answers.{RightAnswers, word_at}

-- a byte of an answer
byte_answer : (bs : List ℕ) (i k : ℕ) → k < 4 → get_or (answer_at bs i) k 0 ≡ get_or bs (4 * i + k) 0
byte_answer bs i k h = get_or-take 4 (drop (4 * i) bs) k 0 h ∙ get_or-drop (4 * i) bs k 0

first_byte_lem : (bs : List ℕ) (i : ℕ) → get_or (answer_at bs i) 0 0 ≡ get_or bs (4 * i) 0
first_byte_lem bs i = byte_answer bs i 0 (lit< tt) ∙ rw add-zero refl

-- the number of an answer's four bytes
abbrev word : List ℕ → ℕ
word l = get_or l 0 0 + 256 * get_or l 1 0 + 65536 * get_or l 2 0 + 16777216 * get_or l 3 0

word_answer : (bs : List ℕ) (i : ℕ) → word (answer_at bs i) ≡ word_at bs (4 * i)
word_answer bs i =
    omega (
      arith,
      first_byte_lem bs i,
      byte_answer bs i 1 (lit< tt),
      byte_answer bs i 2 (lit< tt),
      byte_answer bs i 3 (lit< tt),
    )

length_there : (bs : List ℕ) (i : ℕ) → 4 * i + 4 ≤ length bs → length (answer_at bs i) ≡ 4
length_there bs i room = length-take-le 4 (drop (4 * i) bs) (omega (arith, length-drop (4 * i) bs))

-- four bytes are the same if their numbers are
module _ (k l : List ℕ) (b : (j : ℕ) → j < 4 → get_or k j 0 < 256) (d : (j : ℕ) → j < 4 → get_or l j 0 < 256)
    (e : word k ≡ word l) where
  each_same : (j : ℕ) → j < 4 → get_or k j 0 ≡ get_or l j 0
  each_same zero h = omega (arith, b 0 (lit< tt), b 1 (lit< tt), b 2 (lit< tt), d 0 (lit< tt), d 1 (lit< tt), d 2 (lit< tt))
  each_same (suc zero) h =
      omega (arith, b 0 (lit< tt), b 1 (lit< tt), b 2 (lit< tt), d 0 (lit< tt), d 1 (lit< tt), d 2 (lit< tt))
  each_same (suc (suc zero)) h =
      omega (arith, b 0 (lit< tt), b 1 (lit< tt), b 2 (lit< tt), d 0 (lit< tt), d 1 (lit< tt), d 2 (lit< tt))
  each_same (suc (suc (suc zero))) h =
      omega (arith, b 0 (lit< tt), b 1 (lit< tt), b 2 (lit< tt), d 0 (lit< tt), d 1 (lit< tt), d 2 (lit< tt))
  each_same (suc (suc (suc (suc j)))) h = absurd (omega arith)

  four_same : length k ≡ 4 → length l ≡ 4 → k ≡ l
  four_same m n = ext_get_or 0 k l (m ∙ sym n) (λ j h. each_same j (omega arith))

answer_bytes_lem : (bs : List ℕ) (i : ℕ) → Bytes bs → (j : ℕ) → j < 4 → get_or (answer_at bs i) j 0 < 256
answer_bytes_lem bs i b j h = rw (byte_answer bs i j h) (b (4 * i + j))

module _ (bs rs : List ℕ) (i : ℕ) where
  pub same_word : Bytes bs → Bytes rs → 4 * i + 4 ≤ length bs → 4 * i + 4 ≤ length rs
      → word_at bs (4 * i) ≡ word_at rs (4 * i) → answer_at rs i ≡ answer_at bs i
  same_word b r room there e =
      four_same (answer_at rs i) (answer_at bs i) (answer_bytes_lem rs i r) (answer_bytes_lem bs i b)
      (word_answer rs i ∙ sym e ∙ sym (word_answer bs i)) (length_there rs i there) (length_there bs i room)

  pub other_word : word_at bs (4 * i) ≢ word_at rs (4 * i) → answer_at rs i ≢ answer_at bs i
  other_word n e = n (sym (word_answer bs i) ∙ ap word (sym e) ∙ word_answer rs i)

-- the verdict's count, by the answers of the run: bs begins with them
pub right_counted : (xs : List Seen) (zs rs : List ℕ) (n : ℕ) → length rs ≤ 4 * length xs
    → RightAnswers (answer_bytes xs ++ zs) rs n → right_answers xs rs ≡ n
right_counted xs zs rs n few a =
    by_lt n (length xs) (λ h. first_wrong xs rs n (wrong h)) all
  where
    size : length (answer_bytes xs) ≡ 4 * length xs
    size = length_answer_bytes xs

    in_front : (j : ℕ) → j < length xs → answer_at (answer_bytes xs ++ zs) j ≡ answer_at (answer_bytes xs) j
    in_front j h = front_answer (answer_bytes xs) zs j (omega (arith, size))

    wrong : n < length xs → FirstWrong (answer_bytes xs) rs (length xs) n
    wrong h =
        record {
          of_an_event = h;
          right_before = λ j l. a.right j l ∙ in_front j (omega arith);
          wrong = λ e. by_lt (4 * n) (length rs)
              (λ more. a.wrong more (e ∙ sym (in_front n h)))
              (λ less. omega (arith, size, right_there (answer_bytes xs) rs n (omega (arith, size)) e));
        }

    all : length xs ≤ n → right_answers xs rs ≡ n
    all h =
        by_lt (right_answers xs rs) (length xs)
        (λ l. absurd (wrong_there xs rs l
        (a.right (right_answers xs rs) (omega arith) ∙ in_front (right_answers xs rs) l)))
        (λ l. omega (arith, right_le xs rs, a.there))
