-- What the crate shows beyond its contracts, over specs/ alone: which ranks are in a word, and which of them wins.
--
-- In order: `has`; `with`; `without`; `union`; words with the same ranks; the winner.
-- Callers lean on these laws, not on the definitions.
use Prim.Native.Nat.{ℕ, ◌+◌, ◌-◌, ◌/◌, ◌%◌, ◌^◌, ◌≤◌, ◌<◌}
use mathlib.Core.Path.{◌≡◌, refl, sym, ap, ◌∙◌}
use mathlib.Core.Logic.{⊎_elim}
use mathlib.Core.Bool.{Bool, true, false, ◌&&◌, ◌||◌}
use native.Mathlib.Nat.{zero-div, eq-zero-or-pos}
use native.Mathlib.Omega.{arith}
use lib.Dec.{ltb, eqb}
use lib.Bits.{or_lt}
use Rattle.number.proofs.Bits.{or_bit}
use Rattle.word.specs.Word.{ranks, no_winner, has, with, without, union, highest_below, winner}
use Rattle.word.proofs.Bit.{add_same, add_other, add_lt, sub_same, sub_other, bits_same}
use Rattle.word.proofs.Rank as Rank
use Rattle.word.proofs.Rank.{with_elim, without_elim, has_bit}
use Rattle.word.proofs.Highest as Highest

-- only ranks are in a word
pub has_lt : (w i : ℕ) → has w i ≡ true → i < ranks
has_lt = Rank.has_lt

pub empty : (i : ℕ) → has 0 i ≡ false
empty i = Rank.clear_has 0 i (rw zero-div)

-- a rank that is put in is in, and no other comes or goes
pub has_with_same : (w r : ℕ) → r < ranks → has (with w r) r ≡ true
has_with_same w r l =
    with_elim (λ (v : ℕ). has v r ≡ true) w r (λ kept. kept l) (λ _ c. Rank.set_has (w + 2 ^ r) r l (add_same w r c))

pub has_with_other : (w r i : ℕ) → (i ≡ r → ⊥) → has (with w r) i ≡ has w i
has_with_other w r i d =
    with_elim (λ (v : ℕ). has v i ≡ has w i) w r (λ _. refl)
    (λ _ c. Rank.same_has w i (w + 2 ^ r) (add_other w r i c d))

pub with_lt : (w r : ℕ) → w < 2 ^ ranks → with w r < 2 ^ ranks
with_lt w r h = with_elim (λ (v : ℕ). v < 2 ^ ranks) w r (λ _. h) (λ l c. add_lt ranks w r l h c)

-- what is no rank changes nothing
pub with_no_rank : (w r : ℕ) → ranks ≤ r → with w r ≡ w
with_no_rank w r h = with_elim (λ (v : ℕ). v ≡ w) w r (λ _. refl) (λ l _. absurd (omega arith))

-- a rank that is taken out is not in, and no other comes or goes
pub has_without_same : (w r : ℕ) → has (without w r) r ≡ false
has_without_same w r =
    without_elim (λ (v : ℕ). has v r ≡ false) w r (λ e. e) (λ _ s. Rank.clear_has (w - 2 ^ r) r (sub_same w r s))

pub has_without_other : (w r i : ℕ) → (i ≡ r → ⊥) → has (without w r) i ≡ has w i
has_without_other w r i d =
    without_elim (λ (v : ℕ). has v i ≡ has w i) w r (λ _. refl)
    (λ _ s. Rank.same_has w i (w - 2 ^ r) (sub_other w r i s d))

pub without_lt : (w r : ℕ) → w < 2 ^ ranks → without w r < 2 ^ ranks
without_lt w r h = without_elim (λ (v : ℕ). v < 2 ^ ranks) w r (λ _. h) (λ _ _. omega arith)

pub without_no_rank : (w r : ℕ) → ranks ≤ r → without w r ≡ w
without_no_rank w r h = without_elim (λ (v : ℕ). v ≡ w) w r (λ _. refl) (λ l _. absurd (omega arith))

-- a rank is in the union exactly if it is in one of the two words
pub has_union : (w v i : ℕ) → has (union w v) i ≡ has w i || has v i
unfolding has union
has_union w v i =
    ap (λ (b : Bool). ltb i ranks && b) (or_bit w v i)
    ∙ go (ltb i ranks) (eqb (w / 2 ^ i % 2) 1) (eqb (v / 2 ^ i % 2) 1)
  where
    go : (a b c : Bool) → a && (b || c) ≡ (a && b) || (a && c)
    go true b c = refl
    go false b c = refl

pub union_lt : (w v : ℕ) → w < 2 ^ ranks → v < 2 ^ ranks → union w v < 2 ^ ranks
unfolding union
union_lt w v = or_lt ranks w v

-- a word is the set of its ranks
pub same_ranks : (w v : ℕ) → w < 2 ^ ranks → v < 2 ^ ranks → ((i : ℕ) → has w i ≡ has v i) → w ≡ v
same_ranks w v hw hv e = bits_same ranks w v hw hv (λ i l. has_bit w v i l (e i))

pub none_has : (w : ℕ) → w < 2 ^ ranks → ((i : ℕ) → has w i ≡ false) → w ≡ 0
none_has w h n = same_ranks w 0 h (omega arith) (λ i. n i ∙ sym (empty i))

-- the winner of a word that is not empty is a rank in it, and no rank in it is higher
pub winner_has : (w : ℕ) → 0 < w → w < 2 ^ ranks → (winner w < ranks) × (has w (winner w) ≡ true)
winner_has w some h = let e = Highest.winner_has w some h in (has_lt w (winner w) e, e)

pub winner_highest : (w i : ℕ) → has w i ≡ true → i ≤ winner w
winner_highest w i e = (Highest.winner_found w i e).0

-- a word with some rank in it has its winner in it
pub winner_in : (w i : ℕ) → has w i ≡ true → has w (winner w) ≡ true
winner_in w i e = (Highest.winner_found w i e).1

-- the empty word, and no other, has no winner
pub winner_empty : winner 0 ≡ no_winner
unfolding winner highest_below has
winner_empty = refl

pub winner_none : (w : ℕ) → w < 2 ^ ranks → winner w ≡ no_winner → w ≡ 0
winner_none w h e = ⊎_elim (λ z. z) (λ p. absurd (omega (arith, (winner_has w p h).0))) (eq-zero-or-pos w)

-- a winner that is a rank is in the word; any other is `no_winner`
pub winner_rank : (w : ℕ) → winner w < ranks → has w (winner w) ≡ true
winner_rank w l = ⊎_elim (λ e. absurd (omega arith)) (λ e. e) (Highest.winner_cases w)

pub winner_le : (w : ℕ) → winner w ≤ no_winner
winner_le w = ⊎_elim (λ e. omega arith) (λ e. omega (arith, has_lt w (winner w) e)) (Highest.winner_cases w)
