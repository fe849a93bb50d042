-- The reader's definition, group by group: what each kind of first byte makes of a reading, and how large and how long
-- a reading can be.
use Prim.Native.Nat.{ℕ, zero, suc, ◌+◌, ◌*◌, ◌-◌, ◌%◌, ◌≤◌, ◌<◌}
use mathlib.Core.Path.{◌≡◌}
use mathlib.Core.List.{List, [], ◌∷◌}
use native.Mathlib.Omega.{arith}
use native.Mathlib.Numerals.{add-one}
use borrow.Author.Tests.{lt-ltb, le-ltb, eq-eqb, ne_eqb}
use lib.ListN.{length, drop, get_or, drop_of_length-le}
use lib.Seq.{drop-cons}
use Rattle.number.specs.Refusal.{none}
use Rattle.number.specs.Number.{NumberRead, accepted, too_large, superfluous, broken_off, refused_later, continued, fifth_group, groups}
use Rattle.number.proofs.Cases.{by_lt, by_eq}

-- a group that must be the last
pub fifth_small : (b : ℕ) → b < 16 → fifth_group b ≡ accepted b 1
unfolding fifth_group
fifth_small b h = simp (lt-ltb b 16 h)

pub fifth_large : (b : ℕ) → 16 ≤ b → fifth_group b ≡ too_large
unfolding fifth_group
fifth_large b h = simp (le-ltb b 16 h)

-- a byte that ends the number before its fifth group
pub groups_end : (k b : ℕ) (bs : List ℕ) → 0 < k → b < 128 → groups k (b ∷ bs) ≡ accepted b 1
unfolding groups
groups_end zero b bs p h = absurd (omega arith)
groups_end (suc k) b bs p h = simp (lt-ltb b 128 h)

-- a byte with its top bit set
pub groups_step : (k b : ℕ) (bs : List ℕ) → 128 ≤ b → groups (suc k) (b ∷ bs) ≡ continued (b % 128) (groups k bs)
unfolding groups
groups_step k b bs h = simp (le-ltb b 128 h)

groups_more : (k b : ℕ) (bs : List ℕ) → 0 < k → 128 ≤ b → groups k (b ∷ bs) ≡ continued (b % 128) (groups (k - 1) bs)
groups_more zero b bs p h = absurd (omega arith)
groups_more (suc k) b bs p h = simp (pred_suc k) (groups_step k b bs h)
  where
    pred_suc : (j : ℕ) → suc j - 1 ≡ j
    pred_suc j = omega arith

-- the three answers of `continued`
pub continued_refused : (low : ℕ) (r : NumberRead) → (r.refusal ≡ none → ⊥) → continued low r ≡ refused_later r
unfolding continued
continued_refused low r h = simp (ne_eqb r.refusal none h)

pub continued_zero : (low : ℕ) (r : NumberRead) → r.refusal ≡ none → r.value ≡ 0 → continued low r ≡ superfluous
unfolding continued
continued_zero low r h z = simp (eq-eqb r.refusal none h, eq-eqb r.value 0 z)

pub continued_more : (low : ℕ) (r : NumberRead) → r.refusal ≡ none → (r.value ≡ 0 → ⊥)
    → continued low r ≡ accepted (low + 128 * r.value) (1 + r.place)
unfolding continued
continued_more low r h z = simp (eq-eqb r.refusal none h, ne_eqb r.value 0 z)

-- a property of readings: that of no bytes, a fifth group too large, a last group, and what a group before any reading
-- makes of it
module _ (P : ℕ → List ℕ → NumberRead → Type 0)
    (on_cut : (k : ℕ) → P k [] broken_off)
    (on_large : (b : ℕ) (bs : List ℕ) → 16 ≤ b → P 0 (b ∷ bs) too_large)
    (on_last : (b : ℕ) (bs : List ℕ) → b < 16 → P 0 (b ∷ bs) (accepted b 1))
    (on_end : (k b : ℕ) (bs : List ℕ) → b < 128 → P (suc k) (b ∷ bs) (accepted b 1))
    (on_more : (k b : ℕ) (bs : List ℕ) (r : NumberRead) → 128 ≤ b → r.refusal ≡ none → (r.value ≡ 0 → ⊥) → P k bs r
    → P (suc k) (b ∷ bs) (accepted (b % 128 + 128 * r.value) (1 + r.place)))
    (on_zero : (k b : ℕ) (bs : List ℕ) (r : NumberRead) → 128 ≤ b → r.refusal ≡ none → r.value ≡ 0 → P k bs r
    → P (suc k) (b ∷ bs) superfluous)
    (on_refused : (k b : ℕ) (bs : List ℕ) (r : NumberRead) → 128 ≤ b → (r.refusal ≡ none → ⊥) → P k bs r
    → P (suc k) (b ∷ bs) (refused_later r))
  where
    pub groups_elim : (k : ℕ) (bs : List ℕ) → P k bs (groups k bs)
    unfolding groups
    groups_elim k [] = on_cut k
    groups_elim zero (b ∷ bs) =
        by_lt b 16
        (λ h. rw (fifth_small b h) (on_last b bs h))
        (λ h. rw (fifth_large b h) (on_large b bs h))
    groups_elim (suc k) (b ∷ bs) =
        by_lt b 128
        (λ h. rw (lt-ltb b 128 h) (on_end k b bs h))
        (λ h. rw (le-ltb b 128 h) (goes_on h (groups_elim k bs)))
      where
        goes_on : 128 ≤ b → P k bs (groups k bs) → P (suc k) (b ∷ bs) (continued (b % 128) (groups k bs))
        goes_on h p =
            by_eq (groups k bs).refusal none
            (λ a. by_eq (groups k bs).value 0
            (λ z. rw (continued_zero (b % 128) (groups k bs) a z) (on_zero k b bs (groups k bs) h a z p))
            (λ z. rw (continued_more (b % 128) (groups k bs) a z) (on_more k b bs (groups k bs) h a z p)))
            (λ n. rw (continued_refused (b % 128) (groups k bs) n) (on_refused k b bs (groups k bs) h n p))

-- the same at a place of a list
module _ (l : List ℕ) (at k : ℕ) where
  pub groups_past : length l ≤ at → groups k (drop at l) ≡ broken_off
  unfolding groups
  groups_past h = rw (drop_of_length-le l h)

  pub groups_at_last : at < length l → k ≡ 0 → groups k (drop at l) ≡ fifth_group (get_or l at 0)
  unfolding groups
  groups_at_last h z = rw (z, drop-cons l at 0 h)

  pub groups_at_end : at < length l → 0 < k → get_or l at 0 < 128 → groups k (drop at l) ≡ accepted (get_or l at 0) 1
  groups_at_end h p small = rw (drop-cons l at 0 h) (groups_end k (get_or l at 0) (drop (suc at) l) p small)

  pub groups_at_more : at < length l → 0 < k → 128 ≤ get_or l at 0
      → groups k (drop at l) ≡ continued (get_or l at 0 % 128) (groups (k - 1) (drop (at + 1) l))
  groups_at_more h p large = rw (add-one, drop-cons l at 0 h) (groups_more k (get_or l at 0) (drop (suc at) l) p large)
