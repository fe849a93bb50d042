-- Which bytes decide a reading, group by group: no byte after them matters (`decided`), those before a malformed number's
-- place leave it open (`cut_before`), and a reading that breaks off could still have become a number (`completed`).
use Prim.Native.Nat.{ℕ, zero, suc, ◌+◌, ◌%◌, ◌≤◌, ◌<◌}
use mathlib.Core.Path.{◌≡◌, refl, ap, ◌∙◌}
use mathlib.Core.List.{List, [], ◌∷◌, ◌++◌}
use native.Mathlib.Omega.{arith}
use native.Mathlib.Numerals.{one-add}
use lib.ListN.{length, take, drop}
use lib.Seq.{drop-append-le}
use Rattle.number.specs.Refusal.{none, cut, malformed}
use Rattle.number.specs.Number.{NumberRead, refused, continued, fifth_group, groups, shifted, leading, read_number}
use Rattle.number.proofs.Front.{drop_take, agree_fewer, agree_from}
use Rattle.number.proofs.Groups.{fifth_small, fifth_large, groups_end, groups_step, continued_refused, continued_zero, continued_more, groups_elim}

-- what a group with its top bit set makes of a reading that is known
on_step : (k b : ℕ) (bs : List ℕ) (r s : NumberRead) → 128 ≤ b → groups k bs ≡ r → continued (b % 128) r ≡ s
    → groups (suc k) (b ∷ bs) ≡ s
on_step k b bs r s h e f = groups_step k b bs h ∙ ap (continued (b % 128)) e ∙ f

-- a list that begins as b ∷ bs does is b before one that begins as bs does
module _ (k b n : ℕ) (bs : List ℕ) {r : NumberRead}
    (on_cons : (cs : List ℕ) → take n cs ≡ take n bs → groups k (b ∷ cs) ≡ r) where
  begins : (cs : List ℕ) → take (suc n) cs ≡ take (suc n) (b ∷ bs) → groups k cs ≡ r
  begins [] e = let z : ◌≡◌ {A = ℕ} 0 1 = cc in absurd (omega arith)
  begins (c ∷ cs) e = let h : c ≡ b = cc in let t : take n cs ≡ take n bs = cc in rw h (on_cons cs t)

-- a number needs the bytes that it covers, and a malformed one those up to its place and the one there: lists that
-- agree on them read alike
record Decided (k : ℕ) (bs : List ℕ) (r : NumberRead) : Type 0 where
  zero_byte : r.refusal ≡ none → r.value ≡ 0 → r.place ≡ 1
  by_covered : r.refusal ≡ none → (cs : List ℕ) → take r.place cs ≡ take r.place bs → groups k cs ≡ r
  by_place : r.refusal ≡ malformed → (cs : List ℕ) → take (suc r.place) cs ≡ take (suc r.place) bs
      → groups k cs ≡ r

decided : (k : ℕ) (bs : List ℕ) → Decided k bs (groups k bs)
unfolding groups
decided =
    groups_elim Decided
    (λ k. record {
      zero_byte = λ e. absurd (omega arith);
      by_covered = λ e. absurd (omega arith);
      by_place = λ e. absurd (omega arith);
    })
    (λ b bs h. record {
      zero_byte = λ e. absurd (omega arith);
      by_covered = λ e. absurd (omega arith);
      by_place = λ e. begins 0 b 0 bs (λ cs t. fifth_large b h);
    })
    (λ b bs h. record {
      zero_byte = λ e z. refl;
      by_covered = λ e. begins 0 b 0 bs (λ cs t. fifth_small b h);
      by_place = λ e. absurd (omega arith);
    })
    (λ k b bs h. record {
      zero_byte = λ e z. refl;
      by_covered = λ e. begins (suc k) b 0 bs (λ cs t. groups_end (suc k) b cs (omega arith) h);
      by_place = λ e. absurd (omega arith);
    })
    (λ k b bs r h a z p. record {
      zero_byte = λ e v. absurd (omega arith);
      by_covered =
          λ e cs t. begins (suc k) b r.place bs
          (λ cs t. on_step k b cs r _ h (p.by_covered a cs t) (continued_more (b % 128) r a z)) cs (rw one-add at t);
      by_place = λ e. absurd (omega arith);
    })
    (λ k b bs r h a z p. record {
      zero_byte = λ e. absurd (omega arith);
      by_covered = λ e. absurd (omega arith);
      by_place =
          λ e. begins (suc k) b 1 bs (λ cs t. on_step k b cs r _ h (p.by_covered a cs (rw (p.zero_byte a z) t))
          (continued_zero (b % 128) r a z));
    })
    (λ k b bs r h n p. record {
      zero_byte = λ e. absurd (n e);
      by_covered = λ e. absurd (n e);
      by_place =
          λ e cs t. begins (suc k) b (suc r.place) bs
          (λ cs t. on_step k b cs r _ h (p.by_place e cs t) (continued_refused (b % 128) r n)) cs (rw one-add at t);
    })

-- the bytes before the place of a malformed number alone break off there
cut_before : (k : ℕ) (bs : List ℕ) → (groups k bs).refusal ≡ malformed
    → groups k (take (groups k bs).place bs) ≡ refused cut (groups k bs).place
unfolding groups
cut_before =
    groups_elim (λ k bs r. r.refusal ≡ malformed → groups k (take r.place bs) ≡ refused cut r.place)
    (λ k e. absurd (omega arith))
    (λ b bs h e. refl)
    (λ b bs h e. absurd (omega arith))
    (λ k b bs h e. absurd (omega arith))
    (λ k b bs r h a z p e. absurd (omega arith))
    (λ k b bs r h a z p e. broken k b [] 0 h refl)
    (λ k b bs r h n p e. rw one-add (broken k b (take r.place bs) r.place h (p e) ∙ rw one-add))
  where
    broken : (k b : ℕ) (bs : List ℕ) (p : ℕ) → 128 ≤ b → groups k bs ≡ refused cut p
        → groups (suc k) (b ∷ bs) ≡ refused cut (1 + p)
    broken k b bs p h e = on_step k b bs _ _ h e (continued_refused (b % 128) (refused cut p) (λ n. omega arith))

-- and there are some: no number is malformed at its first byte
malformed_later : (k : ℕ) (bs : List ℕ) → (groups k bs).refusal ≡ malformed → 1 ≤ k → 1 ≤ (groups k bs).place
unfolding groups
malformed_later =
    groups_elim (λ k bs r. r.refusal ≡ malformed → 1 ≤ k → 1 ≤ r.place)
    (λ k e. absurd (omega arith))
    (λ b bs h e some. absurd (omega arith))
    (λ b bs h e. absurd (omega arith))
    (λ k b bs h e. absurd (omega arith))
    (λ k b bs r h a z p e. absurd (omega arith))
    (λ k b bs r h a z p e some. omega arith)
    (λ k b bs r h n p e some. omega arith)

-- bs is read as a number other than 0
abbrev Positive : ℕ → List ℕ → Type 0
Positive k bs = ((groups k bs).refusal ≡ none) × ((groups k bs).value ≡ 0 → ⊥)

-- with 01 after it, a reading that broke off is a number other than 0
completed : (k : ℕ) (bs : List ℕ) → (groups k bs).refusal ≡ cut → Positive k (bs ++ 1 ∷ [])
unfolding groups fifth_group
completed =
    groups_elim (λ k bs r. r.refusal ≡ cut → Positive k (bs ++ 1 ∷ []))
    (λ k e. ended k)
    (λ b bs h e. absurd (omega arith))
    (λ b bs h e. absurd (omega arith))
    (λ k b bs h e. absurd (omega arith))
    (λ k b bs r h a z p e. absurd (omega arith))
    (λ k b bs r h a z p e. absurd (omega arith))
    (λ k b bs r h n p e. goes_on k b bs h (p e).0 (p e).1)
  where
    ended : (k : ℕ) → Positive k (1 ∷ [])
    ended zero = (refl, λ z. omega arith)
    ended (suc k) = (refl, λ z. omega arith)

    goes_on : (k b : ℕ) (bs : List ℕ) → 128 ≤ b → (groups k (bs ++ 1 ∷ [])).refusal ≡ none
        → ((groups k (bs ++ 1 ∷ [])).value ≡ 0 → ⊥) → Positive (suc k) (b ∷ (bs ++ 1 ∷ []))
    goes_on k b bs h a z =
        rw (groups_step k b (bs ++ 1 ∷ []) h, continued_more (b % 128) (groups k (bs ++ 1 ∷ [])) a z)
        (refl, λ e. omega arith)

-- the same at a place of a list
pub covered_at : (bs cs : List ℕ) (at : ℕ) → (read_number bs at).refusal ≡ none
    → take (read_number bs at).place cs ≡ take (read_number bs at).place bs → read_number cs at ≡ read_number bs at
unfolding read_number
covered_at bs cs at ok agree =
    let r = groups leading (drop at bs) in
    ap (shifted at)
    ((decided leading (drop at bs)).by_covered ok (drop at cs)
    (agree_from bs cs at r.place (agree_fewer bs cs (at + r.place) (shifted at r).place (omega (arith, ok)) agree)))

module _ (bs : List ℕ) (at p : ℕ) (e : read_number bs at ≡ refused malformed p) where
  -- the place counted from at
  abbrev q : ℕ
  q = (groups leading (drop at bs)).place

  bad : (groups leading (drop at bs)).refusal ≡ malformed
  unfolding read_number
  bad = ap (λ (r : NumberRead). r.refusal) e

  from : p ≡ at + q
  unfolding read_number
  from = omega (arith, bad, ap (λ (r : NumberRead). r.place) e)

  pub decided_at : (cs : List ℕ) → take (suc p) cs ≡ take (suc p) bs → read_number cs at ≡ refused malformed p
  unfolding read_number
  decided_at cs agree =
      ap (shifted at)
      ((decided leading (drop at bs)).by_place bad (drop at cs) (agree_from bs cs at (suc q) (rw long at agree)))
      ∙ e
    where
      long : suc p ≡ at + suc q
      long = omega (arith, from)

  pub later_at : at < p
  later_at = omega (arith, from, malformed_later leading (drop at bs) bad (omega arith))

  pub cut_before_at : read_number (take p bs) at ≡ refused cut p
  unfolding read_number
  cut_before_at = rw (from, drop_take at q bs, cut_before leading (drop at bs) bad)

pub completed_at : (bs : List ℕ) (at : ℕ) → at ≤ length bs → (read_number bs at).refusal ≡ cut
    → (read_number (bs ++ 1 ∷ []) at).refusal ≡ none
unfolding read_number
completed_at bs at h e = rw (drop-append-le at bs (1 ∷ []) h) (completed leading (drop at bs) e).0
