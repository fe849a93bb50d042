-- Both round trips, group by group: what is written reads back, and what is read was written so.
use Prim.Native.Nat.{ℕ, zero, suc, ◌+◌, ◌*◌, ◌/◌, ◌%◌, ◌≤◌, ◌<◌}
use mathlib.Core.Path.{◌≡◌, refl, ap, ◌∙◌}
use mathlib.Core.List.{List, ◌∷◌, ◌++◌}
use native.Mathlib.Omega.{arith}
use native.Mathlib.Numerals.{one-add}
use borrow.Author.Tests.{lt-ltb, le-ltb}
use lib.ListN.{length, drop}
use Rattle.number.specs.Refusal.{none}
use Rattle.number.specs.Number.{NumberRead, Bytes, accepted, groups, group_bytes}
use Rattle.number.proofs.Cases.{by_lt}
use Rattle.number.proofs.Size.{room}
use Rattle.number.proofs.Groups.{fifth_small, groups_elim, continued_more}

-- the bytes of a number read as that number, whatever stands after them
pub groups_written : (k v : ℕ) (rest : List ℕ) → v < room k
    → groups k (group_bytes k v ++ rest) ≡ accepted v (length (group_bytes k v))
unfolding groups group_bytes room
groups_written zero v rest h = fifth_small v h
groups_written (suc k) v rest h =
    by_lt v 128
    (λ p. simp (lt-ltb v 128 p))
    (λ p. simp (
      le-ltb v 128 p,
      le-ltb (128 + v % 128) 128 (omega arith),
      low,
      groups_written k (v / 128) rest (omega arith),
    )
    (continued_more (v % 128) (accepted (v / 128) (length (group_bytes k (v / 128)))) refl (omega arith)
    ∙ same))
  where
    low : (128 + v % 128) % 128 ≡ v % 128
    low = omega arith

    whole : v % 128 + 128 * (v / 128) ≡ v
    whole = omega arith

    same : accepted (v % 128 + 128 * (v / 128)) (1 + length (group_bytes k (v / 128)))
        ≡ accepted v (suc (length (group_bytes k (v / 128))))
    same = simp (whole, one-add)

-- what is read at the head of bs was written so, and the rest follows it
abbrev Wrote : ℕ → List ℕ → NumberRead → Type 0
Wrote k bs r = Bytes bs → r.refusal ≡ none → bs ≡ group_bytes k r.value ++ drop r.place bs

wrote_more : (k b v p : ℕ) (bs : List ℕ) → 128 ≤ b → b < 256 → (v ≡ 0 → ⊥) → bs ≡ group_bytes k v ++ drop p bs
    → b ∷ bs ≡ group_bytes (suc k) (b % 128 + 128 * v) ++ drop (1 + p) (b ∷ bs)
unfolding group_bytes
wrote_more k b v p bs h lt z e =
    simp (le-ltb (b % 128 + 128 * v) 128 (omega arith), low, high, top, one-add) (ap (λ (l : List ℕ). b ∷ l) e)
  where
    low : (b % 128 + 128 * v) % 128 ≡ b % 128
    low = omega arith

    high : (b % 128 + 128 * v) / 128 ≡ v
    high = omega arith

    top : 128 + b % 128 ≡ b
    top = omega arith

pub groups_read : (k : ℕ) (bs : List ℕ) → Wrote k bs (groups k bs)
unfolding group_bytes
groups_read =
    groups_elim Wrote
    (λ k bytes e. absurd (omega arith))
    (λ b bs h bytes e. absurd (omega arith))
    (λ b bs h bytes e. refl)
    (λ k b bs h bytes e. simp (lt-ltb b 128 h))
    (λ k b bs r h a z p bytes e. wrote_more k b r.value r.place bs h (bytes zero) z (p (λ i. bytes (suc i)) a))
    (λ k b bs r h a z p bytes e. absurd (omega arith))
    (λ k b bs r h n p bytes e. absurd (n e))
