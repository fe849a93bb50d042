-- How large and how long a reading is, and how long a number's bytes are.
use Prim.Native.Nat.{ℕ, zero, suc, ◌+◌, ◌*◌, ◌/◌, ◌%◌, ◌≤◌, ◌<◌}
use mathlib.Core.Path.{◌≡◌, refl, ap}
use mathlib.Core.List.{List, [], ◌∷◌}
use native.Mathlib.Omega.{arith}
use borrow.Author.Tests.{lt-ltb, le-ltb}
use lib.Dec.{lit<, lit≤}
use lib.ListN.{length, get_or}
use Rattle.number.specs.Refusal.{none, cut, malformed}
use Rattle.number.specs.Number.{NumberRead, number_bound, Bytes, accepted, refused, groups, leading, group_bytes, number_bytes}
use Rattle.number.proofs.Cases.{by_lt}
use Rattle.number.proofs.Groups.{groups_elim}

-- numbers of at most k groups before the last one are below this
unfoldable pub room : ℕ → ℕ
room zero = 16
room (suc k) = 128 * room k

-- what every reading of the groups of a list satisfies
pub record Sized (k : ℕ) (bs : List ℕ) (r : NumberRead) : Type 0 where
  pub value_lt : r.value < room k
  pub place_le : r.place ≤ length bs
  pub some : r.refusal ≡ none → 1 ≤ r.place
  pub few : r.refusal ≤ 2
  pub nothing : (r.refusal ≡ none → ⊥) → r.value ≡ 0
  pub at_end : r.refusal ≡ cut → r.place ≡ length bs
  pub at_byte : r.refusal ≡ malformed → r.place < length bs

room_pos : (k : ℕ) → 16 ≤ room k
unfolding room
room_pos zero = lit≤ tt
room_pos (suc k) = let h = room_pos k in omega arith

pub room_mono : (j k : ℕ) → j ≤ k → room j ≤ room k
unfolding room
room_mono zero k h = room_pos k
room_mono (suc j) zero h = absurd (omega arith)
room_mono (suc j) (suc k) h = let p : room j ≤ room k = room_mono j k (omega arith) in omega arith

refused_sized : (k : ℕ) (bs : List ℕ) (r p : ℕ) → p ≤ length bs → 1 ≤ r → r ≤ 2 → (r ≡ cut → p ≡ length bs)
    → (r ≡ malformed → p < length bs) → Sized k bs (refused r p)
refused_sized k bs r p inside low high end byte =
    let h = room_pos k in
    record {
      value_lt = omega arith;
      place_le = inside;
      some = λ e. absurd (omega arith);
      few = high;
      nothing = λ n. refl;
      at_end = end;
      at_byte = byte;
    }

accepted_sized : (k : ℕ) (bs : List ℕ) (v p : ℕ) → v < room k → 1 ≤ p → p ≤ length bs → Sized k bs (accepted v p)
accepted_sized k bs v p small some inside =
    record {
      value_lt = small;
      place_le = inside;
      some = λ e. some;
      few = lit≤ tt;
      nothing = λ n. absurd (n refl);
      at_end = λ e. absurd (omega arith);
      at_byte = λ e. absurd (omega arith);
    }

last_sized : (k b : ℕ) (bs : List ℕ) → b < room k → Sized k (b ∷ bs) (accepted b 1)
last_sized k b bs h = accepted_sized k (b ∷ bs) b 1 h (lit≤ tt) (omega arith)

pub groups_sized : (k : ℕ) (bs : List ℕ) → Sized k bs (groups k bs)
unfolding room
groups_sized =
    groups_elim Sized
    (λ k. refused_sized k [] _ _ (omega arith) (lit≤ tt) (lit≤ tt) (λ e. refl) (λ e. absurd (omega arith)))
    (λ b bs h. refused_sized 0 (b ∷ bs) _ _ (omega arith) (lit≤ tt) (lit≤ tt) (λ e. absurd (omega arith))
    (λ e. omega arith))
    (λ b bs h. last_sized 0 b bs h)
    (λ k b bs h. last_sized (suc k) b bs (let q = room_pos k in omega arith))
    (λ k b bs r h a z p. accepted_sized (suc k) (b ∷ bs) _ _ (omega arith) (omega arith) (omega arith))
    (λ k b bs r h a z p. refused_sized (suc k) (b ∷ bs) _ _ (omega arith) (lit≤ tt) (lit≤ tt)
    (λ e. absurd (omega arith)) (λ e. omega (arith, p.some a, p.place_le)))
    (λ k b bs r h n p. refused_sized (suc k) (b ∷ bs) _ _ (omega (arith, p.place_le)) (omega arith) p.few
    (λ e. omega (arith, p.at_end e)) (λ e. omega (arith, p.at_byte e)))

-- a number has at least one byte, and at most one after those that lead
length_group_bytes : (k v : ℕ) → (1 ≤ length (group_bytes k v)) × (length (group_bytes k v) ≤ suc k)
unfolding group_bytes
length_group_bytes zero v = (lit≤ tt, lit≤ tt)
length_group_bytes (suc k) v =
    by_lt v 128
    (λ h. rw (lt-ltb v 128 h) (omega arith))
    (λ h. rw (le-ltb v 128 h) (let p = length_group_bytes k (v / 128) in omega arith))

pub length_number_bytes : (v : ℕ) → (1 ≤ length (number_bytes v)) × (length (number_bytes v) ≤ 5)
unfolding number_bytes
length_number_bytes v = length_group_bytes leading v

pub group_bytes_are_bytes : (k v : ℕ) → v < room k → Bytes (group_bytes k v)
unfolding group_bytes room
group_bytes_are_bytes zero v h zero = omega arith
group_bytes_are_bytes zero v h (suc i) = lit< tt
group_bytes_are_bytes (suc k) v h i =
    by_lt v 128
    (λ p. rw (lt-ltb v 128 p) (short p i))
    (λ p. rw (le-ltb v 128 p) (long (group_bytes_are_bytes k (v / 128) (omega arith)) i))
  where
    short : v < 128 → (i : ℕ) → get_or (v ∷ []) i 0 < 256
    short p zero = omega arith
    short p (suc j) = lit< tt

    long : Bytes (group_bytes k (v / 128)) → (i : ℕ) → get_or ((128 + v % 128) ∷ group_bytes k (v / 128)) i 0 < 256
    long p zero = omega arith
    long p (suc j) = p j

-- more groups than are needed change nothing
group_bytes_enough : (j k v : ℕ) → v < room j → v < room k → group_bytes j v ≡ group_bytes k v
unfolding group_bytes room
group_bytes_enough zero zero v h p = refl
group_bytes_enough zero (suc k) v h p = simp (lt-ltb v 128 (omega arith))
group_bytes_enough (suc j) zero v h p = simp (lt-ltb v 128 (omega arith))
group_bytes_enough (suc j) (suc k) v h p =
    by_lt v 128
    (λ q. simp (lt-ltb v 128 q))
    (λ q. simp (le-ltb v 128 q, group_bytes_enough j k (v / 128) (omega arith) (omega arith)))

-- the bytes of a number, group by group
pub number_bytes_single : (v : ℕ) → v < 128 → number_bytes v ≡ v ∷ []
unfolding number_bytes group_bytes
number_bytes_single v h = simp (lt-ltb v 128 h)

pub number_bytes_more : (v : ℕ) → 128 ≤ v → v < number_bound → number_bytes v ≡ (128 + v % 128) ∷ number_bytes (v / 128)
unfolding number_bytes group_bytes room
number_bytes_more v h small =
    simp (le-ltb v 128 h)
    (ap (λ (l : List ℕ). (128 + v % 128) ∷ l) (group_bytes_enough 3 leading (v / 128) (omega arith) (omega arith)))
