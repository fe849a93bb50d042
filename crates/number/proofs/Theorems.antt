-- What the crate shows beyond its contracts. Each law stands here in full, over specs/ alone; the modules it cites
-- prove it.
--
-- In order: what every reading satisfies; which bytes decide it; a number of one byte; both round trips; how
-- long a number's bytes are; what a writer does.
use Prim.Native.Nat.{ℕ, suc, ◌+◌, ◌≤◌, ◌<◌, max}
use mathlib.Core.Path.{◌≡◌, refl, ap, ◌∙◌}
use mathlib.Core.List.{List, [], ◌∷◌, ◌++◌}
use native.Mathlib.Omega.{arith}
use native.Mathlib.Nat.{add-zero}
use lib.Dec.{lit<}
use lib.ListN.{length, take, drop, get_or, length-append, length-drop}
use lib.Seq.{drop-drop, drop_at, get_or-drop}
use borrow.Author.Tests.{le-leb, lt-leb}
use Rattle.number.specs.Refusal.{none, cut, malformed, no_room}
use Rattle.number.specs.Output.{writing, written, unwritten}
use Rattle.number.specs.Number.{NumberRead, number_bound, Bytes, accepted, refused, groups, shifted, leading, read_number, number_bytes}
use Rattle.number.proofs.Cases.{by_lt}
use Rattle.number.proofs.Groups as Groups
use Rattle.number.proofs.Size as Size
use Rattle.number.proofs.Place as Place
use Rattle.number.proofs.Size.{room}
use Rattle.number.proofs.RoundTrip as RoundTrip

-- whatever is read: an accepted number is in range and covers at least one byte of the input; a refused one is 0, at
-- one of its bytes, or at "the input's end when cut off (a start past it keeps its own place)"
pub record Reading (bs : List ℕ) (at : ℕ) (r : NumberRead) : Type 0 where
  pub in_range : r.value < number_bound
  pub refusals : r.refusal ≤ 2
  pub after : r.refusal ≡ none → at < r.place
  pub inside : r.refusal ≡ none → r.place ≤ length bs
  pub place_le : at ≤ length bs → r.place ≤ length bs
  pub zero_value : (r.refusal ≡ none → ⊥) → r.value ≡ 0
  pub at_byte : r.refusal ≡ malformed → (at ≤ r.place) × (r.place < length bs)
  pub at_end : r.refusal ≡ cut → r.place ≡ max at (length bs)

pub reading : (bs : List ℕ) (at : ℕ) → Reading bs at (read_number bs at)
unfolding read_number room
reading bs at =
    record {
      in_range = s.value_lt;
      refusals = s.few;
      after = λ e. let h = s.some e in omega arith;
      inside = λ e. let h = s.some e in omega (arith, s.place_le, length-drop at bs);
      place_le = λ h. omega (arith, s.place_le, length-drop at bs);
      zero_value = s.nothing;
      at_byte = λ e. let h = s.at_byte e in (omega arith, omega (arith, length-drop at bs));
      at_end = λ e. let h = s.at_end e in omega (arith, length-drop at bs);
    }
  where
    s : Size.Sized leading (drop at bs) (groups leading (drop at bs))
    s = Size.groups_sized leading (drop at bs)

-- "the byte that decides it": with refusal 2 at p no byte after the one at p matters
pub malformed_decided : (bs cs : List ℕ) (at p : ℕ) → read_number bs at ≡ refused malformed p
    → take (suc p) cs ≡ take (suc p) bs → read_number cs at ≡ refused malformed p
malformed_decided bs cs at p e = Place.decided_at bs at p e cs

-- and not before it: the bytes before p alone are refused with 1 at p, and there are some
pub malformed_cut_before : (bs : List ℕ) (at p : ℕ) → read_number bs at ≡ refused malformed p
    → read_number (take p bs) at ≡ refused cut p
malformed_cut_before = Place.cut_before_at

pub malformed_later : (bs : List ℕ) (at p : ℕ) → read_number bs at ≡ refused malformed p → at < p
malformed_later = Place.later_at

-- an accepted number is decided by the bytes up to its end
pub accepted_decided : (bs cs : List ℕ) (at : ℕ) → (read_number bs at).refusal ≡ none
    → take (read_number bs at).place cs ≡ take (read_number bs at).place bs → read_number cs at ≡ read_number bs at
accepted_decided = Place.covered_at

-- a reading that breaks off is still open: with one byte more it can become a number
pub cut_completed : (bs : List ℕ) (at : ℕ) → at ≤ length bs → (read_number bs at).refusal ≡ cut
    → (read_number (bs ++ 1 ∷ []) at).refusal ≡ none
cut_completed = Place.completed_at

-- "a place at or past the end gives .. (the number reader: 1)" there
pub read_past : (bs : List ℕ) (at : ℕ) → length bs ≤ at → read_number bs at ≡ refused cut at
unfolding read_number
read_past bs at h = rw (Groups.groups_past bs at leading h, add-zero)

-- a byte with its top bit clear is a number by itself
pub read_single : (bs : List ℕ) (at : ℕ) → at < length bs → get_or bs at 0 < 128
    → read_number bs at ≡ accepted (get_or bs at 0) (at + 1)
unfolding read_number
read_single bs at within small = ap (shifted at) (Groups.groups_at_end bs at leading within (lit< tt) small)

-- where the bytes of v stand, v is read and the place after them, whatever stands before and after
pub read_at : (bs : List ℕ) (at v : ℕ) (rest : List ℕ) → v < number_bound → drop at bs ≡ number_bytes v ++ rest
    → read_number bs at ≡ accepted v (at + length (number_bytes v))
unfolding read_number number_bytes room
read_at bs at v rest h e = rw (e, RoundTrip.groups_written leading v rest h)

-- what is written reads back as the same value and the place after it
pub read_written : (before after : List ℕ) (v : ℕ) → v < number_bound
    → read_number (before ++ (number_bytes v ++ after)) (length before)
    ≡ accepted v (length before + length (number_bytes v))
read_written before after v h =
    read_at (before ++ (number_bytes v ++ after)) (length before) v after h
    (drop_at before (number_bytes v ++ after) (length before) refl)

-- whatever the reader accepts is written back to the same bytes
pub written_read : (bs : List ℕ) (at : ℕ) → Bytes bs → (read_number bs at).refusal ≡ none
    → drop at bs ≡ number_bytes (read_number bs at).value ++ drop (read_number bs at).place bs
unfolding read_number number_bytes
written_read bs at bytes e =
    RoundTrip.groups_read leading (drop at bs) (λ i. rw get_or-drop (bytes (at + i))) e
    ∙ rw drop-drop

-- "1 to 5 groups"
pub length_number_bytes : (v : ℕ) → (1 ≤ length (number_bytes v)) × (length (number_bytes v) ≤ 5)
length_number_bytes = Size.length_number_bytes

-- the bytes of a number are bytes
pub number_bytes_are_bytes : (v : ℕ) → v < number_bound → Bytes (number_bytes v)
unfolding number_bytes room
number_bytes_are_bytes v h = Size.group_bytes_are_bytes leading v h

-- a writer of n bytes that is lent m, with room enough and without
pub writing_fits : (bs : List ℕ) (m n : ℕ) → n ≡ length bs → n ≤ m → record { refusal = none; place = n } ≡ writing bs m
unfolding writing
writing_fits bs m n e h = rw e (simp (le-leb (length bs) m (omega arith)))

pub writing_no_room : (bs : List ℕ) (m n : ℕ) → n ≡ length bs → m < n → unwritten no_room n ≡ writing bs m
unfolding writing
writing_no_room bs m n e h = rw e (simp (lt-leb (length bs) m (omega arith)))

pub written_fits : (bs d : List ℕ) → length bs ≤ length d → written bs d ≡ bs ++ drop (length bs) d
unfolding written
written_fits bs d h = simp (le-leb (length bs) (length d) h)

pub written_no_room : (bs d : List ℕ) → length d < length bs → written bs d ≡ d
unfolding written
written_no_room bs d h = simp (lt-leb (length bs) (length d) h)

-- a writer never changes the length of what it is lent
pub length_written : (bs d : List ℕ) → length (written bs d) ≡ length d
length_written bs d =
    by_lt (length d) (length bs)
    (λ h. ap length (written_no_room bs d h))
    (λ h. ap length (written_fits bs d h) ∙ length-append bs (drop (length bs) d) ∙ rest h)
  where
    rest : length bs ≤ length d → length bs + length (drop (length bs) d) ≡ length d
    rest h = simp length-drop (omega arith)
