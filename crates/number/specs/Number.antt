-- The numbers of the format: unsigned LEB128 in its shortest (canonical) form, one to five bytes.
--
--   groups k bs        the number at the head of bs, with at most k groups before its last one
--   read_number bs at  the number at a place of bs
--   number_bytes v     the bytes of v
--   decisive u bs p    how many bytes of bs decide a refusal at p; u says that a number can't be read
--
-- Main laws: `read_written` and `written_read`; `malformed_decided` and `malformed_cut_before` for a refusal's place
-- (proofs/Theorems.antt).
use Rattle.std.specs.Prelude.{ℕ, zero, suc, ◌+◌, ◌*◌, ◌/◌, ◌%◌, ◌<◌, cond, List, [], ◌∷◌, ltb, eqb, drop, get_or}
use Rattle.std.specs.Prelude.{Bool}
use Rattle.number.specs.Refusal.{none, cut, malformed}

-- What a reading gives: the value with refusal 0 and the place after it, or value 0 with the refusal and its place: the
-- byte that decides it, or the input's end.
pub record NumberRead : Type 0 where
  pub value : ℕ
  pub refusal : ℕ
  pub place : ℕ

-- numbers are "at most 4,294,967,295", this less one
abbrev pub number_bound : ℕ
number_bound = 4294967296

-- each element is a byte, as those of a slice of bytes are
abbrev pub Bytes : List ℕ → Type 0
Bytes bs = (i : ℕ) → get_or bs i 0 < 256

-- "An accepted reading has refusal 0 and the place after it"; a place is a byte offset
abbrev pub accepted : ℕ → ℕ → NumberRead
accepted v p = record { value = v; refusal = none; place = p }

-- "A refused reader returns an all-zero value with refusal and place"
abbrev pub refused : ℕ → ℕ → NumberRead
refused r p = record { value = 0; refusal = r; place = p }

-- The place is "the byte that decides it" (document 02, A2), here counted from the group at hand: "the fifth group when
-- it is too large", ..
abbrev pub too_large : NumberRead
too_large = refused malformed 0

-- .. "the superfluous last group", which is the byte after the group at hand, ..
abbrev pub superfluous : NumberRead
superfluous = refused malformed 1

-- .. "or the input's end when cut off"
abbrev pub broken_off : NumberRead
broken_off = refused cut 0

-- the same refusal, with its place counted from a byte earlier
abbrev pub refused_later : NumberRead → NumberRead
refused_later rest = refused rest.refusal (1 + rest.place)

-- a group with its top bit set, low seven bits of it, and the groups after it; they come to 0 only as the one byte 00
unfoldable pub continued : ℕ → NumberRead → NumberRead
continued low rest =
    cond (eqb rest.refusal none)
    (cond (eqb rest.value 0) superfluous (accepted (low + 128 * rest.value) (1 + rest.place)))
    (refused_later rest)

-- a group that must be the last: at most 15
unfoldable pub fifth_group : ℕ → NumberRead
fifth_group b = cond (ltb b 16) (accepted b 1) too_large

-- "1 to 5 groups of seven bits, lowest first, top bit set on all but the last". The place counts from the head of the
-- list.
unfoldable pub groups : ℕ → List ℕ → NumberRead
groups k [] = broken_off
groups zero (b ∷ bs) = fifth_group b
groups (suc k) (b ∷ bs) = cond (ltb b 128) (accepted b 1) (continued (b % 128) (groups k bs))

-- the same reading, with its place counted from p bytes earlier
abbrev pub shifted : ℕ → NumberRead → NumberRead
shifted p r = record { value = r.value; refusal = r.refusal; place = p + r.place }

-- how many groups may stand before the last one
abbrev pub leading : ℕ
leading = 4

-- the number at a place; at the input's end refusal 1 there, and "a start past it keeps its own place"
unfoldable pub read_number : List ℕ → ℕ → NumberRead
read_number bs at = shifted at (groups leading (drop at bs))

-- those up to the end of the number at p, or, where it can't be read, up to "the byte that decides it"
abbrev pub decisive : Bool → List ℕ → ℕ → ℕ
decisive unreadable bs p = cond unreadable (p + 1) (read_number bs p).place

-- v in at most k groups before the last one
unfoldable pub group_bytes : ℕ → ℕ → List ℕ
group_bytes zero v = v ∷ []
group_bytes (suc k) v = cond (ltb v 128) (v ∷ []) ((128 + v % 128) ∷ group_bytes k (v / 128))

-- the shortest form of v
unfoldable pub number_bytes : ℕ → List ℕ
number_bytes v = group_bytes leading v
