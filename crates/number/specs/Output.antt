-- What a writer answers and what it leaves in the slice that it is lent, given the bytes that it is to write.
--
--   writing bs n  the answer of a writer of bs that is lent n bytes
--   written bs d  what d holds afterwards
--   packed r p    a refusal and its place as one number
--   laid at bs d  d with bs over it at a place, for a writer that writes piece by piece
--
-- They serve every writer of the format.
use Rattle.std.specs.Prelude.{ℕ, ◌+◌, ◌*◌, cond, List, ◌++◌, leb, length, take, drop}
use Rattle.number.specs.Refusal.{none, no_room}

-- What a writer answers: refusal 0 and the length written, or the refusal and its place, which for no_room is the number
-- of bytes needed.
pub record Written : Type 0 where
  pub refusal : ℕ
  pub place : ℕ

-- a writer's refusal with its place
abbrev pub unwritten : ℕ → ℕ → Written
unwritten r p = record { refusal = r; place = p }

-- "Writers return the length", or 30 at "the bytes needed"
unfoldable pub writing : List ℕ → ℕ → Written
writing bs n = cond (leb (length bs) n) (record { refusal = none; place = length bs }) (unwritten no_room (length bs))

-- "bytes beyond it staying"; a refused writer leaves its output "untouched"
unfoldable pub written : List ℕ → List ℕ → List ℕ
written bs d = cond (leb (length bs) (length d)) (bs ++ drop (length bs) d) d

-- "refusal × 4,294,967,296 + place", the answer of a refused call over the C boundary
abbrev pub packed : ℕ → ℕ → ℕ
packed refusal place = refusal * 4294967296 + place

-- d with bs over it, from the place at on
unfoldable pub laid : ℕ → List ℕ → List ℕ → List ℕ
laid at bs d = take at d ++ (bs ++ drop (at + length bs) d)
