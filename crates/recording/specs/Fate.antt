-- Which bytes of a damaged recording are kept. A recording is a trace as a logger left it, of any bytes.
--
--   covered bs     how many bytes the event at the head of bs covers, 0 where none can be read
--   fates bs       what becomes of each byte of bs
--   kept_bytes bs  the bytes that are kept, in their order
--
-- Main laws: `fates_unreadable` and `fates_event` say what becomes of the bytes at the head; `kept_readable`,
-- `readable_same` and `salvaged_again` are document 02's claims (proofs/Theorems.antt).
use Rattle.std.specs.Prelude.{ℕ, zero, suc, ◌-◌, cond, List, [], ◌∷◌, eqb}
use Rattle.number.specs.Refusal.{none}
use Rattle.event.specs.Event.{read_event}

-- what becomes of a byte
pub data Fate : Type 0 where
  kept dropped : Fate

-- "where no event can be read": 0
unfoldable pub covered : List ℕ → ℕ
covered bs = cond (eqb (read_event bs 0).refusal none) (read_event bs 0).place 0

-- how many bytes from the head of bs on belong to an event: what is left of one that began before, or one that begins
-- here
unfoldable pub belonging : ℕ → List ℕ → ℕ
belonging zero bs = covered bs
belonging (suc left) bs = suc left

-- a byte is kept where some bytes from it on belong to an event
unfoldable pub fate_of : ℕ → Fate
fate_of zero = dropped
fate_of (suc n) = kept

-- "drop one byte and try again at the next"; left: how many bytes of an event that began before are still to come
unfoldable pub fates_from : ℕ → List ℕ → List Fate
fates_from left [] = []
fates_from left (b ∷ bs) = fate_of (belonging left (b ∷ bs)) ∷ fates_from (belonging left (b ∷ bs) - 1) bs

abbrev pub fates : List ℕ → List Fate
fates bs = fates_from 0 bs

-- the bytes whose fate is to be kept
unfoldable pub selected : List Fate → List ℕ → List ℕ
selected [] bs = []
selected (f ∷ fs) [] = []
selected (kept ∷ fs) (b ∷ bs) = b ∷ selected fs bs
selected (dropped ∷ fs) (b ∷ bs) = selected fs bs

-- "the kept events"
abbrev pub kept_bytes : List ℕ → List ℕ
kept_bytes bs = selected (fates bs) bs
