-- The dropped stretches of a recording: bytes in a row that are dropped, each stretch as long as it goes.
--
--   stretches bs      the dropped stretches of bs
--   stretch_bytes ss  "lists each dropped stretch as two numbers, offset and length"
--   listed ls         the stretches that a list of them says
--   within ss p       the place p lies in one of the stretches ss
--   rebuilt 0 ss ks bs the recording put together again from its kept bytes and its dropped stretches
--
-- Main laws: `put_together`, `fate_told`, `stretches_apart`, `list_read`, `list_fits`
-- (proofs/Theorems.antt).
use Rattle.std.specs.Prelude.{ℕ, zero, suc, ◌+◌, ◌-◌, ◌≤◌, Bool, false, cond, ◌&&◌, ◌||◌, List, [], ◌∷◌, ◌++◌, leb, ltb, length, take, drop}
use Rattle.number.specs.Number.{read_number, number_bytes}
use Rattle.recording.specs.Fate.{Fate, kept, dropped, fates}

-- the place of its first byte, and how many bytes it has
pub record Stretch : Type 0 where
  pub offset : ℕ
  pub size : ℕ

-- a stretch that ends here, before those that come later; of no byte, it is none
unfoldable pub closed : ℕ → ℕ → List Stretch → List Stretch
closed from zero ss = ss
closed from (suc n) ss = record { offset = from; size = suc n } ∷ ss

-- n bytes from the place `from` on are dropped, and fs is what becomes of those after them
unfoldable pub stretches_from : ℕ → ℕ → List Fate → List Stretch
stretches_from from n [] = closed from n []
stretches_from from n (dropped ∷ fs) = stretches_from from (suc n) fs
stretches_from from n (kept ∷ fs) = closed from n (stretches_from (suc (from + n)) 0 fs)

abbrev pub stretches : List ℕ → List Stretch
stretches bs = stretches_from 0 0 (fates bs)

unfoldable pub stretch_bytes : List Stretch → List ℕ
stretch_bytes [] = []
stretch_bytes (s ∷ ss) = number_bytes s.offset ++ (number_bytes s.size ++ stretch_bytes ss)

-- the list of dropped stretches, in bytes
abbrev pub list_bytes : List ℕ → List ℕ
list_bytes bs = stretch_bytes (stretches bs)

-- the stretches that the two numbers at a place of a list say, and those after them, at most k
unfoldable pub listed_from : ℕ → List ℕ → ℕ → List Stretch
listed_from zero ls at = []
listed_from (suc k) ls at =
    let o = read_number ls at in
    let n = read_number ls o.place in
    cond (ltb at (length ls)) (record { offset = o.value; size = n.value } ∷ listed_from k ls n.place) []

-- what a reader of the list finds in it; a stretch takes a byte at least
abbrev pub listed : List ℕ → List Stretch
listed ls = listed_from (length ls) ls 0

-- the place p lies in one of the stretches
unfoldable pub within : List Stretch → ℕ → Bool
within [] p = false
within (s ∷ ss) p = (leb s.offset p && ltb p (s.offset + s.size)) || within ss p

-- the bytes of bs that a stretch covers
abbrev pub cutout : List ℕ → Stretch → List ℕ
cutout bs s = take s.size (drop s.offset bs)

-- from the place `at` on: kept bytes ks up to the first stretch, the bytes of bs that it covers, and so on; after the
-- last stretch the kept bytes left
unfoldable pub rebuilt : ℕ → List Stretch → List ℕ → List ℕ → List ℕ
rebuilt at [] ks bs = ks
rebuilt at (s ∷ ss) ks bs =
    take (s.offset - at) ks ++ (cutout bs s ++ rebuilt (s.offset + s.size) ss (drop (s.offset - at) ks) bs)

-- the stretches lie between two places, none is empty, and after each at least one byte is kept before the next
unfoldable pub Apart : ℕ → ℕ → List Stretch → Type 0
Apart from end [] = Unit
Apart from end (s ∷ ss) =
    (from ≤ s.offset) × ((1 ≤ s.size) × ((s.offset + s.size ≤ end) × Apart (suc (s.offset + s.size)) end ss))
