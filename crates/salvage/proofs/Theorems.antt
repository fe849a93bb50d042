-- What the call does beyond its contract. Each law stands here in full, over specs/ alone.
--
-- In order: sizes that always suffice; what a refused and an accepted call leave; what C reads from the result.
use Prim.Native.Nat.{ℕ, ◌/◌, ◌%◌, ◌≤◌}
use mathlib.Core.Path.{◌≡◌}
use mathlib.Core.List.{List}
use native.Mathlib.Omega.{arith}
use lib.ListN.{length, take, drop}
use lib.Seq.{take-append_seam}
use borrow.Author.Tests.{ne_eqb}
use Rattle.number.specs.Refusal.{none}
use Rattle.number.specs.Output.{written}
use Rattle.number.proofs.Theorems.{written_fits}
use Rattle.recording.specs.Fate.{kept_bytes}
use Rattle.recording.specs.Stretch.{list_bytes}
use Rattle.recording.proofs.Theorems.{kept_fit, list_fits}
use Rattle.salvage.specs.Salvage.{lengths, accepted, salvaged, filled, events_after, stretches_after, result_of}
use Rattle.salvage.proofs.Answers as Answers

-- 8,192 bytes for the events and 12,224 for the stretches are enough for every trace that is not too long
pub enough : (bs : List ℕ) (n m : ℕ) → length bs ≤ 8192 → 8192 ≤ n → 12224 ≤ m → salvaged bs n m ≡ accepted (lengths bs)
enough bs n m short room space =
    Answers.salvaged_whole bs n m (record {
      short = short;
      events = omega (arith, kept_fit bs);
      stretches = omega (arith, list_fits bs short);
    })

-- a refused call leaves both slices as they were
pub refused_same : (bs es ss : List ℕ) → ((salvaged bs (length es) (length ss)).refusal ≡ none → ⊥)
    → (events_after bs es ss ≡ es) × (stretches_after bs es ss ≡ ss)
unfolding filled
refused_same bs es ss bad = (simp (ne_eqb _ none bad), simp (ne_eqb _ none bad))

-- an accepted call leaves the kept bytes in the front of one slice and the list in the front of the other, as many as
-- it answers
pub accepted_outputs : (bs es ss : List ℕ) → let r = salvaged bs (length es) (length ss) in r.refusal ≡ none
    → (take r.events (events_after bs es ss) ≡ kept_bytes bs)
    × (take r.stretches (stretches_after bs es ss) ≡ list_bytes bs)
unfolding filled
accepted_outputs bs es ss ok =
    let f = Answers.accepted_fitting bs (length es) (length ss) ok in
    rw (Answers.salvaged_whole bs (length es) (length ss) f)
    (front (kept_bytes bs) es f.events, front (list_bytes bs) ss f.stretches)
  where
    front : (xs d : List ℕ) → length xs ≤ length d → take (length xs) (written xs d) ≡ xs
    front xs d h = rw (written_fits xs d h) (take-append_seam xs (drop (length xs) d))

-- the refusal is the result's high half, 0 for an accepted call, and the place its low half; both lengths are halves of
-- the low half
pub result_refused : (bs : List ℕ) (n m : ℕ) → let r = salvaged bs n m in (r.refusal ≡ none → ⊥)
    → (result_of r / 4294967296 ≡ r.refusal) × (result_of r % 4294967296 ≡ r.place)
result_refused bs n m bad =
    let s = Answers.salvaged_small bs n m in
    rw (← Answers.result_refused (salvaged bs n m) bad) (omega (arith, s.place_le), omega (arith, s.place_le))

pub result_accepted : (bs : List ℕ) (n m : ℕ) → let r = salvaged bs n m in r.refusal ≡ none
    → (result_of r / 4294967296 ≡ 0) × ((result_of r / 65536 ≡ r.stretches) × (result_of r % 65536 ≡ r.events))
result_accepted bs n m ok =
    let s = Answers.salvaged_small bs n m in
    rw (← Answers.result_accepted (salvaged bs n m) ok) (
      omega (arith, s.stretches_le, s.events_le),
      (omega (arith, s.stretches_le, s.events_le), omega (arith, s.stretches_le, s.events_le)),
    )
