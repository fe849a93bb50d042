-- What holds of every recording. Each law stands here in full, over specs/ alone; the modules it cites prove it.
--
-- In order: what becomes of the bytes at the head of a recording, which fixes all of them; document 02's three claims;
-- the stretches; what is salvaged twice; how long both outputs are.
use Prim.Native.Nat.{ℕ, ◌-◌, ◌≤◌, ◌<◌}
use mathlib.Core.Path.{◌≡◌}
use mathlib.Core.Bool.{cond}
use mathlib.Core.List.{List, [], ◌∷◌, ◌++◌}
use native.Mathlib.Omega.{arith}
use native.Mathlib.Nat.{zero-add}
use lib.ListN.{length, drop, get_or, replicate}
use Rattle.number.specs.Refusal.{none}
use Rattle.number.specs.Number.{Bytes}
use Rattle.event.specs.Event.{read_event}
use Rattle.event.specs.Trace.{read_trace}
use Rattle.event.proofs.Theorems.{trace_reading, trace_written_read, trace_read_written}
use Rattle.recording.specs.Fate.{kept, dropped, covered, fates, kept_bytes}
use Rattle.recording.specs.Stretch.{stretches, list_bytes, listed, within, rebuilt, Apart}
use Rattle.recording.proofs.Fates as Fates
use Rattle.recording.proofs.Stretches as Stretches
use Rattle.recording.proofs.Size as Size
use Rattle.recording.proofs.Listed as Listed

-- "where no event can be read, drop one byte and try again at the next"
pub fates_unreadable : (b : ℕ) (bs : List ℕ) → ((read_event (b ∷ bs) 0).refusal ≡ none → ⊥)
    → fates (b ∷ bs) ≡ dropped ∷ fates bs
fates_unreadable b bs n = Fates.fates_dropped b bs (Fates.covered_none (b ∷ bs) n)

-- where an event can be read, all of its bytes are kept, and the next is tried after it
pub fates_event : (bs : List ℕ) → (read_event bs 0).refusal ≡ none
    → fates bs ≡ replicate (read_event bs 0).place kept ++ fates (drop (read_event bs 0).place bs)
fates_event bs h = rw (← Fates.covered_some bs h) (Fates.fates_event bs)

-- how many bytes an event at a place covers: where it is tried there or at the head of what is left makes no difference
pub covered_at : (bs : List ℕ) (at : ℕ) → Bytes bs → (read_event bs at).refusal ≡ none
    → covered (drop at bs) ≡ (read_event bs at).place - at
covered_at = Fates.covered_at

pub uncovered_at : (bs : List ℕ) (at : ℕ) → Bytes bs → ((read_event bs at).refusal ≡ none → ⊥) → covered (drop at bs) ≡ 0
uncovered_at = Fates.uncovered_at

-- each byte has one fate
pub length_fates : (bs : List ℕ) → length (fates bs) ≡ length bs
length_fates bs = Fates.length_fates 0 bs

-- "The output is always readable"
pub kept_readable : (bs : List ℕ) → Bytes bs → (read_trace (kept_bytes bs)).refusal ≡ none
kept_readable bs b = let es = Fates.kept_events bs b in
    rw (es.bytes, trace_read_written es.events es.writable)

-- "a readable trace comes back unchanged", and nothing of it is listed
pub readable_same : (bs : List ℕ) → Bytes bs → (read_trace bs).refusal ≡ none → (kept_bytes bs ≡ bs) × (stretches bs ≡ [])
readable_same bs b h = (rw all (Fates.selected_all bs), rw all (Stretches.stretches_none 0 (length bs)))
  where
    all : fates bs ≡ replicate (length bs) kept
    all =
        rw (trace_written_read bs b h)
        (Fates.fates_trace (read_trace bs).events (trace_reading bs 0 (omega arith)).writable)

-- "kept and dropped bytes together are the input in order": the kept bytes up to the first stretch, its bytes, the kept
-- ones up to the next, and so on
pub put_together : (bs : List ℕ) → rebuilt 0 (stretches bs) (kept_bytes bs) bs ≡ bs
put_together bs = Stretches.rebuilt_stretches 0 0 (fates bs) bs (rw (zero-add (length (fates bs))) (length_fates bs))

-- and the stretches tell of each byte whether it was dropped
pub fate_told : (bs : List ℕ) (p : ℕ) → p < length bs
    → get_or (fates bs) p kept ≡ cond (within (stretches bs) p) dropped kept
fate_told bs p h =
    rw (zero-add p) at (Stretches.within_fates 0 0 (fates bs) p (omega (arith, length_fates bs)))

-- no stretch is empty, and between two of them a byte is kept: they neither touch nor overlap
pub stretches_apart : (bs : List ℕ) → Apart 0 (length bs) (stretches bs)
stretches_apart bs = simp (length_fates, zero-add) at (Stretches.stretches_apart 0 0 (fates bs))

-- "lists each dropped stretch as two numbers, offset and length": the list reads back as the stretches, whatever their
-- numbers are
pub list_read : (bs : List ℕ) → length bs < 4294967296 → listed (list_bytes bs) ≡ stretches bs
list_read bs h = Listed.list_read (length bs) h (stretches bs) (stretches_apart bs)

-- salvaging what was kept changes nothing
pub salvaged_again : (bs : List ℕ) → Bytes bs
    → (kept_bytes (kept_bytes bs) ≡ kept_bytes bs) × (stretches (kept_bytes bs) ≡ [])
salvaged_again bs b = readable_same (kept_bytes bs) (Fates.selected_bytes (fates bs) bs b) (kept_readable bs b)

-- the kept bytes are no more than there were
pub kept_fit : (bs : List ℕ) → length (kept_bytes bs) ≤ length bs
kept_fit bs = Fates.length_selected_le (fates bs) bs

-- a trace of at most 8,192 bytes has a list of at most 12,224
pub list_fits : (bs : List ℕ) → length bs ≤ 8192 → length (list_bytes bs) ≤ 12224
list_fits bs h =
    let most = Size.near_fits (length bs) (omega arith) 0 (stretches bs) (omega arith) (stretches_apart bs) in
    omega arith
