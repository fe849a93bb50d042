-- A walk over a recording: what is left to write at a place, and what one step takes of it.
--
-- In order: how many bytes belong to an event; what becomes of the byte at a place; what is left of both outputs, after
-- a byte of each fate and at the end.
--
-- bs: the recording; at: the place; left: how many bytes of an event that began before are still to come; gap: how many
-- bytes before the place are dropped and not yet listed; here: how many bytes from the place on belong to an event.
use Prim.Native.Nat.{ℕ, zero, suc, ◌+◌, ◌-◌, ◌≤◌, ◌<◌}
use mathlib.Core.Path.{◌≡◌, refl, sym, ap, ◌∙◌}
use mathlib.Core.List.{List, [], ◌∷◌, ◌++◌, append_assoc, append-nil}
use native.Mathlib.Omega.{arith}
use native.Mathlib.Numerals.{add-one}
use lib.ListN.{length, drop, get_or, drop_of_length-le}
use lib.Seq.{drop-cons}
use Rattle.number.specs.Refusal.{none}
use Rattle.number.specs.Number.{Bytes, number_bytes}
use Rattle.event.specs.Event.{EventRead, read_event}
use Rattle.event.proofs.Theorems.{event_reading}
use Rattle.recording.specs.Fate.{kept, dropped, covered, belonging, fate_of, fates_from, selected}
use Rattle.recording.specs.Stretch.{Stretch, closed, stretches_from, stretch_bytes}
use Rattle.recording.proofs.Theorems.{covered_at, uncovered_at}

pub belonging_left : (left : ℕ) (bs : List ℕ) → (left ≡ 0 → ⊥) → left ≡ belonging left bs
unfolding belonging
belonging_left zero bs n = absurd (n refl)
belonging_left (suc left) bs n = refl

belonging_begins : (left : ℕ) (bs : List ℕ) → left ≡ 0 → belonging left bs ≡ covered bs
unfolding belonging
belonging_begins zero bs z = refl
belonging_begins (suc left) bs z = absurd (omega arith)

-- what a reading at a place tells, where no event goes on
module _ (bs : List ℕ) (at left : ℕ) (b : Bytes bs) (z : left ≡ 0) (r : EventRead) (read : r ≡ read_event bs at) where
  pub belonging_read : r.refusal ≡ none → r.place - at ≡ belonging left (drop at bs)
  belonging_read h = rw read (sym (belonging_begins left (drop at bs) z ∙ covered_at bs at b (rw read at h)))

  pub belonging_refused : (r.refusal ≡ none → ⊥) → 0 ≡ belonging left (drop at bs)
  belonging_refused n = sym (belonging_begins left (drop at bs) z ∙ uncovered_at bs at b (rw read at n))

  pub place_later : r.refusal ≡ none → at ≤ r.place
  place_later h = let later = (event_reading bs at).after (rw read at h) in rw read (omega arith)

belonging_none : (left : ℕ) (bs : List ℕ) → belonging left bs ≡ 0 → left ≡ 0
unfolding belonging
belonging_none zero bs z = refl
belonging_none (suc left) bs z = z

fate_kept : (here : ℕ) → (here ≡ 0 → ⊥) → fate_of here ≡ kept
unfolding fate_of
fate_kept zero n = absurd (n refl)
fate_kept (suc here) n = refl

-- a stretch that is closed stands before those after it
closed_bytes : (from n : ℕ) (ss : List Stretch)
    → stretch_bytes (closed from n ss) ≡ stretch_bytes (closed from n []) ++ stretch_bytes ss
unfolding closed stretch_bytes
closed_bytes from zero ss = refl
closed_bytes from (suc n) ss = simp append_assoc

pub closed_none : (from n : ℕ) → n ≡ 0 → stretch_bytes (closed from n []) ≡ []
unfolding closed stretch_bytes
closed_none from zero z = refl
closed_none from (suc n) z = absurd (omega arith)

pub closed_some : (from n : ℕ) → (n ≡ 0 → ⊥) → stretch_bytes (closed from n []) ≡ number_bytes from ++ number_bytes n
unfolding closed stretch_bytes
closed_some from zero s = absurd (s refl)
closed_some from (suc n) s = rw append-nil

-- the events that are left to write, and the list of stretches
abbrev pub events_left : List ℕ → ℕ → ℕ → List ℕ
events_left bs at left = selected (fates_from left (drop at bs)) (drop at bs)

abbrev pub list_left : List ℕ → ℕ → ℕ → ℕ → List ℕ
list_left bs at left gap = stretch_bytes (stretches_from (at - gap) gap (fates_from left (drop at bs)))

-- the stretch before a place
abbrev pub gap_bytes : ℕ → ℕ → List ℕ
gap_bytes at gap = stretch_bytes (closed (at - gap) gap [])

fates_first : (left x : ℕ) (xs : List ℕ) (here : ℕ) → here ≡ belonging left (x ∷ xs)
    → fates_from left (x ∷ xs) ≡ fate_of here ∷ fates_from (here - 1) xs
unfolding fates_from
fates_first left x xs here e = rw e

module _ (bs : List ℕ) (at left here : ℕ) (within : at < length bs) (same : here ≡ belonging left (drop at bs)) where
  byte : drop at bs ≡ get_or bs at 0 ∷ drop (at + 1) bs
  byte = rw add-one (drop-cons bs at 0 within)

  step : fates_from left (drop at bs) ≡ fate_of here ∷ fates_from (here - 1) (drop (at + 1) bs)
  step =
      ap (fates_from left) byte ∙ fates_first left (get_or bs at 0) (drop (at + 1) bs) here
      (same ∙ ap (belonging left) byte)

  step_kept : (here ≡ 0 → ⊥) → fates_from left (drop at bs) ≡ kept ∷ fates_from (here - 1) (drop (at + 1) bs)
  step_kept n = step ∙ rw (fate_kept here n)

  step_dropped : here ≡ 0 → fates_from left (drop at bs) ≡ dropped ∷ fates_from left (drop (at + 1) bs)
  unfolding fate_of
  step_dropped z = step ∙ rw (z, belonging_none left (drop at bs) (sym same ∙ z))

  pub events_kept : (here ≡ 0 → ⊥) → events_left bs at left ≡ get_or bs at 0 ∷ events_left bs (at + 1) (here - 1)
  unfolding selected
  events_kept n = rw (step_kept n, byte)

  pub events_dropped : here ≡ 0 → events_left bs at left ≡ events_left bs (at + 1) left
  unfolding selected
  events_dropped z = rw (step_dropped z, byte)

  module _ (gap : ℕ) (few : gap ≤ at) where
    pub list_kept : (here ≡ 0 → ⊥) → list_left bs at left gap ≡ gap_bytes at gap ++ list_left bs (at + 1) (here - 1) 0
    unfolding stretches_from
    list_kept n = rw (step_kept n) (closed_bytes (at - gap) gap _ ∙ rw (next at gap few))
      where
        next : (a g : ℕ) → g ≤ a → suc (a - g + g) ≡ a + 1 - 0
        next a g h = omega arith

    pub list_dropped : here ≡ 0 → list_left bs at left gap ≡ list_left bs (at + 1) left (gap + 1)
    unfolding stretches_from
    list_dropped z = rw (step_dropped z, add-one gap, same_start at gap few)
      where
        same_start : (a g : ℕ) → g ≤ a → a + 1 - suc g ≡ a - g
        same_start a g h = omega arith

-- at the end nothing is left but the stretch before it
module _ (bs : List ℕ) (at left : ℕ) (past : length bs ≤ at) where
  pub events_end : events_left bs at left ≡ []
  unfolding selected fates_from
  events_end = rw (drop_of_length-le bs past)

  pub list_end : (gap : ℕ) → at ≤ length bs → list_left bs at left gap ≡ gap_bytes (length bs) gap
  unfolding stretches_from fates_from
  list_end gap within = rw (drop_of_length-le bs past) (ap (λ (n : ℕ). gap_bytes n gap) (omega arith))
