-- The lengths of both outputs, counted on a walk: what is counted so far and what is left to write make up the whole.
use Prim.Native.Nat.{ℕ, ◌+◌, ◌-◌, ◌≤◌, ◌<◌}
use mathlib.Core.Path.{◌≡◌, ap, ◌∙◌}
use mathlib.Core.List.{List}
use native.Mathlib.Omega.{arith}
use native.Mathlib.Nat.{zero-add}
use lib.ListN.{length, drop, length-append}
use Rattle.event.specs.Trace.{max_trace}
use Rattle.recording.specs.Fate.{belonging, kept_bytes}
use Rattle.recording.specs.Stretch.{list_bytes}
use Rattle.recording.proofs.Theorems.{kept_fit, list_fits}
use Rattle.salvage.specs.declared.Lengths.{Lengths}
use Rattle.salvage.specs.Salvage.{lengths}
use Rattle.salvage.proofs.Step.{events_left, list_left, gap_bytes, events_kept, events_dropped, list_kept, list_dropped, events_end, list_end}

pub record Counts (bs : List ℕ) (at left gap events stretches : ℕ) : Type 0 where
  pub at_le : at ≤ length bs
  pub gap_le : gap ≤ at
  pub events_left_lem : events + length (events_left bs at left) ≡ length (kept_bytes bs)
  pub stretches_left : stretches + length (list_left bs at left gap) ≡ length (list_bytes bs)

pub counts_start : (bs : List ℕ) → Counts bs 0 0 0 0 0
counts_start bs =
    record { at_le = omega arith; gap_le = omega arith; events_left_lem = zero-add _; stretches_left = zero-add _ }

module _ {bs : List ℕ} {at left gap events stretches : ℕ} (p : Counts bs at left gap events stretches) where
  -- neither length is large
  pub few_events : events ≤ length bs
  few_events = omega (arith, p.events_left_lem, kept_fit bs)

  pub few_stretches : length bs ≤ max_trace → stretches ≤ 12224
  few_stretches h = omega (arith, p.stretches_left, list_fits bs h)

  module _ {here : ℕ} (within : at < length bs) (same : here ≡ belonging left (drop at bs)) where
    pub counts_dropped : here ≡ 0 → Counts bs (at + 1) left (gap + 1) events stretches
    counts_dropped z =
        record {
          at_le = omega arith;
          gap_le = omega (arith, p.gap_le);
          events_left_lem = rw (events_dropped bs at left here within same z) at p.events_left_lem;
          stretches_left = rw (list_dropped bs at left here within same gap p.gap_le z) at p.stretches_left;
        }

    pub counts_kept : (here ≡ 0 → ⊥)
        → Counts bs (at + 1) (here - 1) 0 (events + 1) (stretches + length (gap_bytes at gap))
    counts_kept n =
        record {
          at_le = omega arith;
          gap_le = omega arith;
          events_left_lem = omega (arith, p.events_left_lem, ap length (events_kept bs at left here within same n));
          stretches_left =
              omega (
                arith,
                p.stretches_left,
                ap length (list_kept bs at left here within same gap p.gap_le n),
                length-append (gap_bytes at gap) (list_left bs (at + 1) (here - 1) 0),
              );
        }

  pub counts_end : length bs ≤ at
      → record { events = events; stretches = stretches + length (gap_bytes (length bs) gap) } ≡ lengths bs
  counts_end past i = record { events = (whole_events ∙ p.events_left_lem) i; stretches = whole_list i }
    where
      whole_events : events ≡ events + length (events_left bs at left)
      whole_events = omega (arith, ap length (events_end bs at left past))

      whole_list : stretches + length (gap_bytes (length bs) gap) ≡ length (list_bytes bs)
      whole_list = rw (list_end bs at left past gap p.at_le) at p.stretches_left

  pub last_few : length bs ≤ at → length bs ≤ max_trace → stretches + length (gap_bytes (length bs) gap) ≤ 12224
  last_few past h = omega (arith, ap (λ (n : Lengths). n.stretches) (counts_end past), list_fits bs h)
