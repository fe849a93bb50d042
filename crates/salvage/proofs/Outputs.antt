-- Both outputs, written on a walk: what stands in each, and what is left to write.
use Prim.Native.Nat.{ℕ, ◌+◌, ◌-◌, ◌≤◌, ◌<◌}
use mathlib.Core.Path.{◌≡◌}
use mathlib.Core.List.{List, [], ◌∷◌, ◌++◌, append-nil}
use native.Mathlib.Omega.{arith}
use lib.ListN.{length, drop, get_or, set}
use Rattle.number.specs.Output.{written, laid}
use Rattle.recording.specs.Fate.{belonging, kept_bytes}
use Rattle.recording.specs.Stretch.{list_bytes}
use Rattle.salvage.proofs.Step.{events_left, list_left, gap_bytes, events_kept, events_dropped, list_kept, list_dropped, events_end, list_end}
use Rattle.salvage.proofs.Progress.{Progress, progress_start, progress_more, progress_room, progress_end, laid_byte}

-- the kept bytes before the place at are written
pub record EventsOn (bs d : List ℕ) (at left n : ℕ) (out : List ℕ) : Type 0 where
  pub at_le : at ≤ length bs
  pub progress : Progress (kept_bytes bs) d n out (events_left bs at left)

pub events_start : (bs d : List ℕ) → length (kept_bytes bs) ≤ length d → EventsOn bs d 0 0 0 d
events_start bs d room = record { at_le = omega arith; progress = progress_start (kept_bytes bs) d room }

module _ {bs d : List ℕ} {at left n : ℕ} {out : List ℕ} (p : EventsOn bs d at left n out) where
  module _ {here : ℕ} (within : at < length bs) (same : here ≡ belonging left (drop at bs)) where
    pub events_step_dropped : here ≡ 0 → EventsOn bs d (at + 1) left n out
    events_step_dropped z =
        record { at_le = omega arith; progress = rw (events_dropped bs at left here within same z) at p.progress }

    -- the byte at the place is the next one to write
    next : (here ≡ 0 → ⊥) → Progress (kept_bytes bs) d n out ((get_or bs at 0 ∷ []) ++ events_left bs (at + 1) (here - 1))
    next some = rw (events_kept bs at left here within same some) at p.progress

    pub events_room : (here ≡ 0 → ⊥) → n < length out
    events_room some = omega (arith, progress_room (get_or bs at 0 ∷ []) _ (next some))

    pub events_step_kept : (here ≡ 0 → ⊥) → EventsOn bs d (at + 1) (here - 1) (n + 1) (set out n (get_or bs at 0))
    events_step_kept some =
        record {
          at_le = omega arith;
          progress =
              rw (laid_byte n (get_or bs at 0) out (events_room some))
              (progress_more (get_or bs at 0 ∷ []) _ (next some));
        }

  pub events_written : length bs ≤ at → out ≡ written (kept_bytes bs) d
  events_written past = progress_end (rw (events_end bs at left past) at p.progress)

-- the stretches that ended before the place at are written
pub record ListOn (bs d : List ℕ) (at left gap n : ℕ) (out : List ℕ) : Type 0 where
  pub at_le : at ≤ length bs
  pub gap_le : gap ≤ at
  pub progress : Progress (list_bytes bs) d n out (list_left bs at left gap)

pub list_start : (bs d : List ℕ) → length (list_bytes bs) ≤ length d → ListOn bs d 0 0 0 0 d
list_start bs d room =
    record { at_le = omega arith; gap_le = omega arith; progress = progress_start (list_bytes bs) d room }

module _ {bs d : List ℕ} {at left gap n : ℕ} {out : List ℕ} (p : ListOn bs d at left gap n out) where
  module _ {here : ℕ} (within : at < length bs) (same : here ≡ belonging left (drop at bs)) where
    pub list_step_dropped : here ≡ 0 → ListOn bs d (at + 1) left (gap + 1) n out
    list_step_dropped z =
        record {
          at_le = omega arith;
          gap_le = omega (arith, p.gap_le);
          progress = rw (list_dropped bs at left here within same gap p.gap_le z) at p.progress;
        }

    -- the stretch that ends at the place is the next one to write
    ending : (here ≡ 0 → ⊥) → Progress (list_bytes bs) d n out (gap_bytes at gap ++ list_left bs (at + 1) (here - 1) 0)
    ending some = rw (list_kept bs at left here within same gap p.gap_le some) at p.progress

    pub list_room_lem : (here ≡ 0 → ⊥) → n + length (gap_bytes at gap) ≤ length out
    list_room_lem some = progress_room (gap_bytes at gap) _ (ending some)

    pub list_step_kept : (here ≡ 0 → ⊥)
        → ListOn bs d (at + 1) (here - 1) 0 (n + length (gap_bytes at gap)) (laid n (gap_bytes at gap) out)
    list_step_kept some =
        record {
          at_le = omega arith;
          gap_le = omega arith;
          progress = progress_more (gap_bytes at gap) _ (ending some);
        }

  -- the stretch that ends with the recording is the last
  last : length bs ≤ at → Progress (list_bytes bs) d n out (gap_bytes (length bs) gap ++ [])
  last past = rw append-nil (rw (list_end bs at left past gap p.at_le) at p.progress)

  pub list_last_room : length bs ≤ at → n + length (gap_bytes (length bs) gap) ≤ length out
  list_last_room past = progress_room (gap_bytes (length bs) gap) [] (last past)

  pub list_written : length bs ≤ at → laid n (gap_bytes (length bs) gap) out ≡ written (list_bytes bs) d
  list_written past =
      progress_end (progress_more (gap_bytes (length bs) gap) [] (last past))
