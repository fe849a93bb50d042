-- What holds of every draw (document 02, A1). Each law stands here in full, over specs/ alone; the modules it cites
-- prove it.
--
-- In order: the generator; which values pick a code; the drawn events; the trace of them.
use Prim.Native.Nat.{ℕ, ◌+◌, ◌-◌, ◌*◌, ◌≤◌, ◌<◌}
use mathlib.Core.Path.{◌≡◌}
use mathlib.Core.List.{List, ◌++◌}
use native.Mathlib.Omega.{arith}
use lib.ListN.{length, get_or}
use Rattle.number.specs.Refusal.{none}
use Rattle.event.specs.Event.{Writable}
use Rattle.event.specs.Trace.{read_trace, AllWritable}
use Rattle.event.proofs.Theorems.{trace_read_written}
use Rattle.drawing.specs.Xorshift.{value_bound, next}
use Rattle.drawing.specs.Weights.{weight, total, running_sum, picked}
use Rattle.drawing.specs.Drawing.{first_sort, second_sort, draw_event, draw_events, value_after, draw_bytes, Within, Each, Limited}
use Rattle.drawing.proofs.Generator as Generator
use Rattle.drawing.proofs.Shares as Shares
use Rattle.drawing.proofs.Reach as Reach
use Rattle.drawing.proofs.Events as Events

-- the generator never leaves 1 to 4,294,967,295
pub next_range : (x : ℕ) → 1 ≤ x → x < 4294967296 → (1 ≤ next x) × (next x < 4294967296)
next_range x p h = (Generator.next_positive x p h, Generator.next_lt x h)

-- no two values have the same next one
pub next_injective : (x y : ℕ) → x < 4294967296 → y < 4294967296 → next x ≡ next y → x ≡ y
next_injective = Generator.next_injective

-- and each value is the next one of another
pub next_onto : (y : ℕ) → 1 ≤ y → y < 4294967296 → (x : ℕ) × (1 ≤ x) × (x < 4294967296) × (next x ≡ y)
next_onto y p h =
    (Generator.previous y, Generator.previous_positive y p h, Generator.previous_lt y h, Generator.next_previous y h)

-- every value picks one of the codes 1 to 12
pub picked_range : (ws : List ℕ) (v : ℕ) → (1 ≤ picked ws v) × (picked ws v ≤ 12)
picked_range = Shares.picked_range

-- "the first code whose running sum exceeds it": those of the codes before do not
pub picked_first : (ws : List ℕ) (v : ℕ) → v < total ws
    → (v < running_sum ws (picked ws v)) × ((c : ℕ) → c < picked ws v → running_sum ws c ≤ v)
picked_first = Shares.picked_first

-- so a code's share are the values from the running sum before it up to its own, as many as its weight
pub picked_exactly : (ws : List ℕ) (v c : ℕ) → 1 ≤ c → c ≤ 12 → running_sum ws (c - 1) ≤ v → v < running_sum ws c
    → picked ws v ≡ c
picked_exactly = Shares.picked_exactly

pub share_size : (ws : List ℕ) (c : ℕ) → 1 ≤ c → running_sum ws c ≡ running_sum ws (c - 1) + weight ws c
share_size = Shares.share_size

-- sums of 16-bit weights stay below 32 bits
pub total_fits : (ws : List ℕ) → ((i : ℕ) → get_or ws i 0 < 65536) → total ws ≤ 786420
total_fits ws small = Shares.sum_le ws small 12

-- every code whose weight is not 0 is drawn after some value of the generator
pub each_code_drawn : (ws ls : List ℕ) (c : ℕ) → ((i : ℕ) → get_or ws i 0 < 65536) → 1 ≤ c → c ≤ 12 → 1 ≤ weight ws c
    → (x : ℕ) × (1 ≤ x) × (x < 4294967296) × ((draw_event ws ls x).event.code ≡ c)
each_code_drawn = Reach.code_drawn

-- "exactly as many events as asked"
pub drawn_length : (ws ls : List ℕ) (x n : ℕ) → length (draw_events ws ls x n) ≡ n
drawn_length ws ls x n = Events.length_drawn ws ls n x

module _ (ws ls : List ℕ) (x : ℕ) (in_range : x < value_bound) (n : ℕ) where
  -- each of them can be written
  pub drawn_writable : AllWritable (draw_events ws ls x n)
  drawn_writable =
      Events.each_writable (draw_events ws ls x n)
      (Events.each_drawn ws ls Writable (Events.event_writable ws ls) n x in_range)

  -- "The trace is always readable": it reads back as these events, and nothing is left over
  pub drawn_readable : read_trace (draw_bytes ws ls x n)
      ≡ record { events = draw_events ws ls x n; refusal = none; place = length (draw_bytes ws ls x n) }
  drawn_readable = trace_read_written (draw_events ws ls x n) drawn_writable

  -- "an event whose weight is 0 never occurs"
  pub weight_zero_never : 1 ≤ total ws → Each (λ e. 1 ≤ weight ws e.code) (draw_events ws ls x n)
  weight_zero_never some =
      Events.each_drawn ws ls (λ e. 1 ≤ weight ws e.code) (λ y h. Events.event_weight ws ls y h some) n x in_range

  -- every argument is below the limit of its sort; one that the event lacks is 0
  pub arguments_below : Limited ls
      → Each (λ e. Within ls (first_sort e.code) e.first × Within ls (second_sort e.code) e.second)
      (draw_events ws ls x n)
  arguments_below limited =
      Events.each_drawn ws ls
      (λ e. Within ls (first_sort e.code) e.first × Within ls (second_sort e.code) e.second)
      (λ y h. Events.event_within ws ls y h limited) n x in_range

-- drawn on: n events and then m more from the value that was reached are n + m
pub drawn_on : (ws ls : List ℕ) (x n m : ℕ)
    → draw_events ws ls x (n + m) ≡ draw_events ws ls x n ++ draw_events ws ls (value_after ws ls x n) m
drawn_on ws ls x n m = Events.drawn_append ws ls n m x

-- n events take n to 15 n bytes
pub drawn_size : (ws ls : List ℕ) (x n : ℕ)
    → (n ≤ length (draw_bytes ws ls x n)) × (length (draw_bytes ws ls x n) ≤ 15 * n)
drawn_size ws ls x n =
    let s = Events.trace_size (draw_events ws ls x n) in
    let e = drawn_length ws ls x n in
    (omega arith, omega arith)
