-- The twelve events, with their arguments.
use Rattle.std.specs.Prelude.{ℕ, Bool, true, false}

-- t: a task or a schedule table; r: a resource; i: an ISR; d: a delay; w: a mask of event bits.
pub data Event : Type 0 where
  Activate : (t : ℕ) → Event
  Finish : Event
  Chain : (t : ℕ) → Event
  Get : (r : ℕ) → Event
  Release : (r : ℕ) → Event
  Tick : Event
  Line : (i : ℕ) → Event
  Start : (t d : ℕ) → Event
  Stop : (t : ℕ) → Event
  Wait : (w : ℕ) → Event
  Set : (t w : ℕ) → Event
  Clear : (w : ℕ) → Event

-- time passes at a Tick alone
abbrev pub is_tick : Event → Bool
is_tick (Activate t) = false
is_tick Finish = false
is_tick (Chain t) = false
is_tick (Get r) = false
is_tick (Release r) = false
is_tick Tick = true
is_tick (Line i) = false
is_tick (Start t d) = false
is_tick (Stop t) = false
is_tick (Wait w) = false
is_tick (Set t w) = false
is_tick (Clear w) = false
