-- Two states of the plain scheduler that are the same but for what waits below a level, and the invariant.
--
--   begun_part b        the body b without what waits to begin, and without its losses
--   SameState c L s s'  s and s' are "the same but for which bodies of priority at most L wait to begin and for those
--                       bodies' losses"
--   Sound c s           what every state satisfies that the fresh start leads to
--
-- Main laws: `isolation_states`, `sound_reached` (proofs/Theorems.antt).
use Rattle.std.specs.Prelude.{ℕ, ◌<◌, ◌≡◌, true, false, cond, ◌≢◌, ◌⊎◌, length}
use Rattle.config.specs.declared.Config.{Config}
use Rattle.config.specs.Meaning.{is_timed, priority_of}
use Rattle.scheduler.specs.Body.{Phase, suspended, ready, started, waiting, triggered, is_suspended, is_started, Body, holds, current}
use Rattle.scheduler.specs.State.{State, body_of, among, runner}
use Rattle.scheduler.specs.Scheduler.{begins}
use Rattle.isolation.specs.Above.{above}

-- a body that waits to begin looks suspended
abbrev pub begun_phase : Phase → Phase
begun_phase suspended = suspended
begun_phase ready = suspended
begun_phase started = started
begun_phase (waiting w) = waiting w
begun_phase (triggered x) = cond x (triggered true) suspended

-- The event bits of a suspended task do not count, since its activation clears them.
abbrev pub begun_part : Body → Body
begun_part b =
    record {
      phase = begun_phase b.phase;
      pending = false;
      held = b.held;
      losses = 0;
      bits = cond (is_suspended b.phase) 0 b.bits;
    }

pub record SameState (c : Config) (L : ℕ) (s s' : State) : Type 0 where
  pub size : length s.bodies ≡ length s'.bodies
  pub tables : s.tables ≡ s'.tables
  pub order : s.order ≡ s'.order
  -- a body above L is the same, and of every other what does not wait to begin
  pub high : (i : ℕ) → above c L i ≡ true → body_of s i ≡ body_of s' i
  pub low : (i : ℕ) → begun_part (body_of s i) ≡ begun_part (body_of s' i)

-- It needs no history: a state may satisfy it to which no events lead.
pub record Sound (c : Config) (s : State) : Type 0 where
  pub size : length s.bodies ≡ c.bodies
  pub holder_started : (i : ℕ) → holds (body_of s i).held ≡ true → is_started (body_of s i).phase ≡ true
  -- of two that hold resources one's current priority is below the other's own
  pub holders_apart : (i j : ℕ) → i < c.bodies → j < c.bodies → i ≢ j
      → holds (body_of s i).held ≡ true
      → holds (body_of s j).held ≡ true
      → (current c i (body_of s i) < priority_of c j) ⊎ (current c j (body_of s j) < priority_of c i)
  -- between events who is to run has begun
  pub nobody_left_to_begin : begins (runner c s) ≡ false
  -- the order is that of time-triggered tasks
  pub order_timed : (j : ℕ) → among j s.order ≡ true → is_timed c j ≡ true
