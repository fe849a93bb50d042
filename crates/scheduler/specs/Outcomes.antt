-- What an accepted event leaves, in the words of the state and of document 01's column "effect": who changes, how, and
-- that nobody else does. s is the state that the event meets, s' what it leaves before the dispatch, k the runner. A
-- Tick's due entries have laws of their own (`tick_suspended`, `tick_triggered`, `tick_active` of proofs/Theorems/Tables.antt),
-- and so have Wait, Set and Clear.
--
--   Alone t s s'  of the states s and s' no body but t, no table and no order differs
--   Outcomes c s  what each event leaves that meets the state s and is accepted
use Rattle.std.specs.Prelude.{ℕ, suc, ◌<◌, ◌≡◌, ◌≢◌, true, false, List, ◌∷◌, length}
use Rattle.config.specs.declared.Config.{Config}
use Rattle.scheduler.specs.Body.{suspended, ready, has_begun}
use Rattle.scheduler.specs.State.{State, Table, stopped, running, body_of, table_of}
use Rattle.scheduler.specs.Event.{Activate, Finish, Chain, Get, Release, Tick, Line, Start, Stop}
use Rattle.scheduler.specs.Call.{caller}
use Rattle.scheduler.specs.Scheduler.{leaves}
use Rattle.scheduler.specs.History.{AcceptedIn}

pub record Alone (t : ℕ) (s s' : State) : Type 0 where
  pub bodies_same : (b : ℕ) → b ≢ t → body_of s' b ≡ body_of s b
  pub tables_same : s'.tables ≡ s.tables
  pub order_same : s'.order ≡ s.order

-- Activate: "t ready"
pub record Activated (t : ℕ) (s s' : State) : Type 0 where
  pub ready_now : t < length s.bodies → (body_of s' t).phase ≡ ready
  pub alone : Alone t s s'

-- Finish: "the runner suspended, but ready if a request waits, which is then used up"; a time-triggered one leaves the
-- order
pub record Finished (k : ℕ) (s s' : State) : Type 0 where
  pub suspended_now : k < length s.bodies → (body_of s k).pending ≡ false → (body_of s' k).phase ≡ suspended
  pub ready_again : k < length s.bodies → (body_of s k).pending ≡ true → (body_of s' k).phase ≡ ready
  pub used_up : k < length s.bodies → (body_of s' k).pending ≡ false
  pub bodies_same : (b : ℕ) → b ≢ k → body_of s' b ≡ body_of s b
  pub tables_same : s'.tables ≡ s.tables
  pub order_left : (j : ℕ) (js : List ℕ) → s.order ≡ j ∷ js → s'.order ≡ js

-- Chain: "as Finish, then as Activate"
pub record Chained (k t : ℕ) (s s' : State) : Type 0 where
  pub ready_now : t < length s.bodies → (body_of s' t).phase ≡ ready
  pub suspended_now : k < length s.bodies → k ≢ t → (body_of s k).pending ≡ false → (body_of s' k).phase ≡ suspended
  pub bodies_same : (b : ℕ) → b ≢ k → b ≢ t → body_of s' b ≡ body_of s b
  pub tables_same : s'.tables ≡ s.tables
  pub order_same : s'.order ≡ s.order

-- Get: "r last in the runner's order"
pub record Taken (k r : ℕ) (s s' : State) : Type 0 where
  pub held_now : k < length s.bodies → (body_of s' k).held ≡ r ∷ (body_of s k).held
  pub phase_same : k < length s.bodies → (body_of s' k).phase ≡ (body_of s k).phase
  pub alone : Alone k s s'

-- Release: "r out"
pub record Released (k r : ℕ) (s s' : State) : Type 0 where
  pub held_now : k < length s.bodies → (rs : List ℕ) → (body_of s k).held ≡ r ∷ rs → (body_of s' k).held ≡ rs
  pub phase_same : k < length s.bodies → (body_of s' k).phase ≡ (body_of s k).phase
  pub alone : Alone k s s'

-- Tick: "n up by 1 for each table not stopped"
pub record Counted (s s' : State) : Type 0 where
  pub counts : (t d n : ℕ) → table_of s t ≡ running d n → table_of s' t ≡ running d (suc n)
  pub stands : (t : ℕ) → table_of s t ≡ stopped → table_of s' t ≡ stopped

-- Line: "i ready, or if started a request waits"
pub record Asked (i : ℕ) (s s' : State) : Type 0 where
  pub ready_now : i < length s.bodies → (body_of s i).phase ≡ suspended → (body_of s' i).phase ≡ ready
  pub waits_now : i < length s.bodies → has_begun (body_of s i).phase ≡ true → (body_of s' i).pending ≡ true
  pub phase_same : i < length s.bodies → has_begun (body_of s i).phase ≡ true
      → (body_of s' i).phase ≡ (body_of s i).phase
  pub alone : Alone i s s'

-- Start: "d kept, n = 0"; Stop: "stopped"
pub record TableSet (t : ℕ) (x : Table) (s s' : State) : Type 0 where
  pub table_now : t < length s.tables → table_of s' t ≡ x
  pub others_same : (u : ℕ) → u ≢ t → table_of s' u ≡ table_of s u
  pub bodies_same : s'.bodies ≡ s.bodies
  pub order_same : s'.order ≡ s.order

pub record Outcomes (c : Config) (s : State) : Type 0 where
  pub one_activate : (t : ℕ) → AcceptedIn c s (Activate t) → Activated t s (leaves c s (Activate t))
  pub two_finish : AcceptedIn c s Finish → Finished (caller c s) s (leaves c s Finish)
  pub three_chain : (t : ℕ) → AcceptedIn c s (Chain t) → Chained (caller c s) t s (leaves c s (Chain t))
  pub four_get : (r : ℕ) → AcceptedIn c s (Get r) → Taken (caller c s) r s (leaves c s (Get r))
  pub five_release : (r : ℕ) → AcceptedIn c s (Release r) → Released (caller c s) r s (leaves c s (Release r))
  pub six_tick : Counted s (leaves c s Tick)
  pub seven_line : (i : ℕ) → AcceptedIn c s (Line i) → Asked i s (leaves c s (Line i))
  pub eight_start : (t d : ℕ) → AcceptedIn c s (Start t d) → TableSet t (running d 0) s (leaves c s (Start t d))
  pub nine_stop : (t : ℕ) → AcceptedIn c s (Stop t) → TableSet t stopped s (leaves c s (Stop t))
