-- Who bids for the processor by priority: no time-triggered task does.
--
--   Kinds c bs     of the bodies bs none is triggered and has still to begin, and none that is ready or started is
--                  time-triggered
--   trigger_plain  the level of a request is the priority of any other body
use Prim.Native.Nat.{ℕ, ◌<◌}
use mathlib.Core.Path.{◌≡◌, sym, ap, ◌∙◌}
use mathlib.Core.Bool.{Bool, true, false, cond, not, ◌&&◌}
use mathlib.Core.List.{List}
use borrow.Author.Tests.{lt-ltb}
use lib.Dec.{eqb}
use lib.ListN.{get_or}
use Rattle.config.specs.declared.Config.{Config}
use Rattle.config.specs.Meaning.{time_triggered, trigger_level, is_timed, priority_of}
use Rattle.plan.specs.Plan.{trigger_of}
use Rattle.scheduler.specs.Body.{Phase, suspended, ready, started, waiting, triggered, competes, Body}
use Rattle.machine.proofs.Relation.Words.{at}

-- it asks for the processor
abbrev pub is_bidding : Phase → Bool
is_bidding suspended = false
is_bidding ready = true
is_bidding started = true
is_bidding (waiting w) = false
is_bidding (triggered x) = not x

pub record Kinds (c : Config) (bs : List Body) : Type 0 where
  pub entered : (b : ℕ) → b < c.bodies → is_bidding (at bs b).phase ≡ true → competes (at bs b).phase ≡ true
  pub untimed : (b : ℕ) → b < c.bodies → competes (at bs b).phase ≡ true → is_timed c b ≡ false

module _ (c : Config) (b : ℕ) (b< : b < c.bodies) where
  kind_is : is_timed c b ≡ eqb (get_or c.kind b 0) time_triggered
  kind_is = ap (λ (x : Bool). x && eqb (get_or c.kind b 0) time_triggered) (lt-ltb b c.bodies b<)

  pub trigger_plain : is_timed c b ≡ false → trigger_of c b ≡ priority_of c b
  trigger_plain h = ap (λ (x : Bool). cond x trigger_level (priority_of c b)) (sym kind_is ∙ h)

  pub trigger_timed : is_timed c b ≡ true → trigger_of c b ≡ trigger_level
  trigger_timed h = ap (λ (x : Bool). cond x trigger_level (priority_of c b)) (sym kind_is ∙ h)
