-- Demand 3. Take any accepted configuration and any list of events: Activate, Finish, Chain, Get, Release, Tick, Line,
-- Start, Stop, Wait, Set and Clear in any order, refused ones included, without limit. Put it through the machine, from
-- its fresh start, where each event gets the model that the one before it handed back; and put it through the plain
-- scheduler, which has no request word or cell. What is seen of the two is the same list: for every event the status,
-- the running body, the level and the begun mark, every body's losses, and for every entry whether its cell matched
-- (machine) or whether it is due by the table's arithmetic (scheduler).
--
--   event_agrees  one event
--   agreement_from a list of events, from any model that stands for a state; after_sim: what it leaves
use Prim.Native.Nat.{ℕ}
use mathlib.Core.Path.{◌≡◌, refl, ap₂}
use mathlib.Core.List.{List, [], ◌∷◌}
use lib.ListN.{length}
use Rattle.config.specs.declared.Config.{Config}
use Rattle.plan.specs.declared.Plan.{Plan}
use Rattle.scheduler.specs.State.{State}
use Rattle.scheduler.specs.Tick.{dues}
use Rattle.scheduler.specs.Scheduler.{Event, Activate, Finish, Chain, Get, Release, Tick, Line, Start, Stop, Wait, Set, Clear, Seen, seen, seen_by, after, after_by}
use Rattle.machine.specs.Model.{Model}
use Rattle.machine.specs.Machine.{machine_seen, machine_after}
use Rattle.plan.proofs.Fitted.{Fitted}
use Rattle.machine.proofs.Relation.Whole.{Sim}
use Rattle.machine.proofs.Change.Ticks.{dues_long}
use Rattle.machine.proofs.Event.Agrees.{Agrees, Keeps, keeps_of}
use Rattle.machine.proofs.Event.Bodies.{agrees_activate, agrees_line, agrees_finish, agrees_chain}
use Rattle.machine.proofs.Event.Resources.{agrees_get, agrees_release}
use Rattle.machine.proofs.Event.Tick.{agrees_tick}
use Rattle.machine.proofs.Event.Tables.{agrees_start, agrees_stop}
use Rattle.machine.proofs.Event.Bits.{agrees_wait, agrees_set, agrees_clear}

module _ {c : Config} {p : Plan} {rk : ℕ → ℕ} (fit : Fitted c p rk) where
  pub event_agrees : {m : Model} {s : State} (e : Event) → Sim c p rk m s → Agrees c p rk m s e
  event_agrees {m} {s} e sim = by e (dues_long fit s sim.cells.tables_long)
    where
      keeps : Keeps c s
      keeps = keeps_of fit sim.orderly

      by : (e : Event) → length (dues c s) ≡ p.count → Agrees c p rk m s e
      by (Activate t) long = agrees_activate fit sim keeps long t
      by Finish long = agrees_finish fit sim keeps long
      by (Chain t) long = agrees_chain fit sim keeps long t
      by (Get r) long = agrees_get fit sim keeps long r
      by (Release r) long = agrees_release fit sim keeps long r
      by Tick long = agrees_tick fit sim keeps
      by (Line i) long = agrees_line fit sim keeps long i
      by (Start t d) long = agrees_start fit sim keeps long t d
      by (Stop t) long = agrees_stop fit sim keeps long t
      by (Wait w) long = agrees_wait fit sim keeps long w
      by (Set t w) long = agrees_set fit sim keeps long t w
      by (Clear w) long = agrees_clear fit sim keeps long w

  pub agreement_from : (es : List Event) {m : Model} {s : State} → Sim c p rk m s → machine_seen c p m es ≡ seen c s es
  unfolding machine_seen seen_by
  agreement_from [] sim = refl
  agreement_from (e ∷ es) sim =
      let a = event_agrees e sim in
      ap₂ (λ (x : Seen) (xs : List Seen). x ∷ xs) a.seen (agreement_from es a.sim)

  -- after every list of events the model stands for the state
  pub after_sim : (es : List Event) {m : Model} {s : State} → Sim c p rk m s
      → Sim c p rk (machine_after c p m es) (after c s es)
  unfolding machine_after after_by
  after_sim [] sim = sim
  after_sim (e ∷ es) sim = after_sim es (event_agrees e sim).sim
