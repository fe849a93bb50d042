-- What holds after every list of events from the fresh start: the model stands for the state, so that what is seen of
-- the two is the same, and a Wait that does not go on is seen as a Finish.
use Prim.Native.Nat.{ℕ}
use mathlib.Core.Path.{◌≡◌, sym, ap, ◌∙◌}
use mathlib.Core.Bool.{false}
use mathlib.Core.List.{List}
use lib.ListN.{length}
use Rattle.config.specs.declared.Config.{Config}
use Rattle.config.specs.Accepted.{Accepted, Shaped}
use Rattle.plan.specs.Rank.{rank_of}
use Rattle.plan.specs.Plan.{plan_of}
use Rattle.scheduler.specs.Status.{done}
use Rattle.scheduler.specs.Bits.{any_set}
use Rattle.scheduler.specs.Tick.{dues}
use Rattle.scheduler.specs.Call.{calling}
use Rattle.scheduler.specs.Scheduler.{Event, Finish, Wait, Seen, step, step_by, fresh, seen, after}
use Rattle.machine.specs.Model.{Model}
use Rattle.machine.specs.Machine.{fresh_model, status_of, effect_of, else_of, observed, machine_seen, machine_after}
use Rattle.machine.proofs.Relation.Whole.{Sim}
use Rattle.machine.proofs.Change.Ticks.{dues_long}
use Rattle.machine.proofs.Event.Agrees.{Agrees, Keeps, keeps_of}
use Rattle.machine.proofs.Event.Bits as Bits
use Rattle.machine.proofs.Event.Waits as Waits
use Rattle.plan.proofs.Fitted.{fitted}
use Rattle.machine.proofs.Whole.Fresh.{fresh_sim}
use Rattle.machine.proofs.Whole.Lists.{event_agrees, agreement_from, after_sim}
use Rattle.machine.proofs.Event.Refusals.{status_is}

module _ (c : Config) (ok : Accepted c) (shaped : Shaped c) (es : List Event) where
  pub agreement : machine_seen c (plan_of c) (fresh_model (plan_of c)) es ≡ seen c (fresh c) es
  agreement = agreement_from (fitted c ok shaped) es (fresh_sim (fitted c ok shaped))

  pub sim : Sim c (plan_of c) (rank_of c) (machine_after c (plan_of c) (fresh_model (plan_of c)) es) (after c (fresh c) es)
  sim = after_sim (fitted c ok shaped) es (fresh_sim (fitted c ok shaped))

  pub keeps : Keeps c (after c (fresh c) es)
  keeps = keeps_of (fitted c ok shaped) sim.orderly

  pub long : length (dues c (after c (fresh c) es)) ≡ (plan_of c).count
  long = dues_long (fitted c ok shaped) (after c (fresh c) es) sim.cells.tables_long

  pub wait_as_finish : (w : ℕ) → (step c (after c (fresh c) es) (Wait w)).seen.status ≡ done
      → any_set (calling c (after c (fresh c) es)).bits w ≡ false
      → (step c (after c (fresh c) es) (Wait w)).seen ≡ (step c (after c (fresh c) es) Finish).seen
  unfolding step_by status_of effect_of else_of
  wait_as_finish w e unset =
      sym agrees.seen
      ∙ ap (observed c (plan_of c) m (Wait w))
      (Waits.as_finish (plan_of c).extended (plan_of c).priority m w
      (sym (status_is c (plan_of c) m (Wait w)) ∙ ap (λ (x : Seen). x.status) agrees.seen ∙ e)
      (rw (Bits.caller_bits (fitted c ok shaped) sim keeps long w e) unset))
      ∙ (event_agrees (fitted c ok shaped) Finish sim).seen
    where
      m : Model
      m = machine_after c (plan_of c) (fresh_model (plan_of c)) es

      agrees : Agrees c (plan_of c) (rank_of c) m (after c (fresh c) es) (Wait w)
      agrees = event_agrees (fitted c ok shaped) (Wait w) sim
