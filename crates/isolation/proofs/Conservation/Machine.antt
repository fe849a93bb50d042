-- Conservation of the machine, by demand 3's relation: `machine_conservation`, at the end of the file.
--
-- A model shows who runs by what is seen of a Stop, which changes neither who runs nor the level.
use Prim.Native.Nat.{ℕ, ◌+◌, ◌<◌}
use mathlib.Core.Path.{◌≡◌, refl, sym, ap, ◌∙◌}
use mathlib.Core.List.{List}
use lib.Dec.{eqb}
use Rattle.number.proofs.Cases.{cond_either}
use Rattle.config.specs.declared.Config.{Config}
use Rattle.config.specs.Accepted as Configuration
use Rattle.word.specs.Word.{has}
use Rattle.plan.specs.Rank.{rank_of}
use Rattle.plan.specs.Plan.{plan_of}
use Rattle.plan.proofs.Fitted.{fitted}
use Rattle.scheduler.specs.Status.{done}
use Rattle.scheduler.specs.Choice.{Candidate}
use Rattle.scheduler.specs.State.{State, runner}
use Rattle.scheduler.specs.Event.{Event, Stop}
use Rattle.scheduler.specs.Call.{stop, status_of}
use Rattle.scheduler.specs.Scheduler.{Seen, mark_of, leaves, step_by}
use Rattle.machine.specs.Model.{Core, Model, Outcome, with_core}
use Rattle.machine.specs.Machine.{fresh_model, effect_of, else_of, machine_step, runner_of, machine_seen}
use Rattle.machine.specs.Machine as Machine
use Rattle.machine.proofs.Relation.Whole.{Sim}
use Rattle.machine.proofs.Whole.Fresh.{fresh_sim}
use Rattle.machine.proofs.Whole.Lists.{event_agrees, after_sim}
use Rattle.machine.proofs.Theorems.{agreement, reached}
use Rattle.isolation.specs.Requests.{requests, marks, autostarted}
use Rattle.isolation.proofs.Conservation.Lists.{conservation}

module _ (c : Config) (ok : Configuration.Accepted c) (shaped : Configuration.Shaped c) where
  module _ {m : Model} {s : State} (sim : Sim c (plan_of c) (rank_of c) m s) where
    stop_runner : runner c (leaves c s (Stop 0)) ≡ runner c s
    stop_runner =
        cond_either (λ (x : State). runner c x ≡ runner c s) (eqb (status_of c s (Stop 0)) done) (stop 0 s) s refl refl

    stop_core : (machine_step c (plan_of c) m (Stop 0)).model.core ≡ m.core
    unfolding effect_of else_of
    stop_core =
        cond_either (λ (o : Outcome). o.model.core ≡ m.core)
        (eqb (Machine.status_of c (plan_of c) m (Stop 0)) done) _ _
        refl
        refl

    runner_stands : runner_of (plan_of c) m ≡ (runner c s).number
    unfolding step_by
    runner_stands =
        ap (λ (k : Core). runner_of (plan_of c) (with_core m k)) (sym stop_core)
        ∙ ap (λ (x : Seen). x.runner) (event_agrees (fitted c ok shaped) (Stop 0) sim).seen
        ∙ ap (λ (k : Candidate). k.number) stop_runner

  pub machine_conservation : (es : List Event) (b : ℕ) → b < c.bodies
      → autostarted c b
      + requests c b (runner_of (plan_of c) (fresh_model (plan_of c))) (autostarted c b) es
      (machine_seen c (plan_of c) (fresh_model (plan_of c)) es)
      ≡ mark_of (eqb (runner_of (plan_of c) (fresh_model (plan_of c))) b)
      + marks b (machine_seen c (plan_of c) (fresh_model (plan_of c)) es)
      + mark_of (has (reached c es).core.request (rank_of c b))
  machine_conservation es b fits =
      let start = fresh_sim (fitted c ok shaped) in
      let now = after_sim (fitted c ok shaped) es start in
      rw (agreement c ok shaped es, runner_stands start, now.tied.words.asks b fits)
      (conservation c ok shaped es b fits)
