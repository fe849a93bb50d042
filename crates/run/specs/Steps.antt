-- The run by the machine's steps: "the run makes these same steps".
--
--   machine_answers c p es  the machine's own answers, event by event, and then its losses
--   machine_output cs ts d  what the run leaves in the slice d, by them
--   last_model cs ts n      the model after the run's last event, where n bytes are lent
use Rattle.std.specs.Prelude.{ℕ, cond, List, ◌++◌, leb, length}
use Rattle.number.specs.Output.{written}
use Rattle.config.specs.declared.Config.{Config}
use Rattle.plan.specs.declared.Plan.{Plan}
use Rattle.plan.specs.Plan.{plan_of}
use Rattle.scheduler.specs.Scheduler.{Event}
use Rattle.machine.specs.Model.{Model}
use Rattle.machine.specs.Machine.{unstarted, fresh_model, losses_of, machine_seen, machine_after}
use Rattle.run.specs.Run.{Input, refused, played, read_run, answer_bytes, loss_bytes, answers}

unfoldable pub machine_answers : Config → Plan → List Event → List ℕ
machine_answers c p es =
    answer_bytes (machine_seen c p (fresh_model p) es) ++ loss_bytes (losses_of c p (machine_after c p (fresh_model p) es))

-- the same of an input that has been read
unfoldable pub machine_output_of : List ℕ → Input → List ℕ
machine_output_of d (refused r p) = d
machine_output_of d (played c es) = written (machine_answers c (plan_of c) es) d

abbrev pub machine_output : List ℕ → List ℕ → List ℕ → List ℕ
machine_output cs ts d = machine_output_of d (read_run cs ts)

-- "The first gets the fresh start's model, every later one the model that the event before it returned"; a refused run
-- plays no event and hands over a model in which nobody is ready
unfoldable pub last_model_of : ℕ → Input → Model
last_model_of n (refused r p) = unstarted 0
last_model_of n (played c es) =
    cond (leb (length (answers c es)) n) (machine_after c (plan_of c) (fresh_model (plan_of c)) es) (unstarted 0)

abbrev pub last_model : List ℕ → List ℕ → ℕ → Model
last_model cs ts n = last_model_of n (read_run cs ts)
