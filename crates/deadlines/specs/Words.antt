-- The same by the machine: its words before and after an event tell who is active, and so who ended and who became ready.
--
--   active_at m r             in the model m the body with rank r isn't suspended
--   chains_by p m e o b       the event e, which met m and handed o back, is an accepted Chain of b to itself
--   ends_by, ready_by         that event ended b, made b ready
--   machine_misses c p ds es  the run of the events es on the machine with a row of deadline cells
--
-- Main law: `machine_tells_misses` (proofs/Theorems.antt).
use Rattle.std.specs.Prelude.{ℕ, suc, Bool, cond, not, ◌&&◌, ◌||◌, List, [], ◌∷◌, ◌++◌, eqb, get_or}
use Rattle.config.specs.declared.Config.{Config}
use Rattle.cell.specs.declared.Cell.{Cell}
use Rattle.word.specs.Word.{has}
use Rattle.plan.specs.declared.Plan.{Plan}
use Rattle.scheduler.specs.Status.{done}
use Rattle.scheduler.specs.Event.{Event, is_tick}
use Rattle.machine.specs.Model.{Model, Outcome}
use Rattle.machine.specs.Machine.{fresh_model, runner_of, machine_step}
use Rattle.deadlines.specs.Activation.{chains_to}
use Rattle.deadlines.specs.Miss.{Miss, deadline_in}
use Rattle.deadlines.specs.DeadlineCells.{suspended_cell, ready_cell, moved_cell, row_of, matches_of}

-- a request of it waits, or it has begun: it goes on by its priority, or is aside
abbrev pub active_at : Model → ℕ → Bool
active_at m r = has m.core.request r || (has m.core.started r || has m.core.aside r)

-- the rank of body b, as the plan has it
abbrev pub plan_rank : Plan → ℕ → ℕ
plan_rank p b = get_or p.rank b 0

-- it leaves the words as they were
abbrev pub chains_by : Plan → Model → Event → Outcome → ℕ → Bool
chains_by p m e o b = chains_to b e && (eqb o.status done && eqb (runner_of p m) b)

abbrev pub ends_by : Plan → Model → Event → Outcome → ℕ → Bool
ends_by p m e o b =
    (active_at m (plan_rank p b) && not (active_at o.model (plan_rank p b))) || chains_by p m e o b

abbrev pub ready_by : Plan → Model → Event → Outcome → ℕ → Bool
ready_by p m e o b =
    (active_at o.model (plan_rank p b) && not (active_at m (plan_rank p b))) || chains_by p m e o b

-- the row of cells from body b on after the event e, which met m and handed o back
unfoldable pub step_row_by : Plan → List ℕ → Model → Event → Outcome → ℕ → List Cell → List Cell
step_row_by p ds m e o b [] = []
step_row_by p ds m e o b (x ∷ xs) =
    moved_cell (deadline_in ds b) (ready_by p m e o b) (ends_by p m e o b) (is_tick e) x
    ∷ step_row_by p ds m e o (suc b) xs

-- k Ticks so far
unfoldable pub machine_row : Config → Plan → List ℕ → ℕ → Model → List Cell → List Event → List Miss
machine_row c p ds k m xs [] = []
machine_row c p ds k m xs (e ∷ es) =
    let o = machine_step c p m e in
    cond (is_tick e) (matches_of (suc k) 0 xs) [] ++
    machine_row c p ds (cond (is_tick e) (suc k) k) o.model (step_row_by p ds m e o 0 xs) es

-- the cell of b at the fresh start
abbrev pub fresh_cell_by : Plan → List ℕ → ℕ → Cell
fresh_cell_by p ds b =
    cond (active_at (fresh_model p) (plan_rank p b)) (ready_cell (deadline_in ds b)) (suspended_cell (deadline_in ds b))

abbrev pub machine_misses : Config → Plan → List ℕ → List Event → List Miss
machine_misses c p ds es = machine_row c p ds 0 (fresh_model p) (row_of (fresh_cell_by p ds) 0 c.bodies) es
