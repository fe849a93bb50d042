-- Tick: the tables count, and their due entries activate their tasks.
--
--   counted s      "n up by 1 for each table not stopped"
--   dues c s       for each entry whether it is due, by the table's arithmetic
--   ticked c s     "then the due entries", by table, then in table order
--   due_for c s t  how many of them name the task t
--
-- Entry is document 01's word for an expiry point.
use Rattle.std.specs.Prelude.{ℕ, suc, ◌+◌, Bool, true, false, cond, ◌&&◌, List, [], ◌∷◌, ◌++◌, map, eqb, get_or, set}
use Rattle.config.specs.declared.Config.{Config}
use Rattle.config.specs.Meaning.{is_timed, offsets}
use Rattle.cell.specs.Due.{due}
use Rattle.scheduler.specs.Body.{is_suspended, triggers, loses, activated_by_entry}
use Rattle.scheduler.specs.State.{Table, stopped, running, State, body_of, changing}

-- the same of one table
unfoldable pub counting : Table → Table
counting stopped = stopped
counting (running d n) = running d (suc n)

abbrev pub counted : State → State
counted s = record { bodies = s.bodies; tables = map counting s.tables; order = s.order }

-- the entry at offset o of a table with period P: its first delay is d + o
unfoldable pub entry_due : ℕ → Table → ℕ → Bool
entry_due P stopped o = false
entry_due P (running d n) o = due P (d + o) n

-- the entries of the tables from t on
unfoldable pub dues_from : Config → ℕ → List Table → List Bool
dues_from c t [] = []
dues_from c t (x ∷ xs) = map (entry_due (get_or c.period t 0) x) (offsets c t) ++ dues_from c (suc t) xs

abbrev pub dues : Config → State → List Bool
dues c s = dues_from c 0 s.tables

-- the time-triggered task t is started: it is the latest
abbrev pub starting : ℕ → State → State
starting t s = record { bodies = set s.bodies t (triggers (body_of s t)); tables = s.tables; order = t ∷ s.order }

-- "An entry due while its body is started counts as a loss"
abbrev pub trigger : ℕ → State → State
trigger t s = cond (is_suspended (body_of s t).phase) (starting t s) (changing t loses s)

-- a due entry of the task t
abbrev pub enter : Config → ℕ → State → State
enter c t s = cond (is_timed c t) (trigger t s) (changing t activated_by_entry s)

-- the entries' tasks, each activated or started if its entry is due
unfoldable pub activating_due : Config → List Bool → List ℕ → State → State
activating_due c [] ts s = s
activating_due c (true ∷ ds) [] s = s
activating_due c (false ∷ ds) [] s = s
activating_due c (true ∷ ds) (t ∷ ts) s = activating_due c ds ts (enter c t s)
activating_due c (false ∷ ds) (t ∷ ts) s = activating_due c ds ts s

abbrev pub ticked : Config → State → State
ticked c s = activating_due c (dues c (counted s)) c.task (counted s)

-- how many of the due entries name the task t: a number, so their order does not tell
unfoldable pub naming : ℕ → List Bool → List ℕ → ℕ
naming t [] us = 0
naming t (d ∷ ds) [] = 0
naming t (d ∷ ds) (u ∷ us) = cond (d && eqb u t) (suc (naming t ds us)) (naming t ds us)

-- how many of the entries due at a Tick that meets the state s
abbrev pub due_for : Config → State → ℕ → ℕ
due_for c s t = naming t (dues c (counted s)) c.task
