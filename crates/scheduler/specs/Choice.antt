-- Who runs by priority: the choice made afresh from the bodies.
--
--   chosen c bs       the body that runs, with its level, or `nobody`
--   chosen_by q c bs  the same by another rule for ties
--
-- The rule for ties is a question:
-- of two with equal current priority the one of which it holds goes before the other, of which it does not.
use Rattle.std.specs.Prelude.{ℕ, suc, Bool, true, false, cond, not, ◌&&◌, ◌||◌, List, [], ◌∷◌, ltb, eqb}
use Rattle.config.specs.declared.Config.{Config}
use Rattle.scheduler.specs.Body.{Phase, suspended, ready, started, waiting, triggered, Body, holds, current}

-- A body that may run. `level` is document 01's word for the current priority of the one that runs, OSEK's current CPU
-- priority; `holder`: whether it holds a resource; `timed`: whether it is time-triggered.
pub record Candidate : Type 0 where
  pub number : ℕ
  pub level : ℕ
  pub began : Bool
  pub holder : Bool
  pub timed : Bool

-- "idle is written 255", and "the level is .. 0 when idle"
abbrev pub idle : ℕ
idle = 255

abbrev pub nobody : Candidate
nobody = record { number = idle; level = 0; began = false; holder = false; timed = false }

-- only nobody has level 0: no priority is 0
abbrev pub is_nobody : Candidate → Bool
is_nobody k = eqb k.level 0

-- what the body with number i is to the choice;
-- neither a waiting one nor a triggered one, which goes before all others, is a candidate
unfoldable pub candidate : Config → ℕ → Body → Phase → Candidate
candidate c i b suspended = nobody
candidate c i b ready =
    record { number = i; level = current c i b; began = false; holder = holds b.held; timed = false }
candidate c i b started =
    record { number = i; level = current c i b; began = true; holder = holds b.held; timed = false }
candidate c i b (waiting w) = nobody
candidate c i b (triggered x) = nobody

-- a rule for ties
abbrev pub Tie : Type 0
Tie = Candidate → Bool

-- "On equal current priority the body holding a resource goes first, in place of the one that began"
abbrev pub by_holding : Tie
by_holding k = k.holder

-- document 01's rule, which that replaces: "on equal priorities the one that already began goes first". Where no task
-- is extended both choose alike (`old_rule`, proofs/Theorems/Running.antt).
abbrev pub by_begun : Tie
by_begun k = k.began

-- "the greatest current priority"
abbrev pub goes_before : Tie → Candidate → Candidate → Bool
goes_before q j k = ltb k.level j.level || (eqb k.level j.level && (q j && not (q k)))

-- the one of j and k that goes before the other; j where neither does
abbrev pub preferred : Tie → Candidate → Candidate → Candidate
preferred q j k = cond (goes_before q k j) k j

-- the choice among bodies that are numbered from i on
unfoldable pub chosen_from : Tie → Config → ℕ → List Body → Candidate
chosen_from q c i [] = nobody
chosen_from q c i (b ∷ bs) = preferred q (candidate c i b b.phase) (chosen_from q c (suc i) bs)

abbrev pub chosen_by : Tie → Config → List Body → Candidate
chosen_by q c bs = chosen_from q c 0 bs

abbrev pub chosen : Config → List Body → Candidate
chosen = chosen_by by_holding
