-- What an event changed for the deadline cells, in numbers: who was active before and after it, by rank, and who chained
-- to itself.
--
--   active_word m        the ranks that aren't suspended in the model m
--   chained_body r e st  the runner r, if one runs, where the event e with the status st is an accepted Chain to it
--   change_by bs m e o   what the event e changed that met m and handed o back; bs: the bodies by rank
--   cell_by x b r D c    the cell c of the body b with the rank r and the deadline D, after the change x
--   row_by x rs ds xs    those of a row, by body; fresh_row_by w rs ds: those of the fresh start, w: who is active
--
-- Main law: `row_by_words` (proofs/Rows.antt).
use Rattle.std.specs.Prelude.{ℕ, Bool, false, cond, not, ◌&&◌, ◌||◌, List, ltb, eqb, get_or, Option, Some, None}
use Rattle.cell.specs.declared.Cell.{Cell}
use Rattle.cell.specs.Cell.{unmarked}
use Rattle.word.specs.Word.{has, union}
use Rattle.scheduler.specs.Status.{done}
use Rattle.scheduler.specs.Event.{Event, is_tick}
use Rattle.machine.specs.Model.{Model, Outcome}
use Rattle.deadlines.specs.Activation.{chains_to}
use Rattle.deadlines.specs.DeadlineCells.{suspended_cell, ready_cell, moved_cell, row_of}
use Rattle.misses.specs.declared.change.Change.{Change}

-- the ranks with a request, those started and those aside, as one word
abbrev pub active_in : ℕ → ℕ → ℕ → ℕ
active_in w v a = union w (union v a)

abbrev pub active_word : Model → ℕ
active_word m = active_in m.core.request m.core.started m.core.aside

unfoldable pub chained_body : Option ℕ → Event → ℕ → Option ℕ
chained_body None e st = None
chained_body (Some r) e st = cond (chains_to r e && eqb st done) (Some r) None

-- the body with the rank r, if there is one
abbrev pub body_at : List ℕ → ℕ → Option ℕ
body_at bs r = cond (ltb r 32) (Some (get_or bs r 0)) None

abbrev pub is_body : Option ℕ → ℕ → Bool
is_body None b = false
is_body (Some r) b = eqb r b

abbrev pub change_by : List ℕ → Model → Event → Outcome → Change
change_by bs m e o =
    record {
      before = active_word m;
      after = active_word o.model;
      chained = chained_body (body_at bs m.core.runner) e o.status;
      tick = is_tick e;
    }

-- the cell of a body by whether it was active before the event and is after it, whether it chained to itself (k), and
-- whether the event is a Tick
abbrev pub cell_after : ℕ → Bool → Bool → Bool → Bool → Cell → Cell
cell_after D before after k t c = moved_cell D ((after && not before) || k) ((before && not after) || k) t c

abbrev pub cell_by : Change → ℕ → ℕ → ℕ → Cell → Cell
cell_by x b r D c = cell_after D (has x.before r) (has x.after r) (is_body x.chained b) x.tick c

-- what a row is filled with
abbrev pub blank_cell : Cell
blank_cell = unmarked 0 0 false false

-- of the first n bodies
abbrev pub row_by : Change → List ℕ → List ℕ → ℕ → List Cell → List Cell
row_by x rs ds n xs = row_of (λ b. cell_by x b (get_or rs b 0) (get_or ds b 0) (get_or xs b blank_cell)) 0 n

-- the cell of a body at the fresh start
abbrev pub fresh_cell_in : Bool → ℕ → Cell
fresh_cell_in active D = cond active (ready_cell D) (suspended_cell D)

abbrev pub fresh_row_by : ℕ → List ℕ → List ℕ → ℕ → List Cell
fresh_row_by w rs ds n = row_of (λ b. fresh_cell_in (has w (get_or rs b 0)) (get_or ds b 0)) 0 n
