-- The held resources in one row, in the order taken, the latest on top: each slot has its resource, its holder's rank
-- and the level after its Get. Past the bottom of the row there is no holder. Which resources are held stands in a
-- word, too.
--
--   getting r l m     the runner takes r, and its level becomes l
--   releasing ps r m  the runner gives its latest resource r back, and the level is what it is without that resource
use Rattle.std.specs.Prelude.{ℕ, Bool, cond, ◌&&◌, List, eqb, get_or}
use Rattle.word.specs.Word.{with, without}
use Rattle.stack.specs.Stack.{top_row, second_row, push_row, pop_row}
use Rattle.machine.specs.Model.{Model, with_slots}

-- "the runner holds a resource": its slots are on top
abbrev pub holding : Model → Bool
holding m = eqb (top_row m.holder) m.core.runner

-- r is "the runner's most recently taken one still held"
abbrev pub latest : Model → ℕ → Bool
latest m r = holding m && eqb (top_row m.resource) r

abbrev pub getting : ℕ → ℕ → Model → Model
getting r l m =
    with_slots m l (with m.held r)
    (push_row m.resource r) (push_row m.holder m.core.runner) (push_row m.raised l)

-- the level of the runner without its latest resource: that of the slot below if it is its own, else its own priority
abbrev pub level_without : List ℕ → Model → ℕ
level_without ps m =
    cond (eqb (second_row m.holder) m.core.runner) (second_row m.raised) (get_or ps m.core.runner 0)

abbrev pub releasing : List ℕ → ℕ → Model → Model
releasing ps r m =
    with_slots m (level_without ps m) (without m.held r)
    (pop_row m.resource) (pop_row m.holder) (pop_row m.raised)
