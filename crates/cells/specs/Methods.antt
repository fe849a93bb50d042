-- What the contracts of the machine's helpers cite beside the definitions of its events: these, with numbers for the
-- model.
--
--   tally_with w ls  the requests w and the losses ls
--   marks_word bs    the match marks bs as one number, a byte each, the first the lowest; a `group` of them is
--                    looked at in one go
use Rattle.std.specs.Prelude.{ℕ, ◌+◌, ◌*◌, Bool, cond, List, [], ◌∷◌}
use Rattle.machine.specs.Cells.{Tally}

abbrev pub tally_with : ℕ → List ℕ → Tally
tally_with w ls = record { request = w; losses = ls }

abbrev pub group : ℕ
group = 8

unfoldable pub marks_word : List Bool → ℕ
marks_word [] = 0
marks_word (b ∷ bs) = cond b 1 0 + 256 * marks_word bs
