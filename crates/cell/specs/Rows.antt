-- A row of cells, ticked as a whole: of any length and content.
--
--   ticked_row cs  every cell of the row after a tick, in its place; row_ticks n cs: after n
--
-- Main law: `row_matches_when_due` (proofs/Theorems.antt).
use Rattle.std.specs.Prelude.{ℕ, zero, suc, List, map}
use Rattle.cell.specs.declared.Cell.{Cell}
use Rattle.cell.specs.Cell.{tick_cell}

-- "For every row length and content each record keeps its compare value and switch, gets the counter above .."
abbrev pub ticked_row : List Cell → List Cell
ticked_row cs = map tick_cell cs

unfoldable pub row_ticks : ℕ → List Cell → List Cell
row_ticks zero cs = cs
row_ticks (suc n) cs = row_ticks n (ticked_row cs)
