-- Each cell of a row is ticked for itself: n ticks of the row are n ticks of every cell, in its place.
use Rattle.std.proofs.Common.{◌≡◌, ℕ, zero, suc, ◌<◌, List, [], ◌∷◌, map, length, get_or, sym, refl, ap, ◌∙◌, map-id, le_of_suc-le-suc, arith}
use mathlib.Core.List.{map-map}
use lib.ListN.{length-map}
use Rattle.cell.specs.declared.Cell.{Cell}
use Rattle.cell.specs.Cell.{tick_cell, ticks, ticks_in}
use Rattle.cell.specs.Rows.{ticked_row, row_ticks}

row_ticks_lem : (n : ℕ) (cs : List Cell) → row_ticks n cs ≡ map (ticks n) cs
unfolding row_ticks ticks_in
row_ticks_lem zero cs = sym (map-id cs)
row_ticks_lem (suc n) cs = row_ticks_lem n (ticked_row cs) ∙ map-map (ticks n) tick_cell cs

pub row_length_same : (n : ℕ) (cs : List Cell) → length (row_ticks n cs) ≡ length cs
row_length_same n cs = ap length (row_ticks_lem n cs) ∙ length-map cs (ticks n)

-- whatever stands for an index past the end
map_at : (f : Cell → Cell) (cs : List Cell) (i : ℕ) (d e : Cell) → i < length cs → get_or (map f cs) i d ≡ f (get_or cs i e)
map_at f [] i d e within = absurd (omega arith)
map_at f (c ∷ cs) zero d e within = refl
map_at f (c ∷ cs) (suc i) d e within = map_at f cs i d e (le_of_suc-le-suc within)

pub row_at : (n : ℕ) (cs : List Cell) (i : ℕ) (d : Cell) → i < length cs
    → get_or (row_ticks n cs) i d ≡ ticks n (get_or cs i d)
row_at n cs i d within = ap (λ r. get_or r i d) (row_ticks_lem n cs) ∙ map_at (ticks n) cs i d d within
