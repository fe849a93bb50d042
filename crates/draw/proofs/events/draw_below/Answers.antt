-- `draw_below` meets its contract: the drawn value, and what is left of it by the limit.
use Rattle.draw.proofs.events.draw_below.Goals as goal

pub returns : goal.returns
returns c = rw (c.next-drawn.ensures, c.from.ensures)
