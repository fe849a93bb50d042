-- `draw_whole` meets its contract: the drawn value, twice.
use Rattle.draw.proofs.events.draw_whole.Goals as goal

pub returns : goal.returns
returns c = rw c.next-drawn.ensures
