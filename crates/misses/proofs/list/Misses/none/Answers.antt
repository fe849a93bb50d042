-- `none` meets its contract: no miss is noted in the blank rows.
use Rattle.misses.proofs.Noted.{noted_blank}
use Rattle.misses.proofs.list.Misses.none.Goals as goal

pub returns : goal.returns
returns c = noted_blank
