-- `note` meets its contract: the miss is listed where there is a place for it, and counted in any case.
use Rattle.misses.specs.Noted.{miss_of}
use Rattle.misses.proofs.Noted.{noted_listed, noted_counted}
use Rattle.misses.proofs.list.Misses.note.Goals as goal
use Rattle.misses.proofs.list.Misses.note.Goals.{then-self-lt-MOST_LISTED, else-self-lt-MOST_LISTED}

pub returns-clause-noted : goal.returns-clause-noted
returns-clause-noted c =
    elim c.if-self-lt-MOST_LISTED.branch [
      | then-self-lt-MOST_LISTED w ↦ rw w.self-is
          (noted_listed c.args.self.now (miss_of c.args.miss) w.if-self-lt-MOST_LISTED.true w.bytes.ensures)
      | else-self-lt-MOST_LISTED w ↦ rw w.self-is
          (noted_counted c.args.self.now (miss_of c.args.miss) w.if-self-lt-MOST_LISTED.false)
    ]
