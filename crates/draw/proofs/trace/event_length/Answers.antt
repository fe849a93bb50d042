-- `event_length` meets its contract: a writer's answer tells the length of what it is to write.
use Rattle.std.specs.Prelude.{Ok, Err}
use Rattle.draw.proofs.Writing.{answer_place}
use Rattle.draw.proofs.trace.event_length.Goals as goal

pub returns-in-Ok : goal.returns-in-Ok
returns-in-Ok c = answer_place c.args.event c.requires _ (Ok c.in-Ok.length) c.in-Ok.ensures.result

pub returns-in-Err : goal.returns-in-Err
returns-in-Err c = answer_place c.args.event c.requires _ (Err c.in-Err.refused) c.in-Err.ensures.result
