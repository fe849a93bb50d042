-- `write` meets its contract: the list is too short, or the bytes at the front are those of the first misses.
use Rattle.std.proofs.Common.{◌*◌, ap, take, ◌∙◌}
use Rattle.misses.proofs.Noted.{list_short, list_whole}
use Rattle.misses.proofs.list.Misses.write.Goals as goal

pub returns-then-list-need-clause-list_after : goal.returns-then-list-need-clause-list_after
returns-then-list-need-clause-list_after c =
    λ ms g. list_short c.args.self.now ms g c.min-need.result c.min-need.ensures c.args.list.now c.if-list-need.true

pub returns-clause-list_after : goal.returns-clause-list_after
returns-clause-list_after c =
    λ ms g. list_whole c.args.self.now ms g c.min-need.result c.min-need.ensures c.args.list.now c.if-list-need.false
    (c.copy_from_slice.ensures.after ∙ ap (take (3 * c.min-need.result)) c.as_flattened.ensures.value)
