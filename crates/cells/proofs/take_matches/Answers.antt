-- `take_matches` meets its contract: what is left to do at a group is what the definition does with the marks and ranks
-- from there on.
use Rattle.std.proofs.Common.{◌≡◌, ◌+◌, ◌*◌, length, sym, ◌∙◌, arith, rules}
use Rattle.config.specs.Value.{max_entries}
use Rattle.cells.specs.Methods.{tally_with, group}
use Rattle.cells.proofs.Cells.{group_step, groups_end}
use Rattle.cells.proofs.take_matches.Goals as goal

pub loop-group-preserved : goal.loop-group-preserved
loop-group-preserved c = let a = c.args in let l = c.loop-group in
    let sized : length a.matched.now ≡ max_entries = search rules in
    let e : (l.group + 1) * group ≡ l.group * group + group = omega arith in
    rw e (group_step a.begun a.matched.now a.ranks.now (l.group * group) (omega (arith, c.loop-group-test.true))
    (tally_with l.word l.losses) c.take_group-word.ensures ∙ l.invariant)

pub returns : goal.returns
returns c = let a = c.args in let l = c.loop-group in
    let sized : length a.matched.now ≡ max_entries = search rules in
    sym (groups_end a.begun a.matched.now a.ranks.now (l.group * group) (omega (arith, c.loop-group-test.false))
    (tally_with l.word l.losses))
    ∙ l.invariant
