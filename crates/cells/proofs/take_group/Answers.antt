-- `take_group` meets its contract: the marks of the group that are not taken yet are `Left`, and a turn takes the
-- next that is set.
use Rattle.std.proofs.Common.{◌≡◌, length, take, drop, sym, ◌∙◌, arith, rules}
use Rattle.config.specs.Value.{max_entries}
use Rattle.cells.specs.Methods.{tally_with, group}
use Rattle.cells.proofs.Marks.{due_unmarked, left_start, next_lt, left_step}
use Rattle.cells.proofs.take_group.Goals as goal

pub loop-marks-init : goal.loop-marks-init
loop-marks-init c = let a = c.args in
    let sized : length a.matched.now ≡ max_entries = search rules in (
      take group (drop a.from a.matched.now),
      left_start a.begun a.ranks.now a.from a.matched.now (tally_with a.request a.losses.now)
          (omega (arith, c.requires)) c.group_word-marks.ensures,
    )

pub loop-marks-smaller : goal.loop-marks-smaller
loop-marks-smaller c = omega (arith, next_lt c.loop-marks.invariant.1 c.loop-marks-test.true)

pub loop-marks-preserved : goal.loop-marks-preserved
loop-marks-preserved c = left_step c.loop-marks.invariant.1 c.loop-marks-test.true c.at-rank.ensures
    c.take_match-word.ensures

pub returns : goal.returns
returns c = let a = c.args in let l = c.loop-marks in
    sym (due_unmarked a.begun l.invariant.0 (drop l.e a.ranks.now) (tally_with l.word l.losses)
    (omega (arith, l.invariant.1.word, c.loop-marks-test.false)))
    ∙ l.invariant.1.due
