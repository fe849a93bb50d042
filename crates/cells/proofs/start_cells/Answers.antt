-- `start_cells` meets its contract: what is left to do at entry e is what the definitions do from there on.
use Rattle.std.proofs.Common.{Bool, ◌||◌, ◌+◌, true, get_or, sym, ap, ◌∙◌}
use Rattle.cell.specs.declared.Cell.{Cell}
use Rattle.cell.specs.Cell.{long, start_cell}
use Rattle.machine.specs.Cells.{switch_for}
use Rattle.cells.proofs.Cells.{some_step, some_end, spread_step, spread_end}
use Rattle.cells.proofs.start_cells.Goals as goal

pub loop-e-preserved : goal.loop-e-preserved
loop-e-preserved c = let a = c.args in let l = c.loop-e in
    let turn = ap (λ (k : Cell). k.turn) c.start-cell.ensures in (
      some_step (λ i. long (a.delay + get_or a.offset.now i 0)) _ l.e l.some
          c.loop-e-test.true (ap (λ (t : Bool). l.some || t) turn)
          ∙ l.invariant.0,
      spread_step (λ i. (start_cell a.period (a.delay + get_or a.offset.now i 0)).counter) _ l.e l.counter
          c.loop-e-test.true (ap (λ (k : Cell). k.counter) c.start-cell.ensures)
          ∙ l.invariant.1,
      spread_step (λ i. switch_for true (long (a.delay + get_or a.offset.now i 0))) _ l.e l.on c.loop-e-test.true
          (c.switch_for.ensures ∙ ap (switch_for true) turn)
          ∙ l.invariant.2,
    )

pub returns : goal.returns
returns c = let a = c.args in let l = c.loop-e in record {
  value = sym (some_end (λ i. long (a.delay + get_or a.offset.now i 0)) _ l.e l.some c.loop-e-test.false)
      ∙ l.invariant.0;
  counter_after = sym (spread_end (λ i. (start_cell a.period (a.delay + get_or a.offset.now i 0)).counter) _ l.e
      l.counter c.loop-e-test.false) ∙ l.invariant.1;
  on_after = sym (spread_end (λ i. switch_for true (long (a.delay + get_or a.offset.now i 0))) _ l.e l.on
      c.loop-e-test.false) ∙ l.invariant.2;
}
