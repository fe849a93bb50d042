-- `position_of` meets its contract: what is left of the bytes before the place gives line and column.
use Rattle.std.proofs.Common.{sym, ◌∙◌, arith}
use Rattle.oil_grammar.proofs.Place.{line_more, line_same, line_end, column_first, column_more, column_end}
use Rattle.oil.proofs.place.position_of.Goals as goal
use Rattle.oil.proofs.place.position_of.Goals.{then-b-eq10, else-b-eq10}

pub loop-b-preserved : goal.loop-b-preserved
loop-b-preserved c = let l = c.loop-b in
    let k = l.invariant in
    let h = c.loop-b-test.true in
    elim c.if-b-eq10.branch [
      | then-b-eq10 w ↦ record {
        line_fits = omega arith;
        column_fits = omega arith;
        line_is = rw w.line-is (sym (line_more _ l.b-index l.line h w.if-b-eq10.true) ∙ k.line_is);
        column_is = rw w.column-is (sym (column_first _ l.b-index l.column h w.if-b-eq10.true) ∙ k.column_is);
      }
      | else-b-eq10 w ↦ record {
        line_fits = omega arith;
        column_fits = omega arith;
        line_is = rw w.line-is (sym (line_same _ l.b-index l.line h w.if-b-eq10.false) ∙ k.line_is);
        column_is = rw w.column-is (sym (column_more _ l.b-index l.column h w.if-b-eq10.false) ∙ k.column_is);
      }
    ]

pub returns-clause-line : goal.returns-clause-line
returns-clause-line c = let l = c.loop-b in
    sym (line_end _ l.b-index l.line c.loop-b-test.false) ∙ l.invariant.line_is

pub returns-clause-column : goal.returns-clause-column
returns-clause-column c = let l = c.loop-b in
    sym (column_end _ l.b-index l.column c.loop-b-test.false) ∙ l.invariant.column_is
