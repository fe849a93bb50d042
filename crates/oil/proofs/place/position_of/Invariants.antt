-- `position_of` meets its contract: what is left of the bytes before the place gives line and column.
use Rattle.std.proofs.Common.{◌≡◌, ◌+◌, ◌≤◌, drop}
use Rattle.oil_grammar.specs.Reader.{line_after, column_after}
use Rattle.oil.proofs.place.position_of.Given as goal

abbrev pub invariant-loop-b : goal.invariant-loop-b
invariant-loop-b l = record {
  line_fits : l.line ≤ l.b-index + 1;
  column_fits : l.column ≤ l.b-index + 1;
  line_is : line_after l.line (drop l.b-index l.b-items) ≡ line_after 1 l.b-items;
  column_is : column_after l.column (drop l.b-index l.b-items) ≡ column_after 1 l.b-items;
}
