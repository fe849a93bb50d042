-- A comment that ends with its line goes on with its bytes.
use Rattle.oil_grammar.specs.Byte.{is_line_byte}
use Rattle.oil.proofs.next.comment.Given as goal

abbrev pub ghost-span : goal.ghost-span
ghost-span a = is_line_byte
