-- Names go on with letters and digits, numbers with digits.
use Rattle.oil_grammar.specs.Byte.{is_name_byte, is_digit}
use Rattle.oil.proofs.next.first_token.Given as goal

abbrev pub ghost-span : goal.ghost-span
ghost-span a = is_name_byte

abbrev pub ghost-span-2 : goal.ghost-span-2
ghost-span-2 a = is_digit
