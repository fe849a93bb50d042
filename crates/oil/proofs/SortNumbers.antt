-- The number of a sort tells which it is.
use Rattle.std.proofs.Common.{◌≡◌, refl, arith}
use Rattle.oil_grammar.specs.Token.{end_sort}
use Rattle.oil.specs.declared.token.Sort.{Sort}
use Rattle.oil.specs.declared.token.Sort.TheVariants.{Task, Isr, Resource, Priority, Autostart, True, False, Open, Close, Equals, Semicolon, Name, Number, End, Unreadable}
use Rattle.oil.specs.Answer.{number_of}

pub is_end : (w : Sort) → number_of w ≡ end_sort → w ≡ End
is_end Task e = absurd (omega arith)
is_end Isr e = absurd (omega arith)
is_end Resource e = absurd (omega arith)
is_end Priority e = absurd (omega arith)
is_end Autostart e = absurd (omega arith)
is_end True e = absurd (omega arith)
is_end False e = absurd (omega arith)
is_end Open e = absurd (omega arith)
is_end Close e = absurd (omega arith)
is_end Equals e = absurd (omega arith)
is_end Semicolon e = absurd (omega arith)
is_end Name e = absurd (omega arith)
is_end Number e = absurd (omega arith)
is_end End e = refl
is_end Unreadable e = absurd (omega arith)
