-- `stretch_length` meets its contract: a stretch is two numbers, and one without bytes is none.
use mathlib.Core.Path.{sym, ap, ◌∙◌}
use native.Mathlib.Omega.{arith}
use lib.ListN.{length, length-append}
use Rattle.number.specs.Number.{number_bytes}
use Rattle.number.proofs.Theorems.{length_number_bytes}
use Rattle.salvage.proofs.Step.{closed_none, closed_some}
use Rattle.salvage.proofs.walk.stretch_length.Goals as goal

pub returns-then-size-eq0 : goal.returns-then-size-eq0
returns-then-size-eq0 c = let a = c.args in sym (ap length (closed_none a.offset a.size c.if-size-eq0.true))

pub overflow_add-result : goal.overflow_add-result
overflow_add-result c = let a = c.args in
    omega (
      arith,
      c.number_length-2.ensures,
      c.number_length.ensures,
      length_number_bytes a.offset,
      length_number_bytes a.size,
    )

pub returns : goal.returns
returns c = let a = c.args in
    rw (c.number_length.ensures, c.number_length-2.ensures)
    (sym (ap length (closed_some a.offset a.size c.if-size-eq0.false)
    ∙ length-append (number_bytes a.offset) (number_bytes a.size)))
