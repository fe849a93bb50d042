-- `write_none` meets its contract: both arguments must be 0, and then the code is all there is to write.
use mathlib.Core.Path.{refl}
use mathlib.Core.Logic.{inl, inr}
use native.Mathlib.Omega.{arith}
use Rattle.number.specs.Answer.{as_written}
use Rattle.number.specs.Output.{unwritten}
use Rattle.event.specs.Refusal.{stray_argument}
use Rattle.event.proofs.Writing.{writes_bytes, writes_stray, stray_first, stray_second, stray_none, bytes_none}
use Rattle.event_codec.proofs.write_none.Goals as goal

pub returns-then-event-ne0 : goal.returns-then-event-ne0
returns-then-event-ne0 c = let e = c.args.event in
    let both = writes_stray e c.args.out.now (unwritten stray_argument 0) c.requires.0
    (elim c.then-event-ne0.either [ inl n ↦ stray_first e c.requires.1 (omega (arith, n)) | inr n ↦ stray_second e (omega arith) (omega (arith, n.1)) ])
    refl in
    record { result = both.0; output = both.1 }

pub returns : goal.returns
returns c = let e = c.args.event in
    let w = c.write_number in
    let both = writes_bytes e c.args.out.now (as_written w.result) _ w.new.out c.requires.0
    (stray_none e (λ h. omega arith) (λ h. omega arith)) (rw c.from.ensures (bytes_none e c.requires.0 c.requires.1)) w.ensures.result
    w.ensures.output in record { result = both.0; output = both.1 }
