-- `write_one` meets its contract: the second argument must be 0, and then the code and the first one are written.
use mathlib.Core.Path.{refl}
use native.Mathlib.Omega.{arith}
use Rattle.number.specs.Answer.{as_written}
use Rattle.number.specs.Output.{unwritten}
use Rattle.event.specs.Refusal.{stray_argument}
use Rattle.event.proofs.Writing.{writes_bytes, writes_stray, stray_second, stray_none, bytes_one}
use Rattle.event_codec.proofs.write_one.Goals as goal

pub returns-then-event-ne0 : goal.returns-then-event-ne0
returns-then-event-ne0 c = let e = c.args.event in
    let both = writes_stray e c.args.out.now (unwritten stray_argument 0) c.requires.0 (stray_second e (omega arith) (omega arith))
    refl in record { result = both.0; output = both.1 }

pub returns : goal.returns
returns c = let e = c.args.event in
    let w = c.write_pair in
    let both = writes_bytes e c.args.out.now (as_written w.result) _ w.new.out c.requires.0
    (stray_none e (λ h. absurd (omega arith)) (λ h. omega arith)) (bytes_one e c.requires.0 c.requires.1)
    w.ensures.result w.ensures.output in record { result = both.0; output = both.1 }
