-- `write_two` meets its contract: no argument is stray, and the code and both arguments are written.
use native.Mathlib.Omega.{arith}
use Rattle.number.specs.Answer.{as_written}
use Rattle.event.proofs.Writing.{writes_bytes, stray_none, bytes_two}
use Rattle.event_codec.proofs.write_two.Goals as goal

pub returns : goal.returns
returns c = let e = c.args.event in
    let w = c.write_triple in
    let both = writes_bytes e c.args.out.now (as_written w.result) _ w.new.out c.requires.0
    (stray_none e (λ h. absurd (omega arith)) (λ h. absurd (omega arith))) (bytes_two e c.requires.0 c.requires.1)
    w.ensures.result w.ensures.output in record { result = both.0; output = both.1 }
