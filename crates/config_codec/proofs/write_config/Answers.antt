-- `write_config` meets its contract: it measures, tests the room, and then writes.
use mathlib.Core.Path.{refl}
use native.Mathlib.Omega.{arith}
use Rattle.number.specs.Refusal.{none}
use Rattle.number.specs.Output.{unwritten}
use Rattle.number.specs.Answer.{code}
use Rattle.number.proofs.Answers.{code_some}
use Rattle.config.specs.Reader.{accepted, refused}
use Rattle.config_codec.proofs.Measuring.{measured_refused, measured_whole}
use Rattle.config_codec.proofs.Answer.{faultless, measured_length, refused_answer, no_room_answer, written_answer}
use Rattle.config_codec.proofs.write_config.Goals as goal

pub returns-in-Err : goal.returns-in-Err
returns-in-Err c =
    let a = c.args in
    let e = c.in-Err.refused in
    let m = measured_refused a.config (refused (code e.refusal) e.place) c.in-Err.ensures (code_some e.refusal) in
    let n = refused_answer a.config (unwritten (code e.refusal) 0) m a.out.now (code_some e.refusal) in
    record { result = n.0; output = n.1 }

pub returns-then-out-n : goal.returns-then-out-n
returns-then-out-n c =
    let a = c.args in
    let r = c.in-Ok.measured in
    let m = measured_whole a.config (accepted r.value r.place) c.in-Ok.ensures refl in
    let n = no_room_answer a.config (unwritten none r.place) m a.out.now refl c.if-out-n.true in
    record { result = n.0; output = n.1 }

pub write_numbers-requires : goal.write_numbers-requires
write_numbers-requires c =
    let a = c.args in
    let r = c.in-Ok.measured in
    let m = measured_whole a.config (accepted r.value r.place) c.in-Ok.ensures refl in (
      faultless a.config (unwritten none r.place) m refl,
      omega (arith, measured_length a.config (unwritten none r.place) m refl, c.if-out-n.false),
    )

pub returns : goal.returns
returns c =
    let a = c.args in
    let r = c.in-Ok.measured in
    let w = c.write_numbers in
    let m = measured_whole a.config (accepted r.value r.place) c.in-Ok.ensures refl in
    let n = written_answer a.config (unwritten none r.place) m a.out.now refl c.if-out-n.false w.new.out w.ensures in
    record { result = n.0; output = n.1 }
