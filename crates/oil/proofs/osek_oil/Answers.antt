-- `osek_oil` meets its contract: the reading, then the writer.
use Rattle.std.proofs.Common.{◌∙◌, arith}
use Rattle.oil.proofs.Ranges.{place_lt}
use Rattle.oil.proofs.Answer.{refused_result, refused_output, refused_place, written_result, written_output, read_place}
use Rattle.oil.proofs.osek_oil.Goals as goal

pub returns-in-Err-clause-result : goal.returns-in-Err-clause-result
returns-in-Err-clause-result c = let a = c.args in
    c.packed.ensures (omega arith) ∙ refused_result a.text.now a.config.now c.in-Err.e c.in-Err.ensures

pub returns-in-Err-clause-output : goal.returns-in-Err-clause-output
returns-in-Err-clause-output c = refused_output c.args.text.now c.args.config.now c.in-Err.e c.in-Err.ensures

pub returns-in-Err-clause-place : goal.returns-in-Err-clause-place
returns-in-Err-clause-place c = refused_place c.args.text.now c.args.config.now c.in-Err.e c.in-Err.ensures

pub returns-in-Ok-write_config-clause-result : goal.returns-in-Ok-write_config-clause-result
returns-in-Ok-write_config-clause-result c = let a = c.args in
    let k = written_result a.text.now a.config.now c.in-Ok.read c.in-Ok.ensures c.in-Ok-write_config.ensures.result in
    omega arith

pub returns-in-Ok-write_config-clause-output : goal.returns-in-Ok-write_config-clause-output
returns-in-Ok-write_config-clause-output c = let a = c.args in
    c.in-Ok-write_config.ensures.output ∙ written_output a.text.now a.config.now c.in-Ok.read c.in-Ok.ensures

pub returns-in-Ok-write_config-clause-place : goal.returns-in-Ok-write_config-clause-place
returns-in-Ok-write_config-clause-place c = read_place c.args.text.now c.args.config.now c.in-Ok.read c.in-Ok.ensures

pub returns-in-Err-write_config-clause-result : goal.returns-in-Err-write_config-clause-result
returns-in-Err-write_config-clause-result c = let a = c.args in
    let w = c.in-Err-write_config.ensures.result in
    c.packed-in-Err-write_config.ensures (place_lt c.in-Ok.read _ w)
    ∙ written_result a.text.now a.config.now c.in-Ok.read c.in-Ok.ensures w

pub returns-in-Err-write_config-clause-output : goal.returns-in-Err-write_config-clause-output
returns-in-Err-write_config-clause-output c = let a = c.args in
    c.in-Err-write_config.ensures.output ∙ written_output a.text.now a.config.now c.in-Ok.read c.in-Ok.ensures

pub returns-in-Err-write_config-clause-place : goal.returns-in-Err-write_config-clause-place
returns-in-Err-write_config-clause-place c = read_place c.args.text.now c.args.config.now c.in-Ok.read c.in-Ok.ensures
