-- `wait` meets its contract: the run is refused exactly as the call is, or its last model has the answer.
use Rattle.std.proofs.Common.{ap, ◌∙◌, arith, rules}
use Rattle.std.proofs.lemmas.Result.{err_from_is_err_and}
use Rattle.number.proofs.Answers.{code_some}
use Rattle.config.specs.Reader.{ConfigRead}
use Rattle.model.specs.declared.Model.{Model}
use Rattle.kernel.proofs.Passes.Whole.{refused_high}
use Rattle.waits.proofs.LastModel.{refused_same, config_read, config_accepted, answered}
use Rattle.waits.proofs.wait.Goals as goal

pub returns-in_err-played : goal.returns-in_err-played
returns-in_err-played c = let a = c.args in
    let p = err_from_is_err_and c.from_residual.result c.from_residual.ensures.1 in
    let ended = c.in_err-played.ensures in
    record {
      value = rw (p.1, p.2) (refused_same a.config.now a.trace.now ended.result (omega arith) a.body (refused_high _ _));
      place = rw (p.1, p.2) (omega (arith, ended.place));
    }

pub returns-in_err-read : goal.returns-in_err-read
returns-in_err-read c = let a = c.args in
    let ended = c.in_ok-played.ensures in
    absurd (code_some _ (ap (λ (r : ConfigRead). r.refusal) c.in_err-read.ensures
    ∙ config_read a.config.now a.trace.now ended.result (omega arith) (omega (arith, ended.few))))

pub wait_by-requires : goal.wait_by-requires
wait_by-requires c = let a = c.args in
    let ended = c.in_ok-played.ensures in
    let both = config_accepted a.config.now a.trace.now ended.result (omega arith) (omega (arith, ended.few)) in
    rw (ap (λ (r : ConfigRead). r.config) c.in_ok-read.ensures) (record { accepted = both.0; shaped = both.1 })

pub returns : goal.returns
returns c = let a = c.args in
    let ended = c.in_ok-played.ensures in
    let m = ended.model in
    record {
      value = c.wait_by.ensures.value
          ∙ rw (ap (λ (r : ConfigRead). r.config) c.in_ok-read.ensures)
          (answered a.config.now a.trace.now ended.result (omega arith) (omega (arith, ended.few)) a.body
          (ap (λ (y : Model). y.registers.request) m)
          (ap (λ (y : Model). y.registers.started) m)
          (ap (λ (y : Model). y.registers.held) m)
          (search rules));
      place = search rules;
    }
