-- `missed` meets its contract: the run is refused exactly as the call is, or what the machine tells is the answer.
use Rattle.std.proofs.Common.{ap, ◌∙◌, arith}
use Rattle.std.proofs.lemmas.Result.{err_from_is_err_and}
use Rattle.number.proofs.Answers.{code_some}
use Rattle.config.specs.Reader.{ConfigRead}
use Rattle.kernel.proofs.Passes.Whole.{refused_high}
use Rattle.misses.proofs.Input.{refused_same, config_read, watchable, answered}
use Rattle.misses.proofs.missed.Goals as goal

pub returns-in_err-try_run : goal.returns-in_err-try_run
returns-in_err-try_run c = let a = c.args in
    let p = err_from_is_err_and c.from_residual.result c.from_residual.ensures.1 in
    let ended = c.in_err-try_run.ensures in
    let g = refused_same a.config.now a.trace.now ended.result (omega arith) a.list.now (refused_high _ _) in
    record { value = rw (p.1, p.2) g.result; output = g.output; place = rw (p.1, p.2) (omega (arith, ended.place)) }

pub returns-in_err-read : goal.returns-in_err-read
returns-in_err-read c = let a = c.args in
    let ended = c.in_ok-try_run.ensures in
    absurd (code_some _ (ap (λ (r : ConfigRead). r.refusal) c.in_err-read.ensures
    ∙ config_read a.config.now a.trace.now ended.result (omega arith) (omega (arith, ended.few))))

pub list_misses-requires : goal.list_misses-requires
list_misses-requires c = let a = c.args in
    let ended = c.in_ok-try_run.ensures in
    rw (ap (λ (r : ConfigRead). r.config) c.in_ok-read.ensures)
    (watchable a.config.now a.trace.now ended.result (omega arith) (omega (arith, ended.few)))

pub returns : goal.returns
returns c = let a = c.args in
    let ended = c.in_ok-try_run.ensures in
    let wrote = c.list_misses.ensures in
    let g = answered a.config.now a.trace.now ended.result (omega arith) (omega (arith, ended.few)) _
    (ap (λ (r : ConfigRead). r.config) c.in_ok-read.ensures) wrote.value wrote.list_after in
    record { value = g.result; output = g.output; place = wrote.place }
