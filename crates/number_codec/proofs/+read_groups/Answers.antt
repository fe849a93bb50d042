-- `read_groups` meets its contract: each answer is the law of `Steps` for that first byte. The measure is `more`.
use Prim.Native.Nat.{◌+◌, ◌*◌, ◌%◌}
use mathlib.Core.Path.{sym, ap, ◌∙◌}
use native.Mathlib.Omega.{arith}
use Rattle.std.proofs.lemmas.Result.{err_from_is_err_and}
use Rattle.number.specs.Answer.{code}
use Rattle.number.specs.Number.{accepted}
use Rattle.number.proofs.Answers.{code_some}
use Rattle.number_codec.proofs.Steps.{past, last_small, last_large, single, unread, superfluous, more, continued_fits}
use Rattle.number_codec.proofs.+read_groups.Goals as goal

pub returns-then-bytes-at : goal.returns-then-bytes-at
returns-then-bytes-at t c = past c.args.bytes.now c.args.at c.args.more (omega arith)

pub returns-then-b-lt16 : goal.returns-then-b-lt16
returns-then-b-lt16 t c = let a = c.args in
    last_small a.bytes.now a.at a.more (omega arith) c.if-more-eq0.true (omega arith)

pub returns-else-b-lt16 : goal.returns-else-b-lt16
returns-else-b-lt16 t c = let a = c.args in
    last_large a.bytes.now a.at a.more (omega arith) c.if-more-eq0.true (omega arith)

pub returns-then-b-lt128 : goal.returns-then-b-lt128
returns-then-b-lt128 t c = let a = c.args in
    single a.bytes.now a.at a.more (omega arith) (omega arith) (omega arith)

pub returns-in_err-rest : goal.returns-in_err-rest
returns-in_err-rest t c = let a = c.args in
    let e = c.in_err-rest.field-0.0 in
    let p = err_from_is_err_and c.from_residual.result c.from_residual.ensures.1 in
    rw (p.1, p.2)
    (unread a.bytes.now a.at a.more (omega arith) (omega arith) (omega arith) (code e.refusal) e.place
    (code_some e.refusal) c.in_err-rest.ensures)

pub returns-then-rest-eq0 : goal.returns-then-rest-eq0
returns-then-rest-eq0 t c = let a = c.args in
    let r = c.in_ok-rest.rest in
    superfluous a.bytes.now a.at a.more (omega arith) (omega arith) (omega arith) r.value r.place
    c.in_ok-rest.ensures c.if-rest-eq0.true

pub overflow_mul-result : goal.overflow_mul-result
overflow_mul-result t c = let a = c.args in
    let r = c.in_ok-rest.rest in
    omega (
      arith,
      continued_fits a.bytes.now a.at a.more r.value r.place (omega arith) (omega arith) (omega arith)
          c.in_ok-rest.ensures,
    )

pub overflow_add-result-2 : goal.overflow_add-result-2
overflow_add-result-2 t c = let a = c.args in
    let r = c.in_ok-rest.rest in
    omega (
      arith,
      continued_fits a.bytes.now a.at a.more r.value r.place (omega arith) (omega arith) (omega arith)
          c.in_ok-rest.ensures,
    )

pub returns : goal.returns
returns t c = let a = c.args in
    let r = c.in_ok-rest.rest in
    more a.bytes.now a.at a.more (omega arith) (omega arith) (omega arith) r.value r.place
    c.in_ok-rest.ensures c.if-rest-eq0.false
