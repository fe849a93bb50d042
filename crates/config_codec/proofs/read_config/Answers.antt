-- `read_config` meets its contract: the length is tested, the numbers are walked, and no byte is left over.
use mathlib.Core.Path.{◌≡◌}
use borrow.Author.Tests.{lt-leb, eq-eqb, ne_eqb}
use lib.ListN.{length}
use Rattle.std.proofs.lemmas.Result.{err_from_is_err_and}
use Rattle.number.specs.Refusal.{none}
use Rattle.number.specs.Answer.{code}
use Rattle.number.proofs.Answers.{code_some}
use Rattle.config.specs.Reader.{accepted, refused, read_config, max_length}
use Rattle.config_codec.proofs.Reading.{read_answer}
use Rattle.config_codec.proofs.read_config.Goals as goal

pub returns-then-bytes-gt-MAX_LENGTH : goal.returns-then-bytes-gt-MAX_LENGTH
unfolding read_config
returns-then-bytes-gt-MAX_LENGTH c = rw (lt-leb (length c.args.bytes.now) max_length c.if-bytes-gt-MAX_LENGTH.true)

pub returns-in_err-r : goal.returns-in_err-r
returns-in_err-r c =
    let k = err_from_is_err_and c.from_residual.result c.from_residual.ensures.1 in
    let e = c.in_err-r.field-0.0 in
    let h : refused (code e.refusal) e.place ≡ read_config c.args.bytes.now =
    rw (ne_eqb (code e.refusal) none (code_some e.refusal)) at (read_answer c.args.bytes.now
    (refused (code e.refusal) e.place) c.if-bytes-gt-MAX_LENGTH.false c.in_err-r.ensures) in
    rw (k.1, k.2) h

pub returns-then-r-bytes : goal.returns-then-r-bytes
returns-then-r-bytes c =
    let r = c.in_ok-r.r in
    rw (ne_eqb r.place (length c.args.bytes.now) c.if-r-bytes.true) at (read_answer c.args.bytes.now
    (accepted r.value r.place) c.if-bytes-gt-MAX_LENGTH.false c.in_ok-r.ensures)

pub returns : goal.returns
returns c =
    let r = c.in_ok-r.r in
    rw (eq-eqb r.place (length c.args.bytes.now) c.if-r-bytes.false) at (read_answer c.args.bytes.now
    (accepted r.value r.place) c.if-bytes-gt-MAX_LENGTH.false c.in_ok-r.ensures)
