-- `described` meets its contract: the tokens come before the uses.
use Rattle.std.proofs.Common.{◌≡◌, rules, Err}
use Rattle.oil.proofs.Answer.{tokens_refused, uses_refused, all_read}
use Rattle.oil.proofs.described.Goals as goal

pub returns-in_err-tokens : goal.returns-in_err-tokens
returns-in_err-tokens c = let e = c.in_err-tokens.field-0.0 in
    let answer : c.from_residual.result ≡ Err e = search rules in
    rw answer (tokens_refused c.args.text.now e c.in_err-tokens.ensures)

pub returns-in_err-unborne : goal.returns-in_err-unborne
returns-in_err-unborne c = let e = c.in_err-unborne.field-0.0 in
    let answer : c.from_residual-in_err-unborne.result ≡ Err e = search rules in
    rw answer (uses_refused c.args.text.now c.in_ok-tokens.ensures e c.in_err-unborne.ensures)

pub returns : goal.returns
returns c = all_read c.args.text.now c.in_ok-tokens.ensures c.in_ok-unborne.ensures c.fill.ensures
