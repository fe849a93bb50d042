-- `read_pair` meets its contract: two numbers of one byte each are the law `read_single`, and any others are read
-- number by number.
use Prim.Native.Nat.{◌+◌}
use mathlib.Core.Path.{sym, ap, ◌∙◌}
use native.Mathlib.Omega.{arith}
use Rattle.number.specs.Number.{NumberRead, read_number}
use Rattle.number.proofs.Theorems.{read_single}
use Rattle.number_codec.proofs.read_pair.Goals as goal

pub returns-then-second-lt128 : goal.returns-then-second-lt128
returns-then-second-lt128 c = let a = c.args in
    let bs = a.bytes.now in
    let first = read_single bs a.at (omega arith) (omega arith) in
    let second = read_single bs (a.at + 1) (omega arith) (omega arith) in
    let value = ap (λ (n : NumberRead). (read_number bs n.place).value) first
    ∙ ap (λ (n : NumberRead). n.value) second in
    let place = ap (λ (n : NumberRead). (read_number bs n.place).place) first
    ∙ ap (λ (n : NumberRead). n.place) second in
    record { first = sym (ap (λ (n : NumberRead). n.value) first); second = sym value; place = sym place }
