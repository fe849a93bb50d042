-- `first_by_class` meets its contract: a class at a time.
use Rattle.std.proofs.Common.{◌%◌, arith}
use native.Mathlib.Nat.{mod-lt}
use Rattle.oil.specs.Hash.{hashed}
use Rattle.oil.specs.Names.{spelled}
use Rattle.oil.proofs.ByClass.{first_end, next_class}
use Rattle.oil.proofs.by_class.first_by_class.Goals as goal

pub loop-number-preserved : goal.loop-number-preserved
loop-number-preserved g c = λ p h.
    next_class c.args.text.now c.args.tokens p c.first-class.result c.numbered.result c.loop-number.number
    c.loop-number.first c.find.result c.numbered.ensures c.unwrap_or-bound.ensures (c.loop-number.invariant p h)
    (λ l. h _ _ _ l c.find.ensures) c.or-first.ensures

pub returns : goal.returns
returns g c = λ p h.
    let k = c.first-class.result in
    first_end c.args.tokens p (λ i. hashed k.key 0 (spelled c.args.text.now i) % k.count) c.loop-number.number c.loop-number.first
    (λ i. let l = mod-lt (hashed k.key 0 (spelled c.args.text.now i)) k.in_range.1 in let e = c.loop-number-test.false in omega arith)
    (c.loop-number.invariant p h)
