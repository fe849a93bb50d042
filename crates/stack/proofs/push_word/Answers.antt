-- `push_word` meets its contract: x has no bit in common with the bytes above it.
use Rattle.std.proofs.Common.{◌≡◌, ℕ, ◌*◌, ◌%◌, ap, ◌∙◌, arith, bit_or}
use Rattle.std.proofs.lemmas.Nat.{or_shifted}
use Rattle.stack.specs.Stack.{seven, word_values}
use Rattle.stack.proofs.push_word.Goals as goal

pub returns : goal.returns
returns c = let a = c.args in
    let e : a.w * 256 % word_values ≡ a.w % seven * 256 = omega arith in
    ap (λ (v : ℕ). bit_or v a.x) e ∙ or_shifted (a.w % seven) 8 a.x (omega arith)
