-- `put_loss` meets its contract: the two bytes of a number are laid.
use Rattle.std.proofs.Common.{◌+◌, ◌-◌, ℕ, List, length, ap, ◌∙◌, arith}
use Rattle.number.specs.Output.{laid}
use Rattle.kernel.proofs.Passes.Bytes.{laid_mid, two_bytes}
use Rattle.kernel.proofs.output.put_loss.Goals as goal

pub returns : goal.returns
returns c = let a = c.args in
    let wrote = c.copy_from_slice.ensures.after ∙ c.to_le_bytes.ensures ∙ two_bytes a.n (omega arith) in
    laid_mid a.at (a.at + 2 - a.at) _ a.out.now (omega (arith, ap length wrote)) ∙ ap (λ (l : List ℕ). laid a.at l a.out.now) wrote
