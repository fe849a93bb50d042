-- `put_losses` meets its contract: each turn lays the losses of one body more.
use Rattle.std.proofs.Common.{◌≡◌, ℕ, List, [], ◌∷◌, ◌+◌, ◌*◌, ◌/◌, ◌%◌, map, take, get_or, length-take, ap, ◌∙◌, rules, arith}
use lib.Seq.{take_all}
use Rattle.number.specs.Output.{laid}
use Rattle.run.specs.Run.{loss_bytes}
use Rattle.kernel.proofs.Passes.Bytes.{laid_none, losses_step}
use Rattle.kernel.proofs.output.put_losses.Goals as goal

pub loop-b-init : goal.loop-b-init
unfolding loss_bytes
loop-b-init c = laid_none c.args.at c.args.out.now

pub loop-b-preserved : goal.loop-b-preserved
loop-b-preserved c = let a = c.args in
    let b = c.loop-b.b in
    let rs = take a.bodies a.ranks.now in
    let loss : c.unwrap_or-loss.result ≡ get_or a.losses.now (get_or rs b 0) 0 = search rules in
    c.put_loss.ensures
    ∙ ap (laid (a.at + 2 * b) (c.unwrap_or-loss.result % 256 ∷ c.unwrap_or-loss.result / 256 ∷ [])) c.loop-b.invariant
    ∙ losses_step (λ r. get_or a.losses.now r 0) rs a.at a.out.now b c.unwrap_or-loss.result c.loop-b-test.true
    (omega (arith, length-take a.bodies a.ranks.now)) loss

pub returns : goal.returns
returns c = let a = c.args in
    c.loop-b.invariant
    ∙ ap (λ (l : List ℕ). laid a.at (loss_bytes (map (λ r. get_or a.losses.now r 0) l)) a.out.now)
    (take_all c.loop-b.b (take a.bodies a.ranks.now) c.loop-b-test.false)
