-- `bare_group` meets its contract: all bytes looked at are codes without arguments as long as the search says so.
use Rattle.std.proofs.Common.{◌≡◌, ℕ, ◌+◌, ◌-◌, ◌<◌, List, length, take, drop, get_or, length-take, length-drop, ap, ◌∙◌, arith}
use lib.Seq.{get_or-take, get_or-drop}
use Rattle.kernel.specs.Passes.{bare}
use Rattle.kernel.proofs.Passes.Count.{bare_more}
use Rattle.kernel.proofs.count.bare_group.Goals as goal

-- the group's bytes are those of the trace
module _ (bs : List ℕ) (at n i : ℕ) where
  group_byte : i < length (take n (drop at bs)) → get_or (take n (drop at bs)) i 0 ≡ get_or bs (at + i) 0
  group_byte h =
      get_or-take n (drop at bs) i 0 (omega (arith, length-take n (drop at bs))) ∙ get_or-drop at bs i 0

pub loop-code-preserved : goal.loop-code-preserved
loop-code-preserved c = let a = c.args in
    let i = c.loop-code.code-index in
    bare_more a.trace.now a.at i c.is_bare-all.result c.loop-code.all
    (c.is_bare-all.ensures ∙ ap bare (group_byte a.trace.now a.at _ i c.loop-code-test.true)) c.loop-code.invariant

pub returns : goal.returns
returns c t = let a = c.args in
    record {
      inside = omega arith;
      each = λ i h. c.loop-code.invariant t i
          (omega (arith, length-take (a.at + 32 - a.at) (drop a.at a.trace.now), length-drop a.at a.trace.now));
    }
