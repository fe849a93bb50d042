-- `usage_of` meets its contract: the loop keeps `Going`, from set bit to set bit.
use Rattle.std.proofs.Common.{◌∙◌, arith, rules}
use Rattle.planner.proofs.Usage.{start, going_end, going_body, going_past}
use Rattle.planner.proofs.bodies.Bodies.usage_of.Goals as goal
use Rattle.planner.proofs.bodies.Bodies.usage_of.Goals.{else-b-self, then-b-self}

pub loop-m-init : goal.loop-m-init
loop-m-init c = start (search rules) (omega arith)

pub loop-m-preserved : goal.loop-m-preserved
loop-m-preserved c = let g = c.loop-m.invariant in
    elim c.if-b-self.branch [
      | then-b-self w ↦ rw (w.most-is ∙ w.max-most.ensures, w.w-is ∙ w.with-w.ensures) (going_body g c.loop-m-test.true w.if-b-self.true)
      | else-b-self w ↦ rw (w.most-is, w.w-is) (going_past g c.loop-m-test.true w.if-b-self.false)
    ]

pub returns : goal.returns
returns c = let e = going_end c.loop-m.invariant c.loop-m-test.false in record { ceiling = e.0; users = e.1 }
