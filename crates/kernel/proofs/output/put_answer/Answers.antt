-- `put_answer` meets its contract: four stores are four bytes laid.
use Prim.Native.Nat.{ℕ}
use mathlib.Core.Path.{◌≡◌, refl, ap, ◌∙◌}
use mathlib.Core.Bool.{Bool, true, false}
use mathlib.Core.List.{[], ◌∷◌}
use native.Mathlib.Omega.{arith}
use mir.Val.{bool_byte}
use Rattle.number.specs.Output.{laid}
use Rattle.scheduler.specs.Scheduler.{mark_of}
use lib.ListN.{length-set}
use Rattle.kernel.proofs.Passes.Bytes.{four_laid}
use Rattle.kernel.proofs.output.put_answer.Goals as goal

-- a mark is the byte of its flag
mark : (b : Bool) → bool_byte b ≡ mark_of b
mark true = refl
mark false = refl

pub bounds-out-at-2 : goal.bounds-out-at-2
bounds-out-at-2 c = simp length-set (omega arith)

pub bounds-out-at-3 : goal.bounds-out-at-3
bounds-out-at-3 c = simp length-set (omega arith)

pub bounds-out-at-4 : goal.bounds-out-at-4
bounds-out-at-4 c = simp length-set (omega arith)

pub returns : goal.returns
returns c = let a = c.args in
    four_laid a.out.now a.at a.status a.runner a.level (bool_byte a.begun) c.requires
    ∙ ap (λ (n : ℕ). laid a.at (a.status ∷ a.runner ∷ a.level ∷ n ∷ []) a.out.now) (mark a.begun)
