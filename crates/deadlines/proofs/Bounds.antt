-- What an accepted configuration's deadlines are: an ISR has none, and none is above 65,535.
use Prim.Native.Nat.{ℕ, ◌≤◌, ◌<◌}
use mathlib.Core.Path.{◌≡◌}
use mathlib.Core.Bool.{true}
use borrow.Author.Tests.{ltb-true, eqb-true}
use lib.Dec.{ltb, eqb}
use lib.ListN.{get_or}
use Rattle.number.proofs.Cases.{and_true}
use Rattle.config.specs.declared.Config.{Config}
use Rattle.config.specs.Meaning.{isr, is_isr}
use Rattle.config.specs.Accepted.{Accepted}
use Rattle.deadlines.specs.Miss.{deadlines_of, deadline_in}

module _ (c : Config) (ok : Accepted c) where
  pub deadline_le : (b : ℕ) → b < c.bodies → deadline_in (deadlines_of c) b ≤ 65535
  deadline_le = ok.deadline_high

  pub isr_none : (b : ℕ) → is_isr c b ≡ true → deadline_in (deadlines_of c) b ≡ 0
  isr_none b is =
      let h = and_true (ltb b c.bodies) (eqb (get_or c.kind b 0) isr) is in
      ok.deadline_task b (ltb-true b c.bodies h.0) (eqb-true _ _ h.1)
