-- `wait_by` meets its contract: its tests are the definition's, and the plan has the body's rank.
use Prim.Native.Nat.{ℕ, ◌≤◌, ◌<◌}
use mathlib.Core.Path.{◌≡◌, sym, ap, ◌∙◌}
use native.Mathlib.Omega.{arith}
use lib.ListN.{get_or}
use borrow.Author.Tests.{le-leb, lt-leb}
use Rattle.config.specs.declared.Config.{Config}
use Rattle.config.specs.Accepted.{Accepted, Shaped}
use Rattle.word.specs.Word.{ranks}
use Rattle.plan.specs.declared.Plan.{Plan}
use Rattle.plan.specs.Rank.{no_rank, rank_of}
use Rattle.plan.specs.Plan.{plan_of}
use Rattle.plan.proofs.Stores.{get_d_any}
use Rattle.plan.proofs.Theorems.{plan_sized, body_rank, rank_lt}
use Rattle.waiting.specs.Words.{wait_by}
use Rattle.waits.proofs.wait_by.Goals as goal

-- the rank that is read of a plan
module _ (c : Config) (ok : Accepted c) (shaped : Shaped c) (p : Plan) (planned : p ≡ plan_of c) (b : ℕ)
    (fits : b < c.bodies) where
  rank_read : get_or p.rank b 0 ≡ rank_of c b
  rank_read =
      ap (λ (q : Plan). get_or q.rank b 0) planned
      ∙ get_d_any (plan_of c).rank b 0 no_rank (omega (arith, (plan_sized c).ranks, ok.few_bodies))
      ∙ body_rank c ok shaped b fits

  rank_read_lt : get_or p.rank b 0 < ranks
  rank_read_lt = omega (arith, rank_read, rank_lt c ok shaped b fits, ok.few_bodies)

pub returns-then-beyond_basic-clause-value : goal.returns-then-beyond_basic-clause-value
unfolding wait_by
returns-then-beyond_basic-clause-value c = simp (c.refused.ensures, sym c.beyond_basic.ensures, c.if-beyond_basic.true)

pub returns-then-from-body-clause-value : goal.returns-then-from-body-clause-value
unfolding wait_by
returns-then-from-body-clause-value c = let past : c.args.config.bodies ≤ c.args.body = omega (arith, c.from.ensures, c.if-from-body.true) in
    simp (
      c.refused-then-from-body.ensures,
      sym c.beyond_basic.ensures,
      c.if-beyond_basic.false,
      le-leb c.args.config.bodies c.args.body past,
    )

pub wait_at-requires : goal.wait_at-requires
wait_at-requires c = let within : c.args.body < c.args.config.bodies = omega (arith, c.from.ensures, c.if-from-body.false) in
    rw c.from-2.ensures
    (rank_read_lt c.args.config c.requires.accepted c.requires.shaped c.plan_of-plan.result c.plan_of-plan.ensures
    c.args.body within)

pub returns-clause-value : goal.returns-clause-value
unfolding wait_by
returns-clause-value c = let within : c.args.body < c.args.config.bodies = omega (arith, c.from.ensures, c.if-from-body.false) in
    simp (
      sym c.beyond_basic.ensures,
      c.if-beyond_basic.false,
      lt-leb c.args.config.bodies c.args.body within,
      sym (rank_read c.args.config c.requires.accepted c.requires.shaped c.plan_of-plan.result c.plan_of-plan.ensures
          c.args.body within),
    ) (rw c.from-2.ensures at c.wait_at.ensures.value)
