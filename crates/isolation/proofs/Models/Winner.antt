-- Who wins in two words that are the same but at low ranks: `winners`.
--
-- The winner is the same, or neither winner is above L. Where neither is and both are L, it is the same again,
-- since no two bodies have one priority.
use Prim.Native.Nat.{ℕ, ◌≤◌, ◌<◌}
use mathlib.Core.Path.{◌≡◌, sym, ap, ◌∙◌}
use mathlib.Core.Logic.{◌⊎◌, inl, inr, ⊎_elim}
use mathlib.Core.Bool.{true, false}
use native.Mathlib.Omega.{arith}
use borrow.Author.Tests.{ltb-true}
use Rattle.number.proofs.Cases.{by_test, by_lt}
use Rattle.config.specs.declared.Config.{Config}
use Rattle.config.specs.Value.{max_priority}
use Rattle.config.specs.Meaning.{trigger_level, is_timed, priority_of}
use Rattle.config.specs.Accepted as Configuration
use Rattle.word.specs.Word.{ranks, has, winner}
use Rattle.word.proofs.Theorems.{winner_highest, winner_rank, winner_in}
use Rattle.plan.specs.Rank.{rank_of}
use Rattle.plan.specs.Plan.{trigger_of, plan_of}
use Rattle.plan.proofs.Fitted.{Fitted, fitted}
use Rattle.machine.proofs.Relation.Kinds.{trigger_timed, trigger_plain}
use Rattle.isolation.specs.Above.{above}
use Rattle.isolation.specs.Models.{LowRank, SameWord}
use Rattle.isolation.proofs.Models.Rank.{Ranked, priority_at, by_body, priority_is, high_rank, low_or_not, low_trigger, low_priority}

module _ (c : Config) (ok : Configuration.Accepted c) (shaped : Configuration.Shaped c) (L : ℕ) where
  fit : Fitted c (plan_of c) (rank_of c)
  fit = fitted c ok shaped

  abbrev priority : ℕ → ℕ
  priority = priority_at c ok shaped

  trigger_le : (a b : ℕ) → a < c.bodies → b < c.bodies → rank_of c a ≤ rank_of c b → trigger_of c a ≤ trigger_of c b
  trigger_le a b ha hb le =
      by_lt (trigger_of c b) (trigger_of c a) (λ lt. absurd (omega (arith, fit.rank_order b a hb ha lt))) (λ q. q)

  -- the body whose rank wins
  abbrev WinnerOf : ℕ → Type 0
  WinnerOf w = Ranked c c.bodies (winner w)

  module _ (w w' : ℕ) (same : SameWord c L w w') where
    -- one that is above L is in the other word, too, whose winner is then no lower
    carried : (x : WinnerOf w) → above c L x.body ≡ true
        → (winner w ≤ winner w') × (has w' (winner w') ≡ true)
    carried x a =
        let below : winner w < ranks = omega (arith, fit.rank_lt x.body x.exists, x.rank, fit.few) in
        let high : LowRank c L (winner w) → ⊥ =
        λ l. high_rank c ok shaped L x.body x.exists a (rw (sym x.rank) at l) in
        let there = sym (same (winner w) high) ∙ winner_rank w below in
        (winner_highest w' (winner w) there, winner_in w' (winner w) there)

  -- a winner above L wins in both
  above_wins : (w w' : ℕ) → SameWord c L w w' → L < priority (winner w) → winner w ≡ winner w'
  above_wins w w' same over =
      let x = by_body c ok shaped (winner w) (omega arith) in
      let level = priority_is c ok shaped x in
      by_test (above c L x.body)
      (λ a. let high = carried w w' same x a in
      ⊎_elim
      (λ l. absurd (omega (
        arith,
        level,
        trigger_le x.body l.body x.exists l.exists (omega (arith, x.rank, l.rank, high.0)),
        low_trigger c ok shaped L l.body l.exists l.low,
        low_priority c ok shaped L l.body l.exists l.low,
      )))
      (λ l. let back = winner_highest w (winner w') (same (winner w') l ∙ high.1) in omega (arith, high.0, back))
      (low_or_not c ok shaped L (winner w')))
      (λ a. absurd (omega (
        arith,
        level,
        low_trigger c ok shaped L x.body x.exists a,
        low_priority c ok shaped L x.body x.exists a,
      )))

  pub winners : (w w' : ℕ) → SameWord c L w w'
      → (winner w ≡ winner w') ⊎ ((priority (winner w) ≤ L) × (priority (winner w') ≤ L))
  winners w w' same =
      by_lt L (priority (winner w))
      (λ h. inl (above_wins w w' same h))
      (λ h. by_lt L (priority (winner w'))
      (λ h'. inl (sym (above_wins w' w (λ r l. sym (same r l)) h')))
      (λ h'. inr (h, h')))

  -- one above L whose level is L is time-triggered
  timed_at : {r : ℕ} (x : Ranked c c.bodies r) → priority r ≡ L → above c L x.body ≡ true → L ≡ trigger_level
  timed_at x e a =
      by_test (is_timed c x.body)
      (λ t. omega (arith, e, priority_is c ok shaped x, trigger_timed c x.body x.exists t))
      (λ t. let more = ltb-true L (priority_of c x.body) (rw t at a) in
      absurd (omega (arith, e, priority_is c ok shaped x, trigger_plain c x.body x.exists t, more)))

  low_at : {r : ℕ} (x : Ranked c c.bodies r) → priority r ≡ L → above c L x.body ≡ false
      → (priority_of c x.body ≡ L) × (L ≤ max_priority)
  low_at x e a =
      let p : priority_of c x.body ≡ L =
      sym (low_trigger c ok shaped L x.body x.exists a) ∙ sym (priority_is c ok shaped x) ∙ e in
      (p, omega (arith, p, fit.own_few x.body x.exists))

  pub winners_at : (w w' : ℕ) → SameWord c L w w' → 0 < L → priority (winner w) ≡ L → priority (winner w') ≡ L
      → winner w ≡ winner w'
  winners_at w w' same some e e' =
      let x = by_body c ok shaped (winner w) (omega arith) in
      let y = by_body c ok shaped (winner w') (omega arith) in
      by_test (above c L x.body)
      (λ a. by_test (above c L y.body)
      (λ b. omega (arith, (carried w w' same x a).0, (carried w' w (λ r l. sym (same r l)) y b).0))
      (λ b. absurd (omega (arith, timed_at x e a, (low_at y e' b).1))))
      (λ a. by_test (above c L y.body)
      (λ b. absurd (omega (arith, timed_at y e' b, (low_at x e a).1)))
      (λ b. sym x.rank
      ∙ ap (rank_of c)
      (fit.own_inj x.body y.body x.exists y.exists ((low_at x e a).0 ∙ sym (low_at y e' b).0))
      ∙ y.rank))
