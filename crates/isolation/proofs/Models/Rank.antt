-- Which ranks are low, and what is known of a rank by its body.
--
--   low_or_not    a rank is low or not
--   high_rank     the rank of a body above L is not low
--   unranked      what is no body's rank has the priority 0
--   by_body       a rank with a priority is a body's
--   low_priority  the level of the request of a body that is not above L is its priority, at most L
use Prim.Native.Nat.{ℕ, zero, suc, ◌≤◌, ◌<◌}
use mathlib.Core.Path.{◌≡◌, sym, ap, ◌∙◌}
use mathlib.Core.Logic.{◌≢◌, ◌⊎◌, inl, inr, ⊎_elim}
use mathlib.Core.Bool.{true, false, true≢false}
use native.Mathlib.Omega.{arith}
use borrow.Author.Tests.{ltb-false}
use lib.Dec.{ltb}
use lib.ListN.{get_or, replicate}
use Rattle.number.proofs.Cases.{by_test, by_eq, neither}
use Rattle.config.specs.declared.Config.{Config}
use Rattle.config.specs.Value.{max_bodies}
use Rattle.config.specs.Meaning.{is_timed, priority_of}
use Rattle.config.specs.Accepted as Configuration
use Rattle.plan.specs.Rank.{body_count, rank_of}
use Rattle.plan.specs.Plan.{trigger_of, plan_of}
use Rattle.plan.proofs.Stores.{stored_past}
use Rattle.plan.proofs.Order.{all_bodies}
use Rattle.plan.proofs.Fitted.{Fitted, fitted}
use Rattle.machine.proofs.Relation.Kinds.{trigger_plain}
use Rattle.machine.proofs.Relation.Rows.{same_everywhere}
use Rattle.isolation.specs.Above.{above}
use Rattle.isolation.specs.Models.{LowRank}

-- one of the first n bodies has the rank r, or none has
pub record Ranked (c : Config) (n r : ℕ) : Type 0 where
  pub body : ℕ
  pub exists : body < n
  pub rank : rank_of c body ≡ r

ranked_or_not : (c : Config) (r n : ℕ) → Ranked c n r ⊎ ((b : ℕ) → b < n → rank_of c b ≢ r)
ranked_or_not c r zero = inr (λ b h e. omega arith)
ranked_or_not c r (suc n) =
    by_eq (rank_of c n) r
    (λ e. inl (record { body = n; exists = omega arith; rank = e }))
    (λ d. ⊎_elim
    (λ x. inl (record { body = x.body; exists = omega arith; rank = x.rank }))
    (λ none. inr (λ b h. by_eq b n (λ e. rw e d) (λ other. none b (omega arith))))
    (ranked_or_not c r n))

module _ (c : Config) (ok : Configuration.Accepted c) (shaped : Configuration.Shaped c) where
  fit : Fitted c (plan_of c) (rank_of c)
  fit = fitted c ok shaped

  abbrev pub priority_at : ℕ → ℕ
  priority_at r = get_or (plan_of c).priority r 0

  unranked : (r : ℕ) → ((b : ℕ) → b < c.bodies → rank_of c b ≢ r) → priority_at r ≡ 0
  unfolding plan_of
  unranked r none =
      stored_past (rank_of c) (trigger_of c) (body_count c) (replicate max_bodies 0) r 0
      (λ i h e. none i (rw (all_bodies c ok shaped) at h) (sym e))
      ∙ same_everywhere max_bodies 0 r

  pub by_body : (r : ℕ) → 0 < priority_at r → Ranked c c.bodies r
  by_body r some =
      ⊎_elim (λ x. x) (λ none. absurd (omega (arith, unranked r none))) (ranked_or_not c r c.bodies)

  pub priority_is : {r : ℕ} (x : Ranked c c.bodies r) → priority_at r ≡ trigger_of c x.body
  priority_is x = rw (sym x.rank) (fit.priority_at_lem x.body x.exists)

  module _ (L : ℕ) where
    pub high_rank : (b : ℕ) → b < c.bodies → above c L b ≡ true → LowRank c L (rank_of c b) → ⊥
    high_rank b h a l =
        true≢false (sym a ∙ ap (above c L) (sym (fit.rank_inj l.body b l.exists h l.rank)) ∙ l.low)

    pub low_or_not : (r : ℕ) → LowRank c L r ⊎ (LowRank c L r → ⊥)
    low_or_not r =
        ⊎_elim
        (λ x. by_test (above c L x.body)
        (λ a. inr (λ l. high_rank x.body x.exists a
        (record { body = l.body; exists = l.exists; low = l.low; rank = l.rank ∙ sym x.rank })))
        (λ a. inl (record { body = x.body; exists = x.exists; low = a; rank = x.rank })))
        (λ none. inr (λ l. none l.body l.exists l.rank))
        (ranked_or_not c r c.bodies)

    -- a body that is not above L
    module _ (b : ℕ) (exists : b < c.bodies) (low : above c L b ≡ false) where
      pub low_trigger : trigger_of c b ≡ priority_of c b
      low_trigger = trigger_plain c b exists (neither (is_timed c b) (ltb L (priority_of c b)) low).0

      pub low_priority : priority_of c b ≤ L
      low_priority = ltb-false L (priority_of c b) (neither (is_timed c b) (ltb L (priority_of c b)) low).1
