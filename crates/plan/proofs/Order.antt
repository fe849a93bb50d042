-- Ranks order the bodies of an accepted configuration as their keys do, and so as the levels of their requests.
use Prim.Native.Nat.{ℕ, ◌+◌, ◌<◌}
use mathlib.Core.Path.{◌≡◌}
use mathlib.Core.List.{List}
use native.Mathlib.Omega.{arith}
use native.Mathlib.Nat.{min-eq_left}
use lib.ListN.{get_or, take}
use lib.Seq.{get_or-take}
use borrow.Author.Tests.{eq-eqb, ne_eqb}
use Rattle.number.proofs.Cases.{by_lt, by_eq}
use Rattle.config.specs.declared.Config.{Config}
use Rattle.config.specs.Value.{max_priority}
use Rattle.config.specs.Meaning.{time_triggered, trigger_level, priority_of}
use Rattle.config.specs.Accepted.{Accepted, Shaped}
use Rattle.config.proofs.Theorems.{priority_inj}
use Rattle.plan.specs.Rank.{body_count, key_of, keys, rank_of}
use Rattle.plan.specs.Plan.{trigger_of}
use Rattle.plan.proofs.Count.{below_mono, below_order}
use Rattle.plan.proofs.Ranking as Ranking

module _ (c : Config) (accepted : Accepted c) (shaped : Shaped c) where
  pub all_bodies : body_count c ≡ c.bodies
  all_bodies = min-eq_left accepted.few_bodies

  pub rank_lt : (b : ℕ) → b < c.bodies → rank_of c b < c.bodies
  rank_lt b h = omega (arith, Ranking.rank_lt c b (rw all_bodies h))

  -- the key of a body, as it is looked up
  key : (b : ℕ) → b < c.bodies → get_or (keys c) b 0 ≡ key_of c b
  key b h = Ranking.keys_at c b (rw all_bodies h)

  -- the keys of all bodies
  abbrev body_keys : List ℕ
  body_keys = take (body_count c) (keys c)

  pub rank_rises : (a b : ℕ) → a < c.bodies → b < c.bodies → key_of c a < key_of c b → rank_of c a < rank_of c b
  rank_rises a b ha hb l =
      rw own at
      (below_order body_keys a (get_or (keys c) b 0) (rw (Ranking.all_keys_long c, all_bodies) ha)
      (rw (own, key a ha, key b hb) l))
    where
      own : get_or body_keys a 0 ≡ get_or (keys c) a 0
      own = get_or-take (body_count c) (keys c) a 0 (rw all_bodies ha)

  pub rank_order : (a b : ℕ) → a < c.bodies → b < c.bodies → rank_of c a < rank_of c b → key_of c a < key_of c b
  rank_order a b ha hb l =
      by_lt (key_of c a) (key_of c b)
      (λ p. p)
      (λ p. absurd
      (omega (arith, below_mono (get_or (keys c) b 0) (get_or (keys c) a 0) body_keys (rw (key a ha, key b hb) p))))

  -- a time-triggered task's key is above every priority, and any other body's is its priority
  key_timed : (b : ℕ) → get_or c.kind b 0 ≡ time_triggered → key_of c b ≡ max_priority + priority_of c b
  key_timed b e = simp (eq-eqb (get_or c.kind b 0) time_triggered e)

  key_other : (b : ℕ) → (get_or c.kind b 0 ≡ time_triggered → ⊥) → key_of c b ≡ priority_of c b
  key_other b e = simp (ne_eqb (get_or c.kind b 0) time_triggered e)

  pub trigger_timed : (b : ℕ) → get_or c.kind b 0 ≡ time_triggered → trigger_of c b ≡ trigger_level
  trigger_timed b e = simp (eq-eqb (get_or c.kind b 0) time_triggered e)

  trigger_other : (b : ℕ) → (get_or c.kind b 0 ≡ time_triggered → ⊥) → trigger_of c b ≡ priority_of c b
  trigger_other b e = simp (ne_eqb (get_or c.kind b 0) time_triggered e)

  -- where the level of a request is lower, the key is
  pub key_rises : (a b : ℕ) → a < c.bodies → b < c.bodies → trigger_of c a < trigger_of c b → key_of c a < key_of c b
  key_rises a b ha hb l =
      let few_a = accepted.priority_high a ha in
      let few_b = accepted.priority_high b hb in
      let some_b = accepted.priority_low b hb in
      by_eq (get_or c.kind a 0) time_triggered
      (λ ea. by_eq (get_or c.kind b 0) time_triggered
      (λ eb. absurd (omega (arith, l, trigger_timed a ea, trigger_timed b eb)))
      (λ eb. absurd (omega (arith, l, trigger_timed a ea, trigger_other b eb))))
      (λ ea. by_eq (get_or c.kind b 0) time_triggered
      (λ eb. omega (arith, key_other a ea, key_timed b eb))
      (λ eb. omega (arith, l, trigger_other a ea, trigger_other b eb, key_other a ea, key_other b eb)))

  -- two bodies differ in priority; so do their keys
  keys_differ : (a b : ℕ) → a < c.bodies → b < c.bodies → key_of c a ≡ key_of c b → a ≡ b
  keys_differ a b ha hb e =
      let few_a = accepted.priority_high a ha in
      let few_b = accepted.priority_high b hb in
      let some_a = accepted.priority_low a ha in
      let some_b = accepted.priority_low b hb in
      by_eq (get_or c.kind a 0) time_triggered
      (λ ea. by_eq (get_or c.kind b 0) time_triggered
      (λ eb. priority_inj c accepted a b ha hb (omega (arith, e, key_timed a ea, key_timed b eb)))
      (λ eb. absurd (omega (arith, e, key_timed a ea, key_other b eb))))
      (λ ea. by_eq (get_or c.kind b 0) time_triggered
      (λ eb. absurd (omega (arith, e, key_other a ea, key_timed b eb)))
      (λ eb. priority_inj c accepted a b ha hb (omega (arith, e, key_other a ea, key_other b eb))))

  pub rank_inj : (a b : ℕ) → a < c.bodies → b < c.bodies → rank_of c a ≡ rank_of c b → a ≡ b
  rank_inj a b ha hb e =
      by_lt (key_of c a) (key_of c b)
      (λ l. absurd (omega (arith, rank_rises a b ha hb l)))
      (λ l. by_lt (key_of c b) (key_of c a)
      (λ m. absurd (omega (arith, rank_rises b a hb ha m)))
      (λ m. keys_differ a b ha hb (omega arith)))
