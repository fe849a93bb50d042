-- What the lists and words of an accepted configuration's plan give: by body, by rank, by resource and by entry.
use Prim.Native.Nat.{ℕ, ◌≤◌, ◌<◌}
use mathlib.Core.Path.{◌≡◌}
use mathlib.Core.Bool.{true}
use native.Mathlib.Omega.{arith}
use lib.Dec.{eqb}
use lib.ListN.{get_or, replicate, length-replicate}
use Rattle.word.specs.Word as Word
use Rattle.word.specs.Word.{has}
use Rattle.config.specs.declared.Config.{Config}
use Rattle.config.specs.Value.{max_bodies, max_resources, max_entries}
use Rattle.config.specs.Meaning.{first_of}
use Rattle.config.specs.Accepted.{Accepted, Shaped}
use Rattle.plan.specs.Stores.{stored, listed}
use Rattle.plan.specs.Words.{marked}
use Rattle.plan.specs.Rank.{no_rank, rank_of, body_count}
use Rattle.plan.specs.Entry.{entry_count, entry_rank}
use Rattle.plan.specs.Plan.{resource_count, plan_of}
use Rattle.plan.proofs.Stores.{stored_at, listed_at, listed_past}
use Rattle.plan.proofs.Words.{marked_has, marked_some}
use Rattle.plan.proofs.Entry.{entries_before_le}
use Rattle.plan.proofs.Order as Order

module _ (c : Config) (accepted : Accepted c) (shaped : Shaped c) where
  -- what is listed by body, inside and past the bodies
  all : body_count c ≡ c.bodies
  all = Order.all_bodies c accepted shaped

  pub by_body : (f : ℕ → ℕ) (b : ℕ) → b < c.bodies
      → get_or (listed f (body_count c) (replicate max_bodies no_rank)) b no_rank ≡ f b
  by_body f b h =
      listed_at f (body_count c) max_bodies no_rank b no_rank (rw all h) (omega (arith, accepted.few_bodies))

  pub past_bodies : (f : ℕ → ℕ) (b : ℕ) → c.bodies ≤ b
      → get_or (listed f (body_count c) (replicate max_bodies no_rank)) b no_rank ≡ no_rank
  past_bodies f b h = listed_past f (body_count c) max_bodies no_rank b (rw all h)

  -- no two of the bodies that are counted have one rank
  inj : (a b : ℕ) → a < body_count c → b < body_count c → rank_of c a ≡ rank_of c b → a ≡ b
  inj a b ha hb = Order.rank_inj c accepted shaped a b (omega arith) (omega arith)

  -- what is stored by rank
  pub by_rank : (f : ℕ → ℕ) (b : ℕ) → b < c.bodies
      → get_or (stored (rank_of c) f (body_count c) (replicate max_bodies 0)) (rank_of c b) 0 ≡ f b
  by_rank f b h =
      stored_at (rank_of c) f (body_count c) (replicate max_bodies 0) inj b 0 (rw all h)
      (rw length-replicate (omega (arith, Order.rank_lt c accepted shaped b h, accepted.few_bodies)))

  -- a body's rank is in the word of the bodies whose field f is v exactly if its own is,
  -- and every rank in it is some body's
  pub in_word : (f : ℕ → ℕ) (v b : ℕ) → b < c.bodies
      → has (marked (rank_of c) f v (body_count c)) (rank_of c b) ≡ eqb (f b) v
  in_word f v b h = marked_has (rank_of c) f v (body_count c) inj small b (rw all h)
    where
      small : (i : ℕ) → i < body_count c → rank_of c i < Word.ranks
      small i l = omega (arith, Order.rank_lt c accepted shaped i (omega arith), accepted.few_bodies)

  pub of_word : (f : ℕ → ℕ) (v r : ℕ) → has (marked (rank_of c) f v (body_count c)) r ≡ true
      → (b : ℕ) × (b < c.bodies) × (rank_of c b ≡ r)
  of_word f v r e = let x = marked_some (rank_of c) f v (body_count c) r e in (x.0, omega (arith, x.1), x.2)

  -- what is listed by resource
  pub by_resource : (f : ℕ → ℕ) (r : ℕ) → r < c.resources
      → get_or (listed f (resource_count c) (replicate max_resources 0)) r 0 ≡ f r
  by_resource f r h =
      listed_at f (resource_count c) max_resources 0 r 0 (omega (arith, accepted.few_resources))
      (omega (arith, accepted.few_resources))

  pub first_le : (t : ℕ) → t ≤ c.tables → first_of c t ≤ first_of c c.tables
  first_le t h = entries_before_le c.entries t c.tables h (omega (arith, accepted.few_tables, shaped.counts))

  -- what is listed by entry
  pub by_entry : (f : ℕ → ℕ) (e : ℕ) → e < (plan_of c).count
      → get_or (listed f (entry_count c) (replicate max_entries 0)) e 0 ≡ f e
  unfolding plan_of
  by_entry f e h = listed_at f (entry_count c) max_entries 0 e 0 h (omega arith)

  -- the rank of an entry's task is looked up
  pub entry_looked_up : (e : ℕ) → e < (plan_of c).count
      → get_or (plan_of c).entry e 0 ≡ get_or (plan_of c).rank (get_or c.task e 0) no_rank
  unfolding plan_of
  entry_looked_up = by_entry (entry_rank c)
