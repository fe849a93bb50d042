-- What the crate shows beyond its contract, over specs/ alone: what the machine's lookups in a plan give.
-- Callers lean on these laws.
--
-- In order: lengths, of whatever configuration;
-- then of every accepted one ranks, ranks by body, bodies by rank, the words, ceilings, tables, entries.
use Prim.Native.Nat.{ℕ, suc, ◌-◌, ◌/◌, ◌%◌, ◌^◌, ◌≤◌, ◌<◌}
use mathlib.Core.Path.{◌≡◌, ap, ◌∙◌}
use mathlib.Core.Bool.{true, cond}
use mathlib.Core.Logic.{◌↔◌}
use native.Mathlib.Omega.{arith}
use native.Mathlib.Nat.{min-eq_left}
use lib.Dec.{eqb}
use lib.ListN.{length, get_or, take, length-take}
use lib.Seq.{get_or-take}
use borrow.Author.Tests.{lt-ltb, le-ltb}
use Rattle.number.proofs.Cases.{by_lt}
use Rattle.word.specs.Word as Word
use Rattle.word.specs.Word.{has}
use Rattle.config.specs.declared.Config.{Config}
use Rattle.config.specs.Value.{max_priority, max_bodies, max_resources, max_tables, max_entries}
use Rattle.config.specs.Meaning.{isr, extended, time_triggered, execution_level, is_osek_task, is_isr, is_extended, is_user, ceiling, first_of}
use Rattle.config.specs.Accepted.{Accepted, Shaped}
use Rattle.config.proofs.Tables.{is_task_true}
use Rattle.plan.specs.declared.Plan.{Plan}
use Rattle.plan.specs.Rank.{no_rank, key_of, rank_of, callable_rank, line_rank}
use Rattle.plan.specs.Entry.{entry_table, table_count, table_first, compare_of}
use Rattle.plan.specs.Plan.{trigger_of, users_of, plan_of}
use Rattle.plan.proofs.Stores.{length_stored, listed_at, get_d_any}
use Rattle.plan.proofs.Words.{marked_lt}
use Rattle.plan.proofs.Greatest.{greatest_in_le}
use Rattle.plan.proofs.Entry.{table_found, table_among}
use Rattle.plan.proofs.Order as Order
use Rattle.plan.proofs.Lookups as Lookups

-- the lengths of the lists, and the size of the words, of whatever configuration
pub record Sized (p : Plan) : Type 0 where
  pub ranks : length p.rank ≡ max_bodies
  pub tasks : length p.callable ≡ max_bodies
  pub lines : length p.line ≡ max_bodies
  pub priorities : length p.priority ≡ max_bodies
  pub bodies : length p.body ≡ max_bodies
  pub isrs_lt : p.isrs < 2 ^ Word.ranks
  pub extended_lt : p.extended < 2 ^ Word.ranks
  pub autostart_lt : p.autostart < 2 ^ Word.ranks
  pub ceilings : length p.ceiling ≡ max_resources
  pub users : length p.users ≡ max_resources
  pub firsts : length p.first ≡ max_tables
  pub compares : length p.compare ≡ max_entries
  pub entries : length p.entry ≡ max_entries
  pub count_le : p.count ≤ max_entries

pub plan_sized : (c : Config) → Sized (plan_of c)
unfolding plan_of
plan_sized c =
    record {
      ranks = simp length_stored;
      tasks = simp length_stored;
      lines = simp length_stored;
      priorities = simp length_stored;
      bodies = simp length_stored;
      isrs_lt = marked_lt _ _ _ _;
      extended_lt = marked_lt _ _ _ _;
      autostart_lt = marked_lt _ _ _ _;
      ceilings = simp length_stored;
      users = simp length_stored;
      firsts = simp length_stored;
      compares = simp length_stored;
      entries = simp length_stored;
      count_le = omega arith;
    }

module _ (c : Config) (accepted : Accepted c) (shaped : Shaped c) where
  -- "Bodies are ranked by priority"
  pub rank_lt : (b : ℕ) → b < c.bodies → rank_of c b < c.bodies
  rank_lt = Order.rank_lt c accepted shaped

  pub rank_inj : (a b : ℕ) → a < c.bodies → b < c.bodies → rank_of c a ≡ rank_of c b → a ≡ b
  rank_inj = Order.rank_inj c accepted shaped

  pub rank_order : (a b : ℕ) → a < c.bodies → b < c.bodies → (key_of c a < key_of c b) ↔ (rank_of c a < rank_of c b)
  rank_order a b ha hb = (Order.rank_rises c accepted shaped a b ha hb, Order.rank_order c accepted shaped a b ha hb)

  -- so that of two requests with different levels the one with the higher level has the higher rank:
  -- a time-triggered task before all others
  pub rank_trigger : (a b : ℕ) → a < c.bodies → b < c.bodies → trigger_of c a < trigger_of c b → rank_of c a < rank_of c b
  rank_trigger a b ha hb l =
      Order.rank_rises c accepted shaped a b ha hb (Order.key_rises c accepted shaped a b ha hb l)

  -- a body's rank; the same where it is a task and where it is an ISR, and nothing else has one
  pub body_rank : (b : ℕ) → b < c.bodies → get_or (plan_of c).rank b no_rank ≡ rank_of c b
  unfolding plan_of
  body_rank = Lookups.by_body c accepted shaped (rank_of c)

  pub rank_none : (b : ℕ) → c.bodies ≤ b → get_or (plan_of c).rank b no_rank ≡ no_rank
  unfolding plan_of
  rank_none = Lookups.past_bodies c accepted shaped (rank_of c)

  pub callable_rank_lem : (b : ℕ) → get_or (plan_of c).callable b no_rank ≡ cond (is_osek_task c b) (rank_of c b) no_rank
  unfolding plan_of
  callable_rank_lem b =
      by_lt b c.bodies
      (λ h. Lookups.by_body c accepted shaped (callable_rank c) b h)
      (λ h. Lookups.past_bodies c accepted shaped (callable_rank c) b h ∙ simp (le-ltb b c.bodies h))

  pub line_rank_lem : (b : ℕ) → get_or (plan_of c).line b no_rank ≡ cond (is_isr c b) (rank_of c b) no_rank
  unfolding plan_of
  line_rank_lem b =
      by_lt b c.bodies
      (λ h. Lookups.by_body c accepted shaped (line_rank c) b h)
      (λ h. Lookups.past_bodies c accepted shaped (line_rank c) b h ∙ simp (le-ltb b c.bodies h))

  -- the same as the code reads it, where the default does not count
  pub callable_rank_read : (b d : ℕ) → b < max_bodies
      → get_or (plan_of c).callable b d ≡ cond (is_osek_task c b) (rank_of c b) no_rank
  callable_rank_read b d h =
      get_d_any (plan_of c).callable b d no_rank (omega (arith, (plan_sized c).tasks)) ∙ callable_rank_lem b

  pub line_rank_read : (b d : ℕ) → b < max_bodies → get_or (plan_of c).line b d ≡ cond (is_isr c b) (rank_of c b) no_rank
  line_rank_read b d h = get_d_any (plan_of c).line b d no_rank (omega (arith, (plan_sized c).lines)) ∙ line_rank_lem b

  pub rank_priority : (b : ℕ) → b < c.bodies → get_or (plan_of c).priority (rank_of c b) 0 ≡ trigger_of c b
  unfolding plan_of
  rank_priority = Lookups.by_rank c accepted shaped (trigger_of c)

  -- a time-triggered task that is triggered "preempts all that runs":
  -- the level of its request is above the one that another of them runs at
  pub trigger_above : (b : ℕ) → b < c.bodies → get_or c.kind b 0 ≡ time_triggered
      → execution_level < get_or (plan_of c).priority (rank_of c b) 0
  trigger_above b h e = omega (arith, rank_priority b h, Order.trigger_timed c accepted shaped b e)

  pub rank_body : (b : ℕ) → b < c.bodies → get_or (plan_of c).body (rank_of c b) 0 ≡ b
  unfolding plan_of
  rank_body = Lookups.by_rank c accepted shaped (λ b. b)

  -- the word of the ISRs, those of the extended and the time-triggered tasks,
  -- and that of the tasks that are ready at the fresh start
  pub rank_isr : (b : ℕ) → b < c.bodies → has (plan_of c).isrs (rank_of c b) ≡ is_isr c b
  unfolding plan_of
  rank_isr b h = rw (lt-ltb b c.bodies h) (Lookups.in_word c accepted shaped (λ i. get_or c.kind i 0) isr b h)

  pub rank_extended : (b : ℕ) → b < c.bodies → has (plan_of c).extended (rank_of c b) ≡ is_extended c b
  unfolding plan_of
  rank_extended b h = rw (lt-ltb b c.bodies h) (Lookups.in_word c accepted shaped (λ i. get_or c.kind i 0) extended b h)

  pub rank_autostart : (b : ℕ) → b < c.bodies
      → has (plan_of c).autostart (rank_of c b) ≡ eqb (get_or c.autostart b 0) 1
  unfolding plan_of
  rank_autostart = Lookups.in_word c accepted shaped (λ i. get_or c.autostart i 0) 1

  -- every rank in them is some body's
  pub isrs_body : (r : ℕ) → has (plan_of c).isrs r ≡ true → (b : ℕ) × (b < c.bodies) × (rank_of c b ≡ r)
  unfolding plan_of
  isrs_body = Lookups.of_word c accepted shaped (λ i. get_or c.kind i 0) isr

  pub extended_body : (r : ℕ) → has (plan_of c).extended r ≡ true → (b : ℕ) × (b < c.bodies) × (rank_of c b ≡ r)
  unfolding plan_of
  extended_body = Lookups.of_word c accepted shaped (λ i. get_or c.kind i 0) extended

  pub autostart_body : (r : ℕ) → has (plan_of c).autostart r ≡ true → (b : ℕ) × (b < c.bodies) × (rank_of c b ≡ r)
  unfolding plan_of
  autostart_body = Lookups.of_word c accepted shaped (λ i. get_or c.autostart i 0) 1

  -- a resource's ceiling
  pub resource_ceiling : (r : ℕ) → r < c.resources → get_or (plan_of c).ceiling r 0 ≡ ceiling c r
  unfolding plan_of
  resource_ceiling = Lookups.by_resource c accepted shaped (ceiling c)

  -- its users: a body's rank is in the word exactly if the body is one of them
  pub resource_users : (r b : ℕ) → r < c.resources → b < c.bodies
      → has (get_or (plan_of c).users r 0) (rank_of c b) ≡ is_user c r b
  unfolding plan_of
  resource_users r b h l =
      rw (Lookups.by_resource c accepted shaped (users_of c) r h, lt-ltb r c.resources h)
      (Lookups.in_word c accepted shaped (λ i. get_or c.users r 0 / 2 ^ i % 2) 1 b l)

  pub ceiling_le : (r : ℕ) → ceiling c r ≤ max_priority
  ceiling_le r = greatest_in_le (get_or c.users r 0) max_priority (take c.bodies c.priority) each
    where
      each : (b : ℕ) → b < length (take c.bodies c.priority)
          → get_or (take c.bodies c.priority) b 0 ≤ max_priority
      each b h =
          let l : b < c.bodies = omega (arith, length-take c.bodies c.priority) in
          rw (get_or-take c.bodies c.priority b 0 l) (accepted.priority_high b l)

  -- a table's first entry
  pub table_first_lem : (t : ℕ) → t < c.tables → get_or (plan_of c).first t 0 ≡ first_of c t
  unfolding plan_of
  table_first_lem t h =
      listed_at (table_first c) (table_count c) max_tables 0 t 0 (omega (arith, accepted.few_tables))
      (omega (arith, accepted.few_tables))
      ∙ min-eq_left (omega (arith, Lookups.first_le c accepted shaped t (omega arith), accepted.few_entries))

  -- how many entries there are in all
  pub entry_count_lem : (plan_of c).count ≡ first_of c c.tables
  unfolding plan_of
  entry_count_lem = rw (min-eq_left accepted.few_tables) (min-eq_left accepted.few_entries)

  pub entry_count_le : (plan_of c).count ≤ max_entries
  entry_count_le = omega (arith, entry_count_lem, accepted.few_entries)

  -- an entry's table is the one whose entries it is among
  pub entry_table_lem : (e : ℕ) → e < (plan_of c).count
      → (entry_table c e < c.tables) × (first_of c (entry_table c e) ≤ e) × (e < first_of c (suc (entry_table c e)))
  entry_table_lem e h = table_among c.entries c.tables e (omega (arith, entry_count_lem))

  -- "Compare value: period P minus 1"
  pub entry_compare : (t e : ℕ) → t < c.tables → first_of c t ≤ e → e < first_of c (suc t)
      → get_or (plan_of c).compare e 0 ≡ get_or c.period t 0 - 1
  unfolding plan_of
  entry_compare t e h lo hi =
      Lookups.by_entry c accepted shaped (compare_of c) e (omega (arith, entry_count_lem, Lookups.first_le c accepted shaped (suc t) (omega arith)))
      ∙ ap (λ k. get_or c.period k 0 - 1) found
    where
      found : entry_table c e ≡ t
      found = table_found c.entries t e (omega (arith, accepted.few_tables, shaped.counts)) lo hi

  -- the rank of an entry's task
  pub entry_rank_lem : (e : ℕ) → e < (plan_of c).count → get_or (plan_of c).entry e 0 ≡ rank_of c (get_or c.task e 0)
  entry_rank_lem e h =
      let task = is_task_true c (get_or c.task e 0) (accepted.entry_task e (omega (arith, entry_count_lem))) in
      Lookups.entry_looked_up c accepted shaped e h ∙ body_rank (get_or c.task e 0) task.0
