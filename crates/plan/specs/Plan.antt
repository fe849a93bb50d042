-- The static tables that the machine's events look up, derived once from a configuration: `plan_of`.
--
-- Each is a list that is filled as far as the counts reach. Main laws: what a lookup gives (proofs/Theorems.antt).
use Rattle.std.specs.Prelude.{ℕ, ◌/◌, ◌%◌, ◌^◌, min, cond, eqb, get_or, replicate, List}
use Rattle.config.specs.declared.Config.{Config}
use Rattle.config.specs.Value.{max_bodies, max_resources, max_tables, max_entries}
use Rattle.config.specs.Meaning.{isr, extended, time_triggered, trigger_level, ceiling}
use Rattle.plan.specs.declared.Plan.{Plan}
use Rattle.plan.specs.Stores.{stored, listed}
use Rattle.plan.specs.Words.{marked}
use Rattle.plan.specs.Rank.{body_count, rank_of, body_ranks, callable_ranks, line_ranks}
use Rattle.plan.specs.Entry.{table_count, entry_count, table_first, compare_of, entry_rank}

-- the level that a request of body b is compared with: its priority;
-- of a time-triggered task "the trigger level is 202"
abbrev pub trigger_in : List ℕ → List ℕ → ℕ → ℕ
trigger_in kinds ps b = cond (eqb (get_or kinds b 0) time_triggered) trigger_level (get_or ps b 0)

-- the same of a configuration
abbrev pub trigger_of : Config → ℕ → ℕ
trigger_of c = trigger_in c.kind c.priority

-- by rank: the level of a request, and the body's number
abbrev pub priorities : Config → List ℕ
priorities c = stored (rank_of c) (trigger_of c) (body_count c) (replicate max_bodies 0)

abbrev pub bodies_by_rank : Config → List ℕ
bodies_by_rank c = stored (rank_of c) (λ b. b) (body_count c) (replicate max_bodies 0)

-- the words of the ranks that are ISRs, of those that are extended tasks, and of those that "autostart tasks" have
abbrev pub of_kind : Config → ℕ → ℕ
of_kind c kind = marked (rank_of c) (λ b. get_or c.kind b 0) kind (body_count c)

abbrev pub isrs : Config → ℕ
isrs c = of_kind c isr

abbrev pub extendeds : Config → ℕ
extendeds c = of_kind c extended

abbrev pub autostarts : Config → ℕ
autostarts c = marked (rank_of c) (λ b. get_or c.autostart b 0) 1 (body_count c)

-- by resource: its ceiling, and the word of the ranks that its declared users have
abbrev pub resource_count : Config → ℕ
resource_count c = min c.resources max_resources

abbrev pub ceilings : Config → List ℕ
ceilings c = listed (ceiling c) (resource_count c) (replicate max_resources 0)

abbrev pub users_of : Config → ℕ → ℕ
users_of c r = marked (rank_of c) (λ b. get_or c.users r 0 / 2 ^ b % 2) 1 (body_count c)

abbrev pub user_words : Config → List ℕ
user_words c = listed (users_of c) (resource_count c) (replicate max_resources 0)

-- by table: its first entry
abbrev pub firsts : Config → List ℕ
firsts c = listed (table_first c) (table_count c) (replicate max_tables 0)

-- by entry: its cell's compare value, and the rank of its task
abbrev pub compares : Config → List ℕ
compares c = listed (compare_of c) (entry_count c) (replicate max_entries 0)

abbrev pub entry_ranks : Config → List ℕ
entry_ranks c = listed (entry_rank c) (entry_count c) (replicate max_entries 0)

unfoldable pub plan_of : Config → Plan
plan_of c =
    record {
      rank = body_ranks c;
      callable = callable_ranks c;
      line = line_ranks c;
      priority = priorities c;
      body = bodies_by_rank c;
      isrs = isrs c;
      extended = extendeds c;
      autostart = autostarts c;
      ceiling = ceilings c;
      users = user_words c;
      first = firsts c;
      compare = compares c;
      entry = entry_ranks c;
      count = entry_count c;
    }
