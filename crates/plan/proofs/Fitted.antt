-- What the machine's events count on of the tables that they look up, as one record, and that the plan of an accepted
-- configuration has it.
-- rk is the rank of a body.
use Prim.Native.Nat.{ℕ, suc, ◌-◌, ◌^◌, ◌≤◌, ◌<◌}
use mathlib.Core.Path.{◌≡◌}
use mathlib.Core.Bool.{true, cond}
use native.Mathlib.Omega.{arith}
use lib.Dec.{eqb}
use lib.ListN.{length, get_or, get_or-eq_default}
use Rattle.word.specs.Word.{ranks, has}
use Rattle.config.specs.declared.Config.{Config}
use Rattle.config.specs.Value.{max_bodies, max_resources, max_entries, max_priority}
use Rattle.config.specs.Meaning.{is_task, is_osek_task, is_isr, is_extended, is_user, priority_of, ceiling, first_of}
use Rattle.config.specs.Accepted.{Accepted, Shaped}
use Rattle.plan.specs.declared.Plan.{Plan}
use Rattle.plan.specs.Rank.{no_rank, rank_of}
use Rattle.plan.specs.Plan.{trigger_of, plan_of}
use Rattle.config.proofs.Theorems as Configuration
use Rattle.plan.proofs.Theorems as Plan

pub record Fitted (c : Config) (p : Plan) (rk : ℕ → ℕ) : Type 0 where
  pub accepted : Accepted c
  pub shaped : Shaped c
  pub few : c.bodies ≤ max_bodies
  pub body_rank : (b : ℕ) → b < c.bodies → get_or p.rank b no_rank ≡ rk b
  pub rank_none : (b : ℕ) → c.bodies ≤ b → get_or p.rank b no_rank ≡ no_rank
  pub callable_rank_lem : (b : ℕ) → get_or p.callable b no_rank ≡ cond (is_osek_task c b) (rk b) no_rank
  pub line_rank_lem : (b : ℕ) → get_or p.line b no_rank ≡ cond (is_isr c b) (rk b) no_rank
  pub rank_lt : (b : ℕ) → b < c.bodies → rk b < c.bodies
  -- by priority, and time-triggered tasks above all others
  pub rank_order : (a b : ℕ) → a < c.bodies → b < c.bodies → trigger_of c a < trigger_of c b → rk a < rk b
  pub rank_inj : (a b : ℕ) → a < c.bodies → b < c.bodies → rk a ≡ rk b → a ≡ b
  pub own_inj : (a b : ℕ) → a < c.bodies → b < c.bodies → priority_of c a ≡ priority_of c b → a ≡ b
  pub own_some : (b : ℕ) → b < c.bodies → 1 ≤ priority_of c b
  pub own_few : (b : ℕ) → b < c.bodies → priority_of c b ≤ max_priority
  pub priority_at_lem : (b : ℕ) → b < c.bodies → get_or p.priority (rk b) 0 ≡ trigger_of c b
  pub priority_none : get_or p.priority max_bodies 0 ≡ 0
  pub body_at : (b : ℕ) → b < c.bodies → get_or p.body (rk b) 0 ≡ b
  pub isr_at : (b : ℕ) → b < c.bodies → has p.isrs (rk b) ≡ is_isr c b
  pub extended_at : (b : ℕ) → b < c.bodies → has p.extended (rk b) ≡ is_extended c b
  pub autostart_at : (b : ℕ) → b < c.bodies → has p.autostart (rk b) ≡ eqb (get_or c.autostart b 0) 1
  pub autostart_real : (r : ℕ) → has p.autostart r ≡ true → (b : ℕ) × ((b < c.bodies) × (rk b ≡ r))
  pub autostart_lt : p.autostart < 2 ^ ranks
  pub few_resources : c.resources ≤ max_resources
  pub ranks_long : length p.rank ≡ max_bodies
  pub count_is : p.count ≡ first_of c c.tables
  pub few_entries : first_of c c.tables ≤ max_entries
  pub some_entry : (t : ℕ) → t < c.tables → 1 ≤ get_or c.entries t 0
  pub period_low : (t : ℕ) → t < c.tables → 1 ≤ get_or c.period t 0
  pub period_high : (t : ℕ) → t < c.tables → get_or c.period t 0 ≤ 65535
  pub entry_task : (e : ℕ) → e < first_of c c.tables → is_task c (get_or c.task e 0) ≡ true
  pub offset_lt : (t e : ℕ) → t < c.tables → first_of c t ≤ e → e < first_of c (suc t)
      → get_or c.offset e 0 < get_or c.period t 0
  pub offsets_long : length c.offset ≡ max_entries
  pub tasks_long : length c.task ≡ max_entries
  pub autostarts_long : length c.autostart ≡ max_bodies
  pub first_at : (t : ℕ) → t < c.tables → get_or p.first t 0 ≡ first_of c t
  pub compare_at : (t e : ℕ) → t < c.tables → first_of c t ≤ e → e < first_of c (suc t)
      → get_or p.compare e 0 ≡ get_or c.period t 0 - 1
  pub entry_rank_at : (e : ℕ) → e < p.count → get_or p.entry e 0 ≡ rk (get_or c.task e 0)
  pub entry_ranks_long : length p.entry ≡ max_entries
  pub ceiling_few : (r : ℕ) → ceiling c r ≤ max_priority
  pub ceiling_at : (r : ℕ) → r < c.resources → get_or p.ceiling r 0 ≡ ceiling c r
  pub users_at_lem : (r b : ℕ) → r < c.resources → b < c.bodies → has (get_or p.users r 0) (rk b) ≡ is_user c r b
  pub user_ceiling : (r b : ℕ) → b < c.bodies → is_user c r b ≡ true → priority_of c b ≤ ceiling c r

pub fitted : (c : Config) → Accepted c → Shaped c → Fitted c (plan_of c) (rank_of c)
fitted c ok shaped =
    record {
      accepted = ok;
      shaped = shaped;
      few = ok.few_bodies;
      body_rank = Plan.body_rank c ok shaped;
      rank_none = Plan.rank_none c ok shaped;
      callable_rank_lem = Plan.callable_rank_lem c ok shaped;
      line_rank_lem = Plan.line_rank_lem c ok shaped;
      rank_lt = Plan.rank_lt c ok shaped;
      rank_order = Plan.rank_trigger c ok shaped;
      rank_inj = Plan.rank_inj c ok shaped;
      own_inj = Configuration.priority_inj c ok;
      own_some = ok.priority_low;
      own_few = ok.priority_high;
      priority_at_lem = Plan.rank_priority c ok shaped;
      priority_none = get_or-eq_default (plan_of c).priority 0 (omega (arith, (Plan.plan_sized c).priorities));
      body_at = Plan.rank_body c ok shaped;
      isr_at = Plan.rank_isr c ok shaped;
      extended_at = Plan.rank_extended c ok shaped;
      autostart_at = Plan.rank_autostart c ok shaped;
      autostart_real = λ r h. let x = Plan.autostart_body c ok shaped r h in (x.0, (x.1, x.2));
      autostart_lt = (Plan.plan_sized c).autostart_lt;
      few_resources = ok.few_resources;
      ranks_long = (Plan.plan_sized c).ranks;
      count_is = Plan.entry_count_lem c ok shaped;
      few_entries = ok.few_entries;
      some_entry = ok.some_entry;
      period_low = ok.period_low;
      period_high = ok.period_high;
      offset_lt = ok.offset_in_period;
      entry_task = ok.entry_task;
      offsets_long = shaped.offsets;
      tasks_long = shaped.tasks;
      autostarts_long = shaped.autostarts;
      first_at = Plan.table_first_lem c ok shaped;
      compare_at = Plan.entry_compare c ok shaped;
      entry_rank_at = Plan.entry_rank_lem c ok shaped;
      entry_ranks_long = (Plan.plan_sized c).entries;
      ceiling_few = Plan.ceiling_le c ok shaped;
      ceiling_at = Plan.resource_ceiling c ok shaped;
      users_at_lem = Plan.resource_users c ok shaped;
      user_ceiling = Configuration.user_ceiling c ok shaped;
    }
