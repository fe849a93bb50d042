-- What every accepted configuration satisfies, and what a value is as far as its counts reach.
use Rattle.std.specs.Prelude.{ℕ, suc, ◌+◌, ◌-◌, ◌^◌, ◌≤◌, ◌<◌, ◌≡◌, List, ◌++◌, true, false, length, get_or, take, replicate}
use Rattle.config.specs.declared.Config.{Config}
use Rattle.config.specs.Value.{newest_version, max_priority, max_bodies, max_resources, max_tables, max_entries}
use Rattle.config.specs.Meaning.{isr, time_triggered, last_kind, is_task, is_timed, is_user, first_of, timed_entry, priority_of, has_deadlines, deadline_of}
use Rattle.config.specs.Draft.{rises}

-- the arrays have the lengths of the type's own
pub record Shaped (c : Config) : Type 0 where
  pub kinds : length c.kind ≡ max_bodies
  pub priorities : length c.priority ≡ max_bodies
  pub autostarts : length c.autostart ≡ max_bodies
  pub deadlines : length c.deadline ≡ max_bodies
  pub masks : length c.users ≡ max_resources
  pub periods : length c.period ≡ max_tables
  pub counts : length c.entries ≡ max_tables
  pub offsets : length c.offset ≡ max_entries
  pub tasks : length c.task ≡ max_entries

-- the ranges of a configuration's fields, as far as its counts reach
pub record Accepted (c : Config) : Type 0 where
  pub version_low : 1 ≤ c.version
  pub version_high : c.version ≤ newest_version
  pub some_body : 1 ≤ c.bodies
  pub few_bodies : c.bodies ≤ max_bodies
  pub kind_known : (b : ℕ) → b < c.bodies → get_or c.kind b 0 ≤ last_kind
  pub priority_low : (b : ℕ) → b < c.bodies → 1 ≤ priority_of c b
  pub priority_high : (b : ℕ) → b < c.bodies → priority_of c b ≤ max_priority
  pub priorities_differ : (a b : ℕ) → a < b → b < c.bodies → priority_of c a ≡ priority_of c b → ⊥
  pub autostart_known : (b : ℕ) → b < c.bodies → get_or c.autostart b 0 ≤ 1
  pub autostart_task : (b : ℕ) → b < c.bodies → get_or c.kind b 0 ≡ isr → get_or c.autostart b 0 ≡ 0
  pub autostart_osek : (b : ℕ) → b < c.bodies → get_or c.kind b 0 ≡ time_triggered → get_or c.autostart b 0 ≡ 0
  pub deadline_high : (b : ℕ) → b < c.bodies → deadline_of c b ≤ 65535
  pub deadline_task : (b : ℕ) → b < c.bodies → get_or c.kind b 0 ≡ isr → deadline_of c b ≡ 0
  pub deadline_version : (b : ℕ) → b < c.bodies → has_deadlines c.version ≡ false → deadline_of c b ≡ 0
  pub few_resources : c.resources ≤ max_resources
  pub some_user : (r : ℕ) → r < c.resources → 1 ≤ get_or c.users r 0
  pub users_exist : (r : ℕ) → r < c.resources → get_or c.users r 0 < 2 ^ c.bodies
  pub users_osek : (r b : ℕ) → r < c.resources → is_timed c b ≡ true → is_user c r b ≡ false
  pub few_tables : c.tables ≤ max_tables
  pub period_low : (t : ℕ) → t < c.tables → 1 ≤ get_or c.period t 0
  pub period_high : (t : ℕ) → t < c.tables → get_or c.period t 0 ≤ 65535
  pub some_entry : (t : ℕ) → t < c.tables → 1 ≤ get_or c.entries t 0
  pub few_of_table : (t : ℕ) → t < c.tables → get_or c.entries t 0 ≤ 16
  pub few_entries : first_of c c.tables ≤ max_entries
  pub offset_in_period : (t e : ℕ) → t < c.tables → first_of c t ≤ e → e < first_of c (suc t)
      → get_or c.offset e 0 < get_or c.period t 0
  pub entry_task : (e : ℕ) → e < first_of c c.tables → is_task c (get_or c.task e 0) ≡ true
  pub entries_rise : (t e : ℕ) → t < c.tables → first_of c t ≤ e → e + 1 < first_of c (suc t)
      → rises (get_or c.offset e 0) (get_or c.task e 0) (get_or c.offset (e + 1) 0) (get_or c.task (e + 1) 0) ≡ true
  -- "One table at most has kind 3 entries, and only those, with distinct offsets"
  pub timed_in_one : (t t' e e' : ℕ) → t < c.tables → t' < c.tables
      → first_of c t ≤ e → e < first_of c (suc t) → first_of c t' ≤ e' → e' < first_of c (suc t')
      → timed_entry c e ≡ true → timed_entry c e' ≡ true → t ≡ t'
  pub timed_alone : (t e e' : ℕ) → t < c.tables
      → first_of c t ≤ e → e < first_of c (suc t) → first_of c t ≤ e' → e' < first_of c (suc t)
      → timed_entry c e ≡ timed_entry c e'
  pub timed_distinct : (t e e' : ℕ) → t < c.tables → first_of c t ≤ e → e < e' → e' < first_of c (suc t)
      → timed_entry c e ≡ true → timed_entry c e' ≡ true → get_or c.offset e 0 ≡ get_or c.offset e' 0 → ⊥

-- the first n elements of l, and zeros up to m
abbrev pub padded : ℕ → ℕ → List ℕ → List ℕ
padded m n l = take n l ++ replicate (m - n) 0

-- "entries past the counts are 0": the value as far as its counts reach
unfoldable pub trimmed : Config → Config
trimmed c =
    record {
      version = c.version;
      bodies = c.bodies;
      kind = padded max_bodies c.bodies c.kind;
      priority = padded max_bodies c.bodies c.priority;
      autostart = padded max_bodies c.bodies c.autostart;
      deadline = padded max_bodies c.bodies c.deadline;
      resources = c.resources;
      users = padded max_resources c.resources c.users;
      tables = c.tables;
      period = padded max_tables c.tables c.period;
      entries = padded max_tables c.tables c.entries;
      offset = padded max_entries (first_of c c.tables) c.offset;
      task = padded max_entries (first_of c c.tables) c.task;
    }
