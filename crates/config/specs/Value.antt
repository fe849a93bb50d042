-- The configuration value, with one field changed at a time, and the value of a refused reading.
use Rattle.std.specs.Prelude.{ℕ, List, set, replicate}
use Rattle.config.specs.declared.Config.{Config}

-- "Version 1 or 2 at the head of the configuration", and from document 02, A11, version 3
abbrev pub newest_version : ℕ
newest_version = 3

-- "There are 1 to 32" bodies
abbrev pub max_bodies : ℕ
max_bodies = 32

-- "Each has its own priority, 1 to 200"
abbrev pub max_priority : ℕ
max_priority = 200

-- "resource count 0 to 16"
abbrev pub max_resources : ℕ
max_resources = 16

-- "table count 0 to 8"
abbrev pub max_tables : ℕ
max_tables = 8

-- "at most 64 entries in all"
abbrev pub max_entries : ℕ
max_entries = 64

-- "an all-zero value"
abbrev pub no_config : Config
no_config =
    record {
      version = 0;
      bodies = 0;
      kind = replicate max_bodies 0;
      priority = replicate max_bodies 0;
      autostart = replicate max_bodies 0;
      deadline = replicate max_bodies 0;
      resources = 0;
      users = replicate max_resources 0;
      tables = 0;
      period = replicate max_tables 0;
      entries = replicate max_tables 0;
      offset = replicate max_entries 0;
      task = replicate max_entries 0;
    }

-- c with the version v, b bodies, r resources and t tables
abbrev pub with_counts : Config → ℕ → ℕ → ℕ → ℕ → Config
with_counts c v b r t =
    record {
      version = v;
      bodies = b;
      kind = c.kind;
      priority = c.priority;
      autostart = c.autostart;
      deadline = c.deadline;
      resources = r;
      users = c.users;
      tables = t;
      period = c.period;
      entries = c.entries;
      offset = c.offset;
      task = c.task;
    }

-- c with other lists of its bodies: kinds, priorities, autostarts, deadlines
abbrev pub with_body_lists : Config → List ℕ → List ℕ → List ℕ → List ℕ → Config
with_body_lists c ks ps ss ds =
    record {
      version = c.version;
      bodies = c.bodies;
      kind = ks;
      priority = ps;
      autostart = ss;
      deadline = ds;
      resources = c.resources;
      users = c.users;
      tables = c.tables;
      period = c.period;
      entries = c.entries;
      offset = c.offset;
      task = c.task;
    }

-- c with other lists of its tables: periods, entry counts, offsets, tasks
abbrev pub with_table_lists : Config → List ℕ → List ℕ → List ℕ → List ℕ → Config
with_table_lists c ps ns os ts =
    record {
      version = c.version;
      bodies = c.bodies;
      kind = c.kind;
      priority = c.priority;
      autostart = c.autostart;
      deadline = c.deadline;
      resources = c.resources;
      users = c.users;
      tables = c.tables;
      period = ps;
      entries = ns;
      offset = os;
      task = ts;
    }

-- one number changed: a count, or the i-th of a list
abbrev pub with_version : Config → ℕ → Config
with_version c v = with_counts c v c.bodies c.resources c.tables

abbrev pub with_bodies : Config → ℕ → Config
with_bodies c v = with_counts c c.version v c.resources c.tables

abbrev pub with_kind : Config → ℕ → ℕ → Config
with_kind c i v = with_body_lists c (set c.kind i v) c.priority c.autostart c.deadline

abbrev pub with_priority : Config → ℕ → ℕ → Config
with_priority c i v = with_body_lists c c.kind (set c.priority i v) c.autostart c.deadline

abbrev pub with_autostart : Config → ℕ → ℕ → Config
with_autostart c i v = with_body_lists c c.kind c.priority (set c.autostart i v) c.deadline

abbrev pub with_deadline : Config → ℕ → ℕ → Config
with_deadline c i v = with_body_lists c c.kind c.priority c.autostart (set c.deadline i v)

abbrev pub with_resources : Config → ℕ → Config
with_resources c v = with_counts c c.version c.bodies v c.tables

abbrev pub with_users : Config → ℕ → ℕ → Config
with_users c i v =
    record {
      version = c.version;
      bodies = c.bodies;
      kind = c.kind;
      priority = c.priority;
      autostart = c.autostart;
      deadline = c.deadline;
      resources = c.resources;
      users = set c.users i v;
      tables = c.tables;
      period = c.period;
      entries = c.entries;
      offset = c.offset;
      task = c.task;
    }

abbrev pub with_tables : Config → ℕ → Config
with_tables c v = with_counts c c.version c.bodies c.resources v

abbrev pub with_period : Config → ℕ → ℕ → Config
with_period c i v = with_table_lists c (set c.period i v) c.entries c.offset c.task

abbrev pub with_entries : Config → ℕ → ℕ → Config
with_entries c i v = with_table_lists c c.period (set c.entries i v) c.offset c.task

abbrev pub with_offset : Config → ℕ → ℕ → Config
with_offset c i v = with_table_lists c c.period c.entries (set c.offset i v) c.task

abbrev pub with_task : Config → ℕ → ℕ → Config
with_task c i v = with_table_lists c c.period c.entries c.offset (set c.task i v)
