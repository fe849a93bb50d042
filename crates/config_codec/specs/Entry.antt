-- The refusals of an entry's task, from the entry and the one before it.
--
--   entry_at v p ..     the entry at p with the task v
--   entry_fault c ts x  the refusal of x, where ts are the tasks of all entries
use Rattle.std.specs.Prelude.{ℕ, ◌+◌, ◌-◌, Bool, cond, not, ◌&&◌, ◌||◌, List, [], eqb, get_or, take}
use Rattle.config.specs.declared.Config.{Config}
use Rattle.config.specs.Refusal.{bad_field, unsorted, shared_offset, mixed_table}
use Rattle.config.specs.Meaning.{is_task, is_timed}
use Rattle.config.specs.Draft.{unless, and_then, rises, some_timed}
use Rattle.config_codec.specs.declared.entry.Entry.{Entry}
use Rattle.config_codec.specs.declared.position.Position.{Position}

-- b bodies with the kinds ks, which is all of a configuration that these refusals ask for
abbrev pub bodies_of : ℕ → List ℕ → Config
bodies_of b ks =
    record {
      version = 0;
      bodies = b;
      kind = ks;
      priority = [];
      autostart = [];
      deadline = [];
      resources = 0;
      users = [];
      tables = 0;
      period = [];
      entries = [];
      offset = [];
      task = [];
    }

-- where the tables have ns entries, with the offsets os and the tasks ts
abbrev pub entry_at : ℕ → Position → List ℕ → List ℕ → List ℕ → Entry
entry_at v p ns os ts =
    record {
      offset = get_or os p.entry 0;
      task = v;
      first = eqb (p.entry + get_or ns p.index 0) p.until;
      reached = get_or os (p.entry - 1) 0;
      latest = get_or ts (p.entry - 1) 0;
      earlier = p.until - get_or ns p.index 0;
    }

-- the refusals 13 and 14 of an entry that is of kind 3 or not (`here`), as the one before it (`was`);
-- `second`: a table before has an entry of kind 3
abbrev pub kind_fault : Bool → Bool → Bool → Bool → Bool → ℕ
kind_fault first same was here second =
    and_then (unless (not (not first && (same && (was || here)))) shared_offset)
    (unless (not ((not first && cond here (not was) was) || (here && second))) mixed_table)

-- the same of the entry x, after the entries with the tasks ts
abbrev pub table_fault : Config → List ℕ → Entry → ℕ
table_fault c ts x =
    kind_fault x.first (eqb x.reached x.offset) (is_timed c x.latest) (is_timed c x.task)
    (some_timed c (take x.earlier ts))

-- 5 where its task is none, then 7 where it does not rise, then 13 and 14
abbrev pub entry_fault : Config → List ℕ → Entry → ℕ
entry_fault c ts x =
    and_then (unless (is_task c x.task) bad_field)
    (and_then (unless (x.first || rises x.reached x.latest x.offset x.task) unsorted)
    (table_fault c ts x))
