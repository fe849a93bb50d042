-- The entries of all tables, one after the other:
-- which table an entry is of, and what is kept for each table and entry.
--
--   entry_table c e                 the table of entry e
--   table_first c t                 where the entries of table t begin
--   compare_of c e, entry_rank c e  entry e's compare value, and the rank of its task
use Rattle.std.specs.Prelude.{ℕ, suc, ◌-◌, min, cond, List, [], ◌∷◌, ltb, get_or}
use Rattle.config.specs.declared.Config.{Config}
use Rattle.config.specs.Value.{max_tables, max_entries}
use Rattle.config.specs.Meaning.{entries_before}
use Rattle.plan.specs.Rank.{no_rank, body_ranks}

-- the table of the e-th entry, where the tables have as many entries as the list says
unfoldable pub table_in : List ℕ → ℕ → ℕ
table_in [] e = 0
table_in (n ∷ ns) e = cond (ltb e n) 0 (suc (table_in ns (e - n)))

-- a table's first entry: no more than the arrays hold, whatever the value says
abbrev pub first_in : List ℕ → ℕ → ℕ
first_in ns t = min (entries_before ns t) max_entries

-- "Compare value: period P minus 1"
abbrev pub entry_compare_in : List ℕ → List ℕ → ℕ → ℕ
entry_compare_in ns ps e = get_or ps (table_in ns e) 0 - 1

-- the same of a configuration
abbrev pub entry_table : Config → ℕ → ℕ
entry_table c e = table_in c.entries e

-- how many tables and how many entries there are: no more than the arrays hold, whatever the value says
abbrev pub table_count : Config → ℕ
table_count c = min c.tables max_tables

abbrev pub entry_count : Config → ℕ
entry_count c = first_in c.entries (table_count c)

abbrev pub table_first : Config → ℕ → ℕ
table_first c = first_in c.entries

abbrev pub compare_of : Config → ℕ → ℕ
compare_of c = entry_compare_in c.entries c.period

-- the rank of the entry's task
abbrev pub entry_rank : Config → ℕ → ℕ
entry_rank c e = get_or (body_ranks c) (get_or c.task e 0) no_rank
