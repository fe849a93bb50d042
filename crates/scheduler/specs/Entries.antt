-- The entries of a configuration's tables, in the order of their cells: "by table, then in table order".
use Rattle.std.specs.Prelude.{ℕ, zero, suc, List, [], ◌++◌, map, get_or}
use Rattle.config.specs.declared.Config.{Config}
use Rattle.config.specs.Meaning.{offsets}

-- an entry at the offset of a table with the period
pub record Entry : Type 0 where
  pub table : ℕ
  pub period : ℕ
  pub offset : ℕ

-- the entry at offset o of table t
abbrev pub entry_of : Config → ℕ → ℕ → Entry
entry_of c t o = record { table = t; period = get_or c.period t 0; offset = o }

-- those of n tables from t on
unfoldable pub entries_from : Config → ℕ → ℕ → List Entry
entries_from c zero t = []
entries_from c (suc n) t = map (entry_of c t) (offsets c t) ++ entries_from c n (suc t)

-- those of all tables
abbrev pub entries_of : Config → List Entry
entries_of c = entries_from c c.tables 0

-- the e-th of them; past the last one, the entry at 0 of the table 0
abbrev pub entry_at : Config → ℕ → Entry
entry_at c e = get_or (entries_of c) e (entry_of c 0 0)
