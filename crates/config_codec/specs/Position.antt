-- A draft as the code has it: the configuration as far as its numbers have come, and the position beside it.
--
--   draft_at c p   the draft
--   position_of d  the position of one
--   Stands p       some draft is there, inside its arrays
use Rattle.std.specs.Prelude.{ℕ}
use Rattle.config.specs.declared.Config.{Config}
use Rattle.config.specs.declared.Draft.{Draft}
use Rattle.config.specs.declared.Field.{Field}
use Rattle.config.specs.Draft.{Within}
use Rattle.config_codec.specs.declared.position.Position.{Position}

abbrev pub draft_at : Config → Position → Draft
draft_at c p = record { config = c; field = p.field; index = p.index; entry = p.entry; until = p.until }

abbrev pub position_of : Draft → Position
position_of d = record { field = d.field; index = d.index; entry = d.entry; until = d.until }

-- at the number f of row i
abbrev pub row_at : Position → Field → ℕ → Position
row_at p f i = record { field = f; index = i; entry = p.entry; until = p.until }

pub record Stands (p : Position) : Type 0 where
  pub config : Config
  pub within : Within (draft_at config p)
