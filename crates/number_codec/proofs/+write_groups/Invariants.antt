-- `write_groups` meets its contract: one byte stored, and the rest written to the part after it. The measure is the
-- value.
use Rattle.number_codec.proofs.+write_groups.Given as goal

-- measure: value
abbrev pub decreases-write_groups : goal.decreases-write_groups
decreases-write_groups l = l.value
