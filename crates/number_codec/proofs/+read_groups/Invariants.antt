-- `read_groups` meets its contract: each answer is the law of `Groups` for that first byte. The measure is `more`.
use Rattle.number_codec.proofs.+read_groups.Given as goal

-- measure: more
abbrev pub decreases-read_groups : goal.decreases-read_groups
decreases-read_groups l = l.more
