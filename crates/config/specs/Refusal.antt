-- The refusals of a configuration's numbers. Those of `number`, 1, 2 and 30, are given too.
use Rattle.std.specs.Prelude.{ℕ}

-- "3 for a version 0 or above 3"
abbrev pub bad_version : ℕ
bad_version = 3

-- "a count outside its range"
abbrev pub bad_count : ℕ
bad_count = 4

-- "another field outside its range, an entry's task that is an ISR too";
-- "5 for its autostart or a mask bit for it", kind 3;
-- "5 for a deadline above 65,535, on an ISR or, not 0, in a version below 3 (writer)"
abbrev pub bad_field : ℕ
bad_field = 5

-- "priority already used"
abbrev pub used_priority : ℕ
used_priority = 6

-- "entry not after the one before"
abbrev pub unsorted : ℕ
unsorted = 7

-- "this entry count takes the total over 64"
abbrev pub too_many_entries : ℕ
too_many_entries = 8

-- "bytes left over"
abbrev pub left_over : ℕ
left_over = 9

-- "configuration over 4,096 bytes"
abbrev pub too_long : ℕ
too_long = 10

-- "an offset shared with the entry before where either is kind 3"
abbrev pub shared_offset : ℕ
shared_offset = 13

-- "a mixed or second such table": one that has entries of kind 3 and others, or a second that has entries of kind 3
abbrev pub mixed_table : ℕ
mixed_table = 14
