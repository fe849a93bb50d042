-- The refusals of an OIL text. Those of the configuration writer, 4 to 6 and 30, are given too.
use Rattle.std.specs.Prelude.{ℕ}

-- "60 unreadable sign (an unclosed comment, where it opens)"
abbrev pub unreadable_sign : ℕ
unreadable_sign = 60

-- "61 unexpected word"
abbrev pub unexpected_token : ℕ
unexpected_token = 61

-- "62 object or attribute unknown there"
abbrev pub unknown_there : ℕ
unknown_there = 62

-- "63 an earlier object's name, of whatever kind, or PRIORITY or AUTOSTART given twice"
abbrev pub given_twice : ℕ
given_twice = 63

-- "64, the first name no RESOURCE bears"
abbrev pub no_resource : ℕ
no_resource = 64
