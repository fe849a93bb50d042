-- The refusals of the call, after those of the run.
use Rattle.std.specs.Prelude.{ℕ}

-- "35 from A5 .. for a configuration with kind 2", "for kind 3 too"
abbrev pub other_kinds : ℕ
other_kinds = 35

-- "34 for no such body"
abbrev pub no_such_body : ℕ
no_such_body = 34

-- "31 if it isn't waiting"
abbrev pub not_waiting : ℕ
not_waiting = 31

-- "32 if a resource is held"
abbrev pub resource_in_use : ℕ
resource_in_use = 32
