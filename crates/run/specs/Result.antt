-- A result of the run, split as the header does it: the high half is the refusal, the low half its place or the number
-- of events.
use Rattle.std.specs.Prelude.{ℕ, ◌/◌, ◌%◌}

-- how many values a place has in a result
abbrev pub places : ℕ
places = 4294967296

-- the refusal, or 0; its place, or the number of events
abbrev pub high_half : ℕ → ℕ
high_half n = n / places

abbrev pub low_half : ℕ → ℕ
low_half n = n % places
