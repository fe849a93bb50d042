-- One timer cell: what a start, a tick and a stop make of it.
--
--   cell_of n k on m t  the cell with counter n, compare value k, switch on, match mark m; t: a turn must pass unmatched
--   unmarked n k on t   the same without a mark
--   start_counter k D   the counter from which D additions of 1 lead to the compare value k
--   sums n i            i after n additions of 1
--   start_cell P D      the cell of an entry with period P, D ticks before its first match
--   tick_cell c         c after a tick; ticks n c: after n
--   stop_cell c         c after its table was stopped
--
-- Each rule is written for a counter of M values (its name ends in `_in`) and then taken at 16 bits, so that a fact
-- about the counter is proved once over its width. When the cell's entry is due is in `Due`.
use Rattle.std.specs.Prelude.{ℕ, zero, suc, ◌+◌, ◌-◌, ◌%◌, Bool, true, false, cond, not, ◌&&◌, ◌==◌, nat_lt}
use Rattle.cell.specs.declared.Cell.{Cell}

-- how many values a 16-bit counter has
abbrev pub modulus : ℕ
modulus = 65536

-- the only place where a cell's record is written
abbrev pub cell_of : ℕ → ℕ → Bool → Bool → Bool → Cell
cell_of n k on m t = record { counter = n; compare = k; on = on; matched = m; turn = t }

-- a cell that tells of no match: what its owner keeps of it between two ticks
abbrev pub unmarked : ℕ → ℕ → Bool → Bool → Cell
unmarked n k on t = cell_of n k on false t

-- a − b modulo M
abbrev pub minus : ℕ → ℕ → ℕ → ℕ
minus M a b = (a + (M - b % M)) % M

-- "Compare value: period P minus 1"
abbrev pub compare_in : ℕ → ℕ → ℕ
compare_in M P = minus M P 1

-- "its counter becomes (P − 1 − D) modulo 65,536", where P − 1 is the compare value k and "D = d + o"
abbrev pub start_counter_in : ℕ → ℕ → ℕ → ℕ
start_counter_in = minus

-- a turn is M additions of 1: "one more field, set by a Start with D above 65,536, saying that a turn must pass
-- unmatched"
abbrev pub long_in : ℕ → ℕ → Bool
long_in M D = nat_lt M D

-- "and its switch goes on"
abbrev pub start_cell_in : ℕ → ℕ → ℕ → Cell
start_cell_in M P D = unmarked (start_counter_in M (compare_in M P) D) (compare_in M P) true (long_in M D)

-- "adds 1 modulo 65,536"
abbrev pub sum_in : ℕ → ℕ → ℕ
sum_in M i = (i + 1) % M

-- n times
unfoldable pub sums_in : ℕ → ℕ → ℕ → ℕ
sums_in M zero i = i
sums_in M (suc n) i = sums_in M n (sum_in M i)

-- "an enabled cell .. if the counter now equals the compare value"
abbrev pub reaches_in : ℕ → Cell → Bool
reaches_in M c = c.on && sum_in M c.counter == c.compare

-- "it matches"; but while a turn must pass, "that is no match, the mark is 0 and the counter is not reset"
abbrev pub matches_in : ℕ → Cell → Bool
matches_in M c = reaches_in M c && not c.turn

-- "While it is set, reaching the compare value only clears it"; a cell that is off keeps it
abbrev pub turn_in : ℕ → Cell → Bool
turn_in M c = c.turn && not (reaches_in M c)

-- "the counter is set to 65,535", from which the next tick brings it to 0
abbrev pub reset_in : ℕ → ℕ
reset_in M = M - 1

-- "it matches and the counter is set to 65,535"; "a cell that is off keeps its own"
abbrev pub counted_in : ℕ → Cell → ℕ
counted_in M c = cond (matches_in M c) (reset_in M) (cond c.on (sum_in M c.counter) c.counter)

-- "each record keeps its compare value and switch, gets the counter above .., and its match mark tells of this tick
-- only"; "The row tick keeps or clears that field by the same rule"
unfoldable pub tick_cell_in : ℕ → Cell → Cell
tick_cell_in M c = cell_of (counted_in M c) c.compare c.on (matches_in M c) (turn_in M c)

-- n ticks
unfoldable pub ticks_in : ℕ → ℕ → Cell → Cell
ticks_in M zero c = c
ticks_in M (suc n) c = ticks_in M n (tick_cell_in M c)

-- the same of the counters that the chip has, of 16 bits
abbrev pub start_counter : ℕ → ℕ → ℕ
start_counter = start_counter_in modulus

abbrev pub sums : ℕ → ℕ → ℕ
sums = sums_in modulus

abbrev pub long : ℕ → Bool
long = long_in modulus

abbrev pub start_cell : ℕ → ℕ → Cell
start_cell = start_cell_in modulus

abbrev pub tick_cell : Cell → Cell
tick_cell = tick_cell_in modulus

abbrev pub ticks : ℕ → Cell → Cell
ticks = ticks_in modulus

-- "Stop switches the table's cells off and sets their counters to 0"; "Stop clears it"
abbrev pub stop_cell : Cell → Cell
stop_cell c = unmarked 0 c.compare false false
