-- Events drawn one after the other.
--
--   first_sort, second_sort c  what the arguments of a code are the numbers of
--   draw_event ws ls x         the event drawn after the value x
--   draw_events ws ls x n      the n events drawn after x; value_after: the generator's value then
--   draw_bytes ws ls x n       the trace of these events
--
-- Main laws: `drawn_readable`, `drawn_length`, `weight_zero_never`, `arguments_below` (proofs/Theorems.antt).
use Rattle.std.specs.Prelude.{ℕ, zero, suc, ◌%◌, ◌≤◌, ◌<◌, ◌≡◌, cond, ◌||◌, List, [], ◌∷◌, eqb, get_or}
use Rattle.event.specs.declared.Event.{Event}
use Rattle.event.specs.Event.{activate, chain, get, release, line, start, stop, wait, set, clear, event}
use Rattle.event.specs.Trace.{trace_bytes}
use Rattle.drawing.specs.declared.Sort.{Sort}
use Rattle.drawing.specs.declared.Sort.TheVariants.{Lacking, Body, Resource, Table, Delay, Mask}
use Rattle.drawing.specs.declared.Argument.{Argument}
use Rattle.drawing.specs.declared.Drawn.{Drawn}
use Rattle.drawing.specs.Xorshift.{value_bound, next}
use Rattle.drawing.specs.Weights.{total, picked}

-- bodies for Activate, Chain, Line and Set, resources for Get and Release, tables for Start and Stop, masks for Wait and
-- Clear; Finish and Tick have no argument
unfoldable pub first_sort : ℕ → Sort
first_sort c =
    cond (eqb c activate || eqb c chain || eqb c line || eqb c set) Body
    (cond (eqb c get || eqb c release) Resource
    (cond (eqb c start || eqb c stop) Table
    (cond (eqb c wait || eqb c clear) Mask Lacking)))

-- the delay of a Start and the mask of a Set
unfoldable pub second_sort : ℕ → Sort
second_sort c = cond (eqb c start) Delay (cond (eqb c set) Mask Lacking)

-- "the 16-bit limit lent for its sort: bodies, resources, tables, delays"
abbrev pub body_limit : List ℕ → ℕ
body_limit ls = get_or ls 0 0

abbrev pub resource_limit : List ℕ → ℕ
resource_limit ls = get_or ls 1 0

abbrev pub table_limit : List ℕ → ℕ
table_limit ls = get_or ls 2 0

abbrev pub delay_limit : List ℕ → ℕ
delay_limit ls = get_or ls 3 0

-- "one more draw, modulo the 16-bit limit"
abbrev pub draw_below : ℕ → ℕ → Argument
draw_below limit x = record { number = next x % limit; value = next x }

-- "draws a mask whole"
abbrev pub draw_whole : ℕ → Argument
draw_whole x = record { number = next x; value = next x }

-- an argument that the event lacks is 0, and not drawn
abbrev pub not_drawn : ℕ → Argument
not_drawn x = record { number = 0; value = x }

-- an argument of a sort, drawn after x
unfoldable pub draw_argument : List ℕ → Sort → ℕ → Argument
draw_argument ls Lacking x = not_drawn x
draw_argument ls Body x = draw_below (body_limit ls) x
draw_argument ls Resource x = draw_below (resource_limit ls) x
draw_argument ls Table x = draw_below (table_limit ls) x
draw_argument ls Delay x = draw_below (delay_limit ls) x
draw_argument ls Mask x = draw_whole x

-- the event with its code and its first argument, and the second one drawn
abbrev pub with_second : ℕ → ℕ → Argument → Drawn
with_second c first a = record { event = event c first a.number; value = a.value }

abbrev pub with_first : List ℕ → ℕ → Argument → Drawn
with_first ls c a = with_second c a.number (draw_argument ls (second_sort c) a.value)

-- "After its code each argument", in their order; x is the value that picked the code
unfoldable pub with_arguments : List ℕ → ℕ → ℕ → Drawn
with_arguments ls c x = with_first ls c (draw_argument ls (first_sort c) x)

-- "The drawn value modulo the sum of the weights picks" the code
unfoldable pub draw_event : List ℕ → List ℕ → ℕ → Drawn
draw_event ws ls x = with_arguments ls (picked ws (next x % total ws)) (next x)

-- "exactly as many events as asked"
unfoldable pub draw_events : List ℕ → List ℕ → ℕ → ℕ → List Event
draw_events ws ls x zero = []
draw_events ws ls x (suc n) = (draw_event ws ls x).event ∷ draw_events ws ls (draw_event ws ls x).value n

unfoldable pub value_after : List ℕ → List ℕ → ℕ → ℕ → ℕ
value_after ws ls x zero = x
value_after ws ls x (suc n) = value_after ws ls (draw_event ws ls x).value n

abbrev pub draw_bytes : List ℕ → List ℕ → ℕ → ℕ → List ℕ
draw_bytes ws ls x n = trace_bytes (draw_events ws ls x n)

-- "modulo the 16-bit limit": an argument of a sort is below its limit; a mask is any number of 32 bits
unfoldable pub Within : List ℕ → Sort → ℕ → Type 0
Within ls Lacking a = a ≡ 0
Within ls Body a = a < body_limit ls
Within ls Resource a = a < resource_limit ls
Within ls Table a = a < table_limit ls
Within ls Delay a = a < delay_limit ls
Within ls Mask a = a < value_bound

-- what holds of each event of a list
unfoldable pub Each : (Event → Type 0) → List Event → Type 0
Each P [] = Unit
Each P (e ∷ es) = P e × Each P es

-- no limit is 0, as 51 sees to
pub record Limited (ls : List ℕ) : Type 0 where
  pub bodies : 1 ≤ body_limit ls
  pub resources : 1 ≤ resource_limit ls
  pub tables : 1 ≤ table_limit ls
  pub delays : 1 ≤ delay_limit ls
