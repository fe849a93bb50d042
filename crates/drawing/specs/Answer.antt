-- The call that draws a trace: what it answers, and what it leaves in the slice that it is lent.
--
--   draw_answer x ws ls n m  the answer for n events from the start value x, where m bytes are lent
--   draw_output x ws ls n d  what the slice holds afterwards that held d
--   draw_result x ws ls n m  the answer as one number, for C
use Rattle.std.specs.Prelude.{ℕ, Bool, cond, ◌||◌, List, leb, eqb, length}
use Rattle.number.specs.Refusal.{none}
use Rattle.number.specs.Output.{Written, unwritten, writing, written, packed}
use Rattle.event.specs.Refusal.{trace_too_long}
use Rattle.event.specs.Trace.{max_trace}
use Rattle.drawing.specs.Weights.{total}
use Rattle.drawing.specs.Drawing.{body_limit, resource_limit, table_limit, delay_limit, draw_bytes}

-- "50 for start value 0"
abbrev pub zero_start : ℕ
zero_start = 50

-- "51 for all weights 0 or a limit 0"
abbrev pub nothing_to_draw : ℕ
nothing_to_draw = 51

-- "a limit 0"
unfoldable pub zero_limit : List ℕ → Bool
zero_limit ls = eqb (body_limit ls) 0 || eqb (resource_limit ls) 0 || eqb (table_limit ls) 0 || eqb (delay_limit ls) 0

-- "20 for a draw above 8,192 bytes, then 30", whose place is "the bytes needed"
unfoldable pub writing_trace : List ℕ → ℕ → Written
writing_trace bs m = cond (leb (length bs) max_trace) (writing bs m) (unwritten trace_too_long 0)

-- "Refusals: 50 .., 51 .., 20 .., then 30"
unfoldable pub draw_answer : ℕ → List ℕ → List ℕ → ℕ → ℕ → Written
draw_answer x ws ls n m =
    cond (eqb x 0) (unwritten zero_start 0)
    (cond (eqb (total ws) 0 || zero_limit ls) (unwritten nothing_to_draw 0) (writing_trace (draw_bytes ws ls x n) m))

-- what d holds after an answer: the bytes at its start, or where it is refused what it held
unfoldable pub filled : Written → List ℕ → List ℕ → List ℕ
filled r bs d = cond (eqb r.refusal none) (written bs d) d

-- "The writer fills a lent buffer"
abbrev pub draw_output : ℕ → List ℕ → List ℕ → ℕ → List ℕ → List ℕ
draw_output x ws ls n d = filled (draw_answer x ws ls n (length d)) (draw_bytes ws ls x n) d

-- the length, or the refusal with its place
abbrev pub draw_result : ℕ → List ℕ → List ℕ → ℕ → ℕ → ℕ
draw_result x ws ls n m = packed (draw_answer x ws ls n m).refusal (draw_answer x ws ls n m).place
