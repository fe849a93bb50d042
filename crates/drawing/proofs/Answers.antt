-- The call's answers, computed: the order of its refusals, each with its place, and what it leaves in the slice.
use Prim.Native.Nat.{ℕ}
use mathlib.Core.Path.{◌≡◌, refl}
use mathlib.Core.List.{List, [], ◌∷◌, ◌++◌}
use lib.ListN.{replicate}
use Rattle.number.specs.Output.{unwritten, writing, written}
use Rattle.drawing.specs.Weights.{sum}
use Rattle.drawing.specs.Drawing.{draw_bytes}
use Rattle.drawing.specs.Answer.{zero_limit, writing_trace, draw_answer, filled, draw_output, draw_result}
use Rattle.drawing.proofs.Examples.{limits, equal, eight_bytes}

-- no weight
abbrev weightless : List ℕ
weightless = replicate 12 0

-- 50 before 51, and 51 before 20, for no events too; 51 for each limit, needed or not
pub refusals : (draw_answer 0 weightless limits 8193 0 ≡ unwritten 50 0)
    × (draw_answer 0 equal limits 0 0 ≡ unwritten 50 0)
    × (draw_answer 1 weightless limits 8193 0 ≡ unwritten 51 0)
    × (draw_answer 1 weightless limits 0 0 ≡ unwritten 51 0)
    × (draw_answer 1 equal (0 ∷ 1 ∷ 1 ∷ 1 ∷ []) 0 0 ≡ unwritten 51 0)
    × (draw_answer 1 equal (1 ∷ 0 ∷ 1 ∷ 1 ∷ []) 0 0 ≡ unwritten 51 0)
    × (draw_answer 1 equal (1 ∷ 1 ∷ 0 ∷ 1 ∷ []) 0 0 ≡ unwritten 51 0)
    × (draw_answer 1 equal (1 ∷ 1 ∷ 1 ∷ 0 ∷ []) 0 0 ≡ unwritten 51 0)
unfolding sum zero_limit draw_answer
refusals = (refl, refl, refl, refl, refl, refl, refl, refl)

-- 8,192 bytes are not too long, 8,193 are, whatever is lent
pub lengths : (writing_trace (replicate 8192 2) 8192 ≡ record { refusal = 0; place = 8192 })
    × (writing_trace (replicate 8192 2) 8191 ≡ unwritten 30 8192)
    × (writing_trace (replicate 8193 2) 0 ≡ unwritten 20 0)
unfolding writing writing_trace
lengths = (refl, refl, refl)

-- the eight events of `Examples` take 23 bytes
pub room : (draw_answer 2463534242 equal limits 8 23 ≡ record { refusal = 0; place = 23 })
    × (draw_answer 2463534242 equal limits 8 22 ≡ unwritten 30 23)
unfolding sum zero_limit draw_answer writing_trace writing
room = (rw eight_bytes, rw eight_bytes)

-- for C: 23, 30 × 4,294,967,296 + 23, and 50 × 4,294,967,296
pub results : (draw_result 2463534242 equal limits 8 23 ≡ 23)
    × (draw_result 2463534242 equal limits 8 22 ≡ 128849018903)
    × (draw_result 0 equal limits 8 23 ≡ 214748364800)
unfolding sum zero_limit draw_answer writing_trace writing
results = (rw eight_bytes, rw eight_bytes, refl)

-- the byte behind the trace stays, and a refusal leaves every byte
pub outputs : (draw_output 2463534242 equal limits 8 (replicate 24 91) ≡ draw_bytes equal limits 2463534242 8 ++ (91 ∷ []))
    × (draw_output 2463534242 equal limits 8 (replicate 22 91) ≡ replicate 22 91)
    × (draw_output 0 equal limits 8 (replicate 24 91) ≡ replicate 24 91)
unfolding sum zero_limit draw_answer writing_trace writing filled written
outputs = (rw eight_bytes, rw eight_bytes, refl)
