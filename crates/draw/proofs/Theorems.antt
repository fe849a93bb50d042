-- What the call does beyond its contract. Each law stands here in full, over the definitions of `drawing`.
--
-- In order: what an accepted call leaves, and that it reads back as the drawn events; what a refused one leaves; a count
-- that is too large; what C reads from the result.
use Prim.Native.Nat.{ℕ, ◌/◌, ◌%◌, ◌≤◌, ◌<◌}
use mathlib.Core.Path.{◌≡◌, ap, ◌∙◌}
use mathlib.Core.Bool.{false}
use mathlib.Core.List.{List}
use native.Mathlib.Omega.{arith}
use borrow.Author.Tests.{eq-eqb, ne_eqb}
use lib.ListN.{length, take, drop}
use lib.Seq.{take-append_seam}
use Rattle.number.specs.Refusal.{none}
use Rattle.number.specs.Output.{unwritten}
use Rattle.number.proofs.Theorems.{written_fits}
use Rattle.event.specs.Trace.{read_trace}
use Rattle.drawing.specs.Weights.{total}
use Rattle.drawing.specs.Drawing.{draw_events, draw_bytes}
use Rattle.drawing.specs.Answer.{zero_limit, draw_answer, filled, draw_output, draw_result}
use Rattle.drawing.proofs.Theorems.{drawn_readable}
use Rattle.draw.proofs.Answers as Answers

-- an accepted call answers the length of the trace, which has at most 8,192 bytes
pub accepted_length : (x : ℕ) (ws ls : List ℕ) (n m : ℕ) → (draw_answer x ws ls n m).refusal ≡ none
    → ((draw_answer x ws ls n m).place ≡ length (draw_bytes ws ls x n)) × (length (draw_bytes ws ls x n) ≤ 8192)
accepted_length x ws ls n m ok = let a = Answers.accepted x ws ls n m ok in (a.is_length, a.short)

-- it leaves the trace in the front of the slice, as many bytes as it answers
pub accepted_output : (x : ℕ) (ws ls : List ℕ) (n : ℕ) (d : List ℕ) → let r = draw_answer x ws ls n (length d) in
    r.refusal ≡ none → take r.place (draw_output x ws ls n d) ≡ draw_bytes ws ls x n
unfolding filled
accepted_output x ws ls n d ok = let a = Answers.accepted x ws ls n (length d) ok in
    rw (
      a.is_length,
      eq-eqb (draw_answer x ws ls n (length d)).refusal none ok,
      written_fits (draw_bytes ws ls x n) d a.room,
    ) (take-append_seam (draw_bytes ws ls x n) (drop (length (draw_bytes ws ls x n)) d))

-- "The trace is always readable", and has "exactly as many events as asked", those of the definition
pub accepted_readable : (x : ℕ) (ws ls : List ℕ) (n : ℕ) (d : List ℕ) → x < 4294967296
    → let r = draw_answer x ws ls n (length d) in r.refusal ≡ none
    → read_trace (take r.place (draw_output x ws ls n d))
    ≡ record { events = draw_events ws ls x n; refusal = none; place = length (draw_bytes ws ls x n) }
accepted_readable x ws ls n d in_range ok =
    ap read_trace (accepted_output x ws ls n d ok) ∙ drawn_readable ws ls x in_range n

-- a refused call leaves the slice as it was
pub refused_same : (x : ℕ) (ws ls : List ℕ) (n : ℕ) (d : List ℕ)
    → ((draw_answer x ws ls n (length d)).refusal ≡ none → ⊥) → draw_output x ws ls n d ≡ d
unfolding filled
refused_same x ws ls n d bad = simp (ne_eqb (draw_answer x ws ls n (length d)).refusal none bad)

-- every event has a byte: more than 8,192 events are 20, drawn or not
pub many_refused : (x : ℕ) (ws ls : List ℕ) (n m : ℕ) → (x ≡ 0 → ⊥) → (total ws ≡ 0 → ⊥) → zero_limit ls ≡ false
    → 8192 < n → draw_answer x ws ls n m ≡ unwritten 20 0
many_refused x ws ls n m start some limits many =
    Answers.passes x ws ls n m start some limits
    ∙ Answers.writing_long (draw_bytes ws ls x n) m (Answers.too_many ws ls x n many)

-- the refusal is the result's high half, 0 for an accepted call, and the place or the length its low half
pub result_halves : (x : ℕ) (ws ls : List ℕ) (n m : ℕ) → let r = draw_answer x ws ls n m in
    (draw_result x ws ls n m / 4294967296 ≡ r.refusal) × (draw_result x ws ls n m % 4294967296 ≡ r.place)
result_halves x ws ls n m = let s = Answers.answer_small x ws ls n m in (omega arith, omega arith)
