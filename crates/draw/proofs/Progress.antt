-- The trace, event by event: the generator's value and the bytes after i events.
use Prim.Native.Nat.{ℕ, ◌+◌, ◌≤◌, ◌<◌}
use mathlib.Core.Path.{◌≡◌, refl, sym, ap, ◌∙◌}
use mathlib.Core.List.{List, ◌++◌}
use native.Mathlib.Nat.{zero-add}
use native.Mathlib.Omega.{arith}
use lib.ListN.{length, length-append}
use Rattle.number.specs.Output.{written, laid}
use Rattle.number.proofs.Laying.{length_laid, laid_laid, laid_zero}
use Rattle.event.specs.Event.{event_bytes, Writable}
use Rattle.event.specs.Trace.{trace_bytes}
use Rattle.drawing.specs.declared.Drawn.{Drawn}
use Rattle.drawing.specs.Xorshift.{value_bound}
use Rattle.drawing.specs.Drawing.{draw_event, draw_events, value_after, draw_bytes}
use Rattle.drawing.proofs.Events.{event_value, event_writable, bytes_step, value_step, bytes_mono}
use Rattle.drawing.proofs.Theorems.{drawn_size}

-- after i events from x on: the generator's value, and how many bytes they take
pub record Reached (ws ls : List ℕ) (x i value at : ℕ) : Type 0 where
  pub is_value : value ≡ value_after ws ls x i
  pub in_range : value < value_bound
  pub is_length : at ≡ length (draw_bytes ws ls x i)

pub reached_start : (ws ls : List ℕ) (x : ℕ) → x < value_bound → Reached ws ls x 0 x 0
unfolding value_after draw_events trace_bytes
reached_start ws ls x h = record { is_value = refl; in_range = h; is_length = refl }

module _ {ws ls : List ℕ} {x i value at : ℕ} (p : Reached ws ls x i value at) where
  pub reached_few : i ≤ 8192 → at ≤ 122880
  reached_few h = omega (arith, p.is_length, (drawn_size ws ls x i).1)

  pub reached_end : (n : ℕ) → i ≡ n → at ≡ length (draw_bytes ws ls x n)
  reached_end n e = p.is_length ∙ ap (λ (k : ℕ). length (draw_bytes ws ls x k)) e

  module _ (d : Drawn) (drawn : d ≡ draw_event ws ls value) where
    pub next_writable : Writable d.event
    next_writable = rw drawn (event_writable ws ls value p.in_range)

    bytes : draw_bytes ws ls x (i + 1) ≡ draw_bytes ws ls x i ++ event_bytes d.event
    bytes = bytes_step ws ls x i ∙ rw (drawn, p.is_value)

    more : at + length (event_bytes d.event) ≡ length (draw_bytes ws ls x (i + 1))
    more = omega (arith, p.is_length, ap length bytes, length-append (draw_bytes ws ls x i) (event_bytes d.event))

    pub reached_step : Reached ws ls x (i + 1) d.value (at + length (event_bytes d.event))
    reached_step =
        record {
          is_value = rw (drawn, p.is_value) (sym (value_step ws ls x i));
          in_range = rw drawn (event_value ws ls value p.in_range);
          is_length = more;
        }

    -- an output with the bytes so far over its start
    module _ (n : ℕ) (before : i < n) (out lent : List ℕ) (room : length (draw_bytes ws ls x n) ≤ length lent)
        (so_far : out ≡ laid 0 (draw_bytes ws ls x i) lent) where
      enough : length (draw_bytes ws ls x (i + 1)) ≤ length lent
      enough = let m = bytes_mono ws ls x (i + 1) n (omega arith) in omega arith

      pub next_room : at + length (event_bytes d.event) ≤ length out
      next_room = omega (arith, more, enough, ap length so_far ∙ length_laid 0 (draw_bytes ws ls x i) lent few)
        where
          few : 0 + length (draw_bytes ws ls x i) ≤ length lent
          few = omega (arith, more, enough, p.is_length)

      pub next_laid : laid at (event_bytes d.event) out ≡ laid 0 (draw_bytes ws ls x (i + 1)) lent
      next_laid =
          rw (so_far, p.is_length, bytes)
          (rw zero-add at (laid_laid 0 (draw_bytes ws ls x i) (event_bytes d.event) lent fits))
        where
          fits : 0 + length (draw_bytes ws ls x i) + length (event_bytes d.event) ≤ length lent
          fits = omega (arith, more, enough, p.is_length)

pub output_start : (ws ls : List ℕ) (x : ℕ) (lent : List ℕ) → lent ≡ laid 0 (draw_bytes ws ls x 0) lent
unfolding draw_events trace_bytes laid
output_start ws ls x lent = refl

pub output_end : (ws ls : List ℕ) (x n : ℕ) (out lent : List ℕ) → length (draw_bytes ws ls x n) ≤ length lent
    → out ≡ laid 0 (draw_bytes ws ls x n) lent → out ≡ written (draw_bytes ws ls x n) lent
output_end ws ls x n out lent room e = e ∙ sym (laid_zero (draw_bytes ws ls x n) lent room)
