-- What the call answers and leaves, at each of its ways out.
--
-- In order: a trace that is too long, or does not fit, or is written; 50 and 51; what every answer satisfies.
use Prim.Native.Nat.{ℕ, ◌≤◌, ◌<◌}
use mathlib.Core.Path.{◌≡◌, refl, sym, ap, ◌∙◌}
use Rattle.std.specs.List.{list_any}
use Rattle.std.proofs.Math.Bool.{or_assoc, or-false}
use mathlib.Core.Bool.{true, false, ◌||◌}
use mathlib.Core.List.{List, [], ◌∷◌}
use native.Mathlib.Omega.{arith}
use borrow.Author.Tests.{le-leb, lt-leb, eq-eqb, ne_eqb}
use lib.Dec.{eqb, lit≤}
use lib.ListN.{length}
use Rattle.number.specs.Refusal.{none, no_room}
use Rattle.number.specs.Output.{Written, unwritten, written}
use Rattle.number.proofs.Cases.{by_lt, cond_either}
use Rattle.number.proofs.Theorems.{writing_fits, writing_no_room}
use Rattle.event.specs.Refusal.{trace_too_long}
use Rattle.event.specs.Trace.{max_trace}
use Rattle.drawing.specs.Weights.{total}
use Rattle.drawing.specs.Drawing.{draw_bytes}
use Rattle.drawing.specs.Answer.{zero_start, nothing_to_draw, zero_limit, writing_trace, draw_answer, filled, draw_output}
use Rattle.drawing.proofs.Theorems.{drawn_size}

pub writing_long : (bs : List ℕ) (m : ℕ) → max_trace < length bs → writing_trace bs m ≡ unwritten trace_too_long 0
unfolding writing_trace
writing_long bs m h = rw (lt-leb (length bs) max_trace h)

-- what 50 and 51 let pass
pub passes : (x : ℕ) (ws ls : List ℕ) (n m : ℕ) → (x ≡ 0 → ⊥) → (total ws ≡ 0 → ⊥) → zero_limit ls ≡ false
    → draw_answer x ws ls n m ≡ writing_trace (draw_bytes ws ls x n) m
unfolding draw_answer
passes x ws ls n m start some limits = rw (ne_eqb x 0 start, ne_eqb (total ws) 0 some, limits)

-- the answer r, and what a slice holds afterwards that held d
abbrev Did : List ℕ → List ℕ → Written → List ℕ → Type 0
Did bs d r out = (r ≡ writing_trace bs (length d)) × (out ≡ filled r bs d)

module _ (bs d : List ℕ) where
  pub did_too_long : (r : Written) → max_trace < length bs → r ≡ unwritten trace_too_long 0 → Did bs d r d
  unfolding writing_trace filled
  did_too_long r h e = rw (e, lt-leb (length bs) max_trace h) (refl, refl)

  module _ (need : ℕ) (measured : need ≡ length bs) (short : need ≤ max_trace) where
    pub did_no_room : (r : Written) → length d < need → r ≡ unwritten no_room need → Did bs d r d
    unfolding writing_trace filled
    did_no_room r h e =
        rw (e, le-leb (length bs) max_trace (omega arith))
        (writing_no_room bs (length d) need measured h, refl)

    pub did_whole : need ≤ length d → (out : List ℕ) → out ≡ written bs d
        → Did bs d (record { refusal = none; place = need }) out
    unfolding writing_trace filled
    did_whole h out e =
        rw (le-leb (length bs) max_trace (omega arith)) (writing_fits bs (length d) need measured h, e)

-- each event has a byte: more than 8,192 are too long
pub too_many : (ws ls : List ℕ) (x n : ℕ) → max_trace < n → max_trace < length (draw_bytes ws ls x n)
too_many ws ls x n h = let s = drawn_size ws ls x n in omega arith

module _ (x : ℕ) (ws ls : List ℕ) (n : ℕ) (d : List ℕ) (r : Written) where
  -- the answer of the call, and what the slice holds afterwards
  abbrev Drew : List ℕ → Type 0
  Drew out = (r ≡ draw_answer x ws ls n (length d)) × (out ≡ draw_output x ws ls n d)

  pub drew_zero_start : x ≡ 0 → r ≡ unwritten zero_start 0 → Drew d
  unfolding draw_answer filled
  drew_zero_start z e = rw (e, eq-eqb x 0 z) (refl, refl)

  module _ (start : x ≡ 0 → ⊥) where
    pub drew_no_weight : total ws ≡ 0 → r ≡ unwritten nothing_to_draw 0 → Drew d
    unfolding draw_answer filled
    drew_no_weight z e = rw (e, ne_eqb x 0 start, eq-eqb (total ws) 0 z) (refl, refl)

    module _ (some : total ws ≡ 0 → ⊥) where
      pub drew_no_limit : zero_limit ls ≡ true → r ≡ unwritten nothing_to_draw 0 → Drew d
      unfolding draw_answer filled
      drew_no_limit z e = rw (e, ne_eqb x 0 start, ne_eqb (total ws) 0 some, z) (refl, refl)

      pub drew_trace : zero_limit ls ≡ false → (out : List ℕ) → Did (draw_bytes ws ls x n) d r out → Drew out
      drew_trace limits out did = (whole, did.1 ∙ ap (λ (w : Written). filled w (draw_bytes ws ls x n) d) whole)
        where
          whole : r ≡ draw_answer x ws ls n (length d)
          whole = did.0 ∙ sym (passes x ws ls n (length d) start some limits)

-- the search for a 0 among four limits
pub zero_among : (ls : List ℕ) → length ls ≡ 4 → list_any (λ y. eqb y 0) ls ≡ zero_limit ls
unfolding zero_limit
zero_among (a ∷ b ∷ c ∷ d ∷ []) n = simp (or_assoc, or-false)
zero_among [] n = absurd (omega (arith, n))
zero_among (a ∷ []) n = absurd (omega (arith, n))
zero_among (a ∷ b ∷ []) n = absurd (omega (arith, n))
zero_among (a ∷ b ∷ c ∷ []) n = absurd (omega (arith, n))
zero_among (a ∷ b ∷ c ∷ d ∷ e ∷ l) n = absurd (omega (arith, n))

-- an accepted answer
pub record Accepted (x : ℕ) (ws ls : List ℕ) (n m : ℕ) : Type 0 where
  pub is_length : (draw_answer x ws ls n m).place ≡ length (draw_bytes ws ls x n)
  pub short : length (draw_bytes ws ls x n) ≤ max_trace
  pub room : length (draw_bytes ws ls x n) ≤ m

-- what holds of 50 and 51 at place 0, and of the answer for the trace, holds of every answer
answer_elim : (P : Written → Type 0) (x : ℕ) (ws ls : List ℕ) (n m : ℕ) → P (unwritten zero_start 0)
    → P (unwritten nothing_to_draw 0) → P (writing_trace (draw_bytes ws ls x n) m) → P (draw_answer x ws ls n m)
unfolding draw_answer
answer_elim P x ws ls n m a b c =
    cond_either P (eqb x 0) _ _ a (cond_either P (eqb (total ws) 0 || zero_limit ls) _ _ b c)

-- and of the trace's, what holds of 20 at place 0 and of 30 and the length
trace_elim : (P : Written → Type 0) (bs : List ℕ) (m : ℕ) → P (unwritten trace_too_long 0)
    → (length bs ≤ max_trace → m < length bs → P (unwritten no_room (length bs)))
    → (length bs ≤ max_trace → length bs ≤ m → P (record { refusal = none; place = length bs }))
    → P (writing_trace bs m)
unfolding writing_trace
trace_elim P bs m a b c =
    by_lt max_trace (length bs) (λ h. rw (lt-leb (length bs) max_trace h) a)
    (λ short. rw (le-leb (length bs) max_trace short)
    (by_lt m (length bs)
    (λ h. rw (← writing_no_room bs m (length bs) refl h) (b short h))
    (λ h. rw (← writing_fits bs m (length bs) refl h) (c short h))))

-- an answer fits one number
pub answer_small : (x : ℕ) (ws ls : List ℕ) (n m : ℕ) → (draw_answer x ws ls n m).place ≤ 8192
answer_small x ws ls n m =
    answer_elim (λ r. r.place ≤ 8192) x ws ls n m (lit≤ tt) (lit≤ tt)
    (trace_elim (λ r. r.place ≤ 8192) (draw_bytes ws ls x n) m (lit≤ tt) (λ short h. short) (λ short h. short))

pub accepted : (x : ℕ) (ws ls : List ℕ) (n m : ℕ) → (draw_answer x ws ls n m).refusal ≡ none → Accepted x ws ls n m
accepted x ws ls n m ok = let r = facts ok in record { is_length = r.0; short = r.1; room = r.2 }
  where
    Facts : Written → Type 0
    Facts r = r.refusal ≡ none → (r.place ≡ length (draw_bytes ws ls x n)) × (length (draw_bytes ws ls x n) ≤ max_trace)
        × (length (draw_bytes ws ls x n) ≤ m)

    facts : Facts (draw_answer x ws ls n m)
    facts =
        answer_elim Facts x ws ls n m (λ e. absurd (omega arith)) (λ e. absurd (omega arith))
        (trace_elim Facts (draw_bytes ws ls x n) m (λ e. absurd (omega arith)) (λ short h e. absurd (omega arith))
        (λ short h e. (refl, short, h)))
