-- What every drawn event satisfies, and how a list of them goes on.
--
-- In order: an argument; which arguments a code lacks; an event; a list of events.
use Prim.Native.Nat.{ℕ, zero, suc, ◌+◌, ◌-◌, ◌*◌, ◌%◌, ◌≤◌, ◌<◌}
use mathlib.Core.Path.{◌≡◌, refl, sym, ap, ◌∙◌}
use mathlib.Core.Bool.{◌||◌}
use mathlib.Core.List.{List, [], ◌∷◌, ◌++◌, append_assoc, append-nil}
use native.Mathlib.Nat.{mod-lt, mod-le, lt_of_le_of_lt, zero-add, suc-add, add-sub_of_le}
use native.Mathlib.Omega.{arith}
use borrow.Author.Tests.{ne_eqb}
use lib.Dec.{eqb, lit≤}
use lib.ListN.{length, length-append}
use Rattle.number.proofs.Cases.{by_eq, cond_either}
use Rattle.event.specs.declared.Event.{Event}
use Rattle.event.specs.Event.{finish, tick, start, set, arguments, event_bytes, Writable}
use Rattle.event.specs.Trace.{trace_bytes, AllWritable}
use Rattle.event.proofs.Theorems.{length_event_bytes}
use Rattle.drawing.specs.declared.Sort.{Sort}
use Rattle.drawing.specs.declared.Sort.TheVariants.{Lacking, Body, Resource, Table, Delay, Mask}
use Rattle.drawing.specs.declared.Argument.{Argument}
use Rattle.drawing.specs.Xorshift.{value_bound, next}
use Rattle.drawing.specs.Weights.{weight, total, picked}
use Rattle.drawing.specs.Drawing.{first_sort, second_sort, draw_argument, with_arguments, draw_event, draw_events, value_after, draw_bytes, Within, Each, Limited}
use Rattle.drawing.proofs.Generator.{next_lt}
use Rattle.drawing.proofs.Shares.{picked_range, picked_weight}

module _ (ls : List ℕ) where
  argument_value : (s : Sort) (x : ℕ) → x < value_bound → (draw_argument ls s x).value < value_bound
  unfolding draw_argument
  argument_value Lacking x h = h
  argument_value Body x h = next_lt x h
  argument_value Resource x h = next_lt x h
  argument_value Table x h = next_lt x h
  argument_value Delay x h = next_lt x h
  argument_value Mask x h = next_lt x h

  argument_lt : (s : Sort) (x : ℕ) → x < value_bound → (draw_argument ls s x).number < value_bound
  unfolding draw_argument
  argument_lt Lacking x h = omega arith
  argument_lt Body x h = lt_of_le_of_lt (mod-le (next x) _) (next_lt x h)
  argument_lt Resource x h = lt_of_le_of_lt (mod-le (next x) _) (next_lt x h)
  argument_lt Table x h = lt_of_le_of_lt (mod-le (next x) _) (next_lt x h)
  argument_lt Delay x h = lt_of_le_of_lt (mod-le (next x) _) (next_lt x h)
  argument_lt Mask x h = next_lt x h

  argument_within : Limited ls → (s : Sort) (x : ℕ) → x < value_bound
      → Within ls s (draw_argument ls s x).number
  unfolding draw_argument Within
  argument_within d Lacking x h = refl
  argument_within d Body x h = mod-lt (next x) d.bodies
  argument_within d Resource x h = mod-lt (next x) d.resources
  argument_within d Table x h = mod-lt (next x) d.tables
  argument_within d Delay x h = mod-lt (next x) d.delays
  argument_within d Mask x h = next_lt x h

  argument_lacking : (s : Sort) (x : ℕ) → s ≡ Lacking → (draw_argument ls s x).number ≡ 0
  unfolding draw_argument
  argument_lacking s x e = rw e

-- a code that has no argument, or only one
lacks_first : (c : ℕ) → arguments c < 1 → first_sort c ≡ Lacking
unfolding arguments first_sort
lacks_first c h = by_eq c finish (λ e. rw e) (λ n. by_eq c tick (λ e. rw e) (λ m. absurd (some n m)))
  where
    some : (c ≡ finish → ⊥) → (c ≡ tick → ⊥) → ⊥
    some n m =
        let one = cond_either (λ (k : ℕ). 1 ≤ k) (eqb c start || eqb c set) 2 1 (lit≤ tt) (lit≤ tt) in
        let few = simp (ne_eqb c finish n, ne_eqb c tick m) at h in
        omega arith

lacks_second : (c : ℕ) → arguments c < 2 → second_sort c ≡ Lacking
unfolding arguments second_sort
lacks_second c h =
    by_eq c start (λ e. absurd (let two = rw e at h in omega arith))
    (λ n. by_eq c set (λ e. absurd (let two = rw e at h in omega arith))
    (λ m. simp (ne_eqb c start n, ne_eqb c set m)))

-- the event drawn after a value
module _ (ws ls : List ℕ) (x : ℕ) (in_range : x < value_bound) where
  code : ℕ
  code = picked ws (next x % total ws)

  first : Argument
  first = draw_argument ls (first_sort code) (next x)

  first_value : first.value < value_bound
  unfolding first
  first_value = argument_value ls (first_sort code) (next x) (next_lt x in_range)

  pub event_value : (draw_event ws ls x).value < value_bound
  unfolding draw_event with_arguments first code
  event_value = argument_value ls (second_sort code) first.value first_value

  pub event_writable : Writable (draw_event ws ls x).event
  unfolding draw_event with_arguments first code
  event_writable =
      record {
        at_least = (picked_range ws (next x % total ws)).0;
        at_most = (picked_range ws (next x % total ws)).1;
        first_lt = argument_lt ls (first_sort code) (next x) (next_lt x in_range);
        second_lt = argument_lt ls (second_sort code) first.value first_value;
        lacks_first = λ h. argument_lacking ls (first_sort code) (next x) (lacks_first code h);
        lacks_second = λ h. argument_lacking ls (second_sort code) first.value (lacks_second code h);
      }

  pub event_weight : 1 ≤ total ws → 1 ≤ weight ws (draw_event ws ls x).event.code
  unfolding draw_event with_arguments
  event_weight some = picked_weight ws (next x % total ws) (mod-lt (next x) some)

  pub event_within : Limited ls → let e = (draw_event ws ls x).event in
      Within ls (first_sort e.code) e.first × Within ls (second_sort e.code) e.second
  unfolding draw_event with_arguments first code
  event_within limited = (
    argument_within ls limited (first_sort code) (next x) (next_lt x in_range),
    argument_within ls limited (second_sort code) first.value first_value,
  )

-- what every drawn event satisfies, each of a list does
module _ (ws ls : List ℕ) (P : Event → Type 0) (drawn : (x : ℕ) → x < value_bound → P (draw_event ws ls x).event) where
  pub each_drawn : (n x : ℕ) → x < value_bound → Each P (draw_events ws ls x n)
  unfolding draw_events Each
  each_drawn zero x h = tt
  each_drawn (suc n) x h = (drawn x h, each_drawn n (draw_event ws ls x).value (event_value ws ls x h))

pub each_writable : (es : List Event) → Each Writable es → AllWritable es
unfolding Each AllWritable
each_writable [] h = tt
each_writable (e ∷ es) h = (h.0, each_writable es h.1)

module _ (ws ls : List ℕ) where
  pub length_drawn : (n x : ℕ) → length (draw_events ws ls x n) ≡ n
  unfolding draw_events
  length_drawn zero x = refl
  length_drawn (suc n) x = ap suc (length_drawn n (draw_event ws ls x).value)

  -- n events and then m are n + m
  pub drawn_append : (n m x : ℕ)
      → draw_events ws ls x (n + m) ≡ draw_events ws ls x n ++ draw_events ws ls (value_after ws ls x n) m
  unfolding draw_events value_after
  drawn_append zero m x = rw zero-add
  drawn_append (suc n) m x = rw suc-add (ap (◌∷◌ (draw_event ws ls x).event) (drawn_append n m (draw_event ws ls x).value))

  pub value_append : (n m x : ℕ)
      → value_after ws ls x (n + m) ≡ value_after ws ls (value_after ws ls x n) m
  unfolding value_after
  value_append zero m x = rw zero-add
  value_append (suc n) m x = rw suc-add (value_append n m (draw_event ws ls x).value)

pub trace_append : (es fs : List Event) → trace_bytes (es ++ fs) ≡ trace_bytes es ++ trace_bytes fs
unfolding trace_bytes
trace_append [] fs = refl
trace_append (e ∷ es) fs =
    ap (λ (l : List ℕ). event_bytes e ++ l) (trace_append es fs)
    ∙ sym (append_assoc (event_bytes e) (trace_bytes es) (trace_bytes fs))

module _ (ws ls : List ℕ) (x : ℕ) where
  -- the trace grows by the bytes of one more event
  pub bytes_step : (n : ℕ)
      → draw_bytes ws ls x (n + 1) ≡ draw_bytes ws ls x n ++ event_bytes (draw_event ws ls (value_after ws ls x n)).event
  unfolding draw_events trace_bytes
  bytes_step n =
      ap trace_bytes (drawn_append ws ls n 1 x)
      ∙ trace_append (draw_events ws ls x n) (draw_events ws ls (value_after ws ls x n) 1)
      ∙ ap (λ (l : List ℕ). draw_bytes ws ls x n ++ l) (append-nil (event_bytes (draw_event ws ls (value_after ws ls x n)).event))

  pub value_step : (n : ℕ) → value_after ws ls x (n + 1) ≡ (draw_event ws ls (value_after ws ls x n)).value
  unfolding value_after
  value_step n = value_append ws ls n 1 x

  -- fewer events take no more bytes
  pub bytes_mono : (n m : ℕ) → n ≤ m → length (draw_bytes ws ls x n) ≤ length (draw_bytes ws ls x m)
  bytes_mono n m h =
      omega (
        arith,
        ap (λ (k : ℕ). length (draw_bytes ws ls x k)) (add-sub_of_le h),
        ap length (ap trace_bytes (drawn_append ws ls n (m - n) x)
            ∙ trace_append (draw_events ws ls x n) (draw_events ws ls (value_after ws ls x n) (m - n))),
        length-append (draw_bytes ws ls x n) (draw_bytes ws ls (value_after ws ls x n) (m - n)),
      )

-- each event has at least a byte, and at most 15
pub trace_size : (es : List Event) → (length es ≤ length (trace_bytes es)) × (length (trace_bytes es) ≤ 15 * length es)
unfolding trace_bytes
trace_size [] = (omega arith, omega arith)
trace_size (e ∷ es) =
    let b = length_event_bytes e in
    let r = trace_size es in
    simp length-append (omega arith, omega arith)
