-- The trace as a list of events, tied to the reader of one event, and its round trips.
--
-- In order: a reading with fuel; more fuel than bytes changes nothing; the same without fuel; what holds of every trace
-- (`rest_elim`); both round trips.
use Prim.Native.Nat.{ℕ, zero, suc, ◌+◌, ◌-◌, ◌≤◌, ◌<◌}
use mathlib.Core.Path.{◌≡◌, refl, sym, ap, ◌∙◌}
use mathlib.Core.List.{List, [], ◌∷◌, ◌++◌}
use native.Mathlib.Omega.{arith}
use native.Mathlib.Nat.{add-zero, add_assoc}
use borrow.Author.Tests.{lt-ltb, le-ltb, eq-eqb, ne_eqb}
use lib.ListN.{length, drop, length-append, length-drop, drop_of_length-le}
use Rattle.number.specs.Refusal.{none}
use Rattle.number.specs.Number.{Bytes}
use Rattle.number.proofs.Cases.{by_lt, by_eq}
use Rattle.event.specs.declared.Event.{Event}
use Rattle.event.specs.Event.{EventRead, accepted, read_event, event_bytes}
use Rattle.event.specs.Trace.{TraceRead, ended, broken, before, read_from, read_rest, trace_bytes, AllWritable}
use Rattle.event.proofs.RoundTrip.{read_at, read_spans, after_bytes}

module _ (bs : List ℕ) where
  from_end : (fuel at : ℕ) → length bs ≤ at → read_from fuel bs at ≡ ended at
  unfolding read_from
  from_end zero at h = refl
  from_end (suc fuel) at h = simp (le-ltb at (length bs) h)

  from_refused : (fuel at : ℕ) → at < length bs → ((read_event bs at).refusal ≡ none → ⊥)
      → read_from (suc fuel) bs at ≡ broken (read_event bs at)
  unfolding read_from
  from_refused fuel at h n = simp (lt-ltb at (length bs) h, ne_eqb (read_event bs at).refusal none n)

  from_event : (fuel at : ℕ) → at < length bs → (read_event bs at).refusal ≡ none
      → read_from (suc fuel) bs at ≡ before (read_event bs at).event (read_from fuel bs (read_event bs at).place)
  unfolding read_from
  from_event fuel at h a = simp (lt-ltb at (length bs) h, eq-eqb (read_event bs at).refusal none a)

  fuel_enough : (f g at : ℕ) → length bs - at ≤ f → length bs - at ≤ g → read_from f bs at ≡ read_from g bs at
  fuel_enough zero g at h k = from_end zero at (omega arith) ∙ sym (from_end g at (omega arith))
  fuel_enough (suc f) zero at h k = from_end (suc f) at (omega arith) ∙ sym (from_end zero at (omega arith))
  fuel_enough (suc f) (suc g) at h k =
      by_lt at (length bs)
      (λ lt. by_eq (read_event bs at).refusal none
      (λ a. let s = read_spans bs at a in
      from_event f at lt a
      ∙ ap (before (read_event bs at).event) (fuel_enough f g (read_event bs at).place (omega arith) (omega arith))
      ∙ sym (from_event g at lt a))
      (λ n. from_refused f at lt n ∙ sym (from_refused g at lt n)))
      (λ le. from_end (suc f) at le ∙ sym (from_end (suc g) at le))

  pub from_rest : (fuel at : ℕ) → length bs - at ≤ fuel → read_from fuel bs at ≡ read_rest bs at
  unfolding read_rest
  from_rest fuel at h = fuel_enough fuel (length bs - at) at h (omega arith)

  pub rest_end : (at : ℕ) → length bs ≤ at → read_rest bs at ≡ ended at
  unfolding read_rest
  rest_end at h = from_end (length bs - at) at h

  pub rest_refused : (at : ℕ) → at < length bs → ((read_event bs at).refusal ≡ none → ⊥)
      → read_rest bs at ≡ broken (read_event bs at)
  rest_refused at h n = sym (from_rest (suc (length bs - at)) at (omega arith)) ∙ from_refused (length bs - at) at h n

  pub rest_step : (at : ℕ) → (read_event bs at).refusal ≡ none
      → read_rest bs at ≡ before (read_event bs at).event (read_rest bs (read_event bs at).place)
  rest_step at a = let s = read_spans bs at a in
      sym (from_rest (suc (length bs - at)) at (omega arith))
      ∙ from_event (length bs - at) at (omega arith) a
      ∙ ap (before (read_event bs at).event) (from_rest (length bs - at) (read_event bs at).place (omega arith))

  -- a property that the end and a refusal have, and that an event passes on from the trace after it
  module _ (P : ℕ → TraceRead → Type 0)
      (on_end : (at : ℕ) → length bs ≤ at → P at (ended at))
      (on_refused : (at : ℕ) → at < length bs → ((read_event bs at).refusal ≡ none → ⊥) → P at (broken (read_event bs at)))
      (on_event : (at : ℕ) → at < length bs → (read_event bs at).refusal ≡ none
      → P (read_event bs at).place (read_rest bs (read_event bs at).place)
      → P at (before (read_event bs at).event (read_rest bs (read_event bs at).place)))
    where
      go : (fuel at : ℕ) → length bs - at ≤ fuel → P at (read_rest bs at)
      go zero at h = rw (rest_end at (omega arith)) (on_end at (omega arith))
      go (suc fuel) at h =
          by_lt at (length bs)
          (λ lt. by_eq (read_event bs at).refusal none
          (λ a. let s = read_spans bs at a in
          rw (rest_step at a) (on_event at lt a (go fuel (read_event bs at).place (omega arith))))
          (λ n. rw (rest_refused at lt n) (on_refused at lt n)))
          (λ le. rw (rest_end at le) (on_end at le))

      pub rest_elim : (at : ℕ) → P at (read_rest bs at)
      rest_elim at = go (length bs - at) at (omega arith)

  -- the bytes of an accepted trace are those of its events
  pub rest_bytes : Bytes bs → (at : ℕ) → (read_rest bs at).refusal ≡ none
      → drop at bs ≡ trace_bytes (read_rest bs at).events
  unfolding trace_bytes
  rest_bytes b =
      rest_elim (λ at r. r.refusal ≡ none → drop at bs ≡ trace_bytes r.events)
      (λ at h e. drop_of_length-le bs h)
      (λ at h n e. absurd (n e))
      (λ at h a p e. (read_spans bs at a).bytes b ∙ ap (λ (l : List ℕ). event_bytes (read_event bs at).event ++ l) (p e))

  -- a list of writable events, written one after the other, reads back as that list
  pub rest_written : (es : List Event) (at : ℕ) → AllWritable es → drop at bs ≡ trace_bytes es
      → read_rest bs at ≡ record { events = es; refusal = none; place = at + length (trace_bytes es) }
  unfolding trace_bytes AllWritable
  rest_written [] at w h = rw add-zero (rest_end at (omega (arith, ap length h, length-drop at bs)))
  rest_written (e ∷ es) at w h =
      rest_step at (ap (λ (r : EventRead). r.refusal) here)
      ∙ rw (
        here,
        rest_written es (at + length (event_bytes e)) w.1 (after_bytes bs at (event_bytes e) (trace_bytes es) h),
        length-append,
        add_assoc,
      )
    where
      here : read_event bs at ≡ accepted e (at + length (event_bytes e))
      here = read_at bs e (trace_bytes es) w.0 at h
