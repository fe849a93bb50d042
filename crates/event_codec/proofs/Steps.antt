-- The reader's definition as the code reads it: number by number, each of them read or refused.
use Rattle.std.specs.Prelude.{ℕ, ◌≡◌, ◌<◌, ◌≤◌, true, List, Result, Ok, Err}
use Rattle.std.specs.Result.{IsErrAnd}
use mathlib.Core.Path.{refl, sym, ap, ◌∙◌}
use native.Mathlib.Omega.{arith}
use Rattle.number.specs.declared.Refused.{Refused}
use Rattle.number.specs.declared.Reading.{Reading}
use Rattle.number.specs.Refusal.{none, malformed}
use Rattle.number.specs.Answer.{code}
use Rattle.number.specs.Number.{NumberRead, read_number}
use Rattle.number.specs.Number as Number
use Rattle.number.proofs.Answers.{code_some}
use Rattle.number.proofs.Cases.{by_test}
use Rattle.number.proofs.Theorems.{reading}
use Rattle.event.specs.declared.Event.{Event}
use Rattle.event.specs.Refusal.{in_trace, unknown_event}
use Rattle.event.specs.Event.{EventRead, known, arguments, event, accepted, refused, unreadable, read_arguments, read_event, as_event_read}
use Rattle.event.proofs.Reading.{goes_on, read_known, read_unknown}
use Rattle.event.proofs.Theorems.{unreadable_first, unreadable_second}
use Rattle.event_codec.proofs.Arms.{arguments_le}

-- the refusal that a `?` hands on
pub handed_on : (r : Result (Reading Event) Refused) (e : Refused) → IsErrAnd r (λ y. y ≡ e) → (x y : EventRead)
    → x ≡ y → refused (code e.refusal) e.place ≡ y → as_event_read r ≡ x
handed_on (Ok v) e h x y d s = absurd h
handed_on (Err f) e h x y d s = ap (λ (z : Refused). refused (code z.refusal) z.place) h ∙ s ∙ sym d

-- a number that can't be read
pub unread : (bs : List ℕ) (at : ℕ) (e f : Refused) → Number.refused (code e.refusal) e.place ≡ read_number bs at
    → (code e.refusal ≤ malformed → code f.refusal ≡ in_trace (code e.refusal)) → f.place ≡ e.place
    → ((read_number bs at).refusal ≡ none → ⊥) × (refused (code f.refusal) f.place ≡ unreadable (read_number bs at))
unread bs at e f same r p = (
  λ z. code_some e.refusal (ap (λ (n : NumberRead). n.refusal) same ∙ z),
  rw (r few, p) (ap unreadable same),
)
  where
    few : code e.refusal ≤ malformed
    few = rw (ap (λ (n : NumberRead). n.refusal) same) (reading bs at).refusals

-- an event whose code, v, was read; p is the place after it
module _ (bs : List ℕ) (at v p : ℕ) (head : Number.accepted v p ≡ read_number bs at) where
  pub unknown : (known v ≡ true → ⊥) → refused unknown_event at ≡ read_event bs at
  unknown h =
      sym (read_unknown (Number.accepted v p) bs at head refl
      (by_test (known v) (λ k. absurd (h k)) (λ u. u)))

  module _ (k : known v ≡ true) where
    by_count : (m : ℕ) → arguments v ≡ m → read_arguments m bs v p ≡ read_event bs at
    by_count m e = sym (read_known (Number.accepted v p) bs at head refl v refl k ∙ rw e refl)

    pub no_argument : arguments v ≡ 0 → accepted (event v 0 0) p ≡ read_event bs at
    unfolding read_arguments
    no_argument e = by_count 0 e

    pub first_unread : 0 < arguments v → ((read_number bs p).refusal ≡ none → ⊥)
        → read_event bs at ≡ unreadable (read_number bs p)
    first_unread some bad =
        unreadable_first bs at v p (sym (ap (λ (n : NumberRead). n.refusal) head))
        (sym (ap (λ (n : NumberRead). n.value) head)) (sym (ap (λ (n : NumberRead). n.place) head)) k some bad

    module _ (w q : ℕ) (first : Number.accepted w q ≡ read_number bs p) where
      pub one_argument : arguments v ≡ 1 → accepted (event v w 0) q ≡ read_event bs at
      unfolding read_arguments
      one_argument e = sym (goes_on (Number.accepted w q) (read_number bs p) _ first refl) ∙ by_count 1 e

      pub second_unread : 1 < arguments v → ((read_number bs q).refusal ≡ none → ⊥)
          → read_event bs at ≡ unreadable (read_number bs q)
      second_unread some bad =
          rw then
          (unreadable_second bs at v p (sym (ap (λ (n : NumberRead). n.refusal) head))
          (sym (ap (λ (n : NumberRead). n.value) head)) (sym (ap (λ (n : NumberRead). n.place) head)) k some
          (sym (ap (λ (n : NumberRead). n.refusal) first)) (rw then at bad))
        where
          then : q ≡ (read_number bs p).place
          then = ap (λ (n : NumberRead). n.place) first

      pub two_arguments : 1 < arguments v → (x r : ℕ) → Number.accepted x r ≡ read_number bs q
          → accepted (event v w x) r ≡ read_event bs at
      unfolding read_arguments
      two_arguments some x r second =
          sym (goes_on (Number.accepted w q) (read_number bs p) _ first refl
          ∙ goes_on (Number.accepted x r) (read_number bs q) _ second refl)
          ∙ by_count 2 (omega (arith, arguments_le v))
