-- The numbers of document 01 tell the cases of an answer apart, so that a contract by them fixes the answer.
use Rattle.std.specs.Prelude.{ℕ, ◌≡◌, Result, Ok, Err}
use mathlib.Core.Path.{sym, ap, ◌∙◌}
use Rattle.number.specs.declared.Refused.{Refused}
use Rattle.number.specs.declared.Reading.{Reading}
use Rattle.event.specs.declared.Event.{Event}
use Rattle.event.specs.Event.{EventRead, EventEnd, as_event_read, as_event_end}
use Rattle.number.proofs.Answers.{code_some}
use Rattle.number_codec.proofs.Refusals.{same_refused}

pub as_event_read_injective : (a b : Result (Reading Event) Refused) → as_event_read a ≡ as_event_read b → a ≡ b
as_event_read_injective (Ok r) (Ok s) e =
    ap Ok (ap (λ v. record { value = v; place = r.place }) (ap (λ (x : EventRead). x.event) e)
    ∙ ap (λ p. record { value = s.value; place = p }) (ap (λ (x : EventRead). x.place) e))
as_event_read_injective (Ok r) (Err f) e = absurd (code_some f.refusal (sym (ap (λ (x : EventRead). x.refusal) e)))
as_event_read_injective (Err f) (Ok r) e = absurd (code_some f.refusal (ap (λ (x : EventRead). x.refusal) e))
as_event_read_injective (Err e) (Err f) h =
    ap Err (same_refused e f (ap (λ (x : EventRead). x.refusal) h) (ap (λ (x : EventRead). x.place) h))

pub as_event_end_injective : (a b : Result ℕ Refused) → as_event_end a ≡ as_event_end b → a ≡ b
as_event_end_injective (Ok n) (Ok m) e = ap Ok (ap (λ (x : EventEnd). x.place) e)
as_event_end_injective (Ok n) (Err f) e = absurd (code_some f.refusal (sym (ap (λ (x : EventEnd). x.refusal) e)))
as_event_end_injective (Err f) (Ok n) e = absurd (code_some f.refusal (ap (λ (x : EventEnd). x.refusal) e))
as_event_end_injective (Err e) (Err f) h =
    ap Err (same_refused e f (ap (λ (x : EventEnd). x.refusal) h) (ap (λ (x : EventEnd). x.place) h))
