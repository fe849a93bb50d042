-- The numbers of document 01 tell the cases of an answer apart, so that a contract by them fixes the answer.
use Rattle.std.specs.Prelude.{◌≡◌, Result, Ok, Err}
use mathlib.Core.Path.{sym, ap, ◌∙◌}
use Rattle.number.specs.declared.Refused.{Refused}
use Rattle.salvage.specs.declared.Lengths.{Lengths}
use Rattle.salvage.specs.Salvage.{Salvaged, as_salvaged}
use Rattle.number.proofs.Answers.{code_some}
use Rattle.number_codec.proofs.Refusals.{same_refused}

pub as_salvaged_injective : (a b : Result Lengths Refused) → as_salvaged a ≡ as_salvaged b → a ≡ b
as_salvaged_injective (Ok n) (Ok m) e =
    ap Ok (ap (λ k. record { events = k; stretches = n.stretches }) (ap (λ (x : Salvaged). x.events) e)
    ∙ ap (λ k. record { events = m.events; stretches = k }) (ap (λ (x : Salvaged). x.stretches) e))
as_salvaged_injective (Ok n) (Err f) e = absurd (code_some f.refusal (sym (ap (λ (x : Salvaged). x.refusal) e)))
as_salvaged_injective (Err f) (Ok n) e = absurd (code_some f.refusal (ap (λ (x : Salvaged). x.refusal) e))
as_salvaged_injective (Err e) (Err f) h =
    ap Err (same_refused e f (ap (λ (x : Salvaged). x.refusal) h) (ap (λ (x : Salvaged). x.place) h))
