-- The numbers of document 01 tell the cases of an answer apart, so that a contract by them fixes the answer.
use Rattle.std.specs.Prelude.{◌≡◌, Result, Ok, Err}
use mathlib.Core.Path.{sym, ap, ◌∙◌}
use Rattle.number.specs.declared.Refused.{Refused}
use Rattle.number.specs.declared.Reading.{Reading}
use Rattle.config.specs.declared.Config.{Config}
use Rattle.config.specs.Reader.{ConfigRead, as_config_read}
use Rattle.number.proofs.Answers.{code_some}
use Rattle.number_codec.proofs.Refusals.{same_refused}

pub as_config_read_injective : (a b : Result (Reading Config) Refused) → as_config_read a ≡ as_config_read b → a ≡ b
as_config_read_injective (Ok r) (Ok s) e =
    ap Ok (ap (λ v. record { value = v; place = r.place }) (ap (λ (x : ConfigRead). x.config) e)
    ∙ ap (λ p. record { value = s.value; place = p }) (ap (λ (x : ConfigRead). x.place) e))
as_config_read_injective (Ok r) (Err f) e = absurd (code_some f.refusal (sym (ap (λ (x : ConfigRead). x.refusal) e)))
as_config_read_injective (Err f) (Ok r) e = absurd (code_some f.refusal (ap (λ (x : ConfigRead). x.refusal) e))
as_config_read_injective (Err e) (Err f) h =
    ap Err (same_refused e f (ap (λ (x : ConfigRead). x.refusal) h) (ap (λ (x : ConfigRead). x.place) h))
