-- A refusal is told by its number and its place: what the laws serve that tell the cases of an answer apart.
use Rattle.std.specs.Prelude.{ℕ, ◌≡◌}
use mathlib.Core.Path.{ap, ◌∙◌}
use Rattle.number.specs.declared.Refused.{Refused}
use Rattle.number.specs.Answer.{code}
use Rattle.number.proofs.Answers.{code_injective}

pub same_refused : (e f : Refused) → code e.refusal ≡ code f.refusal → e.place ≡ f.place → e ≡ f
same_refused e f r p =
    ap (λ u. record { refusal = u; place = e.place }) (code_injective e.refusal f.refusal r)
    ∙ ap (λ n. record { refusal = f.refusal; place = n }) p
