-- A result and its number: with an event count and a place below 2 ^ 32 the number tells all results apart, so that a
-- contract by it fixes the result.
use Rattle.std.specs.Prelude.{ℕ, ◌<◌, ◌^◌, ◌≡◌, Result, Ok, Err, IfOk, IfErr}
use mathlib.Core.Path.{sym, ap, ap₂, ◌∙◌}
use native.Mathlib.Omega.{arith}
use Rattle.number.specs.declared.Refused.{Refused}
use Rattle.number.specs.Answer.{code}
use Rattle.number.specs.Output.{unwritten}
use Rattle.number.proofs.Answers.{as_written_injective}
use Rattle.run.specs.Result.{high_half, low_half}
use Rattle.run.proofs.Bounds.{split}
use Rattle.kernel.specs.Ends.{as_result}
use Rattle.kernel.proofs.Passes.Whole.{refused_high}

-- what a run's clauses `few` and `place` say of its result
abbrev pub Told : Result ℕ Refused → Type 0
Told a = IfOk a (λ n. n < 2 ^ 32) × IfErr a (λ e. e.place < 2 ^ 32)

pub as_result_injective : (a b : Result ℕ Refused) → Told a → Told b → as_result a ≡ as_result b → a ≡ b
as_result_injective (Ok n) (Ok m) s t h = ap Ok h
as_result_injective (Ok n) (Err f) s t h = absurd (omega (arith, s.0, h, refused_high f.refusal f.place))
as_result_injective (Err e) (Ok m) s t h = absurd (omega (arith, t.0, h, refused_high e.refusal e.place))
as_result_injective (Err e) (Err f) s t h =
    let x = split (code e.refusal) e.place s.1 in
    let y = split (code f.refusal) f.place t.1 in
    as_written_injective (Err e) (Err f)
    (ap₂ unwritten (sym x.0 ∙ ap high_half h ∙ y.0) (sym x.1 ∙ ap low_half h ∙ y.1))
