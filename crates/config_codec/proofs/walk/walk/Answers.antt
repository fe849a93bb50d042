-- `walk` meets its contract: the loop keeps `WalksOn`.
use Prim.Native.Nat.{ℕ, ◌≤◌}
use mathlib.Core.Path.{◌≡◌, refl, sym, subst, ◌∙◌}
use Rattle.number.specs.Number.{NumberRead}
use Rattle.std.proofs.lemmas.Result.{err_from_is_err_and}
use Rattle.number.proofs.Answers.{code_some}
use Rattle.config_codec.specs.Position.{draft_at}
use Rattle.config_codec.proofs.Step.{on_start, on_stands, on_small, on_end, on_unreadable, on_refused, on_fewer, on_next}
use Rattle.config_codec.proofs.walk.walk.Goals as goal

-- a number's place is that of the source's
closer : {r s : NumberRead} {n : ℕ} → r ≡ s → s.place ≤ n → r.place ≤ n
closer {r} {s} {n} e h = subst (λ (x : NumberRead). x.place ≤ n) (sym e) h

pub loop-p-init : goal.loop-p-init
loop-p-init g c = rw (c.no_config-c.ensures, c.first-p.ensures) (on_start _)

pub number-requires : goal.number-requires
number-requires g c = (on_stands c.loop-p.invariant, on_small c.loop-p.invariant)

pub put-requires : goal.put-requires
put-requires g c = c.loop-p.invariant.within

pub next-p-requires : goal.next-p-requires
next-p-requires g c = on_stands c.loop-p.invariant

pub returns-in_err-number : goal.returns-in_err-number
returns-in_err-number g c =
    let k = err_from_is_err_and c.from_residual.result c.from_residual.ensures.1 in
    rw (k.1, k.2)
    (on_unreadable c.loop-p.invariant (sym c.ended.ensures ∙ c.loop-p-test.true)
    (c.in_err-number.ensures c.loop-p.c refl) (code_some c.in_err-number.field-0.0.refusal))

pub returns-in-Err : goal.returns-in-Err
returns-in-Err g c =
    on_refused c.loop-p.invariant (sym c.ended.ensures ∙ c.loop-p-test.true)
    (c.in_ok-number.ensures c.loop-p.c refl) refl c.in-Err.ensures.refusal (code_some c.in-Err.refusal)

pub loop-p-smaller : goal.loop-p-smaller
loop-p-smaller g c =
    on_fewer c.loop-p.invariant (sym c.ended.ensures ∙ c.loop-p-test.true)
    (c.in_ok-number.ensures c.loop-p.c refl) refl
    c.in_default.ensures.refusal c.in_default.ensures.stored c.next-p.ensures

pub loop-p-preserved : goal.loop-p-preserved
loop-p-preserved g c =
    on_next c.loop-p.invariant (sym c.ended.ensures ∙ c.loop-p-test.true)
    (c.in_ok-number.ensures c.loop-p.c refl) refl
    c.in_default.ensures.refusal c.in_default.ensures.stored c.next-p.ensures
    (closer (c.in_ok-number.ensures c.loop-p.c refl)
    (g.met.N.Numbers.near c.args.numbers.now (draft_at c.loop-p.c c.loop-p.p) c.loop-p.at))

pub returns : goal.returns
returns g c = on_end c.loop-p.invariant (sym c.ended.ensures ∙ c.loop-p-test.false)
