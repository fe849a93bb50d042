-- `belonging` meets its contract: an event that goes on is known, and one that begins is read.
use Rattle.std.specs.Prelude.{Ok, Err}
use native.Mathlib.Omega.{arith}
use mathlib.Core.Path.{refl}
use Rattle.number.proofs.Answers.{code_some}
use Rattle.event.specs.Event.{as_event_read}
use Rattle.salvage.proofs.Step.{belonging_left, belonging_read, belonging_refused, place_later}
use Rattle.salvage.proofs.walk.belonging.Goals as goal

pub returns-then-left-ne0 : goal.returns-then-left-ne0
returns-then-left-ne0 c = belonging_left _ _ c.if-left-ne0.true

pub overflow_sub-result : goal.overflow_sub-result
overflow_sub-result c =
    place_later c.args.trace.now c.args.at c.args.left
    (λ i. omega (arith, c.type_inv.trace i)) c.if-left-ne0.false (as_event_read (Ok c.in-Ok.event)) c.in-Ok.ensures refl

pub returns-in-Ok : goal.returns-in-Ok
returns-in-Ok c =
    belonging_read c.args.trace.now c.args.at c.args.left
    (λ i. omega (arith, c.type_inv.trace i)) c.if-left-ne0.false (as_event_read (Ok c.in-Ok.event)) c.in-Ok.ensures refl

pub returns-in-Err : goal.returns-in-Err
returns-in-Err c =
    belonging_refused c.args.trace.now c.args.at c.args.left
    (λ i. omega (arith, c.type_inv.trace i)) c.if-left-ne0.false (as_event_read (Err c.in-Err.field-0)) c.in-Err.ensures
    (code_some c.in-Err.field-0.refusal)
