-- `put_event` meets its contract: the output is lent from the place on, and the event fits.
use Prim.Native.Nat.{ℕ, ◌+◌}
use mathlib.Core.Path.{refl, ap, ◌∙◌}
use native.Mathlib.Omega.{arith}
use Rattle.event.specs.Event.{event_bytes}
use Rattle.number.proofs.Laying.{laid_part}
use Rattle.draw.proofs.Writing.{event_fits, event_long, output_written}
use Rattle.draw.proofs.trace.put_event.Goals as goal

pub unwrap-requires : goal.unwrap-requires
unwrap-requires c = let a = c.args in
    let w = c.write_event in
    rw (event_fits a.event c.requires.0 a.at a.out.now w.result c.requires.1 w.ensures.result) refl

pub overflow_add-result : goal.overflow_add-result
overflow_add-result c = let a = c.args in
    let w = c.write_event in
    omega (
      arith,
      c.requires.1,
      event_long a.event c.requires.0 a.at a.out.now w.result c.requires.1 w.ensures.result c.unwrap.result
          c.unwrap.ensures,
    )

pub returns : goal.returns
returns c = let a = c.args in
    let w = c.write_event in record {
      result = ap (λ (n : ℕ). a.at + n)
          (event_long a.event c.requires.0 a.at a.out.now w.result c.requires.1 w.ensures.result c.unwrap.result
          c.unwrap.ensures);
      output = rw (w.ensures.output ∙ output_written a.event c.requires.0 _)
          (laid_part a.at (event_bytes a.event) a.out.now c.requires.1);
    }
