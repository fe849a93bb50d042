-- `write_at` meets its contract: there is room for the number, so all of its bytes are written.
use Prim.Native.Nat.{ℕ, ◌≤◌}
use mathlib.Core.Path.{◌≡◌, refl, sym, ap, ◌∙◌}
use mathlib.Core.Bool.{Bool, false}
use native.Mathlib.Omega.{arith}
use lib.ListN.{length}
use borrow.Author.Tests.{le-leb}
use Rattle.std.specs.Prelude.{Result, Ok}
use Rattle.number.specs.declared.Refused.{Refused}
use Rattle.number.specs.Number.{number_bytes}
use Rattle.number.specs.Output.{writing, written}
use Rattle.number.specs.Answer.{as_written}
use Rattle.number.proofs.Answers.{as_written_injective}
use Rattle.number.proofs.Theorems.{writing_fits}
use Rattle.config_codec.specs.Walk.{shown}
use Rattle.config_codec.proofs.writer.write_at.Goals as goal

-- a number that has room is written whole
whole : (v n : ℕ) (q : Bool) (r : Result ℕ Refused) → q ≡ false → length (shown q v) ≤ n
    → as_written r ≡ writing (number_bytes v) n → r ≡ Ok (length (shown q v))
whole v n q r e h w =
    rw e
    (as_written_injective r (Ok (length (number_bytes v)))
    (w ∙ sym (writing_fits (number_bytes v) n (length (number_bytes v)) refl (rw e at h))))

pub returns-then-silent-clause-output : goal.returns-then-silent-clause-output
unfolding written
returns-then-silent-clause-output c =
    rw (c.if-silent.true, le-leb 0 (length c.args.out.now) (omega arith))

pub unwrap-requires : goal.unwrap-requires
unwrap-requires c =
    rw (whole c.args.v (length c.args.out.now) c.args.silent c.write_number.result c.if-silent.false c.requires
    c.write_number.ensures.result)

pub returns-clause-result : goal.returns-clause-result
returns-clause-result c =
    ap (λ (r : Result ℕ Refused). (as_written r).place)
    (sym c.unwrap.ensures
    ∙ whole c.args.v (length c.args.out.now) c.args.silent c.write_number.result c.if-silent.false c.requires
    c.write_number.ensures.result)
