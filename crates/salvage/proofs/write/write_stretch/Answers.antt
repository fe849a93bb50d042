-- `write_stretch` meets its contract: the offset is laid at the place, and the length behind it.
use Prim.Native.Nat.{ℕ, ◌+◌, ◌≤◌}
use mathlib.Core.Path.{◌≡◌, sym, ap, ◌∙◌}
use mathlib.Core.List.{List, []}
use native.Mathlib.Omega.{arith}
use native.Mathlib.Nat.{add-zero}
use lib.ListN.{length, length-append}
use Rattle.number.specs.Number.{number_bytes}
use Rattle.number.specs.Output.{laid}
use Rattle.number.proofs.Laying.{length_laid, laid_laid}
use Rattle.recording.specs.Stretch.{closed, stretch_bytes}
use Rattle.salvage.proofs.Step.{closed_none, closed_some}
use Rattle.salvage.proofs.Progress.{laid_nothing}
use Rattle.salvage.proofs.write.write_stretch.Goals as goal

-- nothing is written of a stretch without bytes
nothing : (from n at : ℕ) (d : List ℕ) → n ≡ 0 → (at ≡ at + length (stretch_bytes (closed from n [])))
    × (d ≡ laid at (stretch_bytes (closed from n [])) d)
nothing from n at d z = rw (closed_none from n z) (sym (add-zero at), sym (laid_nothing at d))

-- both numbers of a stretch
module _ (from n at : ℕ) (d : List ℕ) (some : n ≡ 0 → ⊥)
    (room : at + length (stretch_bytes (closed from n [])) ≤ length d) where
  fits : at + length (number_bytes from) + length (number_bytes n) ≤ length d
  fits = omega (arith, room, ap length (closed_some from n some) ∙ length-append (number_bytes from) (number_bytes n))

  module _ (r : ℕ) (d₁ : List ℕ) (place : r ≡ at + length (number_bytes from))
      (first : d₁ ≡ laid at (number_bytes from) d) where
    room-behind : r + length (number_bytes n) ≤ length d₁
    room-behind = rw (place, first, length_laid at (number_bytes from) d (omega (arith, fits))) fits

    both : (r₂ : ℕ) (d₂ : List ℕ) → r₂ ≡ r + length (number_bytes n) → d₂ ≡ laid r (number_bytes n) d₁
        → (r₂ ≡ at + length (stretch_bytes (closed from n []))) × (d₂ ≡ laid at (stretch_bytes (closed from n [])) d)
    both r₂ d₂ e₁ e₂ =
        rw (closed_some from n some) (
          omega (arith, length-append (number_bytes from) (number_bytes n)),
          e₂
              ∙ rw (place, first) (laid_laid at (number_bytes from) (number_bytes n) d fits),
        )

pub returns-then-size-eq0 : goal.returns-then-size-eq0
returns-then-size-eq0 c = let a = c.args in let all = nothing a.offset a.size a.at a.list.now c.if-size-eq0.true in record { result = all.0; output = all.1 }

pub put_number-next-requires : goal.put_number-next-requires
put_number-next-requires c = let a = c.args in
    let f = fits a.offset a.size a.at a.list.now c.if-size-eq0.false c.requires.1 in omega arith

pub put_number-requires : goal.put_number-requires
put_number-requires c = let w = c.put_number-next in
    let a = c.args in
    room-behind a.offset a.size a.at a.list.now c.if-size-eq0.false c.requires.1 w.result w.new.list
    w.ensures.result w.ensures.output

pub returns : goal.returns
returns c = let w₂ = c.put_number in
    let w = c.put_number-next in
    let a = c.args in
    let all = both a.offset a.size a.at a.list.now c.if-size-eq0.false c.requires.1 w.result w.new.list
    w.ensures.result w.ensures.output w₂.result w₂.new.list w₂.ensures.result w₂.ensures.output in record { result = all.0; output = all.1 }
