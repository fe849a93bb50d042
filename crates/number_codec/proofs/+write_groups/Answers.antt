-- `write_groups` meets its contract: one byte stored, and the rest written to the part after it. The measure is the
-- value.
use Prim.Native.Nat.{ℕ, suc, ◌+◌, ◌-◌, ◌/◌, ◌%◌, ◌≤◌, ◌<◌}
use mathlib.Core.Path.{◌≡◌, ap, ◌∙◌}
use mathlib.Core.List.{List, [], ◌∷◌}
use borrow.Rule.Slice.PartMut.{put_mid}
use native.Mathlib.Omega.{arith}
use lib.ListN.{length, take, drop, set, length-set, length-take, length-drop}
use Rattle.number.specs.Number.{number_bound, number_bytes}
use Rattle.number.specs.Output.{written}
use Rattle.number.proofs.Theorems.{written_fits, length_written}
use Rattle.number.proofs.Size.{length_number_bytes, number_bytes_single, number_bytes_more}
use Rattle.number.proofs.Laying.{laid_part, laid_first}
use Rattle.number_codec.proofs.+write_groups.Goals as goal

-- a number of one byte
stored : (d : List ℕ) (v : ℕ) → v < 128 → 0 < length d → set d 0 v ≡ written (number_bytes v) d
stored [] v h p = absurd (omega arith)
stored (x ∷ xs) v h p = rw (number_bytes_single v h, written_fits (v ∷ []) (x ∷ xs) (omega arith))

-- one byte stored, and the part after it lent for the rest
module _ (d : List ℕ) (v : ℕ) (h : 128 ≤ v) (small : v < number_bound) (room : length (number_bytes v) ≤ length d) where
  abbrev after : List ℕ
  after = set d 0 (128 + v % 128)

  long : suc (length (number_bytes (v / 128))) ≤ length d
  long = omega (arith, ap length (number_bytes_more v h small))

  lent_fits : length (number_bytes (v / 128)) ≤ length (take (length after - 1) (drop 1 after))
  lent_fits = simp (length-take, length-drop, length-set) (omega (arith, long))

  more-written : (ys : List ℕ) → ys ≡ written (number_bytes (v / 128)) (take (length after - 1) (drop 1 after))
      → put_mid 1 (length after - 1) after ys ≡ written (number_bytes v) d
  more-written ys e =
      rw (
        e,
        laid_part 1 (number_bytes (v / 128)) after (simp length-set (omega (arith, long))),
        number_bytes_more v h small,
      )
      (laid_first (128 + v % 128) (number_bytes (v / 128)) d long)

pub bounds-out-0 : goal.bounds-out-0
bounds-out-0 t c = omega (arith, length_number_bytes c.args.value)

pub shape_of-out-then-value-lt128 : goal.shape_of-out-then-value-lt128
shape_of-out-then-value-lt128 t c = simp length-set

pub returns-then-value-lt128 : goal.returns-then-value-lt128
returns-then-value-lt128 t c = let a = c.args in
    stored a.out.now a.value c.if-value-lt128.true (omega (arith, length_number_bytes a.value))

pub bounds-out-0-2 : goal.bounds-out-0-2
bounds-out-0-2 t c = omega (arith, length_number_bytes c.args.value)

pub slice_bounds-write_groups-count : goal.slice_bounds-write_groups-count
slice_bounds-write_groups-count t c = simp length-set (omega (arith, length_number_bytes c.args.value))

pub slice_bounds-write_groups-start : goal.slice_bounds-write_groups-start
slice_bounds-write_groups-start t c = simp length-set (omega (arith, length_number_bytes c.args.value))

pub write_groups-requires : goal.write_groups-requires
write_groups-requires t c = let a = c.args in
    (omega arith, lent_fits a.out.now a.value (omega arith) (omega arith) (omega arith))

pub returns : goal.returns
returns t c = let a = c.args in
    more-written a.out.now a.value (omega arith) (omega arith) (omega arith)
    c.write_groups.new.out c.write_groups.ensures

pub shape_of-out : goal.shape_of-out
shape_of-out t c = ap length (returns t c)
    ∙ length_written (number_bytes c.args.value)
    c.args.out.now
