-- `write_pair` meets its contract: it tests the length, stores the byte, and lends the rest for the number.
use Prim.Native.Nat.{ℕ, ◌+◌, ◌-◌, ◌≤◌, ◌<◌}
use Rattle.std.specs.Prelude.{Ok, Err}
use mathlib.Core.Path.{◌≡◌, sym}
use mathlib.Core.List.{List, ◌∷◌}
use borrow.Rule.Slice.PartMut.{put_mid}
use native.Mathlib.Omega.{arith}
use lib.ListN.{length, take, drop, set, length-set}
use Rattle.number.specs.Refusal.{no_room}
use Rattle.number.specs.Number.{number_bytes}
use Rattle.number.specs.Output.{unwritten, writing, written}
use Rattle.number.specs.Answer.{as_written}
use Rattle.number.specs.declared.Refused.{Refused}
use Rattle.number.proofs.Theorems.{length_number_bytes, writing_fits, writing_no_room, written_no_room}
use Rattle.event_codec.proofs.Parts.{part_taken, written_first}
use Rattle.event_codec.proofs.write_pair.Goals as goal

-- both answers, where the number is n bytes long
module _ (code first n : ℕ) (d : List ℕ) (long : n ≡ length (number_bytes first)) where
  abbrev bytes : List ℕ
  bytes = code ∷ number_bytes first

  no_room_lem : length d < 1 + n → (unwritten no_room (1 + n) ≡ writing bytes (length d)) × (d ≡ written bytes d)
  no_room_lem h = (writing_no_room bytes (length d) (1 + n) (omega arith) h, sym (written_no_room bytes d (omega arith)))

  abbrev lent : List ℕ
  lent = take (length (set d 0 code) - 1) (drop 1 (set d 0 code))

  never : 1 + n ≤ length d → (e : Refused) → as_written (Err e) ≡ writing (number_bytes first) (length lent) → ⊥
  never h e r =
      part_taken 1 (number_bytes first) (set d 0 code) e (simp length-set (omega arith)) r

  fits : 1 + n ≤ length d → (ys : List ℕ) → ys ≡ written (number_bytes first) lent
      → (as_written (Ok (1 + n)) ≡ writing bytes (length d))
      × (put_mid 1 (length (set d 0 code) - 1) (set d 0 code) ys ≡ written bytes d)
  fits h ys f = (
    writing_fits bytes (length d) (1 + n) (omega arith) h,
    written_first code (number_bytes first) d ys (omega arith) f,
  )

pub overflow_add-n : goal.overflow_add-n
overflow_add-n c = omega (arith, c.number_length-n.ensures, length_number_bytes c.args.first)

pub returns-then-out-n : goal.returns-then-out-n
returns-then-out-n c = let a = c.args in let n = c.number_length-n in
    let both = no_room_lem a.code a.first n.result a.out.now n.ensures (omega arith) in record { result = both.0; output = both.1 }

pub returns : goal.returns
returns c = let a = c.args in
    let n = c.number_length-n in
    let w = c.write_number in
    let both = fits a.code a.first n.result a.out.now n.ensures (omega arith) w.new.out w.ensures.output in
    record { result = both.0; output = both.1 }

pub returns-in_err-write_number : goal.returns-in_err-write_number
returns-in_err-write_number c = let a = c.args in
    let n = c.number_length-n in
    let e = c.in_err-write_number in
    absurd (never a.code a.first n.result a.out.now n.ensures (omega arith) e.field-0.0 e.ensures.result)
