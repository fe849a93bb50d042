-- `write_triple` meets its contract: it tests the length, writes the byte and the first number, and lends the rest
-- for the second.
use Prim.Native.Nat.{ℕ, ◌+◌, ◌-◌, ◌≤◌, ◌<◌}
use Rattle.std.specs.Prelude.{Ok, Err}
use mathlib.Core.Path.{◌≡◌, sym, ap, ◌∙◌}
use mathlib.Core.List.{List, ◌∷◌, ◌++◌}
use borrow.Rule.Slice.PartMut.{put_mid}
use native.Mathlib.Omega.{arith}
use lib.ListN.{length, take, drop, length-append}
use Rattle.number.specs.Refusal.{no_room}
use Rattle.number.specs.Number.{number_bytes}
use Rattle.number.specs.Output.{unwritten, writing, written}
use Rattle.number.specs.Answer.{as_written}
use Rattle.number.specs.declared.Refused.{Refused}
use Rattle.number.proofs.Theorems.{length_number_bytes, length_written, writing_fits, writing_no_room, written_no_room}
use Rattle.event_codec.proofs.Parts.{taken, part_taken, written_parts}
use Rattle.event_codec.proofs.write_triple.Goals as goal

-- both answers, where the two numbers are n and m bytes long
module _ (code first second n m : ℕ) (d : List ℕ) (first-long : n ≡ length (number_bytes first))
    (second-long : m ≡ length (number_bytes second)) where
  abbrev bytes : List ℕ
  bytes = code ∷ (number_bytes first ++ number_bytes second)

  long : 1 + n + m ≡ length bytes
  long = simp length-append (omega arith)

  no_room_lem : length d < 1 + n + m → (unwritten no_room (1 + n + m) ≡ writing bytes (length d)) × (d ≡ written bytes d)
  no_room_lem h = (writing_no_room bytes (length d) (1 + n + m) long h, sym (written_no_room bytes d (omega (arith, long))))

  first_taken : 1 + n + m ≤ length d → (e : Refused)
      → as_written (Err e) ≡ writing (code ∷ number_bytes first) (length d) → ⊥
  first_taken h e w = taken (code ∷ number_bytes first) (length d) e (omega arith) w

  second_taken : 1 + n + m ≤ length d → (half : List ℕ) (e : Refused)
      → half ≡ written (code ∷ number_bytes first) d
      → as_written (Err e) ≡ writing (number_bytes second) (length (take (length half - (1 + n)) (drop (1 + n) half))) → ⊥
  second_taken h half e f w =
      part_taken (1 + n) (number_bytes second) half e
      (omega (arith, ap length f ∙ length_written (code ∷ number_bytes first) d)) w

  fits : 1 + n + m ≤ length d → (half : List ℕ) (ys : List ℕ)
      → half ≡ written (code ∷ number_bytes first) d
      → ys ≡ written (number_bytes second) (take (length half - (1 + n)) (drop (1 + n) half))
      → (as_written (Ok (1 + n + m)) ≡ writing bytes (length d))
      × (put_mid (1 + n) (length half - (1 + n)) half ys ≡ written bytes d)
  fits h half ys e f = (
    writing_fits bytes (length d) (1 + n + m) long h,
    written_parts (1 + n) (code ∷ number_bytes first) (number_bytes second) d half ys (omega arith) (omega arith) e f,
  )

pub overflow_add-at : goal.overflow_add-at
overflow_add-at c = omega (arith, c.number_length-at.ensures, length_number_bytes c.args.first)

pub overflow_add-end : goal.overflow_add-end
overflow_add-end c = omega (
  arith,
  c.number_length-at.ensures,
  length_number_bytes c.args.first,
  c.number_length.ensures,
  length_number_bytes c.args.second,
)

pub returns-then-out-end : goal.returns-then-out-end
returns-then-out-end c = let a = c.args in
    let n = c.number_length-at in let m = c.number_length in
    let both = no_room_lem a.code a.first a.second n.result m.result a.out.now n.ensures m.ensures
    (omega arith) in record { result = both.0; output = both.1 }

pub returns : goal.returns
returns c = let a = c.args in
    let n = c.number_length-at in
    let m = c.number_length in
    let p = c.write_pair in
    let w = c.write_number in
    let both = fits a.code a.first a.second n.result m.result a.out.now n.ensures m.ensures
    (omega arith) p.new.out w.new.out p.ensures.output w.ensures.output in record { result = both.0; output = both.1 }

pub returns-in_err-write_pair : goal.returns-in_err-write_pair
returns-in_err-write_pair c = let a = c.args in
    let n = c.number_length-at in
    let m = c.number_length in
    let e = c.in_err-write_pair in
    absurd (first_taken a.code a.first a.second n.result m.result a.out.now n.ensures m.ensures (omega arith)
    e.field-0.0 e.ensures.result)

pub returns-in_err-write_number : goal.returns-in_err-write_number
returns-in_err-write_number c = let a = c.args in
    let n = c.number_length-at in
    let m = c.number_length in
    let p = c.write_pair in
    let e = c.in_err-write_number in
    absurd (second_taken a.code a.first a.second n.result m.result a.out.now n.ensures m.ensures (omega arith)
    p.new.out e.field-0.0 p.ensures.output e.ensures.result)
