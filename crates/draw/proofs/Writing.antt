-- An event that can be written, given to its writer: the answer tells its length, with room for it and without.
use Prim.Native.Nat.{ℕ, ◌+◌, ◌-◌, ◌≤◌}
use Rattle.std.specs.Prelude.{Result, Ok}
use mathlib.Core.Path.{◌≡◌, refl, sym, ap, ◌∙◌}
use mathlib.Core.List.{List}
use borrow.Author.Tests.{eq-eqb}
use lib.ListN.{length, take, drop}
use Rattle.number.specs.declared.Refused.{Refused}
use Rattle.number.specs.Refusal.{none}
use Rattle.number.specs.Output.{Written, writing, written}
use Rattle.number.specs.Answer.{as_written}
use Rattle.number.proofs.Cases.{by_lt}
use Rattle.number.proofs.Theorems.{writing_fits, writing_no_room}
use Rattle.event.specs.declared.Event.{Event}
use Rattle.event.specs.Event.{Writable, event_bytes, writer_refusal, write_event, event_written}
use Rattle.event.proofs.Theorems.{writable_accepted}
use Rattle.event_codec.proofs.Parts.{part_fits, part_length}

writing_place : (bs : List ℕ) (n : ℕ) → (writing bs n).place ≡ length bs
writing_place bs n =
    by_lt n (length bs)
    (λ h. ap (λ (w : Written). w.place) (sym (writing_no_room bs n (length bs) refl h)))
    (λ h. ap (λ (w : Written). w.place) (sym (writing_fits bs n (length bs) refl h)))

module _ (e : Event) (w : Writable e) where
  write_bytes : (n : ℕ) → write_event e n ≡ writing (event_bytes e) n
  unfolding write_event
  write_bytes n = rw (eq-eqb (writer_refusal e) none (writable_accepted e w))

  pub answer_place : (n : ℕ) (r : Result ℕ Refused) → as_written r ≡ write_event e n
      → (as_written r).place ≡ length (event_bytes e)
  answer_place n r same =
      ap (λ (x : Written). x.place) (same ∙ write_bytes n) ∙ writing_place (event_bytes e) n

  pub output_written : (d : List ℕ) → event_written e d ≡ written (event_bytes e) d
  unfolding event_written
  output_written d = simp (eq-eqb (writer_refusal e) none (writable_accepted e w))

  -- lent the part of d from a place on, in which the event fits
  module _ (at : ℕ) (d : List ℕ) (r : Result ℕ Refused) (room : at + length (event_bytes e) ≤ length d)
      (same : as_written r ≡ write_event e (length (take (length d - at) (drop at d)))) where
    pub event_fits : r ≡ Ok (length (event_bytes e))
    event_fits = part_fits at (event_bytes e) d r room (same ∙ write_bytes _)

    pub event_long : (n : ℕ) → r ≡ Ok n → n ≡ length (event_bytes e)
    event_long n u = part_length at (event_bytes e) d r n room (same ∙ write_bytes _) u
