-- The reader's definition, number by number.
use Prim.Native.Nat.{ℕ, ◌+◌, ◌<◌}
use mathlib.Core.Path.{◌≡◌, refl, sym, ◌∙◌}
use mathlib.Core.Bool.{true, false}
use mathlib.Core.List.{List}
use native.Mathlib.Omega.{arith}
use lib.ListN.{length, get_or}
use borrow.Author.Tests.{eq-eqb, ne_eqb}
use Rattle.number.specs.Refusal.{none}
use Rattle.number.specs.Number.{NumberRead, read_number}
use Rattle.number.proofs.Theorems.{read_single}
use Rattle.event.specs.Event.{EventRead, known, arguments, refused, unreadable, after_number, read_arguments, read_event}
use Rattle.event.specs.Refusal.{unknown_event}
use Rattle.event.proofs.Codes.{known_le}

-- a number that was read leads on, and one that was refused ends the reading
module _ (n m : NumberRead) (f : ℕ → ℕ → EventRead) (same : n ≡ m) where
  pub goes_on : n.refusal ≡ none → after_number m f ≡ f n.value n.place
  unfolding after_number
  goes_on h = rw (← same) (simp (eq-eqb n.refusal none h))

  pub ends : (n.refusal ≡ none → ⊥) → after_number m f ≡ unreadable n
  unfolding after_number
  ends h = rw (← same) (simp (ne_eqb n.refusal none h))

-- an event whose code was read: its arguments follow, or its code is unknown
module _ (n : NumberRead) (bs : List ℕ) (at : ℕ) (same : n ≡ read_number bs at) (read : n.refusal ≡ none) where
  pub read_known : (code : ℕ) → n.value ≡ code → known code ≡ true
      → read_event bs at ≡ read_arguments (arguments code) bs code n.place
  unfolding read_event
  read_known code e k = goes_on n (read_number bs at) _ same read ∙ rw (e, k)

  pub read_unknown : known n.value ≡ false → read_event bs at ≡ refused unknown_event at
  unfolding read_event
  read_unknown k = goes_on n (read_number bs at) _ same read ∙ rw k refl

-- an event whose code is the byte at its place
pub read_byte : (bs : List ℕ) (at k : ℕ) → at < length bs → get_or bs at 0 ≡ k → known k ≡ true
    → read_event bs at ≡ read_arguments (arguments k) bs k (at + 1)
read_byte bs at k within code k_known =
    read_known _ bs at (sym (read_single bs at within (omega (arith, (known_le k k_known).1, code)))) refl k code k_known
