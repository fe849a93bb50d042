-- A number of an event that can't be read is refused at the number reader's place, be it the code, the first argument
-- or the second.
use Prim.Native.Nat.{ℕ, zero, suc, ◌≤◌}
use mathlib.Core.Path.{◌≡◌, ◌∙◌}
use mathlib.Core.Bool.{true}
use mathlib.Core.List.{List}
use native.Mathlib.Omega.{arith}
use borrow.Author.Tests.{eq-eqb, ne_eqb}
use Rattle.number.specs.Refusal.{none}
use Rattle.number.specs.Number.{NumberRead, read_number}
use Rattle.event.specs.Event.{EventRead, known, arguments, unreadable, after_number, read_arguments, read_event}

after_refused : (n : NumberRead) (f : ℕ → ℕ → EventRead) → (n.refusal ≡ none → ⊥) → after_number n f ≡ unreadable n
unfolding after_number
after_refused n f bad = rw (ne_eqb n.refusal none bad)

after_read : (n : NumberRead) (f : ℕ → ℕ → EventRead) → n.refusal ≡ none → after_number n f ≡ f n.value n.place
unfolding after_number
after_read n f ok = rw (eq-eqb n.refusal none ok)

module _ (bs : List ℕ) (at : ℕ) where
  pub unreadable_code : ((read_number bs at).refusal ≡ none → ⊥) → read_event bs at ≡ unreadable (read_number bs at)
  unfolding read_event
  unreadable_code bad = after_refused (read_number bs at) _ bad

  module _ (code : ℕ) (p : ℕ) (read : (read_number bs at).refusal ≡ none) (is : (read_number bs at).value ≡ code)
      (then : (read_number bs at).place ≡ p) (fine : known code ≡ true) where
    arguments_next : read_event bs at ≡ read_arguments (arguments code) bs code p
    unfolding read_event
    arguments_next = after_read (read_number bs at) _ read ∙ rw (is, then, fine)

    pub unreadable_first : 1 ≤ arguments code → ((read_number bs p).refusal ≡ none → ⊥)
        → read_event bs at ≡ unreadable (read_number bs p)
    unfolding read_arguments
    unreadable_first some bad = arguments_next ∙ go (arguments code) some
      where
        go : (k : ℕ) → 1 ≤ k → read_arguments k bs code p ≡ unreadable (read_number bs p)
        go zero h = absurd (omega arith)
        go (suc zero) h = after_refused (read_number bs p) _ bad
        go (suc (suc k)) h = after_refused (read_number bs p) _ bad

    pub unreadable_second : 2 ≤ arguments code → (read_number bs p).refusal ≡ none
        → ((read_number bs (read_number bs p).place).refusal ≡ none → ⊥)
        → read_event bs at ≡ unreadable (read_number bs (read_number bs p).place)
    unfolding read_arguments
    unreadable_second some ok bad = arguments_next ∙ go (arguments code) some
      where
        go : (k : ℕ) → 2 ≤ k → read_arguments k bs code p ≡ unreadable (read_number bs (read_number bs p).place)
        go zero h = absurd (omega arith)
        go (suc zero) h = absurd (omega arith)
        go (suc (suc k)) h =
            after_read (read_number bs p) _ ok ∙ after_refused (read_number bs (read_number bs p).place) _ bad
