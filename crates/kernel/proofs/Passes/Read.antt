-- The event at a place of a trace as the second pass reads it: its code is the byte there, and its arguments are the
-- numbers behind it.
--
--   known_byte                     the byte at the place of an event that was accepted is a known code
--   none_read, one_read, two_read  the event of a code with no argument, with one and with two
use Prim.Native.Nat.{ℕ, ◌+◌, ◌≤◌, ◌<◌}
use mathlib.Core.Path.{◌≡◌, refl, sym, ap, ◌∙◌}
use mathlib.Core.Bool.{true}
use mathlib.Core.List.{List}
use native.Mathlib.Omega.{arith}
use native.Mathlib.Nat.{add-zero}
use lib.ListN.{length, get_or}
use lib.Seq.{get_or-drop}
use borrow.Author.Tests.{lt-ltb}
use Rattle.number.specs.Refusal.{none}
use Rattle.number.specs.Number.{NumberRead, Bytes, read_number, group_bytes, number_bytes}
use Rattle.number.proofs.Cases.{by_eq}
use Rattle.number.specs.declared.Reading.{Reading}
use Rattle.number_codec.specs.declared.Pair.{Pair}
use Rattle.event.specs.Event.{EventRead, last_code, known, arguments, event, accepted, read_one, read_two, read_arguments, after_number, read_event, event_bytes}
use Rattle.event.proofs.Reading.{goes_on, ends, read_byte}
use Rattle.event.proofs.Theorems.{event_reading, written_read}

code_byte : (bs : List ℕ) (at : ℕ) → Bytes bs → (read_event bs at).refusal ≡ none
    → get_or bs at 0 ≡ (read_event bs at).event.code
unfolding event_bytes number_bytes group_bytes
code_byte bs at bytes fine =
    let e = (read_event bs at).event in
    let small : e.code < 128 = omega (arith, ((event_reading bs at).writable fine).at_most) in
    ap (λ (n : ℕ). get_or bs n 0) (sym (add-zero at)) ∙ sym (get_or-drop at bs 0 0)
    ∙ ap (λ (l : List ℕ). get_or l 0 0) (written_read bs at bytes fine) ∙ simp (lt-ltb e.code 128 small)

pub known_byte : (bs : List ℕ) (at : ℕ) → Bytes bs → (read_event bs at).refusal ≡ none
    → (1 ≤ get_or bs at 0) × (get_or bs at 0 ≤ last_code)
known_byte bs at bytes fine =
    let w = (event_reading bs at).writable fine in
    rw (code_byte bs at bytes fine) (w.at_least, w.at_most)

-- a is the number of bs at a place
abbrev pub NumberAt : List ℕ → ℕ → Reading ℕ → Type 0
NumberAt bs at a = (a.value ≡ (read_number bs at).value) × (a.place ≡ (read_number bs at).place)

-- a is the two numbers of bs from a place on
abbrev pub PairAt : List ℕ → ℕ → Pair → Type 0
PairAt bs at a =
    (a.first ≡ (read_number bs at).value)
    × ((a.second ≡ (read_number bs (read_number bs at).place).value)
    × (a.place ≡ (read_number bs (read_number bs at).place).place))

-- an accepted reading goes on behind each of its numbers
past_number : {r : EventRead} {n : NumberRead} (m : NumberRead) (f : ℕ → ℕ → EventRead) → r.refusal ≡ none
    → r ≡ after_number m f → n ≡ m → r ≡ f n.value n.place
past_number {r} {n} m f fine h same =
    by_eq n.refusal none
    (λ e. h ∙ goes_on n m f same e)
    (λ d. absurd (omega (arith, ap (λ (x : EventRead). x.refusal) (h ∙ ends n m f same d), fine)))

module _ (bs : List ℕ) (at : ℕ) (within : at < length bs) (fine : (read_event bs at).refusal ≡ none) (k : ℕ)
    (is_Known : known k ≡ true) (code : get_or bs at 0 ≡ k)
  where
    behind : read_event bs at ≡ read_arguments (arguments k) bs k (at + 1)
    behind = read_byte bs at k within code is_Known

    pub none_read : arguments k ≡ 0 → read_event bs at ≡ accepted (event k 0 0) (at + 1)
    unfolding read_arguments
    none_read e = behind ∙ rw e

    pub one_read : arguments k ≡ 1 → {a : Reading ℕ} → NumberAt bs (at + 1) a
        → read_event bs at ≡ accepted (event k a.value 0) a.place
    unfolding read_arguments
    one_read e number =
        let h : read_event bs at ≡ read_one bs k (at + 1) = behind ∙ rw e in
        rw (number.0, number.1) (past_number _ _ fine h refl)

    pub two_read : arguments k ≡ 2 → {a : Pair} → PairAt bs (at + 1) a
        → read_event bs at ≡ accepted (event k a.first a.second) a.place
    unfolding read_arguments
    two_read e pair =
        let h : read_event bs at ≡ read_two bs k (at + 1) = behind ∙ rw e in
        rw (pair.0, pair.1.0, pair.1.1) (past_number _ _ fine (past_number _ _ fine h refl) refl)
