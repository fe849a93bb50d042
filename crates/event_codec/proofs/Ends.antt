-- The reader's definition where the numbers have one byte each.
use Prim.Native.Nat.{ℕ, zero, suc, ◌+◌, ◌-◌, ◌*◌, ◌/◌, ◌%◌, ◌≤◌, ◌<◌}
use mathlib.Core.Path.{◌≡◌, refl, sym, ap, ◌∙◌}
use mathlib.Core.Bool.{Bool, true, false, cond, not, ◌&&◌}
use mathlib.Core.List.{List}
use native.Mathlib.Omega.{arith}
use lib.Dec.{ltb}
use Rattle.std.specs.List.{slice_range}
use Rattle.std.proofs.lemmas.List.{get_or-take, get_or-drop}
use lib.ListN.{length, take, drop, get_or}
use borrow.Author.Tests.{ltb-true}
use Rattle.number.specs.Refusal.{none}
use Rattle.number.proofs.Cases.{by_test, and_true}
use Rattle.number.proofs.Theorems.{read_single}
use Rattle.event.specs.declared.Event.{Event}
use Rattle.event.specs.Event.{EventRead, EventEnd, known, arguments, event, accepted, read_arguments, read_event, event_end}
use Rattle.event.proofs.Reading.{goes_on, read_byte}
use Rattle.event_codec.proofs.Arms.{Counted, counted, arguments_le}

-- the event at a place is accepted, and the next one stands at the place p
pub record AcceptedTo (bs : List ℕ) (at p : ℕ) : Type 0 where
  pub event : Event
  pub read : read_event bs at ≡ accepted event p

-- an event of a code that is the byte at its place ends behind it, or behind its arguments of a byte each
module _ (bs : List ℕ) (at : ℕ) {m : ℕ} (within : at < length bs) (h : Counted (get_or bs at 0) m) where
  after_byte : {k : ℕ} → m ≡ k → read_event bs at ≡ read_arguments k bs (get_or bs at 0) (at + 1)
  after_byte e = read_byte bs at (get_or bs at 0) within refl h.is_known ∙ rw (h.counts, e)

  pub none_accepted : m ≡ 0 → AcceptedTo bs at (at + 1)
  unfolding read_arguments
  none_accepted e = record { event = event (get_or bs at 0) 0 0; read = after_byte e }

  module _ (inside : at + 1 < length bs) (small : get_or bs (at + 1) 0 < 128) where
    pub one_accepted : m ≡ 1 → AcceptedTo bs at (at + 1 + 1)
    unfolding read_arguments
    one_accepted e =
        record {
          event = event (get_or bs at 0) (get_or bs (at + 1) 0) 0;
          read = after_byte e ∙ goes_on _ _ _ (sym (read_single bs (at + 1) inside small)) refl;
        }

    pub two_accepted : m ≡ 2 → at + 1 + 1 < length bs → get_or bs (at + 1 + 1) 0 < 128 → AcceptedTo bs at (at + 1 + 1 + 1)
    unfolding read_arguments
    two_accepted e inside2 small2 =
        record {
          event = event (get_or bs at 0) (get_or bs (at + 1) 0) (get_or bs (at + 1 + 1) 0);
          read =
              after_byte e ∙ goes_on _ _ _ (sym (read_single bs (at + 1) inside small)) refl
              ∙ goes_on _ _ _ (sym (read_single bs (at + 1 + 1) inside2 small2)) refl;
        }

-- an event of a known code, with numbers of a byte each in the place of all arguments that it may have
module _ (bs : List ℕ) (at : ℕ) (inside : at + 3 ≤ length bs) (k : known (get_or bs at 0) ≡ true)
    (small : get_or bs (at + 1) 0 < 128) (small2 : get_or bs (at + 1 + 1) 0 < 128) where
  counts : {m : ℕ} → arguments (get_or bs at 0) ≡ m → Counted (get_or bs at 0) m
  counts {m} e = counted _ m (rw k (sym e)) (λ none. omega (arith, arguments_le (get_or bs at 0)))

  to : {p q : ℕ} → AcceptedTo bs at p → p ≡ q → AcceptedTo bs at q
  to a e = rw (sym e) a

  by_count : (m : ℕ) → arguments (get_or bs at 0) ≡ m → AcceptedTo bs at (at + (1 + m))
  by_count zero e = to (none_accepted bs at (omega arith) (counts e) refl) (omega arith)
  by_count (suc zero) e = to (one_accepted bs at (omega arith) (counts e) (omega arith) small refl) (omega arith)
  by_count (suc (suc zero)) e =
      to (two_accepted bs at (omega arith) (counts e) (omega arith) small refl (omega arith) small2) (omega arith)
  by_count (suc (suc (suc m))) e = absurd (omega (arith, arguments_le (get_or bs at 0)))

  pub short_accepted : AcceptedTo bs at (at + (1 + arguments (get_or bs at 0)))
  short_accepted = by_count (arguments (get_or bs at 0)) refl

-- the numbers in the lowest bytes of a word are short
pub record Short (w : ℕ) : Type 0 where
  pub code : w % 256 < 32
  pub first : w / 256 % 256 < 128
  pub second : w / 65536 % 256 < 128

not_not : (s : Bool) → not s ≡ false → s ≡ true
not_not true e = refl
not_not false e = sym e

pub short_word : {w : ℕ} {s : Bool}
    → s ≡ (ltb (w % 256) 32 && ltb (w / 256 % 256) 128) && ltb (w / 65536 % 256) 128 → not s ≡ false → Short w
short_word {w} {s} e t =
    let h = and_true _ (ltb (w / 65536 % 256) 128) (sym e ∙ not_not s t) in
    let g = and_true (ltb (w % 256) 32) (ltb (w / 256 % 256) 128) h.0 in
    record { code = ltb-true _ _ g.0; first = ltb-true _ _ g.1; second = ltb-true _ _ h.1 }

-- a length that is not 0 is that of a known code
pub some_length : {n : ℕ} (code : ℕ) → n ≡ cond (known code) (1 + arguments code) 0 → (n ≡ 0 → ⊥)
    → (known code ≡ true) × (n ≡ 1 + arguments code) × (n ≤ 3)
some_length code e some =
    by_test (known code) (λ k. let l = rw k at e in (k, l, omega (arith, l, arguments_le code))) (λ u. absurd (some (rw u at e)))

-- the four bytes at a place are those of a word; n: the length that its code has
pub word_accepted : (bs : List ℕ) (at w n : ℕ) → at + 4 ≤ length bs
    → (w % 256 ≡ get_or bs at 0) × (w / 256 % 256 ≡ get_or bs (at + 1) 0) × (w / 65536 % 256 ≡ get_or bs (at + 2) 0)
    → Short w → n ≡ cond (known (w % 256)) (1 + arguments (w % 256)) 0 → (n ≡ 0 → ⊥) → AcceptedTo bs at (at + n)
word_accepted bs at w n inside same short e some =
    let l = some_length (w % 256) e some in
    let two : at + 2 ≡ at + 1 + 1 = omega arith in
    rw (l.1, same.0)
    (short_accepted bs at (omega arith) (rw same.0 at l.0) (rw same.1 at short.first)
    (rw (same.2, two) at short.second))

-- the four bytes at a place, taken as a chunk and read as one number, the first the lowest
module _ (bs rest chunk : List ℕ) (at w : ℕ) (from : rest ≡ slice_range bs at (length bs)) (first : chunk ≡ take 4 rest)
    (inside : at + 4 ≤ length bs) (byte : (i : ℕ) → get_or bs i 0 < 256)
    (word : w ≡ get_or chunk 0 0 + get_or chunk 1 0 * 256 + get_or chunk 2 0 * 65536 + get_or chunk 3 0 * 16777216)
  where
    at_chunk : (i p : ℕ) → i < 4 → at + i ≡ p → get_or chunk i 0 ≡ get_or bs p 0
    at_chunk i p h e =
        rw (first, from)
        (get_or-take 4 (slice_range bs at (length bs)) i 0 h
        ∙ get_or-take (length bs - at) (drop at bs) i 0 (omega arith)
        ∙ get_or-drop at bs i 0 ∙ ap (λ (k : ℕ). get_or bs k 0) e)

    pub word_bytes : (w % 256 ≡ get_or bs at 0) × (w / 256 % 256 ≡ get_or bs (at + 1) 0)
        × (w / 65536 % 256 ≡ get_or bs (at + 2) 0)
    word_bytes =
        let a = at_chunk 0 at (omega arith) (omega arith) in
        let b = at_chunk 1 (at + 1) (omega arith) refl in
        let c = at_chunk 2 (at + 2) (omega arith) refl in
        let d = at_chunk 3 (at + 3) (omega arith) refl in
        let p = byte at in let q = byte (at + 1) in let r = byte (at + 2) in let s = byte (at + 3) in
        (omega arith, omega arith, omega arith)

-- an accepted event ends there
pub ends_there : {bs : List ℕ} {at p : ℕ} → AcceptedTo bs at p
    → ◌≡◌ {A = EventEnd} (record { refusal = none; place = p }) (event_end bs at)
ends_there a = sym (ap (λ (r : EventRead). record { refusal = r.refusal; place = r.place }) a.read)
