-- The numbers of document 01 tell the cases of an answer apart, so that a contract by them fixes the answer.
use Rattle.std.specs.Prelude.{ℕ, ◌≡◌, cond, eqb, Result, Ok, Err}
use mathlib.Core.Path.{refl, sym, ap, ◌∙◌}
use native.Mathlib.Omega.{arith}
use Rattle.number.specs.declared.Refusal.{Refusal}
use Rattle.number.specs.declared.Refusal.TheVariants.{Cut, Malformed, BadVersion, BadCount, BadField, UsedPriority, Unsorted, TooManyEntries, LeftOver, TooLong, SharedOffset, MixedTable, TraceTooLong, TraceCut, TraceMalformed, UnknownEvent, StrayArgument, NoRoom, NotWaiting, ResourceInUse, NoSuchBody, OtherKinds, ZeroStart, NothingToDraw, UnreadableSign, UnexpectedWord, UnknownWord, GivenTwice, NoResource, BadRecord}
use Rattle.number.specs.declared.Refused.{Refused}
use Rattle.number.specs.declared.Reading.{Reading}
use Rattle.number.specs.Refusal.{none}
use Rattle.number.specs.Number.{NumberRead}
use Rattle.number.specs.Output.{Written}
use Rattle.number.specs.Answer.{code, as_number_read, as_written}

-- the refusal of a number
unfoldable decode : ℕ → Refusal
decode n =
    cond (eqb n 1) Cut (cond (eqb n 2) Malformed (cond (eqb n 3) BadVersion (
    cond (eqb n 4) BadCount (cond (eqb n 5) BadField (cond (eqb n 6) UsedPriority (
    cond (eqb n 7) Unsorted (cond (eqb n 8) TooManyEntries (cond (eqb n 9) LeftOver (
    cond (eqb n 10) TooLong (cond (eqb n 13) SharedOffset (cond (eqb n 14) MixedTable (
    cond (eqb n 20) TraceTooLong (cond (eqb n 21) TraceCut (cond (eqb n 22) TraceMalformed (
    cond (eqb n 23) UnknownEvent (cond (eqb n 24) StrayArgument (cond (eqb n 30) NoRoom (
    cond (eqb n 31) NotWaiting (cond (eqb n 32) ResourceInUse (cond (eqb n 34) NoSuchBody (
    cond (eqb n 35) OtherKinds (cond (eqb n 50) ZeroStart (cond (eqb n 51) NothingToDraw (
    cond (eqb n 60) UnreadableSign (cond (eqb n 61) UnexpectedWord (cond (eqb n 62) UnknownWord (
    cond (eqb n 63) GivenTwice (cond (eqb n 64) NoResource (BadRecord)))))))))))))))))))))))))))))

decode_code : (r : Refusal) → decode (code r) ≡ r
unfolding decode
decode_code Cut = refl
decode_code Malformed = refl
decode_code BadVersion = refl
decode_code BadCount = refl
decode_code BadField = refl
decode_code UsedPriority = refl
decode_code Unsorted = refl
decode_code TooManyEntries = refl
decode_code LeftOver = refl
decode_code TooLong = refl
decode_code SharedOffset = refl
decode_code MixedTable = refl
decode_code TraceTooLong = refl
decode_code TraceCut = refl
decode_code TraceMalformed = refl
decode_code UnknownEvent = refl
decode_code StrayArgument = refl
decode_code NoRoom = refl
decode_code NotWaiting = refl
decode_code ResourceInUse = refl
decode_code NoSuchBody = refl
decode_code OtherKinds = refl
decode_code ZeroStart = refl
decode_code NothingToDraw = refl
decode_code UnreadableSign = refl
decode_code UnexpectedWord = refl
decode_code UnknownWord = refl
decode_code GivenTwice = refl
decode_code NoResource = refl
decode_code BadRecord = refl

pub code_injective : (r s : Refusal) → code r ≡ code s → r ≡ s
code_injective r s e = sym (decode_code r) ∙ ap decode e ∙ decode_code s

-- no refusal has the number 0
pub code_some : (r : Refusal) → code r ≡ none → ⊥
code_some Cut e = absurd (omega (arith, e))
code_some Malformed e = absurd (omega (arith, e))
code_some BadVersion e = absurd (omega (arith, e))
code_some BadCount e = absurd (omega (arith, e))
code_some BadField e = absurd (omega (arith, e))
code_some UsedPriority e = absurd (omega (arith, e))
code_some Unsorted e = absurd (omega (arith, e))
code_some TooManyEntries e = absurd (omega (arith, e))
code_some LeftOver e = absurd (omega (arith, e))
code_some TooLong e = absurd (omega (arith, e))
code_some SharedOffset e = absurd (omega (arith, e))
code_some MixedTable e = absurd (omega (arith, e))
code_some TraceTooLong e = absurd (omega (arith, e))
code_some TraceCut e = absurd (omega (arith, e))
code_some TraceMalformed e = absurd (omega (arith, e))
code_some UnknownEvent e = absurd (omega (arith, e))
code_some StrayArgument e = absurd (omega (arith, e))
code_some NoRoom e = absurd (omega (arith, e))
code_some NotWaiting e = absurd (omega (arith, e))
code_some ResourceInUse e = absurd (omega (arith, e))
code_some NoSuchBody e = absurd (omega (arith, e))
code_some OtherKinds e = absurd (omega (arith, e))
code_some ZeroStart e = absurd (omega (arith, e))
code_some NothingToDraw e = absurd (omega (arith, e))
code_some UnreadableSign e = absurd (omega (arith, e))
code_some UnexpectedWord e = absurd (omega (arith, e))
code_some UnknownWord e = absurd (omega (arith, e))
code_some GivenTwice e = absurd (omega (arith, e))
code_some NoResource e = absurd (omega (arith, e))
code_some BadRecord e = absurd (omega (arith, e))

-- a refusal at its place
same_refused : (e f : Refused) → code e.refusal ≡ code f.refusal → e.place ≡ f.place → e ≡ f
same_refused e f r p =
    ap (λ u. record { refusal = u; place = e.place }) (code_injective e.refusal f.refusal r)
    ∙ ap (λ n. record { refusal = f.refusal; place = n }) p

pub as_written_injective : (a b : Result ℕ Refused) → as_written a ≡ as_written b → a ≡ b
as_written_injective (Ok n) (Ok m) e = ap Ok (ap (λ (w : Written). w.place) e)
as_written_injective (Ok n) (Err f) e = absurd (code_some f.refusal (sym (ap (λ (w : Written). w.refusal) e)))
as_written_injective (Err f) (Ok n) e = absurd (code_some f.refusal (ap (λ (w : Written). w.refusal) e))
as_written_injective (Err e) (Err f) h =
    ap Err (same_refused e f (ap (λ (w : Written). w.refusal) h) (ap (λ (w : Written). w.place) h))

pub as_number_read_injective : (a b : Result (Reading ℕ) Refused) → as_number_read a ≡ as_number_read b → a ≡ b
as_number_read_injective (Ok r) (Ok s) e =
    ap Ok (ap (λ v. record { value = v; place = r.place }) (ap (λ (n : NumberRead). n.value) e)
    ∙ ap (λ p. record { value = s.value; place = p }) (ap (λ (n : NumberRead). n.place) e))
as_number_read_injective (Ok r) (Err f) e = absurd (code_some f.refusal (sym (ap (λ (n : NumberRead). n.refusal) e)))
as_number_read_injective (Err f) (Ok r) e = absurd (code_some f.refusal (ap (λ (n : NumberRead). n.refusal) e))
as_number_read_injective (Err e) (Err f) h =
    ap Err (same_refused e f (ap (λ (n : NumberRead). n.refusal) h) (ap (λ (n : NumberRead). n.place) h))
