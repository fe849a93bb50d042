-- One event of a trace: its code, then its arguments, each a number of the format.
--
--   arguments code    how many arguments an event has
--   read_event bs at  the event at a place of bs; event_end bs at: where it ends
--   event_bytes e     the bytes of e
--   write_event e n   what the writer of e answers that is lent n bytes; event_written e d: what d holds afterwards
--
-- Main laws: `read_written` and `written_read` (proofs/Theorems.antt).
use Rattle.std.specs.Prelude.{ℕ, zero, suc, ◌≤◌, ◌<◌, ◌≡◌, Bool, cond, ◌&&◌, ◌||◌, List, [], ◌++◌, leb, ltb, eqb, Result, Ok, Err}
use Rattle.number.specs.declared.Refused.{Refused}
use Rattle.number.specs.declared.Reading.{Reading}
use Rattle.number.specs.Refusal.{none}
use Rattle.number.specs.Answer.{code}
use Rattle.number.specs.Number.{NumberRead, number_bound, read_number, number_bytes}
use Rattle.number.specs.Output.{Written, unwritten, writing, written}
use Rattle.event.specs.declared.Event.{Event}
use Rattle.event.specs.Refusal.{in_trace, unknown_event, stray_argument}

-- What a reading gives: the event with refusal 0 and the place after it, or the all-zero event with the refusal and its
-- place.
pub record EventRead : Type 0 where
  pub event : Event
  pub refusal : ℕ
  pub place : ℕ

-- the codes, as document 01's table has them
abbrev pub activate : ℕ
activate = 1

abbrev pub finish : ℕ
finish = 2

abbrev pub chain : ℕ
chain = 3

abbrev pub get : ℕ
get = 4

abbrev pub release : ℕ
release = 5

abbrev pub tick : ℕ
tick = 6

abbrev pub line : ℕ
line = 7

abbrev pub start : ℕ
start = 8

abbrev pub stop : ℕ
stop = 9

-- "10 Wait mask, 11 Set task mask, 12 Clear mask"; an event bit is what OSEK calls an event
abbrev pub wait : ℕ
wait = 10

abbrev pub set : ℕ
set = 11

abbrev pub clear : ℕ
clear = 12

-- "codes not 1 to 12" are unknown
abbrev pub last_code : ℕ
last_code = clear

unfoldable pub known : ℕ → Bool
known code = leb activate code && leb code last_code

-- "Each event code has its own arguments": Finish and Tick have none, Start a table and a delay, Set a task and a mask,
-- each other one the number of what it is about, or a mask
unfoldable pub arguments : ℕ → ℕ
arguments code = cond (eqb code finish || eqb code tick) 0 (cond (eqb code start || eqb code set) 2 1)

-- in the place of a count of arguments, of which no event has three: the code is unknown
abbrev pub no_event : ℕ
no_event = 3

-- an event; an argument that it lacks is 0
abbrev pub event : ℕ → ℕ → ℕ → Event
event code first second = record { code = code; first = first; second = second }

-- "An accepted reading has refusal 0 and the place after it"
abbrev pub accepted : Event → ℕ → EventRead
accepted e p = record { event = e; refusal = none; place = p }

-- "A refused reader returns an all-zero value with refusal and place"
abbrev pub refused : ℕ → ℕ → EventRead
refused r p = record { event = event 0 0 0; refusal = r; place = p }

-- the answer of a function, in document 01's numbers
abbrev pub as_event_read : Result (Reading Event) Refused → EventRead
as_event_read (Ok r) = accepted r.value r.place
as_event_read (Err e) = refused (code e.refusal) e.place

-- where an event ends: refusal 0 and the place after it, or the refusal and its place
pub record EventEnd : Type 0 where
  pub refusal : ℕ
  pub place : ℕ

-- the answer of a function that says only this, in document 01's numbers
abbrev pub as_event_end : Result ℕ Refused → EventEnd
as_event_end (Ok p) = record { refusal = none; place = p }
as_event_end (Err e) = record { refusal = code e.refusal; place = e.place }

-- a number of the trace that can't be read; its place is the one that `number` gives
abbrev pub unreadable : NumberRead → EventRead
unreadable n = refused (in_trace n.refusal) n.place

-- what a number that was read and the place after it lead to; a refused number ends the reading
unfoldable pub after_number : NumberRead → (ℕ → ℕ → EventRead) → EventRead
after_number n f = cond (eqb n.refusal none) (f n.value n.place) (unreadable n)

-- an event without arguments, with one and with two; at is the place after its code
abbrev pub read_none : ℕ → ℕ → EventRead
read_none code at = accepted (event code 0 0) at

abbrev pub read_one : List ℕ → ℕ → ℕ → EventRead
read_one bs code at = after_number (read_number bs at) (λ first p. accepted (event code first 0) p)

abbrev pub read_second : List ℕ → ℕ → ℕ → ℕ → EventRead
read_second bs code first at = after_number (read_number bs at) (λ second p. accepted (event code first second) p)

abbrev pub read_two : List ℕ → ℕ → ℕ → EventRead
read_two bs code at = after_number (read_number bs at) (λ first p. read_second bs code first p)

-- an event whose code, with so many arguments, was read
unfoldable pub read_arguments : ℕ → List ℕ → ℕ → ℕ → EventRead
read_arguments zero bs code at = read_none code at
read_arguments (suc zero) bs code at = read_one bs code at
read_arguments (suc (suc n)) bs code at = read_two bs code at

-- "code, then arguments"; an unknown code is refused at its own place, before its arguments are looked at
unfoldable pub read_event : List ℕ → ℕ → EventRead
read_event bs at =
    after_number (read_number bs at)
    (λ code p. cond (known code) (read_arguments (arguments code) bs code p) (refused unknown_event at))

-- what a reading says without the event
abbrev pub event_end : List ℕ → ℕ → EventEnd
event_end bs at = record { refusal = (read_event bs at).refusal; place = (read_event bs at).place }

-- the bytes of the first arguments of e, as many as the number says
unfoldable pub argument_bytes : ℕ → Event → List ℕ
argument_bytes zero e = []
argument_bytes (suc zero) e = number_bytes e.first
argument_bytes (suc (suc n)) e = number_bytes e.first ++ number_bytes e.second

unfoldable pub event_bytes : Event → List ℕ
event_bytes e = number_bytes e.code ++ argument_bytes (arguments e.code) e

-- "an argument the event lacks is not 0"
unfoldable pub stray : Event → Bool
stray e = (ltb (arguments e.code) 1 && ltb 0 e.first) || (ltb (arguments e.code) 2 && ltb 0 e.second)

-- why the writer refuses e whatever it is lent, or none: "23, 24, all at place 0, then 30"
unfoldable pub writer_refusal : Event → ℕ
writer_refusal e = cond (known e.code) (cond (stray e) stray_argument none) unknown_event

unfoldable pub write_event : Event → ℕ → Written
write_event e n = cond (eqb (writer_refusal e) none) (writing (event_bytes e) n) (unwritten (writer_refusal e) 0)

unfoldable pub event_written : Event → List ℕ → List ℕ
event_written e d = cond (eqb (writer_refusal e) none) (written (event_bytes e) d) d

-- an event that the writer takes and the reader can give
pub record Writable (e : Event) : Type 0 where
  pub at_least : activate ≤ e.code
  pub at_most : e.code ≤ last_code
  pub first_lt : e.first < number_bound
  pub second_lt : e.second < number_bound
  pub lacks_first : arguments e.code < 1 → e.first ≡ 0
  pub lacks_second : arguments e.code < 2 → e.second ≡ 0
