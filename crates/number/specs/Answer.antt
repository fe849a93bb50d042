-- What the functions answer, in document 01's numbers: "Where an answer is an enum, a definition provides this paper's
-- number and values for each case, and the promises use that definition".
--
--   code r            the number of a refusal
--   as_number_read a  a number's reading, as `read_number` has it
--   as_written a      a writer's answer, as `writing` has it
--
-- Main laws: `code_injective`, `as_number_read_injective`, `as_written_injective` (proofs/Answers.antt): these numbers tell
-- the cases apart.
use Rattle.std.specs.Prelude.{ℕ, Result, Ok, Err}
use Rattle.number.specs.declared.Refusal.{Refusal}
use Rattle.number.specs.declared.Refusal.TheVariants.{Cut, Malformed, BadVersion, BadCount, BadField, UsedPriority, Unsorted, TooManyEntries, LeftOver, TooLong, SharedOffset, MixedTable, TraceTooLong, TraceCut, TraceMalformed, UnknownEvent, StrayArgument, NoRoom, NotWaiting, ResourceInUse, NoSuchBody, OtherKinds, ZeroStart, NothingToDraw, UnreadableSign, UnexpectedWord, UnknownWord, GivenTwice, NoResource, BadRecord}
use Rattle.number.specs.declared.Refused.{Refused}
use Rattle.number.specs.declared.Reading.{Reading}
use Rattle.number.specs.Refusal.{none, cut, malformed, no_room}
use Rattle.number.specs.Number.{NumberRead, accepted, refused}
use Rattle.number.specs.Output.{Written, unwritten}

abbrev pub code : Refusal → ℕ
code Cut = cut
code Malformed = malformed
code BadVersion = 3
code BadCount = 4
code BadField = 5
code UsedPriority = 6
code Unsorted = 7
code TooManyEntries = 8
code LeftOver = 9
code TooLong = 10
code SharedOffset = 13
code MixedTable = 14
code TraceTooLong = 20
code TraceCut = 21
code TraceMalformed = 22
code UnknownEvent = 23
code StrayArgument = 24
code NoRoom = no_room
code NotWaiting = 31
code ResourceInUse = 32
code NoSuchBody = 34
code OtherKinds = 35
code ZeroStart = 50
code NothingToDraw = 51
code UnreadableSign = 60
code UnexpectedWord = 61
code UnknownWord = 62
code GivenTwice = 63
code NoResource = 64
code BadRecord = 70

-- "An accepted reading has refusal 0 and the place after it"; "a refused reader returns an all-zero value with refusal
-- and place"
abbrev pub as_number_read : Result (Reading ℕ) Refused → NumberRead
as_number_read (Ok r) = accepted r.value r.place
as_number_read (Err e) = refused (code e.refusal) e.place

-- "Writers return the length"
abbrev pub as_written : Result ℕ Refused → Written
as_written (Ok n) = record { refusal = none; place = n }
as_written (Err e) = unwritten (code e.refusal) e.place
