-- Document 01's events with their arguments, and its refusals of an event with their places, row by row and with the
-- numbers written out: the reader's, then the writer's. Each is computed from the definitions that the contracts cite.
use Prim.Native.Nat.{ℕ}
use mathlib.Core.Path.{◌≡◌, refl}
use mathlib.Core.List.{List, [], ◌∷◌, map}
use lib.ListN.{replicate}
use Rattle.number.specs.Number.{read_number, groups, continued, fifth_group, number_bytes, group_bytes}
use Rattle.number.specs.Output.{writing, written}
use Rattle.event.specs.declared.Event.{Event}
use Rattle.event.specs.Event.{known, arguments, event, accepted, after_number, read_arguments, read_event, argument_bytes, event_bytes, stray, writer_refusal, write_event, event_written}
use Rattle.event.specs.Trace.{read_from, read_rest, read_trace}

-- the reader's refusal and place for each of some traces, from a place on
abbrev answers : ℕ → List (List ℕ) → List (ℕ × ℕ)
answers at = map (λ (bs : List ℕ). ((read_event bs at).refusal, (read_event bs at).place))

pub record ReaderRows : Type 0 where
  -- each code with its arguments: Activate, Finish, Chain, Get, Release, Tick, Line, Start, Stop, Wait, Set, Clear
  pub codes : map (λ (code : ℕ). read_event (code ∷ 0x15 ∷ 0x16 ∷ []) 0)
      (1 ∷ 2 ∷ 3 ∷ 4 ∷ 5 ∷ 6 ∷ 7 ∷ 8 ∷ 9 ∷ 10 ∷ 11 ∷ 12 ∷ [])
      ≡ accepted (event 1 21 0) 2 ∷ accepted (event 2 0 0) 1 ∷ accepted (event 3 21 0) 2 ∷ accepted (event 4 21 0) 2
      ∷ accepted (event 5 21 0) 2
      ∷ accepted (event 6 0 0) 1 ∷ accepted (event 7 21 0) 2 ∷ accepted (event 8 21 22) 3 ∷ accepted (event 9 21 0) 2
      ∷ accepted (event 10 21 0) 2 ∷ accepted (event 11 21 22) 3 ∷ accepted (event 12 21 0) 2 ∷ []
  -- a mask is any 32-bit number
  pub whole_mask : read_event (0x0B ∷ 0x03 ∷ 0xFF ∷ 0xFF ∷ 0xFF ∷ 0xFF ∷ 0x0F ∷ []) 0
      ≡ accepted (event 11 3 4294967295) 7
  -- 23 at the code, before its arguments are looked at: 0, 13, 13 and a cut argument, 257
  pub unknown : answers 1
      ((6 ∷ 0x00 ∷ []) ∷ (6 ∷ 0x0D ∷ []) ∷ (6 ∷ 0x0D ∷ 0x80 ∷ []) ∷ (6 ∷ 0x81 ∷ 0x02 ∷ 0x00 ∷ []) ∷ [])
      ≡ (23, 1) ∷ (23, 1) ∷ (23, 1) ∷ (23, 1) ∷ []
  -- 21 at the trace's end: in the code, before and in the first argument, before and in the second
  pub cut : answers 0
      ((0x88 ∷ []) ∷ (0x01 ∷ []) ∷ (0x01 ∷ 0x80 ∷ 0x80 ∷ []) ∷ (0x08 ∷ 0x05 ∷ []) ∷ (0x08 ∷ 0x85 ∷ 0x01 ∷ 0xFF ∷ []) ∷
      [])
      ≡ (21, 1) ∷ (21, 1) ∷ (21, 3) ∷ (21, 2) ∷ (21, 4) ∷ []
  -- 22 at the byte that decides it: in the code, in the first argument, in the second
  pub malformed : answers 0
      ((0x88 ∷ 0x00 ∷ []) ∷ (0x01 ∷ 0x80 ∷ 0x80 ∷ 0x00 ∷ []) ∷ (0x08 ∷ 0x05 ∷ 0xFF ∷ 0xFF ∷ 0xFF ∷ 0xFF ∷ 0x10 ∷ []) ∷
      [])
      ≡ (22, 1) ∷ (22, 3) ∷ (22, 6) ∷ []
  -- an empty trace, a trace's end, and past it
  pub past : (answers 0 ([] ∷ []) ≡ (21, 0) ∷ []) × (answers 1 ((0x06 ∷ []) ∷ []) ≡ (21, 1) ∷ [])
      × (answers 5 ((0x06 ∷ []) ∷ []) ≡ (21, 5) ∷ [])
  -- "Empty trace: accepted, 0 events"
  pub empty : read_trace [] ≡ record { events = []; refusal = 0; place = 0 }

pub reader_rows : ReaderRows
unfolding read_number groups continued fifth_group known arguments after_number read_arguments read_event read_from read_rest
reader_rows =
    record {
      codes = refl;
      whole_mask = refl;
      unknown = refl;
      cut = refl;
      malformed = refl;
      past = (refl, refl, refl);
      empty = refl;
    }

-- the writer's refusal and place, with room for n bytes
abbrev answer : ℕ → Event → ℕ × ℕ
answer n e = ((write_event e n).refusal, (write_event e n).place)

pub record WriterRows : Type 0 where
  -- 23 and 24 at place 0, 23 before 24, both before 30: codes 0 and 13; a first argument of Finish, a second of Tick,
  -- Activate, Wait and Clear, of which Set has one
  pub refused : map (answer 0) (
      event 0 0 0 ∷ event 13 0 0 ∷ event 13 1 1 ∷ event 2 1 0 ∷ event 6 0 1 ∷ event 1 0 7 ∷ event 10 0 7 ∷ event 12 0 7
      ∷ event 11 0 7 ∷ []
      )
      ≡ (23, 0) ∷ (23, 0) ∷ (23, 0) ∷ (24, 0) ∷ (24, 0) ∷ (24, 0) ∷ (24, 0) ∷ (24, 0) ∷ (30, 3) ∷ []
  -- the length, and 30 with the bytes needed
  pub room : map (answer 4) (event 6 0 0 ∷ event 1 300 0 ∷ event 8 5 128 ∷ event 8 300 128 ∷ [])
      ≡ (0, 1) ∷ (0, 3) ∷ (0, 4) ∷ (30, 5) ∷ []
  -- bytes beyond the length stay; too short or refused, all stay
  pub output : (event_written (event 8 5 128) (replicate 5 0xAA) ≡ 0x08 ∷ 0x05 ∷ 0x80 ∷ 0x01 ∷ 0xAA ∷ [])
      × (event_written (event 8 5 128) (replicate 3 0xAA) ≡ replicate 3 0xAA)
      × (event_written (event 2 1 0) (replicate 3 0xAA) ≡ replicate 3 0xAA)
      × (event_written (event 13 0 0) (replicate 3 0xAA) ≡ replicate 3 0xAA)

pub writer_rows : WriterRows
unfolding number_bytes group_bytes writing written known arguments argument_bytes event_bytes stray writer_refusal write_event
    event_written
writer_rows = record { refused = refl; room = refl; output = (refl, refl, refl, refl) }
