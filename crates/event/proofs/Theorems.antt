-- What the crate shows beyond its contracts. Each law stands here in full, over specs/ alone; the modules it cites
-- prove it.
--
-- In order: what every reading satisfies, one past the end, and where a number can't be read; both round trips; how
-- long an event's bytes are; what the writer refuses; the trace as a list of events, and which bytes decide its refusal.
use Prim.Native.Nat.{ℕ, ◌+◌, ◌-◌, ◌≤◌, ◌<◌, max}
use mathlib.Core.Path.{◌≡◌, refl, ap, ◌∙◌}
use mathlib.Core.Bool.{true, cond}
use mathlib.Core.Logic.{◌≢◌}
use mathlib.Core.List.{List, ◌++◌}
use native.Mathlib.Omega.{arith}
use native.Mathlib.Nat.{zero-add}
use lib.Dec.{lit≤, eqb}
use lib.ListN.{length, take, drop, length-append, length-drop}
use lib.Seq.{drop_at}
use Rattle.number.specs.Refusal.{none}
use Rattle.number.specs.Number.{number_bound, Bytes, read_number}
use Rattle.number.proofs.Cases.{by_lt}
use Rattle.number.proofs.Theorems as Number
use Rattle.event.specs.declared.Event.{Event}
use Rattle.event.specs.Refusal.{trace_cut, trace_malformed, in_trace, unknown_event}
use Rattle.event.specs.Event.{EventRead, known, arguments, event, accepted, refused, after_number, read_event, event_bytes, writer_refusal, write_event, event_written, Writable}
use Rattle.event.specs.Trace.{TraceRead, ended, broken, before, read_from, read_rest, read_trace, decisive, trace_bytes, AllWritable}
use Rattle.event.proofs.RoundTrip as RoundTrip
use Rattle.event.proofs.Size as Size
use Rattle.event.proofs.Writing as Writing
use Rattle.event.proofs.Trace as Trace
use Rattle.event.proofs.Unreadable as Unreadable
use Rattle.event.proofs.FirstFault as FirstFault

-- whatever is read: an accepted event can be written and covers at least one byte of the input; a refused one is all
-- zero, and one cut off has its place at the input's end, "(a start past it keeps its own place)"
pub record EventReading (bs : List ℕ) (at : ℕ) (r : EventRead) : Type 0 where
  pub after : r.refusal ≡ none → at < r.place
  pub inside : r.refusal ≡ none → r.place ≤ length bs
  pub writable : r.refusal ≡ none → Writable r.event
  pub refusals : (r.refusal ≡ none → ⊥) → (trace_cut ≤ r.refusal) × (r.refusal ≤ unknown_event)
  pub zero_event : (r.refusal ≡ none → ⊥) → r.event ≡ event 0 0 0
  pub place_le : at ≤ length bs → r.place ≤ length bs
  pub at_end : r.refusal ≡ trace_cut → r.place ≡ max at (length bs)

pub event_reading : (bs : List ℕ) (at : ℕ) → EventReading bs at (read_event bs at)
event_reading bs at =
    RoundTrip.read_elim bs at (EventReading bs at)
    (λ p le i n. let number = Number.reading bs p in
    no_event_lem _ _ (omega arith) (omega (arith, number.refusals))
    (λ h. number.place_le (by_lt at p i (λ ge. omega arith)))
    (λ e. number.at_end (omega arith) ∙ by_lt at p (λ lt. let h = i lt in omega arith) (λ ge. omega arith)))
    (no_event_lem unknown_event at (lit≤ tt) (lit≤ tt) (λ h. h) (λ e. absurd (omega arith)))
    (λ e p w s.
    record {
      after = λ h. s.later;
      inside = λ h. s.inside;
      writable = λ h. w;
      refusals = λ n. absurd (n refl);
      zero_event = λ n. absurd (n refl);
      place_le = λ h. s.inside;
      at_end = λ h. absurd (omega arith);
    })
  where
    no_event_lem : (r p : ℕ) → trace_cut ≤ r → r ≤ unknown_event → (at ≤ length bs → p ≤ length bs)
        → (r ≡ trace_cut → p ≡ max at (length bs)) → EventReading bs at (refused r p)
    no_event_lem r p low high place end =
        record {
          after = λ h. absurd (omega arith);
          inside = λ h. absurd (omega arith);
          writable = λ h. absurd (omega arith);
          refusals = λ h. (low, high);
          zero_event = λ h. refl;
          place_le = place;
          at_end = end;
        }

-- "a place at or past the end gives 21 there"
pub read_past : (bs : List ℕ) (at : ℕ) → length bs ≤ at → read_event bs at ≡ refused trace_cut at
unfolding after_number read_event
read_past bs at h = rw (Number.read_past bs at h)

-- Document 02, A2, in a trace: a number that can't be read has the number reader's place, wherever it begins: the code,
-- the first argument, at the place p behind the code, or the second behind that
pub unreadable_code : (bs : List ℕ) (at : ℕ) → ((read_number bs at).refusal ≡ none → ⊥)
    → read_event bs at ≡ refused (in_trace (read_number bs at).refusal) (read_number bs at).place
unreadable_code = Unreadable.unreadable_code

pub unreadable_first : (bs : List ℕ) (at code p : ℕ) → (read_number bs at).refusal ≡ none
    → (read_number bs at).value ≡ code → (read_number bs at).place ≡ p → known code ≡ true → 1 ≤ arguments code
    → ((read_number bs p).refusal ≡ none → ⊥)
    → read_event bs at ≡ refused (in_trace (read_number bs p).refusal) (read_number bs p).place
unreadable_first = Unreadable.unreadable_first

pub unreadable_second : (bs : List ℕ) (at code p : ℕ) → (read_number bs at).refusal ≡ none
    → (read_number bs at).value ≡ code → (read_number bs at).place ≡ p → known code ≡ true → 2 ≤ arguments code
    → (read_number bs p).refusal ≡ none
    → ((read_number bs (read_number bs p).place).refusal ≡ none → ⊥)
    → read_event bs at
    ≡ refused (in_trace (read_number bs (read_number bs p).place).refusal) (read_number bs (read_number bs p).place).place
unreadable_second = Unreadable.unreadable_second

-- where the bytes of an event stand, that event is read and the place after them, whatever stands before and after
pub read_at : (bs : List ℕ) (at : ℕ) (e : Event) (rest : List ℕ) → Writable e → drop at bs ≡ event_bytes e ++ rest
    → read_event bs at ≡ accepted e (at + length (event_bytes e))
read_at bs at e rest w h = RoundTrip.read_at bs e rest w at h

-- what is written reads back as the same event and the place after it
pub read_written : (front behind : List ℕ) (e : Event) → Writable e
    → read_event (front ++ (event_bytes e ++ behind)) (length front) ≡ accepted e (length front + length (event_bytes e))
read_written front behind e w =
    read_at (front ++ (event_bytes e ++ behind)) (length front) e behind w
    (drop_at front (event_bytes e ++ behind) (length front) refl)

-- whatever the reader accepts is written back to the same bytes
pub written_read : (bs : List ℕ) (at : ℕ) → Bytes bs → (read_event bs at).refusal ≡ none
    → drop at bs ≡ event_bytes (read_event bs at).event ++ drop (read_event bs at).place bs
written_read bs at b h = (RoundTrip.read_spans bs at h).bytes b

-- an accepted event covers as many bytes as it is written in
pub place_read : (bs : List ℕ) (at : ℕ) → Bytes bs → (read_event bs at).refusal ≡ none
    → (read_event bs at).place ≡ at + length (event_bytes (read_event bs at).event)
place_read bs at b h = let s = RoundTrip.read_spans bs at h in
    omega (arith, simp (length-append, length-drop) at (ap length (s.bytes b)))

-- an event has 1 to 15 bytes: one to three numbers
pub length_event_bytes : (e : Event) → (1 ≤ length (event_bytes e)) × (length (event_bytes e) ≤ 15)
length_event_bytes = Size.length_event_bytes

-- the writer refuses exactly the events that can't be written; their arguments are numbers of 32 bits
pub writable_accepted : (e : Event) → Writable e → writer_refusal e ≡ none
writable_accepted = Writing.writable_accepted

pub accepted_writable : (e : Event) → e.first < number_bound → e.second < number_bound → writer_refusal e ≡ none
    → Writable e
accepted_writable = Writing.accepted_writable

-- an event that was written is read from the output, up to the length that the writer returned
pub read_output : (e : Event) (d : List ℕ) → e.first < number_bound → e.second < number_bound
    → (write_event e (length d)).refusal ≡ none
    → read_event (event_written e d) 0 ≡ accepted e (write_event e (length d)).place
read_output = RoundTrip.read_output

-- the events of a trace from a place on, event by event: none at the end, none where one is refused, and else the one
-- there and those after it
pub rest_end : (bs : List ℕ) (at : ℕ) → length bs ≤ at → read_rest bs at ≡ ended at
rest_end = Trace.rest_end

pub rest_refused : (bs : List ℕ) (at : ℕ) → at < length bs → ((read_event bs at).refusal ≡ none → ⊥)
    → read_rest bs at ≡ broken (read_event bs at)
rest_refused = Trace.rest_refused

pub rest_step : (bs : List ℕ) (at : ℕ) → (read_event bs at).refusal ≡ none
    → read_rest bs at ≡ before (read_event bs at).event (read_rest bs (read_event bs at).place)
rest_step = Trace.rest_step

-- fuel does not matter once there is as much of it as there are bytes
pub from_rest : (bs : List ℕ) (fuel at : ℕ) → length bs - at ≤ fuel → read_from fuel bs at ≡ read_rest bs at
from_rest = Trace.from_rest

-- what the end and a refusal have, and each event passes on, every trace has
pub rest_elim : (bs : List ℕ) (P : ℕ → TraceRead → Type 0)
    → ((at : ℕ) → length bs ≤ at → P at (ended at))
    → ((at : ℕ) → at < length bs → ((read_event bs at).refusal ≡ none → ⊥) → P at (broken (read_event bs at)))
    → ((at : ℕ) → at < length bs → (read_event bs at).refusal ≡ none
    → P (read_event bs at).place (read_rest bs (read_event bs at).place)
    → P at (before (read_event bs at).event (read_rest bs (read_event bs at).place)))
    → (at : ℕ) → P at (read_rest bs at)
rest_elim = Trace.rest_elim

-- the bytes of an accepted trace are those of its events, one after the other
pub trace_written_read : (bs : List ℕ) → Bytes bs → (read_trace bs).refusal ≡ none
    → bs ≡ trace_bytes (read_trace bs).events
trace_written_read bs b h = Trace.rest_bytes bs b 0 h

-- a list of events that is written reads back the same
pub trace_read_written : (es : List Event) → AllWritable es
    → read_trace (trace_bytes es) ≡ record { events = es; refusal = none; place = length (trace_bytes es) }
trace_read_written es w = Trace.rest_written (trace_bytes es) es 0 w refl ∙ rw zero-add

-- whatever is read of a trace, from a place within it: its events can be written and are no more than its bytes
pub record TraceReading (bs : List ℕ) (at : ℕ) (r : TraceRead) : Type 0 where
  pub writable : AllWritable r.events
  pub few : length r.events ≤ length bs - at
  pub whole : r.refusal ≡ none → r.place ≡ length bs
  pub refusals : (r.refusal ≡ none → ⊥) → (trace_cut ≤ r.refusal) × (r.refusal ≤ unknown_event)
  pub place_le : r.place ≤ length bs
  pub at_end : r.refusal ≡ trace_cut → r.place ≡ length bs

pub trace_reading : (bs : List ℕ) (at : ℕ) → at ≤ length bs → TraceReading bs at (read_rest bs at)
unfolding AllWritable
trace_reading bs =
    rest_elim bs (λ at r. at ≤ length bs → TraceReading bs at r)
    (λ at h le. record {
      writable = tt;
      few = omega arith;
      whole = λ e. omega arith;
      refusals = λ n. absurd (n refl);
      place_le = le;
      at_end = λ e. absurd (omega arith);
    })
    (λ at h n le. let r = event_reading bs at in record {
      writable = tt;
      few = omega arith;
      whole = λ e. absurd (n e);
      refusals = r.refusals;
      place_le = r.place_le le;
      at_end = λ e. omega (arith, r.at_end e);
    })
    (λ at h a p le. let r = event_reading bs at in let later = r.after a in let q = p (r.inside a) in
    record {
      writable = (r.writable a, q.writable);
      few = omega (arith, r.inside a);
      whole = q.whole;
      refusals = q.refusals;
      place_le = q.place_le;
      at_end = q.at_end;
    })

-- "the whole trace", in reading order: the first number at fault decides, whatever follows it
pub trace_decided : (bs cs : List ℕ) → (read_trace bs).refusal ≢ none → (read_trace bs).refusal ≢ trace_cut
    → take (decisive bs (read_trace bs)) cs ≡ take (decisive bs (read_trace bs)) bs → read_trace cs ≡ read_trace bs
trace_decided bs cs some whole = FirstFault.trace_decided bs some whole cs

-- and the events before it are read without it: a trace that ends before an unknown code is accepted, and one that ends
-- before the byte that decides a 22 is cut off
pub trace_before : (bs : List ℕ) → (read_trace bs).refusal ≢ none → (read_trace bs).refusal ≢ trace_cut
    → read_trace (take (read_trace bs).place bs)
    ≡ record {
      events = (read_trace bs).events;
      refusal = cond (eqb (read_trace bs).refusal trace_malformed) trace_cut none;
      place = (read_trace bs).place;
    }
trace_before = FirstFault.trace_before
