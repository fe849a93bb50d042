-- The first number at fault decides the refusal of a trace: what follows it does not matter (`trace_decided`), and the
-- events before it are read without it (`trace_before`).
--
-- In order: a reader by the bytes that it covers (`Decided`), number after number; one event; the trace.
use Prim.Native.Nat.{ℕ, zero, suc, ◌≤◌, ◌<◌}
use mathlib.Core.Path.{◌≡◌, refl, sym, ap, ◌∙◌}
use mathlib.Core.Bool.{Bool, true, false, cond}
use mathlib.Core.List.{List}
use mathlib.Core.Logic.{◌≢◌}
use native.Mathlib.Omega.{arith}
use lib.Dec.{eqb}
use lib.ListN.{length, take, length-take}
use lib.Seq.{take-take}
use borrow.Author.Tests.{eq-eqb, ne_eqb}
use Rattle.number.specs.Refusal.{none, cut, malformed}
use Rattle.number.specs.Number as Number
use Rattle.number.specs.Number.{NumberRead, read_number}
use Rattle.number.proofs.Cases.{by_test, by_eq}
use Rattle.number.proofs.Front.{agree_fewer, agree_long}
use Rattle.number.proofs.Theorems as Numbers
use Rattle.event.specs.declared.Event.{Event}
use Rattle.event.specs.Refusal.{in_trace, trace_cut, trace_malformed, unknown_event}
use Rattle.event.specs.Event.{EventRead, known, arguments, event, accepted, refused, unreadable, after_number, read_arguments, read_event}
use Rattle.event.specs.Trace.{TraceRead, broken, before, read_rest, read_trace, decisive}
use Rattle.event.proofs.Reading.{goes_on, ends, read_known, read_unknown}
use Rattle.event.proofs.RoundTrip.{read_elim}
use Rattle.event.proofs.Unreadable as Unreadable
use Rattle.event.proofs.Trace.{rest_end, rest_refused, rest_step, rest_elim}

-- a reader R of bs from at on, whose answer is r: an accepted one is decided by the bytes up to its end, one that is
-- malformed by those up to the byte at its place, and without that byte it is cut off
record Decided (R : List ℕ → EventRead) (bs : List ℕ) (at : ℕ) (r : EventRead) : Type 0 where
  end_later : r.refusal ≡ none → at ≤ r.place
  by_end : r.refusal ≡ none → (cs : List ℕ) → take r.place cs ≡ take r.place bs → R cs ≡ r
  place_later : r.refusal ≡ trace_malformed → at < r.place
  by_place : r.refusal ≡ trace_malformed → (cs : List ℕ) → take (suc r.place) cs ≡ take (suc r.place) bs → R cs ≡ r
  cut_before : r.refusal ≡ trace_malformed → R (take r.place bs) ≡ refused trace_cut r.place

-- nothing more is read
whole : (e : Event) (p : ℕ) (bs : List ℕ) → Decided (λ cs. accepted e p) bs p (accepted e p)
whole e p bs =
    record {
      end_later = λ _. omega arith;
      by_end = λ _ cs agree. refl;
      place_later = λ z. absurd (omega arith);
      by_place = λ _ cs agree. refl;
      cut_before = λ z. absurd (omega arith);
    }

-- one number, and then a reader of what follows it
module _ (bs : List ℕ) (at : ℕ) (F : ℕ → ℕ → List ℕ → EventRead) where
  abbrev n : NumberRead
  n = read_number bs at

  abbrev R : List ℕ → EventRead
  R cs = after_number (read_number cs at) (λ v p. F v p cs)

  -- in lists that agree up to its end
  after_same : n.refusal ≡ none → (cs : List ℕ) (m : ℕ) → n.place ≤ m → take m cs ≡ take m bs
      → R cs ≡ F n.value n.place cs
  after_same ok cs m h agree =
      goes_on n (read_number cs at) _ (sym (Numbers.accepted_decided bs cs at ok (agree_fewer bs cs n.place m h agree))) ok

  after_decided : (n.refusal ≡ none → Decided (F n.value n.place) bs n.place (F n.value n.place bs))
      → Decided R bs at (R bs)
  after_decided rest =
      by_eq n.refusal none
      (λ ok. rw (goes_on n n (λ v p. F v p bs) refl ok) (passes ok (rest ok)))
      (λ bad. rw (ends n n (λ v p. F v p bs) refl bad) (stops bad))
    where
      passes : n.refusal ≡ none → Decided (F n.value n.place) bs n.place (F n.value n.place bs)
          → Decided R bs at (F n.value n.place bs)
      passes ok d =
          let r = F n.value n.place bs in
          let l = (Numbers.reading bs at).after ok in
          record {
            end_later = λ e. omega (arith, d.end_later e);
            by_end = λ e cs agree. after_same ok cs r.place (d.end_later e) agree ∙ d.by_end e cs agree;
            place_later = λ e. omega (arith, d.place_later e);
            by_place = λ e cs agree.
                after_same ok cs (suc r.place) (omega (arith, d.place_later e)) agree ∙ d.by_place e cs agree;
            cut_before = λ e.
                after_same ok (take r.place bs) r.place (omega (arith, d.place_later e)) (take-take r.place r.place bs (omega arith))
                ∙ d.cut_before e;
          }

      stops : n.refusal ≢ none → Decided R bs at (unreadable n)
      stops bad =
          record {
            end_later = λ e. absurd (omega arith);
            by_end = λ e. absurd (omega arith);
            place_later = λ e. Numbers.malformed_later bs at n.place (is e);
            by_place = λ e cs agree.
                ends n (read_number cs at) _ (is e ∙ sym (Numbers.malformed_decided bs cs at n.place (is e) agree)) bad;
            cut_before = λ e.
                ends (Number.refused cut n.place) (read_number (take n.place bs) at) _
                (sym (Numbers.malformed_cut_before bs at n.place (is e))) (λ z. omega arith);
          }
        where
          two : in_trace n.refusal ≡ trace_malformed → n.refusal ≡ malformed
          two e = omega arith

          is : (unreadable n).refusal ≡ trace_malformed → n ≡ Number.refused malformed n.place
          is e = λ i. record {
            value = (Numbers.reading bs at).zero_value bad i;
            refusal = two e i;
            place = n.place;
          }

-- the arguments of an event, and the event
arguments_decided : (k : ℕ) (bs : List ℕ) (code at : ℕ)
    → Decided (λ cs. read_arguments k cs code at) bs at (read_arguments k bs code at)
unfolding read_arguments
arguments_decided zero bs code at = whole (event code 0 0) at bs
arguments_decided (suc zero) bs code at =
    after_decided bs at (λ first p cs. accepted (event code first 0) p) (λ ok. whole _ _ bs)
arguments_decided (suc (suc k)) bs code at =
    after_decided bs at
    (λ first p cs. after_number (read_number cs p) (λ second q. accepted (event code first second) q))
    (λ ok. after_decided bs _ (λ second q cs. accepted (event code _ second) q) (λ ok. whole _ _ bs))

unknown_decided : (at : ℕ) (bs : List ℕ) (p : ℕ)
    → Decided (λ cs. refused unknown_event at) bs p (refused unknown_event at)
unknown_decided at bs p =
    record {
      end_later = λ z. absurd (omega arith);
      by_end = λ z. absurd (omega arith);
      place_later = λ z. absurd (omega arith);
      by_place = λ z. absurd (omega arith);
      cut_before = λ z. absurd (omega arith);
    }

-- arguments are refused for no code
after_known : (bs : List ℕ) (at : ℕ) (f : ℕ → ℕ → EventRead) → ((v p : ℕ) → (f v p).refusal ≢ unknown_event)
    → (after_number (read_number bs at) f).refusal ≢ unknown_event
after_known bs at f fine =
    let n = read_number bs at in
    by_eq n.refusal none
    (λ ok. rw (goes_on n n f refl ok) (fine n.value n.place))
    (λ bad. rw (ends n n f refl bad) (λ z. omega (arith, (Numbers.reading bs at).refusals)))

arguments_known : (k : ℕ) (bs : List ℕ) (code at : ℕ) → (read_arguments k bs code at).refusal ≢ unknown_event
unfolding read_arguments
arguments_known zero bs code at = λ z. omega arith
arguments_known (suc zero) bs code at = after_known bs at _ (λ v p z. omega arith)
arguments_known (suc (suc k)) bs code at = after_known bs at _ (λ v p. after_known bs p _ (λ w q z. omega arith))

module _ (bs : List ℕ) (at : ℕ) where
  tail_decided : (code p : ℕ) (b : Bool)
      → Decided (λ cs. cond b (read_arguments (arguments code) cs code p) (refused unknown_event at)) bs p
      (cond b (read_arguments (arguments code) bs code p) (refused unknown_event at))
  tail_decided code p true = arguments_decided (arguments code) bs code p
  tail_decided code p false = unknown_decided at bs p

  event_decided : Decided (λ cs. read_event cs at) bs at (read_event bs at)
  unfolding read_event
  event_decided =
      after_decided bs at
      (λ code p cs. cond (known code) (read_arguments (arguments code) cs code p) (refused unknown_event at))
      (λ ok. let n = read_number bs at in tail_decided n.value n.place (known n.value))

  -- an event is refused for an unknown code at its own place, and decided by the code
  record UnknownCode (r : EventRead) : Type 0 where
    code : (read_number bs at).refusal ≡ none
    place : r.place ≡ at
    by_code : (cs : List ℕ) → take (read_number bs at).place cs ≡ take (read_number bs at).place bs → read_event cs at ≡ r

  event_unknown : (read_event bs at).refusal ≡ unknown_event → UnknownCode (read_event bs at)
  event_unknown e =
      let n = read_number bs at in
      by_eq n.refusal none
      (λ ok. by_test (known n.value)
      (λ k. absurd (arguments_known (arguments n.value) bs n.value n.place
      (sym (ap (λ (r : EventRead). r.refusal) (read_known n bs at refl ok n.value refl k)) ∙ e)))
      (λ k. rw (read_unknown n bs at refl ok k)
      (record {
        code = ok;
        place = refl;
        by_code = λ cs agree. read_unknown n cs at (sym (Numbers.accepted_decided bs cs at ok agree)) ok k;
      })))
      (λ bad. absurd (omega (
        arith,
        (Numbers.reading bs at).refusals,
        sym (ap (λ (r : EventRead). r.refusal) (Unreadable.unreadable_code bs at bad)) ∙ e,
      )))

  -- 21 to 23
  event_refusals : (read_event bs at).refusal ≢ none → (read_event bs at).refusal ≢ trace_cut
      → (read_event bs at).refusal ≢ trace_malformed → (read_event bs at).refusal ≡ unknown_event
  event_refusals =
      read_elim bs at
      (λ r. r.refusal ≢ none → r.refusal ≢ trace_cut → r.refusal ≢ trace_malformed → r.refusal ≡ unknown_event)
      (λ p le i n a b c. absurd (omega (arith, (Numbers.reading bs p).refusals)))
      (λ a b c. refl)
      (λ e p w s a. absurd (a refl))

-- a reading from at on, refused for a number: the bytes that decide it, and what is read without that number
record FirstFault (bs : List ℕ) (at : ℕ) (r : TraceRead) : Type 0 where
  later : at ≤ r.place
  beyond : r.place < decisive bs r
  decided : (cs : List ℕ) → take (decisive bs r) cs ≡ take (decisive bs r) bs → read_rest cs at ≡ r
  without : read_rest (take r.place bs) at
      ≡ record {
        events = r.events;
        refusal = cond (eqb r.refusal trace_malformed) trace_cut none;
        place = r.place;
      }

module _ (bs : List ℕ) (at : ℕ) where
  abbrev e : EventRead
  e = read_event bs at

  -- an event that can't be read
  broken_malformed : at < length bs → e.refusal ≡ trace_malformed → FirstFault bs at (broken e)
  broken_malformed h m =
      record {
        later = omega (arith, d.place_later m);
        beyond = omega (arith, far);
        decided = λ cs agree.
            let same : read_event cs at ≡ e = d.by_place m cs (rw far at agree) in
            rest_refused cs at (agree_long bs cs at (decisive bs (broken e)) h (omega (arith, far, d.place_later m)) agree)
            (rw same (λ z. omega arith))
            ∙ ap broken same;
        without =
            let same = d.cut_before m in
            rest_refused (take e.place bs) at (simp length-take (omega (arith, d.place_later m)))
            (rw same (λ z. omega arith))
            ∙ ap broken same ∙ rw test;
      }
    where
      d : Decided (λ cs. read_event cs at) bs at e
      d = event_decided bs at

      test : eqb e.refusal trace_malformed ≡ true
      test = eq-eqb e.refusal trace_malformed m

      far : decisive bs (broken e) ≡ suc e.place
      far = rw test (omega arith)

  -- an unknown code
  broken_unknown : at < length bs → e.refusal ≡ unknown_event → FirstFault bs at (broken e)
  broken_unknown h u =
      record {
        later = omega (arith, w.place);
        beyond = omega (arith, far, w.place, (Numbers.reading bs at).after w.code);
        decided = λ cs agree.
            let same : read_event cs at ≡ e = w.by_code cs (rw far at agree) in
            rest_refused cs at
            (agree_long bs cs at (decisive bs (broken e)) h (omega (arith, far, (Numbers.reading bs at).after w.code)) agree)
            (rw same (λ z. omega arith))
            ∙ ap broken same;
        without = rw (test, w.place) (rest_end (take at bs) at (simp length-take (omega arith)));
      }
    where
      w : UnknownCode bs at e
      w = event_unknown bs at u

      test : eqb e.refusal trace_malformed ≡ false
      test = ne_eqb e.refusal trace_malformed (λ z. omega arith)

      far : decisive bs (broken e) ≡ (read_number bs at).place
      far = rw (test, w.place)

  -- an event, and a fault after it
  event_before : e.refusal ≡ none → FirstFault bs e.place (read_rest bs e.place)
      → FirstFault bs at (before e.event (read_rest bs e.place))
  event_before ok f =
      record {
        later = omega (arith, d.end_later ok, f.later);
        beyond = f.beyond;
        decided = λ cs agree.
            on cs (decisive bs r) (omega (arith, f.later, f.beyond)) agree ∙ ap (before e.event) (f.decided cs agree);
        without =
            on (take r.place bs) r.place f.later (take-take r.place r.place bs (omega arith))
            ∙ ap (before e.event) f.without;
      }
    where
      d : Decided (λ cs. read_event cs at) bs at e
      d = event_decided bs at

      r : TraceRead
      r = read_rest bs e.place

      on : (cs : List ℕ) (n : ℕ) → e.place ≤ n → take n cs ≡ take n bs
          → read_rest cs at ≡ before e.event (read_rest cs e.place)
      on cs n h agree =
          let same : read_event cs at ≡ e = d.by_end ok cs (agree_fewer bs cs e.place n h agree) in
          rest_step cs at (ap (λ (x : EventRead). x.refusal) same ∙ ok)
          ∙ ap (λ (x : EventRead). before x.event (read_rest cs x.place)) same

first_fault : (bs : List ℕ) (at : ℕ) → (read_rest bs at).refusal ≢ none → (read_rest bs at).refusal ≢ trace_cut
    → FirstFault bs at (read_rest bs at)
first_fault bs =
    rest_elim bs (λ at r. r.refusal ≢ none → r.refusal ≢ trace_cut → FirstFault bs at r)
    (λ at h n. absurd (n refl))
    (λ at h bad _ n. by_eq (read_event bs at).refusal trace_malformed
    (broken_malformed bs at h)
    (λ m. broken_unknown bs at h (event_refusals bs at bad n m)))
    (λ at h ok rest a b. event_before bs at ok (rest a b))

module _ (bs : List ℕ) (some : (read_trace bs).refusal ≢ none) (whole : (read_trace bs).refusal ≢ trace_cut) where
  pub trace_decided : (cs : List ℕ) → take (decisive bs (read_trace bs)) cs ≡ take (decisive bs (read_trace bs)) bs
      → read_trace cs ≡ read_trace bs
  trace_decided = (first_fault bs 0 some whole).decided

  pub trace_before : read_trace (take (read_trace bs).place bs)
      ≡ record {
        events = (read_trace bs).events;
        refusal = cond (eqb (read_trace bs).refusal trace_malformed) trace_cut none;
        place = (read_trace bs).place;
      }
  trace_before = (first_fault bs 0 some whole).without
