-- The first pass over a trace: what is left to read, after the events counted so far.
use Prim.Native.Nat.{ℕ, zero, suc, ◌+◌, ◌≤◌, ◌<◌}
use mathlib.Core.Path.{◌≡◌, refl, sym, ap, ◌∙◌}
use mathlib.Core.Bool.{Bool, true, ◌&&◌, true≢false}
use mathlib.Core.List.{List}
use native.Mathlib.Omega.{arith}
use native.Mathlib.Nat.{zero-add}
use lib.ListN.{length, get_or}
use borrow.Author.Tests.{ne_eqb}
use Rattle.number.specs.Refusal.{none}
use Rattle.number.proofs.Cases.{by_lt, by_eq, and_true}
use Rattle.event.specs.Event.{EventRead, finish, tick, known, arguments, read_arguments, read_event, EventEnd, event_end}
use Rattle.event.specs.Trace.{TraceRead, before, read_rest, read_trace}
use Rattle.event.proofs.Reading.{read_byte}
use Rattle.event.proofs.Theorems.{event_reading, rest_end, rest_step, rest_refused}
use Rattle.kernel.specs.Passes.{bare, Bare}

-- n events lie before the place at, and the rest is that of the whole trace
pub record Passed (bs : List ℕ) (at n : ℕ) : Type 0 where
  pub at_le : at ≤ length bs
  pub few : n ≤ at
  pub events : n + length (read_rest bs at).events ≡ length (read_trace bs).events
  pub refusal : (read_rest bs at).refusal ≡ (read_trace bs).refusal
  pub place : (read_rest bs at).place ≡ (read_trace bs).place

pub passed_start : (bs : List ℕ) → Passed bs 0 0
passed_start bs =
    record {
      at_le =
          omega arith;
      few =
          omega arith;
      events = zero-add (length (read_trace bs).events);
      refusal = refl;
      place = refl;
    }

module _ (bs : List ℕ) (at n : ℕ) (p : Passed bs at n) where
  pub passed_end : length bs ≤ at → ((read_trace bs).refusal ≡ none) × (n ≡ length (read_trace bs).events)
  passed_end h =
      let r = rest_end bs at h in (
        sym p.refusal ∙ ap (λ (t : TraceRead). t.refusal) r,
        omega (arith, p.events, ap (λ (t : TraceRead). length t.events) r),
      )

  -- the event at the place, of which the first pass sees its refusal f and the place q behind it
  module _ {f q : ℕ} (said : record { refusal = f; place = q } ≡ event_end bs at) where
    why : f ≡ (read_event bs at).refusal
    why = ap (λ (x : EventEnd). x.refusal) said

    where_to : q ≡ (read_event bs at).place
    where_to = ap (λ (x : EventEnd). x.place) said

    pub passed_refused : at < length bs → (f ≡ none → ⊥) → (f ≡ (read_trace bs).refusal) × (q ≡ (read_trace bs).place)
    passed_refused h bad =
        let r = rest_refused bs at h (rw why at bad) in (
          why ∙ sym (ap (λ (t : TraceRead). t.refusal) r) ∙ p.refusal,
          where_to ∙ sym (ap (λ (t : TraceRead). t.place) r) ∙ p.place,
        )

    module _ (ok : f ≡ none) where
      fine : (read_event bs at).refusal ≡ none
      fine = sym why ∙ ok

      more : read_rest bs at ≡ before (read_event bs at).event (read_rest bs (read_event bs at).place)
      more = rest_step bs at fine

      pub passed_later : at < q
      passed_later = rw where_to ((event_reading bs at).after fine)

      pub passed_step : Passed bs q (n + 1)
      passed_step =
          record {
            at_le = rw where_to ((event_reading bs at).inside fine);
            few = omega (arith, p.few, passed_later);
            events = rw where_to (omega (arith, p.events, ap (λ (t : TraceRead). length t.events) more));
            refusal = rw where_to (sym (ap (λ (t : TraceRead). t.refusal) more) ∙ p.refusal);
            place = rw where_to (sym (ap (λ (t : TraceRead). t.place) more) ∙ p.place);
          }

-- an event without arguments is its code
module _ (bs : List ℕ) (at : ℕ) (within : at < length bs) where
  of_code : (k : ℕ) → get_or bs at 0 ≡ k → known k ≡ true → arguments k ≡ 0
      → (none ≡ (read_event bs at).refusal) × (at + 1 ≡ (read_event bs at).place)
  unfolding read_arguments
  of_code k e is_Known no_arguments =
      let r : read_event bs at ≡ read_arguments 0 bs k (at + 1) = read_byte bs at k within e is_Known ∙ rw no_arguments in
      (sym (ap (λ (x : EventRead). x.refusal) r), sym (ap (λ (x : EventRead). x.place) r))

  bare_read : bare (get_or bs at 0) ≡ true → (none ≡ (read_event bs at).refusal) × (at + 1 ≡ (read_event bs at).place)
  unfolding known arguments
  bare_read b =
      by_eq (get_or bs at 0) finish (λ e. of_code finish e refl refl)
      (λ n. by_eq (get_or bs at 0) tick (λ e. of_code tick e refl refl)
      (λ m. absurd (true≢false (sym b ∙ simp (ne_eqb _ _ n, ne_eqb _ _ m)))))

  bare_end : bare (get_or bs at 0) ≡ true → record { refusal = none; place = at + 1 } ≡ event_end bs at
  bare_end b =
      let r = bare_read b in λ i. record { refusal = r.0 i; place = r.1 i }

passed_to : {bs : List ℕ} {a n b m : ℕ} → Passed bs a n → a ≡ b → n ≡ m → Passed bs b m
passed_to p e g = rw (sym e, sym g) p

-- so many of them are passed at once
pub passed_bare : (bs : List ℕ) (at n : ℕ) → Passed bs at n → (k : ℕ) → Bare bs at k → Passed bs (at + k) (n + k)
passed_bare bs at n p zero b = passed_to p (omega arith) (omega arith)
passed_bare bs at n p (suc k) b =
    passed_to
    (passed_step bs (at + k) (n + k)
    (passed_bare bs at n p k (record { inside = omega (arith, b.inside); each = λ i h. b.each i (omega arith) }))
    (bare_end bs (at + k) (omega (arith, b.inside)) (b.each k (omega arith))) refl)
    (omega arith) (omega arith)

-- the first i bytes from a place on are such codes, where a search says so that looks at the next
pub bare_more : (bs : List ℕ) (at i : ℕ) (here all : Bool) → here ≡ bare (get_or bs (at + i) 0)
    → (all ≡ true → (j : ℕ) → j < i → bare (get_or bs (at + j) 0) ≡ true)
    → here && all ≡ true → (j : ℕ) → j < i + 1 → bare (get_or bs (at + j) 0) ≡ true
bare_more bs at i here all e before t j h =
    let s = and_true here all t in
    by_lt j i (before s.1 j) (λ ge. let same : j ≡ i = omega arith in rw same (sym e ∙ s.0))
