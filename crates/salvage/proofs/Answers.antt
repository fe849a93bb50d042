-- The whole call: what it answers and leaves in each of its four cases, in the order of its checks, and that the answer
-- fits one number.
use Prim.Native.Nat.{ℕ, ◌≤◌, ◌<◌}
use mathlib.Core.Path.{◌≡◌, sym, ap, ◌∙◌}
use mathlib.Core.List.{List}
use native.Mathlib.Omega.{arith}
use lib.Dec.{lit≤}
use lib.ListN.{length}
use borrow.Author.Tests.{le-leb, lt-leb, eq-eqb, ne_eqb}
use Rattle.number.specs.Refusal.{none, no_room}
use Rattle.number.specs.Output.{written, packed}
use Rattle.number.proofs.Cases.{by_lt}
use Rattle.event.specs.Refusal.{trace_too_long}
use Rattle.event.specs.Trace.{max_trace}
use Rattle.recording.specs.Fate.{kept_bytes}
use Rattle.recording.specs.Stretch.{list_bytes}
use Rattle.recording.proofs.Theorems.{kept_fit, list_fits}
use Rattle.salvage.specs.declared.Lengths.{Lengths}
use Rattle.salvage.specs.Salvage.{Salvaged, Fitting, lengths, refused, accepted, salvaged, filled, events_after, stretches_after, both, result_of}

module _ (bs : List ℕ) (n m : ℕ) where
  salvaged_too_long : max_trace < length bs → salvaged bs n m ≡ refused trace_too_long 0
  unfolding salvaged
  salvaged_too_long h = simp (lt-leb (length bs) max_trace h)

  module _ (short : length bs ≤ max_trace) where
    salvaged_no_room : n < length (kept_bytes bs) → salvaged bs n m ≡ refused no_room (length (kept_bytes bs))
    unfolding salvaged
    salvaged_no_room h = simp (le-leb (length bs) max_trace short, lt-leb (length (kept_bytes bs)) n h)

    salvaged_no_list : length (kept_bytes bs) ≤ n → m < length (list_bytes bs)
        → salvaged bs n m ≡ refused no_room (length (list_bytes bs))
    unfolding salvaged
    salvaged_no_list room h =
        simp (
          le-leb (length bs) max_trace short,
          le-leb (length (kept_bytes bs)) n room,
          lt-leb (length (list_bytes bs)) m h,
        )

  pub salvaged_whole : Fitting bs n m → salvaged bs n m ≡ accepted (lengths bs)
  unfolding salvaged
  salvaged_whole f =
      simp (
        le-leb (length bs) max_trace f.short,
        le-leb (length (kept_bytes bs)) n f.events,
        le-leb (length (list_bytes bs)) m f.stretches,
      )

-- no refusal: both outputs have room
pub accepted_fitting : (bs : List ℕ) (n m : ℕ) → (salvaged bs n m).refusal ≡ none → Fitting bs n m
accepted_fitting bs n m ok =
    by_lt max_trace (length bs)
    (λ h. no (salvaged_too_long bs n m h) (λ z. omega arith))
    (λ short. by_lt n (length (kept_bytes bs))
    (λ h. no (salvaged_no_room bs n m short h) (λ z. omega arith))
    (λ room. by_lt m (length (list_bytes bs))
    (λ h. no (salvaged_no_list bs n m short room h) (λ z. omega arith))
    (λ space. record { short = short; events = room; stretches = space })))
  where
    no : {k p : ℕ} → salvaged bs n m ≡ refused k p → (k ≡ none → ⊥) → Fitting bs n m
    no e bad = absurd (bad (rw e at ok))

-- what is counted is what the definitions have
module _ (bs : List ℕ) (need : Lengths) (count : need ≡ lengths bs) where
  many : need.events ≡ length (kept_bytes bs)
  many = ap (λ (x : Lengths). x.events) count

  listed : need.stretches ≡ length (list_bytes bs)
  listed = ap (λ (x : Lengths). x.stretches) count

  pub fitting : (n m : ℕ) → length bs ≤ max_trace → need.events ≤ n → need.stretches ≤ m → Fitting bs n m
  fitting n m short room space =
      record { short = short; events = omega (arith, many); stretches = omega (arith, listed) }

-- the answer r, and what both slices hold afterwards
abbrev Did : List ℕ → List ℕ → List ℕ → Salvaged → List ℕ → List ℕ → Type 0
Did bs es ss r es₁ ss₁ =
    (r ≡ salvaged bs (length es) (length ss)) × ((es₁ ≡ events_after bs es ss) × (ss₁ ≡ stretches_after bs es ss))

module _ (bs es ss : List ℕ) (r : Salvaged) where
  -- a refused call leaves both slices as they were
  did_refused : (k p : ℕ) → (k ≡ none → ⊥) → r ≡ refused k p → salvaged bs (length es) (length ss) ≡ refused k p
      → Did bs es ss r es ss
  unfolding filled
  did_refused k p bad same e = (same ∙ sym e, (rw (e, ne_eqb k none bad), rw (e, ne_eqb k none bad)))

  pub did_too_long : max_trace < length bs → r ≡ refused trace_too_long 0 → Did bs es ss r es ss
  did_too_long h same = did_refused trace_too_long 0 (λ z. omega arith) same (salvaged_too_long bs _ _ h)

  module _ (short : length bs ≤ max_trace) (need : Lengths) (count : need ≡ lengths bs) where
    pub did_no_room : length es < need.events → r ≡ refused no_room need.events → Did bs es ss r es ss
    did_no_room h same = let e = many bs need count in
        did_refused no_room (length (kept_bytes bs)) (λ z. omega arith) (same ∙ ap (refused no_room) e)
        (salvaged_no_room bs _ _ short (omega arith))

    module _ (room : need.events ≤ length es) where
      pub did_no_list : length ss < need.stretches → r ≡ refused no_room need.stretches → Did bs es ss r es ss
      did_no_list h same = let e = listed bs need count in
          did_refused no_room (length (list_bytes bs)) (λ z. omega arith) (same ∙ ap (refused no_room) e)
          (salvaged_no_list bs _ _ short (omega (arith, many bs need count)) (omega arith))

      pub did_whole : need.stretches ≤ length ss → r ≡ accepted need → (es₁ ss₁ : List ℕ)
          → es₁ ≡ written (kept_bytes bs) es → ss₁ ≡ written (list_bytes bs) ss
          → Did bs es ss r es₁ ss₁
      unfolding filled
      did_whole space same es₁ ss₁ e s = (same ∙ ap accepted count ∙ sym whole, (e ∙ rw whole, s ∙ rw whole))
        where
          whole : salvaged bs (length es) (length ss) ≡ accepted (lengths bs)
          whole = salvaged_whole bs _ _ (fitting bs need count _ _ short room space)

-- an answer fits one number
pub record Small (r : Salvaged) : Type 0 where
  pub events_le : r.events ≤ 8192
  pub stretches_le : r.stretches ≤ 12224
  pub refusal_le : r.refusal ≤ 30
  pub place_le : r.place ≤ 12224

pub salvaged_small : (bs : List ℕ) (n m : ℕ) → Small (salvaged bs n m)
salvaged_small bs n m =
    by_lt max_trace (length bs)
    (λ h. rw (salvaged_too_long bs n m h) (record {
      events_le = lit≤ tt;
      stretches_le = lit≤ tt;
      refusal_le = lit≤ tt;
      place_le = lit≤ tt;
    }))
    (λ short. let few = list_fits bs short in
    by_lt n (length (kept_bytes bs))
    (λ h. rw (salvaged_no_room bs n m short h) (record {
      events_le = lit≤ tt;
      stretches_le = lit≤ tt;
      refusal_le = lit≤ tt;
      place_le = omega (arith, kept_fit bs);
    }))
    (λ room. by_lt m (length (list_bytes bs))
    (λ h. rw (salvaged_no_list bs n m short room h) (record {
      events_le = lit≤ tt;
      stretches_le = lit≤ tt;
      refusal_le = lit≤ tt;
      place_le = few;
    }))
    (λ h. rw (salvaged_whole bs n m (record {
      short = short;
      events = room;
      stretches = h;
    })) (record {
      events_le = omega (arith, kept_fit bs);
      stretches_le = few;
      refusal_le = lit≤ tt;
      place_le = lit≤ tt;
    }))))

pub answer_small : (bs : List ℕ) (n m : ℕ) (r : Salvaged) → r ≡ salvaged bs n m → Small r
answer_small bs n m r e = rw e (salvaged_small bs n m)

-- both forms of the answer's number
module _ (r : Salvaged) where
  pub result_refused : (r.refusal ≡ none → ⊥) → packed r.refusal r.place ≡ result_of r
  unfolding result_of
  result_refused bad = simp (ne_eqb r.refusal none bad)

  pub result_accepted : r.refusal ≡ none → both r.stretches r.events ≡ result_of r
  unfolding result_of
  result_accepted ok = simp (eq-eqb r.refusal none ok)
