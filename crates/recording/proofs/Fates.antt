-- What becomes of the bytes at the head of a recording, and of all bytes of a readable one.
--
-- In order: a byte of each fate; an event at the head; what holds of every recording (`recording_elim`); events in a
-- row.
use Prim.Native.Nat.{ℕ, zero, suc, ◌+◌, ◌-◌, ◌≤◌}
use mathlib.Core.Path.{◌≡◌, refl, ap, ◌∙◌}
use mathlib.Core.List.{List, [], ◌∷◌, ◌++◌}
use native.Mathlib.Omega.{arith}
use native.Mathlib.Nat.{zero-add}
use borrow.Author.Tests.{eq-eqb, ne_eqb}
use lib.Dec.{lit<}
use lib.ListN.{length, drop, replicate, length-append, length-drop, replicate-append-replicate}
use lib.Seq.{drop_at, get_or-drop}
use Rattle.number.specs.Refusal.{none}
use Rattle.number.specs.Number.{Bytes}
use Rattle.number.proofs.Cases.{by_eq}
use Rattle.event.specs.declared.Event.{Event}
use Rattle.event.specs.Event.{EventRead, accepted, read_event, event_bytes, Writable}
use Rattle.event.specs.Trace.{trace_bytes, AllWritable}
use Rattle.event.proofs.Theorems.{event_reading, read_at, written_read, place_read, length_event_bytes}
use Rattle.recording.specs.Fate.{Fate, kept, dropped, covered, belonging, fate_of, fates_from, fates, selected, kept_bytes}

pub covered_none : (bs : List ℕ) → ((read_event bs 0).refusal ≡ none → ⊥) → covered bs ≡ 0
unfolding covered
covered_none bs n = simp (ne_eqb (read_event bs 0).refusal none n)

pub covered_some : (bs : List ℕ) → (read_event bs 0).refusal ≡ none → covered bs ≡ (read_event bs 0).place
unfolding covered
covered_some bs h = simp (eq-eqb (read_event bs 0).refusal none h)

-- no event covers more than there is
covered_le : (bs : List ℕ) → covered bs ≤ length bs
covered_le bs =
    by_eq (read_event bs 0).refusal none
    (λ h. rw (covered_some bs h) ((event_reading bs 0).inside h))
    (λ n. rw (covered_none bs n) (omega arith))

-- where bytes are covered, they are those of an event that can be written
record Headed (bs : List ℕ) (e : Event) : Type 0 where
  writable : Writable e
  long : covered bs ≡ length (event_bytes e)
  bytes : bs ≡ event_bytes e ++ drop (covered bs) bs

headed : (bs : List ℕ) → Bytes bs → (read_event bs 0).refusal ≡ none → Headed bs (read_event bs 0).event
headed bs b h = record {
  writable = (event_reading bs 0).writable h;
  long = covered_some bs h ∙ place_read bs 0 b h ∙ zero-add _;
  bytes = rw (covered_some bs h) (written_read bs 0 b h);
}

-- the event at the head is read whatever follows it
covered_bytes : (e : Event) (rest : List ℕ) → Writable e → covered (event_bytes e ++ rest) ≡ length (event_bytes e)
covered_bytes e rest w =
    covered_some (event_bytes e ++ rest) (ap (λ (r : EventRead). r.refusal) here)
    ∙ ap (λ (r : EventRead). r.place) here
    ∙ zero-add (length (event_bytes e))
  where
    here : read_event (event_bytes e ++ rest) 0 ≡ accepted e (0 + length (event_bytes e))
    here = read_at (event_bytes e ++ rest) 0 e rest w refl

-- the event at a place is the one at the head of what is left there
module _ (bs : List ℕ) (at : ℕ) (b : Bytes bs) where
  pub covered_at : (read_event bs at).refusal ≡ none → covered (drop at bs) ≡ (read_event bs at).place - at
  covered_at h =
      ap covered (written_read bs at b h)
      ∙ covered_bytes (read_event bs at).event _ ((event_reading bs at).writable h)
      ∙ omega (arith, place_read bs at b h)

  pub uncovered_at : ((read_event bs at).refusal ≡ none → ⊥) → covered (drop at bs) ≡ 0
  uncovered_at n =
      by_eq (read_event (drop at bs) 0).refusal none
      (λ h. let r = headed (drop at bs) (λ i. rw get_or-drop (b (at + i))) h in
      absurd (n (ap (λ (x : EventRead). x.refusal) (read_at bs at _ _ r.writable r.bytes))))
      (λ no. covered_none (drop at bs) no)

pred_suc : (n : ℕ) → suc n - 1 ≡ n
pred_suc n = omega arith

-- a byte that begins no event is dropped
pub fates_dropped : (b : ℕ) (bs : List ℕ) → covered (b ∷ bs) ≡ 0 → fates (b ∷ bs) ≡ dropped ∷ fates bs
unfolding fates_from belonging fate_of
fates_dropped b bs h = rw h

-- the bytes of an event that began before are kept
fates_left : (left : ℕ) (bs : List ℕ) → left ≤ length bs
    → fates_from left bs ≡ replicate left kept ++ fates (drop left bs)
unfolding fates_from belonging fate_of
fates_left zero bs h = refl
fates_left (suc left) [] h = absurd (omega arith)
fates_left (suc left) (b ∷ bs) h =
    rw (pred_suc left) (ap (λ (fs : List Fate). kept ∷ fs) (fates_left left bs (omega arith)))

-- so are those of an event that begins here
fates_covered : (bs : List ℕ) → fates bs ≡ fates_from (covered bs) bs
unfolding fates_from belonging
fates_covered [] = refl
fates_covered (b ∷ bs) = go (covered (b ∷ bs)) refl
  where
    go : (n : ℕ) → covered (b ∷ bs) ≡ n → fates (b ∷ bs) ≡ fates_from n (b ∷ bs)
    go zero h = refl
    go (suc n) h = rw h

pub fates_event : (bs : List ℕ) → fates bs ≡ replicate (covered bs) kept ++ fates (drop (covered bs) bs)
fates_event bs = fates_covered bs ∙ fates_left (covered bs) bs (covered_le bs)

fates_bytes : (e : Event) (rest : List ℕ) → Writable e
    → fates (event_bytes e ++ rest) ≡ replicate (length (event_bytes e)) kept ++ fates rest
fates_bytes e rest w =
    fates_event (event_bytes e ++ rest)
    ∙ rw (covered_bytes e rest w, drop_at (event_bytes e) rest (length (event_bytes e)) refl)

-- what a recording without bytes has, and what each dropped byte and each event pass on, every recording has
module _ (P : List ℕ → Type 0)
    (on_end : P [])
    (on_dropped : (b : ℕ) (bs : List ℕ) → covered (b ∷ bs) ≡ 0 → P bs → P (b ∷ bs))
    (on_event : (e : Event) (rest : List ℕ) → Writable e → P rest → P (event_bytes e ++ rest))
  where
    -- a recording, where every shorter one has it
    step : (n : ℕ) → ((bs : List ℕ) → length bs ≤ n → Bytes bs → P bs) → (bs : List ℕ) → length bs ≤ suc n → Bytes bs
        → P bs
    step n shorter [] h b = on_end
    step n shorter (x ∷ bs) h b =
        by_eq (read_event (x ∷ bs) 0).refusal none
        (λ a. let r = headed (x ∷ bs) b a in
        let some = length_event_bytes (read_event (x ∷ bs) 0).event in
        rw r.bytes (on_event _ _ r.writable
        (shorter (drop (covered (x ∷ bs)) (x ∷ bs)) (simp length-drop (omega (arith, r.long)))
        (λ i. rw get_or-drop (b (covered (x ∷ bs) + i))))))
        (λ no. on_dropped x bs (covered_none (x ∷ bs) no) (shorter bs (omega arith) (λ i. b (suc i))))

    bounded : (n : ℕ) (bs : List ℕ) → length bs ≤ n → Bytes bs → P bs
    bounded zero [] h b = on_end
    bounded zero (x ∷ bs) h b = absurd (omega arith)
    bounded (suc n) bs h b = step n (bounded n) bs h b

    recording_elim : (bs : List ℕ) → Bytes bs → P bs
    recording_elim bs b = bounded (length bs) bs (omega arith) b

selected_kept : (xs rest : List ℕ) (fs : List Fate) → selected (replicate (length xs) kept ++ fs) (xs ++ rest)
    ≡ xs ++ selected fs rest
unfolding selected
selected_kept [] rest fs = refl
selected_kept (x ∷ xs) rest fs = ap (λ (l : List ℕ). x ∷ l) (selected_kept xs rest fs)

pub selected_all : (bs : List ℕ) → selected (replicate (length bs) kept) bs ≡ bs
unfolding selected
selected_all [] = refl
selected_all (b ∷ bs) = ap (λ (l : List ℕ). b ∷ l) (selected_all bs)

-- every byte of events in a row is kept
pub fates_trace : (es : List Event) → AllWritable es → fates (trace_bytes es) ≡ replicate (length (trace_bytes es)) kept
unfolding trace_bytes AllWritable fates_from
fates_trace [] w = refl
fates_trace (e ∷ es) w =
    fates_bytes e (trace_bytes es) w.0
    ∙ rw (fates_trace es w.1, length-append)
    (replicate-append-replicate (length (event_bytes e)) (length (trace_bytes es)) kept)

-- the kept bytes are those of events in a row
pub record Events (ks : List ℕ) : Type 0 where
  pub events : List Event
  pub writable : AllWritable events
  pub bytes : ks ≡ trace_bytes events

pub kept_events : (bs : List ℕ) → Bytes bs → Events (kept_bytes bs)
unfolding trace_bytes AllWritable selected fates_from
kept_events =
    recording_elim (λ bs. Events (kept_bytes bs))
    (record { events = []; writable = tt; bytes = refl })
    (λ b bs z p. rw (fates_dropped b bs z) p)
    (λ e rest w p. rw (fates_bytes e rest w, selected_kept (event_bytes e) rest (fates rest))
    (record {
      events = e ∷ p.events;
      writable = (w, p.writable);
      bytes = ap (λ (l : List ℕ). event_bytes e ++ l) p.bytes;
    }))

-- a kept byte is one of the recording
pub selected_bytes : (fs : List Fate) (bs : List ℕ) → Bytes bs → Bytes (selected fs bs)
unfolding selected
selected_bytes [] bs b i = lit< tt
selected_bytes (f ∷ fs) [] b i = lit< tt
selected_bytes (kept ∷ fs) (x ∷ bs) b zero = b zero
selected_bytes (kept ∷ fs) (x ∷ bs) b (suc i) = selected_bytes fs bs (λ j. b (suc j)) i
selected_bytes (dropped ∷ fs) (x ∷ bs) b i = selected_bytes fs bs (λ j. b (suc j)) i

pub length_fates : (left : ℕ) (bs : List ℕ) → length (fates_from left bs) ≡ length bs
unfolding fates_from
length_fates left [] = refl
length_fates left (b ∷ bs) = ap suc (length_fates (belonging left (b ∷ bs) - 1) bs)

pub length_selected_le : (fs : List Fate) (bs : List ℕ) → length (selected fs bs) ≤ length bs
unfolding selected
length_selected_le [] bs = omega arith
length_selected_le (f ∷ fs) [] = omega arith
length_selected_le (kept ∷ fs) (b ∷ bs) = let h = length_selected_le fs bs in omega arith
length_selected_le (dropped ∷ fs) (b ∷ bs) = let h = length_selected_le fs bs in omega arith
