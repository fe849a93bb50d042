-- Both round trips of one event: what is read was written so (`read_elim`), and what is written reads back (`read_at`).
--
-- In order: bytes that stand at a place; every way that a reading can end; the bytes of a writable event, read.
use Prim.Native.Nat.{ℕ, zero, suc, ◌+◌, ◌≤◌, ◌<◌}
use mathlib.Core.Path.{◌≡◌, refl, sym, ap, ◌∙◌}
use mathlib.Core.Bool.{true}
use mathlib.Core.List.{List, ◌++◌, append-nil, append_assoc}
use native.Mathlib.Omega.{arith}
use native.Mathlib.Nat.{zero-add, add-zero, add_assoc}
use lib.Dec.{lit<}
use lib.ListN.{length, drop, length-append}
use lib.Seq.{drop_at, drop-drop}
use Rattle.number.specs.Refusal.{none}
use Rattle.number.specs.Number.{NumberRead, number_bound, Bytes, read_number, number_bytes}
use Rattle.number.proofs.Cases.{by_test, by_eq}
use Rattle.number.proofs.Theorems as Number
use Rattle.event.specs.declared.Event.{Event}
use Rattle.event.specs.Refusal.{unknown_event}
use Rattle.event.specs.Event.{EventRead, known, arguments, event, accepted, refused, unreadable, after_number, read_arguments, read_event, argument_bytes, event_bytes, write_event, event_written, Writable}
use Rattle.event.proofs.Codes.{known_true, known_le}
use Rattle.event.proofs.Reading.{goes_on, ends, read_known}
use Rattle.event.proofs.Writing.{writes_bytes, stray_none, accepted_writable, write_accepted, write_room}

-- the bytes xs stand in bs from one place to another
pub record Spans (bs : List ℕ) (at : ℕ) (xs : List ℕ) (end : ℕ) : Type 0 where
  pub later : at < end
  pub inside : end ≤ length bs
  pub bytes : Bytes bs → drop at bs ≡ xs ++ drop end bs

spans_number : (bs : List ℕ) (at : ℕ) → (read_number bs at).refusal ≡ none
    → Spans bs at (number_bytes (read_number bs at).value) (read_number bs at).place
spans_number bs at h =
    let r = Number.reading bs at in
    record { later = r.after h; inside = r.inside h; bytes = λ b. Number.written_read bs at b h }

spans_append : {bs xs ys : List ℕ} {at p q : ℕ} → Spans bs at xs p → Spans bs p ys q → Spans bs at (xs ++ ys) q
spans_append {bs} {xs} {ys} {at} {p} {q} s t =
    record {
      later = omega arith;
      inside = t.inside;
      bytes = λ b. s.bytes b ∙ ap (λ (l : List ℕ). xs ++ l) (t.bytes b) ∙ sym (append_assoc xs ys (drop q bs));
    }

after_elim : (P : EventRead → Type 0) (n : NumberRead) (f : ℕ → ℕ → EventRead)
    → (n.refusal ≡ none → P (f n.value n.place)) → ((n.refusal ≡ none → ⊥) → P (unreadable n))
    → P (after_number n f)
after_elim P n f on off =
    by_eq n.refusal none
    (λ h. rw (goes_on n n f refl h) (on h))
    (λ h. rw (ends n n f refl h) (off h))

-- an event of a known code
writable : (code first second : ℕ) → known code ≡ true → first < number_bound → second < number_bound
    → (arguments code < 1 → first ≡ 0) → (arguments code < 2 → second ≡ 0)
    → Writable (event code first second)
writable code first second k f s no_first no_second =
    record {
      at_least = (known_le code k).0;
      at_most = (known_le code k).1;
      first_lt = f;
      second_lt = s;
      lacks_first = no_first;
      lacks_second = no_second;
    }

-- a reading ends at a number that can't be read, at an unknown code, or with an event
module _ (bs : List ℕ) (at : ℕ) (P : EventRead → Type 0)
    (on_unreadable : (p : ℕ) → at ≤ p → (at < p → p ≤ length bs) → ((read_number bs p).refusal ≡ none → ⊥)
    → P (unreadable (read_number bs p)))
    (on_unknown : P (refused unknown_event at))
    (on_event : (e : Event) (p : ℕ) → Writable e → Spans bs at (event_bytes e) p → P (accepted e p))
  where
    -- the arguments, after a code that was read
    arguments_elim : (n code p : ℕ) → arguments code ≡ n → known code ≡ true → Spans bs at (number_bytes code) p
        → P (read_arguments n bs code p)
    unfolding read_arguments argument_bytes event_bytes
    arguments_elim zero code p z k s =
        on_event (event code 0 0) p
        (writable code 0 0 k (lit< tt) (lit< tt) (λ g. refl) (λ g. refl))
        (rw (z, append-nil) s)
    arguments_elim (suc zero) code p z k s =
        after_elim P (read_number bs p) _
        (λ h. on_event _ _
        (writable code (read_number bs p).value 0 k (Number.reading bs p).in_range (lit< tt)
        (λ g. absurd (omega arith)) (λ g. refl))
        (rw z (spans_append s (spans_number bs p h))))
        (on_unreadable p (omega (arith, s.later)) (λ g. s.inside))
    arguments_elim (suc (suc n)) code p z k s =
        after_elim P (read_number bs p) _
        (λ h. let t = spans_number bs p h in
        after_elim P (read_number bs (read_number bs p).place) _
        (λ g. on_event _ _
        (writable code (read_number bs p).value (read_number bs (read_number bs p).place).value k
        (Number.reading bs p).in_range (Number.reading bs (read_number bs p).place).in_range
        (λ f. absurd (omega arith)) (λ f. absurd (omega arith)))
        (rw z (spans_append s (spans_append t (spans_number bs (read_number bs p).place g)))))
        (on_unreadable (read_number bs p).place (omega (arith, s.later, t.later)) (λ g. t.inside)))
        (on_unreadable p (omega (arith, s.later)) (λ g. s.inside))

    pub read_elim : P (read_event bs at)
    unfolding read_event
    read_elim =
        after_elim P (read_number bs at) _
        (λ h. by_test (known (read_number bs at).value)
        (λ k. rw k (arguments_elim (arguments (read_number bs at).value) (read_number bs at).value
        (read_number bs at).place refl k (spans_number bs at h)))
        (λ k. rw k on_unknown))
        (on_unreadable at (omega arith) (λ g. absurd (omega arith)))

-- what is left at the place after xs
pub after_bytes : (bs : List ℕ) (at : ℕ) (xs ys : List ℕ) → drop at bs ≡ xs ++ ys → drop (at + length xs) bs ≡ ys
after_bytes bs at xs ys h = sym (drop-drop (length xs) at bs) ∙ ap (drop (length xs)) h ∙ drop_at xs ys (length xs) refl

-- the bytes of a writable event are read as that event
module _ (bs : List ℕ) (e : Event) (rest : List ℕ) (w : Writable e) where
  -- an event is what its arguments are, where those that it lacks are 0
  no_arguments : arguments e.code ≡ 0 → event e.code 0 0 ≡ e
  no_arguments z =
      ap (λ (x : ℕ). event e.code x 0) (sym (w.lacks_first (omega arith)))
      ∙ ap (λ (y : ℕ). event e.code e.first y) (sym (w.lacks_second (omega arith)))

  one_argument : arguments e.code ≡ 1 → event e.code e.first 0 ≡ e
  one_argument z = ap (λ (y : ℕ). event e.code e.first y) (sym (w.lacks_second (omega arith)))

  arguments_at : (n at : ℕ) → arguments e.code ≡ n → drop at bs ≡ argument_bytes n e ++ rest
      → read_arguments n bs e.code at ≡ accepted e (at + length (argument_bytes n e))
  unfolding read_arguments argument_bytes after_number
  arguments_at zero at z h = rw add-zero (ap (λ (x : Event). accepted x at) (no_arguments z))
  arguments_at (suc zero) at z h =
      rw (Number.read_at bs at e.first rest w.first_lt h)
      (ap (λ (x : Event). accepted x (at + length (number_bytes e.first))) (one_argument z))
  arguments_at (suc (suc n)) at z h =
      rw (
        Number.read_at bs at e.first (number_bytes e.second ++ rest) w.first_lt split,
        Number.read_at bs (at + length (number_bytes e.first)) e.second rest w.second_lt
            (after_bytes bs at (number_bytes e.first) (number_bytes e.second ++ rest) split),
        length-append,
        add_assoc,
      )
    where
      split : drop at bs ≡ number_bytes e.first ++ (number_bytes e.second ++ rest)
      split = h ∙ append_assoc (number_bytes e.first) (number_bytes e.second) rest

  pub read_at : (at : ℕ) → drop at bs ≡ event_bytes e ++ rest → read_event bs at ≡ accepted e (at + length (event_bytes e))
  unfolding event_bytes
  read_at at h =
      read_known _ bs at
      (sym (Number.read_at bs at e.code (argument_bytes (arguments e.code) e ++ rest)
      (let u = w.at_most in omega arith) split)) refl e.code refl (known_true e.code w.at_least w.at_most)
      ∙ arguments_at (arguments e.code) (at + length (number_bytes e.code)) refl
      (after_bytes bs at (number_bytes e.code) (argument_bytes (arguments e.code) e ++ rest) split)
      ∙ rw (length-append, add_assoc)
    where
      split : drop at bs ≡ number_bytes e.code ++ (argument_bytes (arguments e.code) e ++ rest)
      split = h ∙ append_assoc (number_bytes e.code) (argument_bytes (arguments e.code) e) rest

-- what an accepted reading covers
pub read_spans : (bs : List ℕ) (at : ℕ) → (read_event bs at).refusal ≡ none
    → Spans bs at (event_bytes (read_event bs at).event) (read_event bs at).place
read_spans bs at =
    read_elim bs at (λ r. r.refusal ≡ none → Spans bs at (event_bytes r.event) r.place)
    (λ p le i n h. absurd (omega arith))
    (λ h. absurd (omega arith))
    (λ e p w s h. s)

-- an event that was written is read from the output
pub read_output : (e : Event) (d : List ℕ) → e.first < number_bound → e.second < number_bound
    → (write_event e (length d)).refusal ≡ none
    → read_event (event_written e d) 0 ≡ accepted e (write_event e (length d)).place
read_output e d f s h =
    rw (← o.0, ← o.1)
    (read_at (event_bytes e ++ drop (length (event_bytes e)) d) e (drop (length (event_bytes e)) d) w 0 refl ∙ rw zero-add)
  where
    w : Writable e
    w = accepted_writable e f s (write_accepted e d h)

    o : (record { refusal = none; place = length (event_bytes e) } ≡ write_event e (length d))
        × (event_bytes e ++ drop (length (event_bytes e)) d ≡ event_written e d)
    o =
        writes_bytes e d _ (event_bytes e) _ (known_true e.code w.at_least w.at_most)
        (stray_none e w.lacks_first w.lacks_second) refl
        (Number.writing_fits (event_bytes e) (length d) (length (event_bytes e)) refl (write_room e d h))
        (sym (Number.written_fits (event_bytes e) d (write_room e d h)))
