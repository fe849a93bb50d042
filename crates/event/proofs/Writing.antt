-- The writer's definition: what is refused, and the bytes of an event by how many arguments it has.
use Prim.Native.Nat.{ℕ, ◌≤◌, ◌<◌}
use mathlib.Core.Path.{◌≡◌, sym, ◌∙◌}
use mathlib.Core.Bool.{true, false, false≢true, or-true, and-false}
use mathlib.Core.List.{List, [], ◌∷◌, ◌++◌, append-nil}
use native.Mathlib.Omega.{arith}
use borrow.Author.Tests.{lt-ltb, le-ltb, lt-leb, eq-eqb, ne_eqb}
use lib.ListN.{length}
use Rattle.number.specs.Refusal.{none, no_room}
use Rattle.number.specs.Number.{number_bound, number_bytes, group_bytes}
use Rattle.number.proofs.Cases.{by_test, by_lt, by_eq}
use Rattle.number.specs.Output.{Written, unwritten, writing, written}
use Rattle.event.specs.declared.Event.{Event}
use Rattle.event.specs.Refusal.{unknown_event, stray_argument}
use Rattle.event.specs.Event.{known, arguments, argument_bytes, event_bytes, stray, writer_refusal, write_event, event_written, Writable}
use Rattle.event.proofs.Codes.{known_true, known_le}

-- the three answers that the writer can come to: the bytes, the stray argument, the unknown code
module _ (e : Event) (d : List ℕ) (w : Written) where
  pub writes_bytes : (bs ys : List ℕ) → known e.code ≡ true → stray e ≡ false → event_bytes e ≡ bs
      → w ≡ writing bs (length d) → ys ≡ written bs d → (w ≡ write_event e (length d)) × (ys ≡ event_written e d)
  unfolding writer_refusal write_event event_written
  writes_bytes bs ys k s b r o = (rw (k, s, b) r, rw (k, s, b) o)

  pub writes_stray : known e.code ≡ true → stray e ≡ true → w ≡ unwritten stray_argument 0
      → (w ≡ write_event e (length d)) × (d ≡ event_written e d)
  unfolding writer_refusal write_event event_written
  writes_stray k s r = (rw (k, s) r, rw (k, s))

  pub writes_unknown : known e.code ≡ false → w ≡ unwritten unknown_event 0
      → (w ≡ write_event e (length d)) × (d ≡ event_written e d)
  unfolding writer_refusal write_event event_written
  writes_unknown k r = (rw k r, rw k)

-- an argument is stray where the event lacks it and it is not 0
module _ (e : Event) where
  pub stray_first : arguments e.code ≡ 0 → 0 < e.first → stray e ≡ true
  unfolding stray
  stray_first n h = rw (n, lt-ltb 0 e.first h)

  pub stray_second : arguments e.code < 2 → 0 < e.second → stray e ≡ true
  unfolding stray
  stray_second n h = simp (lt-ltb (arguments e.code) 2 n, lt-ltb 0 e.second h, or-true)

  pub stray_none : (arguments e.code < 1 → e.first ≡ 0) → (arguments e.code < 2 → e.second ≡ 0)
      → stray e ≡ false
  unfolding stray
  stray_none f s =
      by_lt (arguments e.code) 1
      (λ h. simp (f h, s (omega arith), and-false))
      (λ h. by_lt (arguments e.code) 2
      (λ g. simp (s g, le-ltb (arguments e.code) 1 h, and-false))
      (λ g. simp (le-ltb (arguments e.code) 1 h, le-ltb (arguments e.code) 2 g)))

-- a code is a single byte
code_byte : (code : ℕ) → known code ≡ true → number_bytes code ≡ code ∷ []
unfolding number_bytes group_bytes
code_byte code k = simp (lt-ltb code 128 (omega (arith, known_le code k)))

-- the bytes of an event by its number of arguments
module _ (e : Event) (k : known e.code ≡ true) where
  pub bytes_none : arguments e.code ≡ 0 → event_bytes e ≡ number_bytes e.code
  unfolding event_bytes argument_bytes
  bytes_none n = rw (n, append-nil)

  pub bytes_one : arguments e.code ≡ 1 → event_bytes e ≡ e.code ∷ number_bytes e.first
  unfolding event_bytes argument_bytes
  bytes_one n = rw (n, code_byte e.code k)

  pub bytes_two : arguments e.code ≡ 2 → event_bytes e ≡ e.code ∷ (number_bytes e.first ++ number_bytes e.second)
  unfolding event_bytes argument_bytes
  bytes_two n = rw (n, code_byte e.code k)

-- the writer refuses exactly the events that can't be written, and those that do not fit
module _ (e : Event) where
  pub writable_accepted : Writable e → writer_refusal e ≡ none
  unfolding writer_refusal
  writable_accepted w =
      rw (known_true e.code w.at_least w.at_most, stray_none e w.lacks_first w.lacks_second)

  accepted_known : writer_refusal e ≡ none → (known e.code ≡ true) × (stray e ≡ false)
  unfolding writer_refusal
  accepted_known h =
      by_test (known e.code)
      (λ k. by_test (stray e)
      (λ s. let z : ◌≡◌ {A = ℕ} stray_argument none = rw (k, s) at h in absurd (omega arith))
      (λ s. (k, s)))
      (λ k. let z : ◌≡◌ {A = ℕ} unknown_event none = rw k at h in absurd (omega arith))

  pub accepted_writable : e.first < number_bound → e.second < number_bound → writer_refusal e ≡ none → Writable e
  accepted_writable f s h =
      let k = accepted_known h in
      record {
        at_least = (known_le e.code k.0).0;
        at_most = (known_le e.code k.0).1;
        first_lt = f;
        second_lt = s;
        lacks_first =
            λ g. by_eq e.first 0 (λ z. z)
            (λ n. absurd (false≢true (sym k.1 ∙ stray_first e (omega arith) (omega arith))));
        lacks_second =
            λ g. by_eq e.second 0 (λ z. z) (λ n. absurd (false≢true (sym k.1 ∙ stray_second e g (omega arith))));
      }

  pub write_accepted : (d : List ℕ) → (write_event e (length d)).refusal ≡ none → writer_refusal e ≡ none
  unfolding write_event
  write_accepted d h =
      by_eq (writer_refusal e) none (λ z. z)
      (λ n. rw (ne_eqb (writer_refusal e) none n) at h)

  pub write_room : (d : List ℕ) → (write_event e (length d)).refusal ≡ none → length (event_bytes e) ≤ length d
  unfolding write_event writing
  write_room d h =
      by_lt (length d) (length (event_bytes e))
      (λ lt. let z : ◌≡◌ {A = ℕ} no_room none =
      rw (eq-eqb (writer_refusal e) none (write_accepted d h), lt-leb (length (event_bytes e)) (length d) lt) at h in
      absurd (omega arith))
      (λ le. le)
