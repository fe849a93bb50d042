-- A configuration of version 2 is read as that of version 1 is, but for the version: `versions_read`, at the end of the
-- file.
--
-- In order: a draft in version 2; no later number looks at the version; bytes that differ in the first alone.
use Prim.Native.Nat.{ℕ, zero, suc, ◌+◌, ◌≤◌}
use mathlib.Core.Path.{◌≡◌, refl, sym, ap, ◌∙◌}
use mathlib.Core.Bool.{Bool, true, false, true≢false, cond, ◌||◌}
use mathlib.Core.List.{List, [], ◌∷◌}
use native.Mathlib.Omega.{arith}
use lib.Dec.{leb, eqb, lit≤}
use lib.ListN.{length}
use borrow.Author.Tests.{ne_eqb}
use Rattle.number.specs.Refusal.{none}
use Rattle.number.specs.Number.{NumberRead, read_number, groups}
use Rattle.number.proofs.Cases.{by_test, by_eq, cond_either}
use Rattle.number.proofs.Theorems as Number
use Rattle.config.specs.declared.Config.{Config}
use Rattle.config.specs.declared.Draft.{Draft}
use Rattle.config.specs.declared.Field.{Field}
use Rattle.config.specs.declared.Field.TheVariants.{Version, Bodies, Kind, Priority, Autostart, Deadline, Resources, Users, Tables, Period, Entries, Offset, Task, End}
use Rattle.config.specs.Meaning.{is_timed}
use Rattle.config.specs.Value.{with_version}
use Rattle.config.specs.Draft.{some_timed, fault_at, put, put_at, ended, silent, silent_at, start}
use Rattle.config.specs.Reader.{refused, number_at, number_fault, fault_place, finished, read_from, max_numbers, max_length, read_config, in_second}
use Rattle.config.proofs.Walk.{number_fine, read_end, read_zero, read_step, read_stop}

-- a draft in version 2
abbrev second : Draft → Draft
second d =
    record {
      config = with_version d.config 2;
      field = d.field;
      index = d.index;
      entry = d.entry;
      until = d.until;
    }

-- past the version
abbrev is_later : Field → Bool
is_later Version = false
is_later Bodies = true
is_later Kind = true
is_later Priority = true
is_later Autostart = true
is_later Deadline = true
is_later Resources = true
is_later Users = true
is_later Tables = true
is_later Period = true
is_later Entries = true
is_later Offset = true
is_later Task = true
is_later End = true

some_timed_second : (c : Config) (bs : List ℕ) → some_timed (with_version c 2) bs ≡ some_timed c bs
unfolding some_timed
some_timed_second c [] = refl
some_timed_second c (b ∷ bs) = ap (λ x. is_timed c b || x) (some_timed_second c bs)

-- neither version has deadlines
fault_second : (f : Field) (d : Draft) (v : ℕ) → d.config.version ≡ 1 → fault_at f (second d) v ≡ fault_at f d v
unfolding fault_at
fault_second Version d v e = refl
fault_second Bodies d v e = refl
fault_second Kind d v e = refl
fault_second Priority d v e = refl
fault_second Autostart d v e = refl
fault_second Deadline d v e = rw e refl
fault_second Resources d v e = refl
fault_second Users d v e = refl
fault_second Tables d v e = refl
fault_second Period d v e = refl
fault_second Entries d v e = refl
fault_second Offset d v e = refl
fault_second Task d v e = rw (some_timed_second d.config _)
fault_second End d v e = refl

put_second : (f : Field) (d : Draft) (v : ℕ) → is_later f ≡ true → put_at f (second d) v ≡ second (put_at f d v)
unfolding put_at
put_second Version d v e = absurd (true≢false (sym e))
put_second Bodies d v e = refl
put_second Kind d v e = refl
put_second Priority d v e = refl
put_second Autostart d v e = refl
put_second Deadline d v e = refl
put_second Resources d v e = refl
put_second Users d v e = refl
put_second Tables d v e = refl
put_second Period d v e = refl
put_second Entries d v e = refl
put_second Offset d v e = refl
put_second Task d v e = refl
put_second End d v e = refl

put_later : (f : Field) (d : Draft) (v : ℕ) → d.field ≡ f → is_later f ≡ true → is_later (put_at f d v).field ≡ true
unfolding put_at
put_later Version d v q e = absurd (true≢false (sym e))
put_later Bodies d v q e = refl
put_later Kind d v q e = refl
put_later Priority d v q e = refl
put_later Autostart d v q e = refl
put_later Deadline d v q e =
    cond_either (λ f. is_later f ≡ true) (eqb (d.index + 1) d.config.bodies) Resources Kind refl refl
put_later Resources d v q e = cond_either (λ f. is_later f ≡ true) (eqb 0 v) Tables Users refl refl
put_later Users d v q e =
    cond_either (λ f. is_later f ≡ true) (eqb (d.index + 1) d.config.resources) Tables Users refl refl
put_later Tables d v q e = cond_either (λ f. is_later f ≡ true) (eqb 0 v) End Period refl refl
put_later Period d v q e = refl
put_later Entries d v q e = refl
put_later Offset d v q e = refl
put_later Task d v q e =
    cond_either (λ f. is_later f ≡ true) (eqb (d.entry + 1) d.until) _ Offset
    (cond_either (λ f. is_later f ≡ true) (eqb (d.index + 1) d.config.tables) End Period refl refl)
    refl
put_later End d v q e = ap is_later q

put_version : (f : Field) (d : Draft) (v : ℕ) → is_later f ≡ true → (put_at f d v).config.version ≡ d.config.version
unfolding put_at
put_version Version d v e = absurd (true≢false (sym e))
put_version Bodies d v e = refl
put_version Kind d v e = refl
put_version Priority d v e = refl
put_version Autostart d v e = refl
put_version Deadline d v e = refl
put_version Resources d v e = refl
put_version Users d v e = refl
put_version Tables d v e = refl
put_version Period d v e = refl
put_version Entries d v e = refl
put_version Offset d v e = refl
put_version Task d v e = refl
put_version End d v e = refl

silent_second : (f : Field) (version : ℕ) → version ≡ 1 → silent_at f 2 ≡ silent_at f version
silent_second Version v e = refl
silent_second Bodies v e = refl
silent_second Kind v e = refl
silent_second Priority v e = refl
silent_second Autostart v e = refl
silent_second Deadline v e = rw e refl
silent_second Resources v e = refl
silent_second Users v e = refl
silent_second Tables v e = refl
silent_second Period v e = refl
silent_second Entries v e = refl
silent_second Offset v e = refl
silent_second Task v e = refl
silent_second End v e = refl

fault_same : (d : Draft) (n : NumberRead) → d.config.version ≡ 1 → number_fault (second d) n ≡ number_fault d n
fault_same d n e = ap (λ x. cond (eqb n.refusal none) x n.refusal) (fault_second d.field d n.value e)

-- a refused reading has no version
stopped : (r p : ℕ) → (r ≡ none → ⊥) → refused r p ≡ in_second (refused r p)
stopped r p h = rw (ne_eqb r none h)

module _ (bs : List ℕ) where
  -- every number but the first is that of the other bytes
  number_same : (at : ℕ) (d : Draft) → 1 ≤ at → d.config.version ≡ 1
      → number_at (second d) (2 ∷ bs) at ≡ number_at d (1 ∷ bs) at
  unfolding number_at read_number
  number_same zero d h v = absurd (omega arith)
  number_same (suc at) d h v = rw (silent_second d.field d.config.version v) refl

  -- and leads on
  number_onward : (at : ℕ) (d : Draft) → 1 ≤ at → (number_at d (1 ∷ bs) at).refusal ≡ none
      → 1 ≤ (number_at d (1 ∷ bs) at).place
  unfolding number_at
  number_onward at d h =
      by_test (silent d)
      (λ q. rw q (λ e. h))
      (λ q. rw q (λ e. omega (arith, (Number.reading (1 ∷ bs) at).after e)))

  finished_second : (at : ℕ) (d : Draft) → finished (2 ∷ bs) at (second d) ≡ in_second (finished (1 ∷ bs) at d)
  finished_second at d =
      by_test (eqb at (suc (length bs)))
      (λ e. rw e)
      (λ e. rw e)

  from_second : (k at : ℕ) (d : Draft) → 1 ≤ at → d.config.version ≡ 1 → is_later d.field ≡ true
      → read_from k (2 ∷ bs) at (second d) ≡ in_second (read_from k (1 ∷ bs) at d)
  from_second zero at d h v later =
      by_test (ended d.field)
      (λ t. read_end zero (2 ∷ bs) at (second d) t ∙ finished_second at d
      ∙ ap in_second (sym (read_end zero (1 ∷ bs) at d t)))
      (λ t. read_zero (2 ∷ bs) at (second d) t ∙ ap in_second (sym (read_zero (1 ∷ bs) at d t)))
  from_second (suc k) at d h v later =
      let n = number_at d (1 ∷ bs) at in
      by_test (ended d.field)
      (λ t. read_end (suc k) (2 ∷ bs) at (second d) t ∙ finished_second at d
      ∙ ap in_second (sym (read_end (suc k) (1 ∷ bs) at d t)))
      (λ t. by_eq (number_fault d n) none
      (λ f. read_step k (2 ∷ bs) at (second d) n (number_same at d h v) t (fault_same d n v ∙ f)
      ∙ ap (read_from k (2 ∷ bs) n.place) (put_second d.field d n.value later)
      ∙ from_second k n.place (put d n.value)
      (number_onward at d h (number_fine d n f).0)
      (put_version d.field d n.value later ∙ v)
      (put_later d.field d n.value refl later)
      ∙ ap in_second (sym (read_step k (1 ∷ bs) at d n refl t f)))
      (λ f. read_stop k (2 ∷ bs) at (second d) n (number_same at d h v) t (λ e. f (sym (fault_same d n v) ∙ e))
      ∙ ap (λ r. refused r (fault_place at n)) (fault_same d n v)
      ∙ stopped (number_fault d n) (fault_place at n) f
      ∙ ap in_second (sym (read_stop k (1 ∷ bs) at d n refl t f))))

  -- the version is the first byte
  after_first : read_from max_numbers (1 ∷ bs) 0 start ≡ read_from 291 (1 ∷ bs) 1 (put start 1)
  unfolding number_at read_number groups fault_at ended
  after_first = read_step 291 (1 ∷ bs) 0 start (record { value = 1; refusal = none; place = 1 }) refl refl refl

  after_second : read_from max_numbers (2 ∷ bs) 0 start ≡ read_from 291 (2 ∷ bs) 1 (put start 2)
  unfolding number_at read_number groups fault_at ended
  after_second = read_step 291 (2 ∷ bs) 0 start (record { value = 2; refusal = none; place = 1 }) refl refl refl

  walked : read_from max_numbers (2 ∷ bs) 0 start ≡ in_second (read_from max_numbers (1 ∷ bs) 0 start)
  unfolding put_at
  walked =
      after_second ∙ from_second 291 1 (put start 1) (lit≤ tt) refl refl ∙ ap in_second (sym after_first)

  pub versions_read : read_config (2 ∷ bs) ≡ in_second (read_config (1 ∷ bs))
  unfolding read_config
  versions_read = by_test (leb (suc (length bs)) max_length) (λ e. rw e walked) (λ e. rw e)
