-- What every reading satisfies, refused or not: its refusal and its place are in range, a refused one has the all-zero
-- value, and one that is cut off its place at the input's end.
use Prim.Native.Nat.{ℕ, zero, suc, ◌+◌, ◌-◌, ◌^◌, ◌≤◌}
use mathlib.Core.Path.{◌≡◌, refl, ◌∙◌}
use mathlib.Core.Bool.{Bool, true, false, not, ◌&&◌, ◌||◌}
use mathlib.Core.List.{List}
use mathlib.Core.Logic.{◌≢◌, ◌⊎◌, inl, inr, ⊎_elim}
use native.Mathlib.Omega.{arith}
use lib.Dec.{leb, ltb, lit≤}
use lib.ListN.{length, get_or, take}
use borrow.Author.Tests.{eq-eqb, ne_eqb, le-leb, lt-leb}
use Rattle.number.specs.Refusal.{none, cut, malformed}
use Rattle.number.specs.Number.{read_number}
use Rattle.number.proofs.Cases.{by_test, by_lt, by_eq}
use Rattle.config.specs.declared.Config.{Config}
use Rattle.config.specs.declared.Draft.{Draft}
use Rattle.config.specs.declared.Field.{Field}
use Rattle.config.specs.declared.Field.TheVariants.{Version, Bodies, Kind, Priority, Autostart, Deadline, Resources, Users, Tables, Period, Entries, Offset, Task, End}
use Rattle.config.specs.Refusal.{bad_version, bad_count, bad_field, used_priority, unsorted, too_many_entries, left_over, too_long, shared_offset, mixed_table}
use Rattle.config.specs.Meaning.{last_kind, is_task}
use Rattle.config.specs.Value.{newest_version, max_priority, max_bodies, max_resources, max_tables, max_entries, no_config}
use Rattle.config.specs.Among.{among}
use Rattle.config.specs.Draft.{unless, outside, and_then, sorted, shares_offset, mixes, second_table, most_autostart, most_deadline, timed_user, fault, fault_at, put, asked, ended, silent, start, Within}
use Rattle.config.specs.Writer.{fault_from}
use Rattle.config.specs.Reader.{ConfigRead, number_at, number_fault, fault_place, finished, refused, read_from, max_numbers, max_length, read_config}
use Rattle.config.proofs.Position.{left, moved, some_left, start_within}
use Rattle.config.proofs.Walk.{numbered, number_fine, read_end, read_step, read_stop, read_from_elim}

-- a refusal of the configuration reader's, or none: 0 to 10, 13 or 14
abbrev pub Known : ℕ → Type 0
Known r = (r ≤ too_long) ⊎ ((r ≡ shared_offset) ⊎ (r ≡ mixed_table))

-- the refusal of a number that is read: 3 to 8, 13 or 14
abbrev pub OfRead : ℕ → Type 0
OfRead r = ((bad_version ≤ r) × (r ≤ too_many_entries)) ⊎ ((r ≡ shared_offset) ⊎ (r ≡ mixed_table))

-- a test's answer: nothing, or such a refusal
abbrev pub Tested : ℕ → Type 0
Tested r = (r ≡ none) ⊎ OfRead r

unless_tested : (t : Bool) (r : ℕ) → OfRead r → Tested (unless t r)
unless_tested true r h = inl refl
unless_tested false r h = inr h

and_then_tested : {r s : ℕ} → Tested r → Tested s → Tested (and_then r s)
and_then_tested {r} {s} p q =
    by_eq r none
    (λ e. rw (eq-eqb r none e) q)
    (λ e. rw (ne_eqb r none e) p)

-- of a refusal from 3 to 8
plain_tested : (t : Bool) (r : ℕ) → bad_version ≤ r → r ≤ too_many_entries → Tested (unless t r)
plain_tested t r low high = unless_tested t r (inl (low, high))

outside_tested : (lo hi v r : ℕ) → bad_version ≤ r → r ≤ too_many_entries → Tested (outside lo hi v r)
outside_tested lo hi v r low high = plain_tested (leb lo v && leb v hi) r low high

module _ (d : Draft) (v : ℕ) where
  fault_tested : (f : Field) → Tested (fault_at f d v)
  unfolding fault_at
  fault_tested Version = outside_tested 1 newest_version v bad_version (lit≤ tt) (lit≤ tt)
  fault_tested Bodies = outside_tested 1 max_bodies v bad_count (lit≤ tt) (lit≤ tt)
  fault_tested Kind = outside_tested 0 last_kind v bad_field (lit≤ tt) (lit≤ tt)
  fault_tested Priority =
      and_then_tested
      (outside_tested 1 max_priority v bad_field (lit≤ tt) (lit≤ tt))
      (plain_tested (not (among v (take d.index d.config.priority))) used_priority (lit≤ tt) (lit≤ tt))
  fault_tested Autostart =
      outside_tested 0 (most_autostart (get_or d.config.kind d.index 0)) v bad_field (lit≤ tt) (lit≤ tt)
  fault_tested Deadline =
      outside_tested 0 (most_deadline d.config.version (get_or d.config.kind d.index 0)) v bad_field (lit≤ tt) (lit≤ tt)
  fault_tested Resources = outside_tested 0 max_resources v bad_count (lit≤ tt) (lit≤ tt)
  fault_tested Users =
      and_then_tested
      (outside_tested 1 (2 ^ d.config.bodies - 1) v bad_field (lit≤ tt) (lit≤ tt))
      (plain_tested (not (timed_user d.config v)) bad_field (lit≤ tt) (lit≤ tt))
  fault_tested Tables = outside_tested 0 max_tables v bad_count (lit≤ tt) (lit≤ tt)
  fault_tested Period = outside_tested 1 65535 v bad_field (lit≤ tt) (lit≤ tt)
  fault_tested Entries =
      and_then_tested
      (outside_tested 1 16 v bad_count (lit≤ tt) (lit≤ tt))
      (plain_tested (leb (d.entry + v) max_entries) too_many_entries (lit≤ tt) (lit≤ tt))
  fault_tested Offset = plain_tested (ltb v (get_or d.config.period d.index 0)) bad_field (lit≤ tt) (lit≤ tt)
  fault_tested Task =
      and_then_tested (plain_tested (is_task d.config v) bad_field (lit≤ tt) (lit≤ tt))
      (and_then_tested (plain_tested (sorted d v) unsorted (lit≤ tt) (lit≤ tt))
      (and_then_tested (unless_tested (not (shares_offset d v)) shared_offset (inr (inl refl)))
      (unless_tested (not (mixes d v || second_table d v)) mixed_table (inr (inr refl)))))
  fault_tested End = inl refl

-- a number that is read and at fault is refused with none of 1, 2, 9 and 10
pub fault_late : (d : Draft) (v : ℕ) → (fault d v ≡ none → ⊥) → bad_version ≤ fault d v
fault_late d v bad =
    ⊎_elim (λ z. absurd (bad z)) (⊎_elim (λ h. h.0) (⊎_elim (λ h. omega arith) (λ h. omega arith)))
    (fault_tested d v d.field)

pub fault_not_over : (d : Draft) (v : ℕ) → fault d v ≢ left_over
fault_not_over d v z =
    ⊎_elim (λ h. omega arith) (⊎_elim (λ h. omega arith) (⊎_elim (λ h. omega arith) (λ h. omega arith)))
    (fault_tested d v d.field)

fault_known : (d : Draft) (v : ℕ) → Known (fault d v)
fault_known d v = ⊎_elim (λ h. inl (omega arith)) (⊎_elim (λ h. inl (omega arith)) inr) (fault_tested d v d.field)

-- so has the writer's first fault
pub first_tested : (k : ℕ) (c : Config) (d : Draft) → Tested (fault_from k c d)
unfolding fault_from
first_tested zero c d = inl refl
first_tested (suc k) c d =
    let v = asked c d in
    by_test (ended d.field)
    (λ t. rw t (inl refl))
    (λ t. by_eq (fault d v) none
    (λ e. rw (t, eq-eqb (fault d v) none e) (first_tested k c (put d v)))
    (λ e. rw (t, ne_eqb (fault d v) none e) (fault_tested d v d.field)))

pub record Bounded (bs : List ℕ) (r : ConfigRead) : Type 0 where
  pub refusals : Known r.refusal
  pub inside : r.place ≤ length bs
  pub zero_value : (r.refusal ≡ none → ⊥) → r.config ≡ no_config

refused_bounded : (bs : List ℕ) (r p : ℕ) → Known r → p ≤ length bs → Bounded bs (refused r p)
refused_bounded bs r p few h = record { refusals = few; inside = h; zero_value = λ _. refl }

finished_bounded : (bs : List ℕ) (at : ℕ) (d : Draft) → at ≤ length bs → Bounded bs (finished bs at d)
finished_bounded bs at d h =
    by_eq at (length bs)
    (λ e. rw (eq-eqb at (length bs) e)
    (record { refusals = inl (lit≤ tt); inside = h; zero_value = λ n. absurd (n refl) }))
    (λ e. rw (ne_eqb at (length bs) e) (refused_bounded bs left_over at (inl (lit≤ tt)) h))

-- the refusal of a number and its place
number_bounded : (bs : List ℕ) (at : ℕ) (d : Draft) → at ≤ length bs
    → Bounded bs (refused (number_fault d (number_at d bs at)) (fault_place at (number_at d bs at)))
number_bounded bs at d h =
    let n = number_at d bs at in
    let s = numbered d bs at in
    by_eq n.refusal none
    (λ e. rw (eq-eqb n.refusal none e)
    (refused_bounded bs (fault d n.value) at (fault_known d n.value) h))
    (λ e. rw (ne_eqb n.refusal none e)
    (refused_bounded bs n.refusal n.place (inl (omega (arith, s.refusals))) (s.place_le h)))

read_from_bounded : (bs : List ℕ) (k at : ℕ) (d : Draft) → at ≤ length bs → Bounded bs (read_from k bs at d)
read_from_bounded bs =
    read_from_elim bs (λ at d r. at ≤ length bs → Bounded bs r)
    (λ at d t h. finished_bounded bs at d h)
    (λ at d h. refused_bounded bs cut at (inl (lit≤ tt)) h)
    (λ at d f h. number_bounded bs at d h)
    (λ at d r t f rest h. rest ((numbered d bs at).place_le h))

pub bounded : (bs : List ℕ) → Bounded bs (read_config bs)
unfolding read_config
bounded bs =
    by_lt max_length (length bs)
    (λ h. rw (lt-leb (length bs) max_length h) (refused_bounded bs too_long 0 (inl (lit≤ tt)) (omega arith)))
    (λ h. rw (le-leb (length bs) max_length h) (read_from_bounded bs max_numbers 0 start (omega arith)))

-- after the last number nothing is cut off
finished_not_cut : (bs : List ℕ) (at : ℕ) (d : Draft) → (finished bs at d).refusal ≡ cut → ⊥
finished_not_cut bs at d e =
    by_eq at (length bs)
    (λ h. let z : ◌≡◌ {A = ℕ} none cut = rw (eq-eqb at (length bs) h) at e in omega arith)
    (λ h. let z : ◌≡◌ {A = ℕ} left_over cut = rw (ne_eqb at (length bs) h) at e in omega arith)

-- the place of a number refused with 1
number_cut : (bs : List ℕ) (at : ℕ) (d : Draft) → at ≤ length bs → number_fault d (number_at d bs at) ≡ cut
    → fault_place at (number_at d bs at) ≡ length bs
number_cut bs at d h c =
    let n = number_at d bs at in
    by_eq n.refusal none
    (λ e. let f : fault d n.value ≡ cut = rw (eq-eqb n.refusal none e) at c in
    absurd (omega (arith, fault_late d n.value (λ z. omega arith))))
    (λ e. let f : n.refusal ≡ cut = rw (ne_eqb n.refusal none e) at c in
    rw (ne_eqb n.refusal none e) ((numbered d bs at).at_end h f))

-- with fuel enough, what is cut off is refused at the input's end
read_from_cut : (k : ℕ) (bs : List ℕ) (at : ℕ) (d : Draft) → at ≤ length bs → Within d → left d ≤ k
    → (read_from k bs at d).refusal ≡ cut → (read_from k bs at d).place ≡ length bs
read_from_cut zero bs at d h w m e =
    by_test (ended d.field)
    (λ t. absurd (finished_not_cut bs at d (rw (read_end zero bs at d t) at e)))
    (λ t. absurd (omega (arith, some_left d t w)))
read_from_cut (suc k) bs at d h w m e =
    let n = number_at d bs at in
    by_test (ended d.field)
    (λ t. absurd (finished_not_cut bs at d (rw (read_end (suc k) bs at d t) at e)))
    (λ t. by_eq (number_fault d n) none
    (λ f. let r = moved d n.value t (number_fine d n f).1 w in
    rw (read_step k bs at d n refl t f)
    (read_from_cut k bs n.place (put d n.value) ((numbered d bs at).place_le h) r.within (omega (arith, r.fewer))
    (rw (read_step k bs at d n refl t f) at e)))
    (λ f. rw (read_stop k bs at d n refl t f) (number_cut bs at d h (rw (read_stop k bs at d n refl t f) at e))))

pub cut_place : (bs : List ℕ) → (read_config bs).refusal ≡ cut → (read_config bs).place ≡ length bs
unfolding read_config
cut_place bs e =
    by_lt max_length (length bs)
    (λ h. let z : ◌≡◌ {A = ℕ} too_long cut = rw (lt-leb (length bs) max_length h) at e in absurd (omega arith))
    (λ h. rw (le-leb (length bs) max_length h)
    (read_from_cut max_numbers bs 0 start (omega arith) start_within (omega arith) (rw (le-leb (length bs) max_length h) at e)))

-- the place of a number that can't be read is the number reader's
pub unreadable_there : (k : ℕ) (bs : List ℕ) (at : ℕ) (d : Draft) → ended d.field ≡ false → silent d ≡ false
    → ((read_number bs at).refusal ≡ none → ⊥)
    → read_from (suc k) bs at d ≡ refused (read_number bs at).refusal (read_number bs at).place
unfolding number_at
unreadable_there k bs at d t q n =
    read_stop k bs at d (read_number bs at) (rw q) t (λ f. n (number_fine d (read_number bs at) f).0)
    ∙ rw (ne_eqb (read_number bs at).refusal none n)

abbrev Malformed : List ℕ → ConfigRead → Type 0
Malformed bs r =
    r.refusal ≡ malformed
    → (at : ℕ) × ((read_number bs at).refusal ≡ malformed) × (r.place ≡ (read_number bs at).place)

number_malformed : (bs : List ℕ) (at : ℕ) (d : Draft)
    → Malformed bs (refused (number_fault d (number_at d bs at)) (fault_place at (number_at d bs at)))
number_malformed bs at d m =
    let n = number_at d bs at in
    by_eq n.refusal none
    (λ e. let f : fault d n.value ≡ malformed = rw (eq-eqb n.refusal none e) at m in
    absurd (omega (arith, fault_late d n.value (λ z. omega arith))))
    (λ e. let h = (numbered d bs at).there (rw (ne_eqb n.refusal none e) at m) in
    (at, h.0, rw (ne_eqb n.refusal none e) h.1))

finished_fine : (bs : List ℕ) (at : ℕ) (d : Draft) → Malformed bs (finished bs at d)
finished_fine bs at d e =
    by_eq at (length bs)
    (λ h. let z : ◌≡◌ {A = ℕ} none malformed = rw (eq-eqb at (length bs) h) at e in absurd (omega arith))
    (λ h. let z : ◌≡◌ {A = ℕ} left_over malformed = rw (ne_eqb at (length bs) h) at e in absurd (omega arith))

pub malformed_there : (bs : List ℕ) → Malformed bs (read_config bs)
unfolding read_config
malformed_there bs =
    by_lt max_length (length bs)
    (λ h. rw (lt-leb (length bs) max_length h) (λ e. absurd (omega arith)))
    (λ h. rw (le-leb (length bs) max_length h)
    (read_from_elim bs (λ at d r. Malformed bs r)
    (λ at d t. finished_fine bs at d)
    (λ at d e. absurd (omega arith))
    (λ at d f. number_malformed bs at d)
    (λ at d r t f rest. rest)
    max_numbers 0 start))
