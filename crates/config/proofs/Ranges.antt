-- What it says of a number that it is in order where a draft is:
-- the tests of `fault` (specs/Draft.antt) as facts, both ways.
use Prim.Native.Nat.{ℕ, ◌+◌, ◌-◌, ◌^◌, ◌≤◌, ◌<◌}
use mathlib.Core.Path.{◌≡◌, refl, ap}
use mathlib.Core.Bool.{Bool, true, false, not, ◌&&◌, ◌||◌}
use native.Mathlib.Omega.{arith}
use lib.Dec.{leb, ltb, lit<}
use lib.ListN.{get_or, take}
use lib.Pow.{pow_pos}
use borrow.Author.Tests.{leb-true, ltb-true, le-leb, lt-ltb, eq-eqb, ne_eqb, not-true}
use Rattle.number.proofs.Cases.{by_eq, and_true}
use Rattle.number.specs.Refusal.{none}
use Rattle.config.specs.declared.Draft.{Draft}
use Rattle.config.specs.declared.Field.{Field}
use Rattle.config.specs.declared.Field.TheVariants.{Version, Bodies, Kind, Priority, Autostart, Deadline, Resources, Users, Tables, Period, Entries, Offset, Task, End}
use Rattle.config.specs.Refusal.{bad_version, bad_count, bad_field, used_priority, unsorted, too_many_entries, shared_offset, mixed_table}
use Rattle.config.specs.Meaning.{last_kind, is_task}
use Rattle.config.specs.Value.{newest_version, max_priority, max_bodies, max_resources, max_tables, max_entries}
use Rattle.config.specs.Among.{among}
use Rattle.config.specs.Draft.{unless, outside, and_then, sorted, shares_offset, mixes, second_table, most_autostart, most_deadline, timed_user, fault_at}

abbrev pub InRange : Field → Draft → ℕ → Type 0
InRange Version d v = (1 ≤ v) × (v ≤ newest_version)
InRange Bodies d v = (1 ≤ v) × (v ≤ max_bodies)
InRange Kind d v = v ≤ last_kind
InRange Priority d v = (1 ≤ v) × (v ≤ max_priority) × (among v (take d.index d.config.priority) ≡ false)
InRange Autostart d v = v ≤ most_autostart (get_or d.config.kind d.index 0)
InRange Deadline d v = v ≤ most_deadline d.config.version (get_or d.config.kind d.index 0)
InRange Resources d v = v ≤ max_resources
InRange Users d v = (1 ≤ v) × (v < 2 ^ d.config.bodies) × (timed_user d.config v ≡ false)
InRange Tables d v = v ≤ max_tables
InRange Period d v = (1 ≤ v) × (v ≤ 65535)
InRange Entries d v = (1 ≤ v) × (v ≤ 16) × (d.entry + v ≤ max_entries)
InRange Offset d v = v < get_or d.config.period d.index 0
InRange Task d v =
    (is_task d.config v ≡ true)
    × (sorted d v ≡ true)
    × (shares_offset d v ≡ false)
    × ((mixes d v || second_table d v) ≡ false)
InRange End d v = Unit {0}

-- a test that gives no refusal holds
pub passed : (t : Bool) (r : ℕ) → 0 < r → unless t r ≡ none → t ≡ true
passed true r p e = refl
passed false r p e = absurd (omega arith)

failed : (t : Bool) (r : ℕ) → 0 < r → unless (not t) r ≡ none → t ≡ false
failed t r p e = not-true t (passed (not t) r p e)

pub not_outside : (lo hi v r : ℕ) → 0 < r → outside lo hi v r ≡ none → (lo ≤ v) × (v ≤ hi)
not_outside lo hi v r p e =
    let b = and_true (leb lo v) (leb v hi) (passed (leb lo v && leb v hi) r p e) in
    (leb-true lo v b.0, leb-true v hi b.1)

inside : (lo hi v r : ℕ) → lo ≤ v → v ≤ hi → outside lo hi v r ≡ none
inside lo hi v r p q = simp (le-leb lo v p, le-leb v hi q)

and_then_passed : (r s : ℕ) → and_then r s ≡ none → (r ≡ none) × (s ≡ none)
and_then_passed r s h =
    by_eq r none
    (λ e. (e, simp (eq-eqb r none e) at h))
    (λ n. absurd (n (simp (ne_eqb r none n) at h)))

passed_and_then : {r s : ℕ} → r ≡ none → s ≡ none → and_then r s ≡ none
passed_and_then {r} {s} p q = simp (eq-eqb r none p) q

module _ (d : Draft) (v : ℕ) where
  pub in_range : (f : Field) → fault_at f d v ≡ none → InRange f d v
  unfolding fault_at
  in_range Version e = not_outside 1 newest_version v bad_version (lit< tt) e
  in_range Bodies e = not_outside 1 max_bodies v bad_count (lit< tt) e
  in_range Kind e = (not_outside 0 last_kind v bad_field (lit< tt) e).1
  in_range Priority e =
      let used = among v (take d.index d.config.priority) in
      let h = and_then_passed (outside 1 max_priority v bad_field) (unless (not used) used_priority) e in
      let r = not_outside 1 max_priority v bad_field (lit< tt) h.0 in
      (r.0, r.1, failed used used_priority (lit< tt) h.1)
  in_range Autostart e = (not_outside 0 (most_autostart (get_or d.config.kind d.index 0)) v bad_field (lit< tt) e).1
  in_range Deadline e =
      (not_outside 0 (most_deadline d.config.version (get_or d.config.kind d.index 0)) v bad_field (lit< tt) e).1
  in_range Resources e = (not_outside 0 max_resources v bad_count (lit< tt) e).1
  in_range Users e =
      let timed = timed_user d.config v in
      let b = and_then_passed (outside 1 (2 ^ d.config.bodies - 1) v bad_field) (unless (not timed) bad_field) e in
      let h = not_outside 1 (2 ^ d.config.bodies - 1) v bad_field (lit< tt) b.0 in
      (h.0, omega (arith, h.1, pow_pos d.config.bodies), failed timed bad_field (lit< tt) b.1)
  in_range Tables e = (not_outside 0 max_tables v bad_count (lit< tt) e).1
  in_range Period e = not_outside 1 65535 v bad_field (lit< tt) e
  in_range Entries e =
      let few = leb (d.entry + v) max_entries in
      let h = and_then_passed (outside 1 16 v bad_count) (unless few too_many_entries) e in
      let r = not_outside 1 16 v bad_count (lit< tt) h.0 in
      (r.0, r.1, leb-true (d.entry + v) max_entries (passed few too_many_entries (lit< tt) h.1))
  in_range Offset e =
      let period = get_or d.config.period d.index 0 in
      ltb-true v period (passed (ltb v period) bad_field (lit< tt) e)
  in_range Task e =
      let first = unless (is_task d.config v) bad_field in
      let second = unless (sorted d v) unsorted in
      let third = unless (not (shares_offset d v)) shared_offset in
      let fourth = unless (not (mixes d v || second_table d v)) mixed_table in
      let h = and_then_passed first (and_then second (and_then third fourth)) e in
      let k = and_then_passed second (and_then third fourth) h.1 in
      let n = and_then_passed third fourth k.1 in (
        passed (is_task d.config v) bad_field (lit< tt) h.0,
        passed (sorted d v) unsorted (lit< tt) k.0,
        failed (shares_offset d v) shared_offset (lit< tt) n.0,
        failed (mixes d v || second_table d v) mixed_table (lit< tt) n.1,
      )
  in_range End e = tt

  pub no_fault : (f : Field) → InRange f d v → fault_at f d v ≡ none
  unfolding fault_at
  no_fault Version h = inside 1 newest_version v bad_version h.0 h.1
  no_fault Bodies h = inside 1 max_bodies v bad_count h.0 h.1
  no_fault Kind h = inside 0 last_kind v bad_field (omega arith) h
  no_fault Priority h =
      passed_and_then
      (inside 1 max_priority v bad_field h.0 h.1)
      (ap (λ (t : Bool). unless (not t) used_priority) h.2)
  no_fault Autostart h = inside 0 (most_autostart (get_or d.config.kind d.index 0)) v bad_field (omega arith) h
  no_fault Deadline h =
      inside 0 (most_deadline d.config.version (get_or d.config.kind d.index 0)) v bad_field (omega arith) h
  no_fault Resources h = inside 0 max_resources v bad_count (omega arith) h
  no_fault Users h =
      passed_and_then
      (inside 1 (2 ^ d.config.bodies - 1) v bad_field h.0 (omega (arith, h.1)))
      (ap (λ (t : Bool). unless (not t) bad_field) h.2)
  no_fault Tables h = inside 0 max_tables v bad_count (omega arith) h
  no_fault Period h = inside 1 65535 v bad_field h.0 h.1
  no_fault Entries h =
      passed_and_then
      (inside 1 16 v bad_count h.0 h.1)
      (ap (λ (t : Bool). unless t too_many_entries) (le-leb (d.entry + v) max_entries h.2))
  no_fault Offset h = rw (lt-ltb v (get_or d.config.period d.index 0) h)
  no_fault Task h =
      passed_and_then (ap (λ (t : Bool). unless t bad_field) h.0)
      (passed_and_then (ap (λ (t : Bool). unless t unsorted) h.1)
      (passed_and_then (ap (λ (t : Bool). unless (not t) shared_offset) h.2)
      (ap (λ (t : Bool). unless (not t) mixed_table) h.3)))
  no_fault End h = refl
