-- What a number in order says of the value that it is a number of, row by row.
--
--   Place f c d   how the draft's row, entry and `until` lie in the value c
--   Fits f c i e  the field f of row i and entry e is in range
--
-- For a draft of c's own numbers, `Fits` is what `fault` tests (`fits`, `fits_back`),
-- and what `Accepted` says (`accepted_fits`).
use Prim.Native.Nat.{ℕ, suc, ◌+◌, ◌-◌, ◌^◌, ◌≤◌, ◌<◌}
use mathlib.Core.Path.{◌≡◌, sym, ap, ◌∙◌}
use mathlib.Core.Bool.{Bool, true, false, cond, not, ◌&&◌, ◌||◌, and-false, true≢false}
use mathlib.Core.List.{List}
use native.Mathlib.Omega.{arith}
use native.Mathlib.Numerals.{add-one}
use lib.Dec.{eqb}
use lib.ListN.{length, get_or, take}
use borrow.Author.Tests.{eq-eqb, ne_eqb, le-ltb}
use Rattle.number.proofs.Cases.{by_test, by_lt, by_eq, neither}
use Rattle.config.specs.declared.Config.{Config}
use Rattle.config.specs.declared.Draft.{Draft}
use Rattle.config.specs.declared.Field.{Field}
use Rattle.config.specs.declared.Field.TheVariants.{Version, Bodies, Kind, Priority, Autostart, Deadline, Resources, Users, Tables, Period, Entries, Offset, Task, End}
use Rattle.config.specs.Meaning.{isr, time_triggered, last_kind, is_task, is_timed, is_user, priority_of, has_deadlines, deadline_of, first_of, timed_entry}
use Rattle.config.specs.Value.{newest_version, max_priority, max_bodies, max_resources, max_tables, max_entries}
use Rattle.config.specs.Among.{among}
use Rattle.config.specs.Draft.{rises, first_entry, sorted, shares_offset, mixes, some_timed, tasks_before, second_table, most_autostart, most_deadline, timed_in, timed_user, put_at, asked_at, ended}
use Rattle.config.specs.Accepted.{Shaped, Accepted, padded}
use Rattle.config.proofs.Filled.{length_padded, get_d_padded, take_padded, among_none, none_among}
use Rattle.config.proofs.Ranges.{InRange}
use Rattle.config.proofs.Tables.{first_of_zero, first_of_step, first_of_rises, table_of_lem}
use Rattle.config.proofs.Extends.{Extends, onward}
use Rattle.config.proofs.Mask.{timed_user_none, none_timed_user}
use Rattle.config.proofs.Timed.{some_none, none_some, none_differ}

-- the draft is at an entry of its table
abbrev InTable : Config → Draft → Type 0
InTable c d =
    (first_of c d.index ≤ d.entry)
    × (d.index < c.tables)
    × (d.entry < d.until)
    × (d.until ≡ first_of c d.index + get_or c.entries d.index 0)
    × (d.until ≤ max_entries)

abbrev pub Place : Field → Config → Draft → Type 0
Place Version c d = d.entry ≡ 0
Place Bodies c d = d.entry ≡ 0
Place Kind c d = (d.entry ≡ 0) × (d.index < c.bodies) × (c.bodies ≤ max_bodies)
Place Priority c d = (d.entry ≡ 0) × (d.index < c.bodies) × (c.bodies ≤ max_bodies)
Place Autostart c d = (d.entry ≡ 0) × (d.index < c.bodies) × (c.bodies ≤ max_bodies)
Place Deadline c d = (d.entry ≡ 0) × (d.index < c.bodies) × (c.bodies ≤ max_bodies)
Place Resources c d = d.entry ≡ 0
Place Users c d = (d.entry ≡ 0) × (d.index < c.resources)
Place Tables c d = d.entry ≡ 0
Place Period c d = (d.entry ≡ first_of c d.index) × (d.index < c.tables)
Place Entries c d = (d.entry ≡ first_of c d.index) × (d.index < c.tables)
Place Offset c d = InTable c d
Place Task c d = InTable c d
Place End c d = d.entry ≡ first_of c c.tables

module _ (c : Config) (d : Draft) where
  pub place_put : (f : Field) → ended f ≡ false → Extends c f d → InRange f d (asked_at f c d) → Place f c d
      → Place (onward c f d).field c (onward c f d)
  unfolding put_at asked_at ended
  place_put Version t x h p = p
  place_put Bodies t x h p = omega arith
  place_put Kind t x h p = p
  place_put Priority t x h p = p
  place_put Autostart t x h p = p
  place_put Deadline t x h p = rw (ap (λ (y : Config). y.bodies) x)
      (by_eq (d.index + 1) c.bodies
      (λ q. rw (eq-eqb (d.index + 1) c.bodies q) p.0)
      (λ q. rw (ne_eqb (d.index + 1) c.bodies q) (omega arith)))
  place_put Resources t x h p =
      by_eq 0 c.resources
      (λ q. rw (eq-eqb 0 c.resources q) p)
      (λ q. rw (ne_eqb 0 c.resources q) (omega arith))
  place_put Users t x h p = rw (ap (λ (y : Config). y.resources) x)
      (by_eq (d.index + 1) c.resources
      (λ q. rw (eq-eqb (d.index + 1) c.resources q) p.0)
      (λ q. rw (ne_eqb (d.index + 1) c.resources q) (omega arith)))
  place_put Tables t x h p =
      by_eq 0 c.tables
      (λ q. rw (eq-eqb 0 c.tables q) (p ∙ sym (first_of_zero c) ∙ ap (first_of c) q))
      (λ q. rw (ne_eqb 0 c.tables q) (p ∙ sym (first_of_zero c), omega arith))
  place_put Period t x h p = p
  place_put Entries t x h p = omega arith
  place_put Offset t x h p = p
  place_put Task t x h p = rw (ap (λ (y : Config). y.tables) x)
      (by_eq (d.entry + 1) d.until
      (λ q. rw (eq-eqb (d.entry + 1) d.until q)
      (by_eq (d.index + 1) c.tables
      (λ r. rw (eq-eqb (d.index + 1) c.tables r, ← r) (next q))
      (λ r. rw (ne_eqb (d.index + 1) c.tables r) (next q, omega arith))))
      (λ q. rw (ne_eqb (d.entry + 1) d.until q) (omega arith)))
    where
      next : d.entry + 1 ≡ d.until → d.entry + 1 ≡ first_of c (d.index + 1)
      next q = rw (add-one d.index) (omega (arith, first_of_step c d.index))
  place_put End t x h p = absurd (true≢false t)

abbrev pub KindFits : Config → ℕ → Type 0
KindFits c b = get_or c.kind b 0 ≤ last_kind

abbrev pub PriorityFits : Config → ℕ → Type 0
PriorityFits c b =
    (1 ≤ priority_of c b)
    × (priority_of c b ≤ max_priority)
    × ((a : ℕ) → a < b → priority_of c a ≡ priority_of c b → ⊥)

abbrev pub AutostartFits : Config → ℕ → Type 0
AutostartFits c b =
    (get_or c.autostart b 0 ≤ 1)
    × (get_or c.kind b 0 ≡ isr → get_or c.autostart b 0 ≡ 0)
    × (get_or c.kind b 0 ≡ time_triggered → get_or c.autostart b 0 ≡ 0)

abbrev pub DeadlineFits : Config → ℕ → Type 0
DeadlineFits c b =
    (deadline_of c b ≤ 65535)
    × (get_or c.kind b 0 ≡ isr → deadline_of c b ≡ 0)
    × (has_deadlines c.version ≡ false → deadline_of c b ≡ 0)

abbrev pub UsersFit : Config → ℕ → Type 0
UsersFit c r =
    (1 ≤ get_or c.users r 0)
    × (get_or c.users r 0 < 2 ^ c.bodies)
    × ((b : ℕ) → is_timed c b ≡ true → is_user c r b ≡ false)

abbrev pub PeriodFits : Config → ℕ → Type 0
PeriodFits c t = (1 ≤ get_or c.period t 0) × (get_or c.period t 0 ≤ 65535)

abbrev pub EntriesFit : Config → ℕ → Type 0
EntriesFit c t =
    (1 ≤ get_or c.entries t 0) × (get_or c.entries t 0 ≤ 16) × (first_of c t + get_or c.entries t 0 ≤ max_entries)

abbrev pub OffsetFits : Config → ℕ → ℕ → Type 0
OffsetFits c t e = get_or c.offset e 0 < get_or c.period t 0

-- entry e comes after the one before it
abbrev pub rises_at : Config → ℕ → Bool
rises_at c e = rises (get_or c.offset (e - 1) 0) (get_or c.task (e - 1) 0) (get_or c.offset e 0) (get_or c.task e 0)

-- entry e shares its offset with the one before it, and either is of kind 3
abbrev pub shares_at : Config → ℕ → Bool
shares_at c e = eqb (get_or c.offset (e - 1) 0) (get_or c.offset e 0) && (timed_entry c (e - 1) || timed_entry c e)

-- of entry e and the one before it, one is of kind 3
abbrev pub mixes_at : Config → ℕ → Bool
mixes_at c e = cond (timed_entry c e) (not (timed_entry c (e - 1))) (timed_entry c (e - 1))

-- where entry e is of kind 3, no entry of a table before t is
abbrev pub FirstTimed : Config → ℕ → ℕ → Type 0
FirstTimed c t e = timed_entry c e ≡ true → (n : ℕ) → n < first_of c t → timed_entry c n ≡ false

abbrev pub TaskFits : Config → ℕ → ℕ → Type 0
TaskFits c t e =
    (is_task c (get_or c.task e 0) ≡ true)
    × (first_of c t < e → rises_at c e ≡ true)
    × (first_of c t < e → shares_at c e ≡ false)
    × (first_of c t < e → mixes_at c e ≡ false)
    × FirstTimed c t e

abbrev pub Fits : Field → Config → ℕ → ℕ → Type 0
Fits Version c i e = (1 ≤ c.version) × (c.version ≤ newest_version)
Fits Bodies c i e = (1 ≤ c.bodies) × (c.bodies ≤ max_bodies)
Fits Kind c i e = KindFits c i
Fits Priority c i e = PriorityFits c i
Fits Autostart c i e = AutostartFits c i
Fits Deadline c i e = DeadlineFits c i
Fits Resources c i e = c.resources ≤ max_resources
Fits Users c i e = UsersFit c i
Fits Tables c i e = c.tables ≤ max_tables
Fits Period c i e = PeriodFits c i
Fits Entries c i e = EntriesFit c i
Fits Offset c i e = OffsetFits c i e
Fits Task c i e = TaskFits c i e
Fits End c i e = Unit {0}

autostart_most : (k a : ℕ) → a ≤ most_autostart k → (a ≤ 1) × (k ≡ isr → a ≡ 0) × (k ≡ time_triggered → a ≡ 0)
autostart_most k a =
    by_eq k isr
    (λ q. rw (eq-eqb k isr q) (λ h. (omega arith, λ _. omega arith, λ _. omega arith)))
    (λ q. rw (ne_eqb k isr q)
    (by_eq k time_triggered
    (λ u. rw (eq-eqb k time_triggered u) (λ h. (omega arith, λ _. omega arith, λ _. omega arith)))
    (λ u. rw (ne_eqb k time_triggered u) (λ h. (h, λ e. absurd (q e), λ e. absurd (u e))))))

most_autostart_lem : (k a : ℕ) → a ≤ 1 → (k ≡ isr → a ≡ 0) → (k ≡ time_triggered → a ≡ 0) → a ≤ most_autostart k
most_autostart_lem k a h z y =
    by_eq k isr
    (λ q. rw (eq-eqb k isr q) (let n = z q in omega arith))
    (λ q. rw (ne_eqb k isr q)
    (by_eq k time_triggered
    (λ u. rw (eq-eqb k time_triggered u) (let n = y u in omega arith))
    (λ u. rw (ne_eqb k time_triggered u) h)))

deadline_most : (version k v : ℕ) → v ≤ most_deadline version k
    → (v ≤ 65535) × (k ≡ isr → v ≡ 0) × (has_deadlines version ≡ false → v ≡ 0)
deadline_most version k v =
    by_test (has_deadlines version)
    (λ t. rw t (by_eq k isr
    (λ q. rw (eq-eqb k isr q) (λ h. (omega arith, λ _. omega arith, λ _. omega arith)))
    (λ q. rw (ne_eqb k isr q) (λ h. (h, λ e. absurd (q e), λ e. absurd (true≢false e))))))
    (λ t. rw t (λ h. (omega arith, λ _. omega arith, λ _. omega arith)))

most_deadline_lem : (version k v : ℕ) → v ≤ 65535 → (k ≡ isr → v ≡ 0) → (has_deadlines version ≡ false → v ≡ 0)
    → v ≤ most_deadline version k
most_deadline_lem version k v h z y =
    by_test (has_deadlines version)
    (λ t. rw t (by_eq k isr
    (λ q. rw (eq-eqb k isr q) (let n = z q in omega arith))
    (λ q. rw (ne_eqb k isr q) h)))
    (λ t. rw t (let n = y t in omega arith))

-- the draft's tests of what came before it, as tests of c
module _ (c : Config) (s : Shaped c) (d : Draft) where
  -- a field of the draft's own row
  field_same : (m : ℕ) (l y : List ℕ) → length l ≡ m → y ≡ padded m (d.index + 1) l
      → get_or y d.index 0 ≡ get_or l d.index 0
  field_same m l y full e = rw e (get_d_padded m l full (d.index + 1) d.index (omega arith))

  kind_same : Extends c Autostart d → get_or d.config.kind d.index 0 ≡ get_or c.kind d.index 0
  kind_same x = field_same max_bodies c.kind d.config.kind s.kinds (ap (λ (y : Config). y.kind) x)

  most_same : Extends c Deadline d
      → most_deadline d.config.version (get_or d.config.kind d.index 0)
      ≡ most_deadline c.version (get_or c.kind d.index 0)
  most_same x =
      rw (field_same max_bodies c.kind d.config.kind s.kinds (ap (λ (y : Config). y.kind) x))
      (rw (ap (λ (y : Config). y.version) x))

  period_same : Extends c Offset d → get_or d.config.period d.index 0 ≡ get_or c.period d.index 0
  period_same x = field_same max_tables c.period d.config.period s.periods (ap (λ (y : Config). y.period) x)

  module _ (x : Extends c Priority d) where
    priority_padded : d.config.priority ≡ padded max_bodies d.index c.priority
    priority_padded = ap (λ (y : Config). y.priority) x

    priority_same : (j : ℕ) → j < d.index → get_or d.config.priority j 0 ≡ priority_of c j
    priority_same j h = rw priority_padded (get_d_padded max_bodies c.priority s.priorities d.index j h)

    priority_long : d.index ≤ max_bodies → d.index ≤ length d.config.priority
    priority_long h = rw (priority_padded, length_padded max_bodies c.priority s.priorities d.index) h

  timed_user_same : Extends c Users d → (m : ℕ) → timed_user d.config m ≡ timed_user c m
  timed_user_same x m = rw x (ap (timed_in m) (take_padded max_bodies c.kind s.kinds c.bodies))

  -- the entry's own task, and where the entries of its table begin
  abbrev own : ℕ
  own = get_or c.task d.entry 0

  abbrev first : ℕ
  first = first_of c d.index

  module _ (x : Extends c Task d) where
    task_same : (v : ℕ) → is_task d.config v ≡ is_task c v
    task_same v =
        rw x (by_lt v c.bodies
        (λ h. rw (get_d_padded max_bodies c.kind s.kinds c.bodies v h))
        (λ h. rw (le-ltb v c.bodies h)))

    timed_same : (v : ℕ) → is_timed d.config v ≡ is_timed c v
    timed_same v =
        rw x (by_lt v c.bodies
        (λ h. rw (get_d_padded max_bodies c.kind s.kinds c.bodies v h))
        (λ h. rw (le-ltb v c.bodies h)))

    offset_until : (n : ℕ) → n ≤ d.entry → get_or d.config.offset n 0 ≡ get_or c.offset n 0
    offset_until n h =
        rw (ap (λ (y : Config). y.offset) x)
        (get_d_padded max_entries c.offset s.offsets (d.entry + 1) n (omega arith))

    task_before_lem : (n : ℕ) → n < d.entry → get_or d.config.task n 0 ≡ get_or c.task n 0
    task_before_lem n h =
        rw (ap (λ (y : Config). y.task) x) (get_d_padded max_entries c.task s.tasks d.entry n h)

    timed_before : (n : ℕ) → n < d.entry → is_timed d.config (get_or d.config.task n 0) ≡ timed_entry c n
    timed_before n h = timed_same (get_or d.config.task n 0) ∙ ap (is_timed c) (task_before_lem n h)

    entries_same : get_or d.config.entries d.index 0 ≡ get_or c.entries d.index 0
    entries_same =
        field_same max_tables c.entries d.config.entries s.counts (ap (λ (y : Config). y.entries) x)

    tasks_long : length d.config.task ≡ max_entries
    tasks_long = rw (ap (λ (y : Config). y.task) x) (length_padded max_entries c.task s.tasks d.entry)

    module _ (p : Place Task c d) where
      first_entry_lem : d.entry ≡ first → first_entry d ≡ true
      first_entry_lem e =
          eq-eqb (d.entry + get_or d.config.entries d.index 0) d.until (rw entries_same (omega arith))

      later_entry : first < d.entry → first_entry d ≡ false
      later_entry h =
          ne_eqb (d.entry + get_or d.config.entries d.index 0) d.until (rw entries_same (omega arith))

      -- the entry's tests, with its own task
      sorted_later : first < d.entry → sorted d own ≡ rises_at c d.entry
      sorted_later h =
          rw (later_entry h, offset_until (d.entry - 1) (omega arith), task_before_lem (d.entry - 1) (omega arith))
          (rw (offset_until d.entry (omega arith)))

      shares_later : first < d.entry → shares_offset d own ≡ shares_at c d.entry
      shares_later h =
          rw (later_entry h, offset_until (d.entry - 1) (omega arith), offset_until d.entry (omega arith))
          (rw (timed_before (d.entry - 1) (omega arith), timed_same own))

      mixes_later : first < d.entry → mixes d own ≡ mixes_at c d.entry
      mixes_later h = rw (later_entry h, timed_before (d.entry - 1) (omega arith), timed_same own)

      -- the tasks of the tables before are those before the table's first entry
      before_same : tasks_before d ≡ take first d.config.task
      before_same = ap (λ (n : ℕ). take n d.config.task) begins
        where
          begins : d.until - get_or d.config.entries d.index 0 ≡ first
          begins = rw entries_same (omega arith)

      second_none : second_table d own ≡ false → FirstTimed c d.index d.entry
      second_none e t n h =
          let q : some_timed d.config (tasks_before d) ≡ false = rw (timed_same own ∙ t) at e in
          sym (timed_before n (omega arith))
          ∙ some_none d.config first d.config.task (omega (arith, tasks_long)) (rw before_same at q) n h

      none_second : FirstTimed c d.index d.entry → second_table d own ≡ false
      none_second f =
          by_test (timed_entry c d.entry)
          (λ t. rw (timed_same own ∙ t, before_same)
          (none_some d.config first d.config.task (omega (arith, tasks_long)) (before t)))
          (λ t. rw (timed_same own ∙ t))
        where
          before : timed_entry c d.entry ≡ true → (n : ℕ) → n < first
              → is_timed d.config (get_or d.config.task n 0) ≡ false
          before t n h = timed_before n (omega arith) ∙ f t n h

  pub fits : (f : Field) → Extends c f d → Place f c d → InRange f d (asked_at f c d) → Fits f c d.index d.entry
  unfolding asked_at
  fits Version x p h = h
  fits Bodies x p h = h
  fits Kind x p h = h
  fits Priority x p h = (h.0, h.1, λ a q e. unused a q (priority_same x a q ∙ e))
    where
      unused : (j : ℕ) → j < d.index → get_or d.config.priority j 0 ≡ priority_of c d.index → ⊥
      unused =
          among_none (priority_of c d.index) d.index d.config.priority (priority_long x (omega arith)) h.2
  fits Autostart x p h =
      autostart_most (get_or c.kind d.index 0) (get_or c.autostart d.index 0) (rw (kind_same x) at h)
  fits Deadline x p h =
      deadline_most c.version (get_or c.kind d.index 0) (deadline_of c d.index) (rw (most_same x) at h)
  fits Resources x p h = h
  fits Users x p h = (
    h.0,
    rw (ap (λ (y : Config). y.bodies) x) at h.1,
    timed_user_none c d.index p.1 (sym (timed_user_same x (get_or c.users d.index 0)) ∙ h.2),
  )
  fits Tables x p h = h
  fits Period x p h = h
  fits Entries x p h = omega arith
  fits Offset x p h = rw (period_same x) at h
  fits Task x p h =
      let n = neither (mixes d own) (second_table d own) h.3 in (
        sym (task_same x own) ∙ h.0,
        λ q. sym (sorted_later x p q) ∙ h.1,
        λ q. sym (shares_later x p q) ∙ h.2,
        λ q. sym (mixes_later x p q) ∙ n.0,
        second_none x p n.1,
      )
  fits End x p h = tt

  pub fits_back : (f : Field) → Extends c f d → Place f c d → Fits f c d.index d.entry
      → InRange f d (asked_at f c d)
  unfolding asked_at
  fits_back Version x p h = h
  fits_back Bodies x p h = h
  fits_back Kind x p h = h
  fits_back Priority x p h = (h.0, h.1, unused (λ a q e. h.2 a q (sym (priority_same x a q) ∙ e)))
    where
      unused : ((j : ℕ) → j < d.index → get_or d.config.priority j 0 ≡ priority_of c d.index → ⊥)
          → among (priority_of c d.index) (take d.index d.config.priority) ≡ false
      unused = none_among (priority_of c d.index) d.index d.config.priority (priority_long x (omega arith))
  fits_back Autostart x p h =
      rw (kind_same x)
      (most_autostart_lem (get_or c.kind d.index 0) (get_or c.autostart d.index 0) h.0 h.1 h.2)
  fits_back Deadline x p h =
      rw (most_same x)
      (most_deadline_lem c.version (get_or c.kind d.index 0) (deadline_of c d.index) h.0 h.1 h.2)
  fits_back Resources x p h = h
  fits_back Users x p h = (
    h.0,
    rw (ap (λ (y : Config). y.bodies) x) h.1,
    timed_user_same x (get_or c.users d.index 0) ∙ none_timed_user c d.index p.1 h.2,
  )
  fits_back Tables x p h = h
  fits_back Period x p h = h
  fits_back Entries x p h = omega arith
  fits_back Offset x p h = rw (period_same x) h
  fits_back Task x p h = (
    task_same x own ∙ h.0,
    by_eq d.entry first
        (λ q. rw (first_entry_lem x p q))
        (λ q. sorted_later x p (omega arith) ∙ h.1 (omega arith)),
    by_eq d.entry first
        (λ q. rw (first_entry_lem x p q))
        (λ q. shares_later x p (omega arith) ∙ h.2 (omega arith)),
    by_eq d.entry first
        (λ q. rw (first_entry_lem x p q, none_second x p h.4))
        (λ q. rw (mixes_later x p (omega arith) ∙ h.3 (omega arith), none_second x p h.4)),
  )
  fits_back End x p h = tt

-- what is accepted fits everywhere
module _ (c : Config) (a : Accepted c) where
  -- entry e of table t
  module _ (t e : ℕ) (known : t < c.tables) (low : first_of c t ≤ e) (high : e < first_of c (suc t)) where
    like : first_of c t < e → timed_entry c (e - 1) ≡ timed_entry c e
    like q = a.timed_alone t (e - 1) e known (omega arith) (omega arith) low high

    -- both are of kind 3 or none
    apart : first_of c t < e → shares_at c e ≡ false
    apart q =
        by_test (timed_entry c e)
        (λ u. rw (ne_eqb (get_or c.offset (e - 1) 0) (get_or c.offset e 0) (differ u)))
        (λ u. rw (like q, u) (and-false (eqb (get_or c.offset (e - 1) 0) (get_or c.offset e 0))))
      where
        differ : timed_entry c e ≡ true → get_or c.offset (e - 1) 0 ≡ get_or c.offset e 0 → ⊥
        differ u = a.timed_distinct t (e - 1) e known (omega arith) (omega arith) high (like q ∙ u) u

    first_timed : FirstTimed c t e
    first_timed u n q = by_test (timed_entry c n) (λ w. absurd (in_one w)) (λ w. w)
      where
        in_one : timed_entry c n ≡ true → ⊥
        in_one w =
            let b = table_of_lem c t n q in
            let same = a.timed_in_one b.0 t n e (omega (arith, b.1)) known b.2 b.3 low high w u in
            omega (arith, b.1, same)

    task_fits : TaskFits c t e
    task_fits = (
      a.entry_task e (omega (arith, first_of_rises c (suc t) c.tables known)),
      λ q. rw (back q) at (a.entries_rise t (e - 1) known (omega arith) (omega arith)),
      apart,
      λ q. none_differ (timed_entry c e) (timed_entry c (e - 1)) (sym (like q)),
      first_timed,
    )
      where
        back : first_of c t < e → e - 1 + 1 ≡ e
        back q = omega arith

  pub accepted_fits : (f : Field) (d : Draft) → Place f c d → Fits f c d.index d.entry
  accepted_fits Version d p = (a.version_low, a.version_high)
  accepted_fits Bodies d p = (a.some_body, a.few_bodies)
  accepted_fits Kind d p = a.kind_known d.index p.1
  accepted_fits Priority d p = (
    a.priority_low d.index p.1,
    a.priority_high d.index p.1,
    λ b q. a.priorities_differ b d.index q p.1,
  )
  accepted_fits Autostart d p =
      (a.autostart_known d.index p.1, a.autostart_task d.index p.1, a.autostart_osek d.index p.1)
  accepted_fits Deadline d p =
      (a.deadline_high d.index p.1, a.deadline_task d.index p.1, a.deadline_version d.index p.1)
  accepted_fits Resources d p = a.few_resources
  accepted_fits Users d p =
      (a.some_user d.index p.1, a.users_exist d.index p.1, λ b. a.users_osek d.index b p.1)
  accepted_fits Tables d p = a.few_tables
  accepted_fits Period d p = (a.period_low d.index p.1, a.period_high d.index p.1)
  accepted_fits Entries d p = (
    a.some_entry d.index p.1,
    a.few_of_table d.index p.1,
    omega (arith, a.few_entries, first_of_step c d.index, first_of_rises c (suc d.index) c.tables p.1),
  )
  accepted_fits Offset d p =
      a.offset_in_period d.index d.entry p.1 p.0 (omega (arith, first_of_step c d.index))
  accepted_fits Task d p = task_fits d.index d.entry p.1 p.0 (omega (arith, first_of_step c d.index))
  accepted_fits End d p = tt
