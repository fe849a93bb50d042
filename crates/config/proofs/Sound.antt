-- The writer accepts exactly the values that are `Accepted`.
--
--   SoFar f c i e  every field of c before the field f of row i and entry e is in range
--
-- A number in order takes it on by one field (`so_far_put`); at the end it is `Accepted`.
use Prim.Native.Nat.{ℕ, zero, suc, ◌+◌, ◌-◌, ◌≤◌, ◌<◌}
use mathlib.Core.Path.{◌≡◌, refl, sym, ap, subst, ◌∙◌}
use mathlib.Core.Bool.{true, false, true≢false}
use mathlib.Core.List.{List, [], ◌∷◌}
use native.Mathlib.Omega.{arith}
use lib.ListN.{get_or}
use borrow.Author.Tests.{eq-eqb, ne_eqb}
use Rattle.number.specs.Refusal.{none}
use Rattle.number.proofs.Cases.{by_test, by_lt, by_eq}
use Rattle.config.specs.declared.Config.{Config}
use Rattle.config.specs.declared.Draft.{Draft}
use Rattle.config.specs.declared.Field.{Field}
use Rattle.config.specs.declared.Field.TheVariants.{Version, Bodies, Kind, Priority, Autostart, Deadline, Resources, Users, Tables, Period, Entries, Offset, Task, End}
use Rattle.config.specs.Meaning.{is_task, first_of, timed_entry}
use Rattle.config.specs.Value.{newest_version, max_bodies, max_resources, max_tables, max_entries}
use Rattle.config.specs.Draft.{rises, put, put_at, asked, asked_at, ended, start}
use Rattle.config.specs.Accepted.{Shaped, Accepted, trimmed}
use Rattle.config.specs.Writer.{fault_from}
use Rattle.config.proofs.Ranges.{InRange, in_range, no_fault}
use Rattle.config.proofs.Walk.{InOrder, Asks, last, fault_end, fault_step}
use Rattle.config.proofs.Extends.{Extends, onward, start_extends, extends_put}
use Rattle.config.proofs.Tables.{first_of_step, first_of_zero, first_of_rises, one_table}
use Rattle.config.proofs.Rows.{Place, place_put, Fits, KindFits, PriorityFits, AutostartFits, DeadlineFits, UsersFit, PeriodFits, EntriesFit, OffsetFits, TaskFits, rises_at, shares_at, mixes_at, FirstTimed, fits, fits_back, accepted_fits}
use Rattle.config.proofs.Timed as Timed

-- P of each number below n
abbrev Upto : ℕ → (ℕ → Type 0) → Type 0
Upto n P = (b : ℕ) → b < n → P b

upto_zero : (P : ℕ → Type 0) → Upto 0 P
upto_zero P b h = absurd (omega arith)

upto_one : (P : ℕ → Type 0) (n : ℕ) → Upto n P → P n → Upto (n + 1) P
upto_one P n all one b h = by_eq b n (λ e. rw e one) (λ e. all b (omega arith))

record BodyFits (c : Config) (b : ℕ) : Type 0 where
  kind : KindFits c b
  priority : PriorityFits c b
  autostart : AutostartFits c b
  deadline : DeadlineFits c b

record TableFits (c : Config) (t : ℕ) : Type 0 where
  period : PeriodFits c t
  entries : EntriesFit c t

record EntryFits (c : Config) (e : ℕ) : Type 0 where
  task : is_task c (get_or c.task e 0) ≡ true
  offset : (t : ℕ) → t < c.tables → first_of c t ≤ e → e < first_of c (suc t) → OffsetFits c t e
  rising : (t : ℕ) → t < c.tables → first_of c t < e → e < first_of c (suc t) → rises_at c e ≡ true
  apart : (t : ℕ) → t < c.tables → first_of c t < e → e < first_of c (suc t) → shares_at c e ≡ false
  alike : (t : ℕ) → t < c.tables → first_of c t < e → e < first_of c (suc t) → mixes_at c e ≡ false
  first_timed : (t : ℕ) → t < c.tables → first_of c t ≤ e → e < first_of c (suc t) → FirstTimed c t e

record Head (c : Config) : Type 0 where
  version : (1 ≤ c.version) × (c.version ≤ newest_version)
  some_body : 1 ≤ c.bodies
  few_bodies : c.bodies ≤ max_bodies

-- the bodies before b, the resources before r, the tables before t with the entries before e
record BodiesFit (c : Config) (b : ℕ) : Type 0 where
  head : Head c
  each : Upto b (BodyFits c)

record ResourcesFit (c : Config) (r : ℕ) : Type 0 where
  bodies : BodiesFit c c.bodies
  few : c.resources ≤ max_resources
  each : Upto r (UsersFit c)

record TablesFit (c : Config) (t e : ℕ) : Type 0 where
  resources : ResourcesFit c c.resources
  few : c.tables ≤ max_tables
  each : Upto t (TableFits c)
  entries : Upto e (EntryFits c)

abbrev SoFar : Field → Config → ℕ → ℕ → Type 0
SoFar Version c i e = Unit {0}
SoFar Bodies c i e = (1 ≤ c.version) × (c.version ≤ newest_version)
SoFar Kind c i e = BodiesFit c i
SoFar Priority c i e = BodiesFit c i × KindFits c i
SoFar Autostart c i e = BodiesFit c i × KindFits c i × PriorityFits c i
SoFar Deadline c i e = BodiesFit c i × KindFits c i × PriorityFits c i × AutostartFits c i
SoFar Resources c i e = BodiesFit c c.bodies
SoFar Users c i e = ResourcesFit c i
SoFar Tables c i e = ResourcesFit c c.resources
SoFar Period c i e = TablesFit c i e
SoFar Entries c i e = TablesFit c i e × PeriodFits c i
SoFar Offset c i e = TablesFit c i e × TableFits c i
SoFar Task c i e = TablesFit c i e × TableFits c i × OffsetFits c i e
SoFar End c i e = TablesFit c c.tables e

-- a row more
one_body : (c : Config) (i : ℕ) → BodiesFit c i → BodyFits c i → BodiesFit c (i + 1)
one_body c i all b = record { head = all.head; each = upto_one (BodyFits c) i all.each b }

one_resource : (c : Config) (i : ℕ) → ResourcesFit c i → UsersFit c i → ResourcesFit c (i + 1)
one_resource c i all u = record { bodies = all.bodies; few = all.few; each = upto_one (UsersFit c) i all.each u }

one_entry : (c : Config) (i : ℕ) (d : Draft) → Place Task c d → TablesFit c i d.entry
    → OffsetFits c d.index d.entry → TaskFits c d.index d.entry → TablesFit c i (d.entry + 1)
one_entry c i d p all o k =
    record {
      resources = all.resources;
      few = all.few;
      each = all.each;
      entries =
          upto_one (EntryFits c) d.entry all.entries
          (record {
            task = k.0;
            offset = λ t _ q r. rw (table t q r) o;
            rising = λ t _ q r. k.1 (rw (sym (table t (omega arith) r)) q);
            apart = λ t _ q r. k.2 (rw (sym (table t (omega arith) r)) q);
            alike = λ t _ q r. k.3 (rw (sym (table t (omega arith) r)) q);
            first_timed = λ t _ q r. rw (table t q r) k.4;
          });
    }
  where
    table : (t : ℕ) → first_of c t ≤ d.entry → d.entry < first_of c (suc t) → t ≡ d.index
    table t q r = one_table c t d.index d.entry q r p.0 (omega (arith, first_of_step c d.index))

one_of_tables : (c : Config) (i e : ℕ) → TablesFit c i e → TableFits c i → TablesFit c (i + 1) e
one_of_tables c i e all t =
    record {
      resources = all.resources;
      few = all.few;
      each = upto_one (TableFits c) i all.each t;
      entries = all.entries;
    }

module _ (c : Config) (d : Draft) where
  so_far_put : (f : Field) → ended f ≡ false → Extends c f d → Place f c d → Fits f c d.index d.entry
      → SoFar f c d.index d.entry
      → SoFar (onward c f d).field c (onward c f d).index (onward c f d).entry
  unfolding put_at asked_at ended
  so_far_put Version t x p h s = h
  so_far_put Bodies t x p h s =
      record {
        head = record { version = s; some_body = h.0; few_bodies = h.1 };
        each = upto_zero (BodyFits c);
      }
  so_far_put Kind t x p h s = (s, h)
  so_far_put Priority t x p h s = (s.0, s.1, h)
  so_far_put Autostart t x p h s = (s.0, s.1, s.2, h)
  so_far_put Deadline t x p h s = rw (ap (λ (y : Config). y.bodies) x)
      (let n =
      one_body c d.index s.0 (record { kind = s.1; priority = s.2; autostart = s.3; deadline = h }) in
      by_eq (d.index + 1) c.bodies
      (λ q. rw (eq-eqb (d.index + 1) c.bodies q) (rw q at n))
      (λ q. rw (ne_eqb (d.index + 1) c.bodies q) n))
  so_far_put Resources t x p h s =
      let n : ResourcesFit c 0 = record { bodies = s; few = h; each = upto_zero (UsersFit c) } in
      by_eq 0 c.resources
      (λ q. rw (eq-eqb 0 c.resources q) (subst (ResourcesFit c) q n))
      (λ q. rw (ne_eqb 0 c.resources q) n)
  so_far_put Users t x p h s = rw (ap (λ (y : Config). y.resources) x)
      (let n = one_resource c d.index s h in
      by_eq (d.index + 1) c.resources
      (λ q. rw (eq-eqb (d.index + 1) c.resources q) (rw q at n))
      (λ q. rw (ne_eqb (d.index + 1) c.resources q) n))
  so_far_put Tables t x p h s =
      by_eq 0 c.tables
      (λ q. rw (eq-eqb 0 c.tables q) (subst (λ (t : ℕ). TablesFit c t d.entry) q none_yet))
      (λ q. rw (ne_eqb 0 c.tables q) none_yet)
    where
      none_yet : TablesFit c 0 d.entry
      none_yet =
          record {
            resources = s;
            few = h;
            each = upto_zero (TableFits c);
            entries = λ e q. absurd (omega arith);
          }
  so_far_put Period t x p h s = (s, h)
  so_far_put Entries t x p h s = (s.0, record { period = s.1; entries = h })
  so_far_put Offset t x p h s = (s.0, s.1, h)
  so_far_put Task t x p h s = rw (ap (λ (y : Config). y.tables) x)
      (let n = one_entry c d.index d p s.0 s.2 h in
      let m = one_of_tables c d.index (d.entry + 1) n s.1 in
      by_eq (d.entry + 1) d.until
      (λ q. rw (eq-eqb (d.entry + 1) d.until q)
      (by_eq (d.index + 1) c.tables
      (λ r. rw (eq-eqb (d.index + 1) c.tables r) (rw r at m))
      (λ r. rw (ne_eqb (d.index + 1) c.tables r) m)))
      (λ q. rw (ne_eqb (d.entry + 1) d.until q) (n, s.1)))
  so_far_put End t x p h s = absurd (true≢false t)

at_end : (c : Config) (e : ℕ) → e ≡ first_of c c.tables → TablesFit c c.tables e → Accepted c
at_end c e p s =
    record {
      version_low = h.version.0;
      version_high = h.version.1;
      some_body = h.some_body;
      few_bodies = h.few_bodies;
      kind_known = λ b q. (bodies b q).kind;
      priority_low = λ b q. (bodies b q).priority.0;
      priority_high = λ b q. (bodies b q).priority.1;
      priorities_differ = λ a b q r. (bodies b r).priority.2 a q;
      autostart_known = λ b q. (bodies b q).autostart.0;
      autostart_task = λ b q. (bodies b q).autostart.1;
      autostart_osek = λ b q. (bodies b q).autostart.2;
      deadline_high = λ b q. (bodies b q).deadline.0;
      deadline_task = λ b q. (bodies b q).deadline.1;
      deadline_version = λ b q. (bodies b q).deadline.2;
      few_resources = s.resources.few;
      some_user = λ r q. (s.resources.each r q).0;
      users_exist = λ r q. (s.resources.each r q).1;
      users_osek = λ r b q. (s.resources.each r q).2 b;
      few_tables = s.few;
      period_low = λ t q. (s.each t q).period.0;
      period_high = λ t q. (s.each t q).period.1;
      some_entry = λ t q. (s.each t q).entries.0;
      few_of_table = λ t q. (s.each t q).entries.1;
      few_entries = total c.tables (λ t q. (s.each t q).entries.2);
      offset_in_period = λ t e q r u. (s.entries e (before t e q u)).offset t q r u;
      entry_task = λ e q. (s.entries e (omega arith)).task;
      entries_rise = rise;
      timed_in_one = in_one;
      timed_alone = λ t n m q. Timed.alike c t (like t q) n m;
      timed_distinct = distinct;
    }
  where
    h : Head c
    h = s.resources.bodies.head

    bodies : Upto c.bodies (BodyFits c)
    bodies = s.resources.bodies.each

    before : (t n : ℕ) → t < c.tables → n < first_of c (suc t) → n < e
    before t n q u = omega (arith, first_of_rises c (suc t) c.tables q)

    back : (n : ℕ) → n + 1 - 1 ≡ n
    back n = omega arith

    rise : (t n : ℕ) → t < c.tables → first_of c t ≤ n → n + 1 < first_of c (suc t)
        → rises (get_or c.offset n 0) (get_or c.task n 0) (get_or c.offset (n + 1) 0) (get_or c.task (n + 1) 0)
        ≡ true
    rise t n q r u = rw (back n) at ((s.entries (n + 1) (before t (n + 1) q u)).rising t q (omega arith) u)

    like : (t : ℕ) → t < c.tables → (n : ℕ) → first_of c t ≤ n → n + 1 < first_of c (suc t)
        → timed_entry c (n + 1) ≡ timed_entry c n
    like t q n r u =
        Timed.differ_none (timed_entry c (n + 1)) (timed_entry c n)
        (rw (back n) at ((s.entries (n + 1) (before t (n + 1) q u)).alike t q (omega arith) u))

    -- an entry of a later table is not of kind 3 where one of an earlier is
    not_both : (t t' n n' : ℕ) → t < t' → t' < c.tables → n < first_of c (suc t) → first_of c t' ≤ n'
        → n' < first_of c (suc t') → timed_entry c n ≡ true → timed_entry c n' ≡ true → ⊥
    not_both t t' n n' less q' high low' high' k k' =
        let first = (s.entries n' (before t' n' q' high')).first_timed t' q' low' high' k' in
        true≢false (sym k ∙ first n (omega (arith, first_of_rises c (suc t) t' less)))

    in_one : (t t' n n' : ℕ) → t < c.tables → t' < c.tables
        → first_of c t ≤ n → n < first_of c (suc t) → first_of c t' ≤ n' → n' < first_of c (suc t')
        → timed_entry c n ≡ true → timed_entry c n' ≡ true → t ≡ t'
    in_one t t' n n' q q' low high low' high' k k' =
        by_lt t t'
        (λ less. absurd (not_both t t' n n' less q' high low' high' k k'))
        (λ le. by_lt t' t
        (λ less. absurd (not_both t' t n' n less q high' low high k' k))
        (λ ge. omega arith))

    distinct : (t n n' : ℕ) → t < c.tables → first_of c t ≤ n → n < n' → n' < first_of c (suc t)
        → timed_entry c n ≡ true → timed_entry c n' ≡ true → get_or c.offset n 0 ≡ get_or c.offset n' 0 → ⊥
    distinct t n n' q low less high k k' same =
        let p = Timed.differ c t (λ m. rise t m q) n n' low less high (λ e. true≢false (sym (shared e) ∙ apart)) in
        omega (arith, p, same)
      where
        apart : shares_at c (n + 1) ≡ false
        apart = (s.entries (n + 1) (before t (n + 1) q (omega arith))).apart t q (omega arith) (omega arith)

        shared : get_or c.offset n 0 ≡ get_or c.offset (n + 1) 0 → shares_at c (n + 1) ≡ true
        shared e = rw (back n, eq-eqb (get_or c.offset n 0) (get_or c.offset (n + 1) 0) e, k)

    total : (t : ℕ) → Upto t (λ b. first_of c b + get_or c.entries b 0 ≤ max_entries) → first_of c t ≤ max_entries
    total zero all = rw (first_of_zero c) (omega arith)
    total (suc t) all = let q = all t (omega arith) in omega (arith, first_of_step c t)

only_end : (f : Field) → ended f ≡ true → f ≡ End
unfolding ended
only_end Version t = absurd (true≢false (sym t))
only_end Bodies t = absurd (true≢false (sym t))
only_end Kind t = absurd (true≢false (sym t))
only_end Priority t = absurd (true≢false (sym t))
only_end Autostart t = absurd (true≢false (sym t))
only_end Deadline t = absurd (true≢false (sym t))
only_end Resources t = absurd (true≢false (sym t))
only_end Users t = absurd (true≢false (sym t))
only_end Tables t = absurd (true≢false (sym t))
only_end Period t = absurd (true≢false (sym t))
only_end Entries t = absurd (true≢false (sym t))
only_end Offset t = absurd (true≢false (sym t))
only_end Task t = absurd (true≢false (sym t))
only_end End t = refl

-- a draft of c's own numbers, all of them in order
record Follows (c : Config) (f : Field) (d : Draft) : Type 0 where
  extends : Extends c f d
  place : Place f c d
  so_far : SoFar f c d.index d.entry

follows_put : (f : Field) (c : Config) (d : Draft) → Shaped c → ended f ≡ false → InRange f d (asked_at f c d)
    → Follows c f d → Follows c (onward c f d).field (onward c f d)
follows_put f c d s t h w =
    record {
      extends = extends_put c d s f t w.extends;
      place = place_put c d f t w.extends h w.place;
      so_far = so_far_put c d f t w.extends w.place (fits c s d f w.extends w.place h) w.so_far;
    }

-- where it ends, the value is accepted, and the draft is the value as far as its counts reach
pub record Ends (c x : Config) : Type 0 where
  pub accepted : Accepted c
  pub same : x ≡ trimmed c

follows_end : (c : Config) (d : Draft) → Follows c End d → Ends c d.config
unfolding trimmed
follows_end c d w =
    record {
      accepted = at_end c d.entry w.place w.so_far;
      same = w.extends ∙ rw w.place;
    }

module _ (c : Config) (s : Shaped c) where
  follows_last : (d : Draft) (vs : List ℕ) → Follows c d.field d → InOrder d vs → Asks c d vs
      → Ends c (last d vs).config
  follows_last d [] w o a = follows_end c d (subst (λ (f : Field). Follows c f d) (only_end d.field o) w)
  follows_last d (v ∷ vs) w o a = follows_last (put d v) vs (rw a.0 at on) o.2 a.1
    where
      on : Follows c (onward c d.field d).field (onward c d.field d)
      on = follows_put d.field c d s o.0 (rw a.0 (in_range d v d.field o.1)) w

  pub ends : (vs : List ℕ) → InOrder start vs → Asks c start vs → Ends c (last start vs).config
  ends vs = follows_last start vs (record { extends = start_extends c; place = refl; so_far = tt })

  -- an accepted value has no fault, whatever the fuel
  module _ (a : Accepted c) where
    fine : (d : Draft) → Extends c d.field d → Place d.field c d → InRange d.field d (asked c d)
    fine d x p = fits_back c s d d.field x p (accepted_fits c a d.field d p)

    accepted_no_fault : (k : ℕ) (d : Draft) → Extends c d.field d → Place d.field c d → fault_from k c d ≡ none
    unfolding fault_from
    accepted_no_fault zero d x p = refl
    accepted_no_fault (suc k) d x p =
        by_test (ended d.field)
        (λ t. fault_end (suc k) c d t)
        (λ t. fault_step k c d (asked c d) refl t (no_fault d (asked c d) d.field (fine d x p))
        ∙ accepted_no_fault k (put d (asked c d)) (extends_put c d s d.field t x)
        (place_put c d d.field t x (fine d x p) p))

    pub accepted_faultless : (k : ℕ) → fault_from k c start ≡ none
    accepted_faultless k = accepted_no_fault k start (start_extends c) refl
