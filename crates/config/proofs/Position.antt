-- Where a draft stands: inside its arrays, and at most `left` numbers before the end. A number in order keeps the first
-- and lowers the second, so that the 292 of `max_numbers` are enough.
use Prim.Native.Nat.{ℕ, zero, suc, ◌+◌, ◌*◌, ◌-◌, ◌≤◌, ◌<◌}
use mathlib.Core.Path.{◌≡◌, refl, ap, ◌∙◌}
use mathlib.Core.Bool.{false, not, ◌&&◌, true≢false}
use mathlib.Core.List.{List, [], ◌∷◌}
use native.Mathlib.Omega.{arith}
use lib.Dec.{eqb}
use lib.ListN.{get_or, set}
use lib.Pow.{pow_mono}
use borrow.Author.Tests.{eq-eqb, ne_eqb}
use Rattle.number.specs.Refusal.{none}
use Rattle.number.specs.Number.{number_bound}
use Rattle.number.proofs.Cases.{by_eq, cond_either}
use Rattle.config.specs.declared.Draft.{Draft}
use Rattle.config.specs.declared.Field.{Field}
use Rattle.config.specs.declared.Field.TheVariants.{Version, Bodies, Kind, Priority, Autostart, Deadline, Resources, Users, Tables, Period, Entries, Offset, Task, End}
use Rattle.config.specs.Value.{max_bodies, max_resources, max_tables, max_entries}
use Rattle.config.specs.Meaning.{isr, has_deadlines}
use Rattle.config.specs.Draft.{startable, most_autostart, most_deadline, fault, put, put_at, ended, start, Inside, Within}
use Rattle.config.proofs.Filled.{get_d_zeros}
use Rattle.config.proofs.Tables.{is_task_true}
use Rattle.config.proofs.Ranges.{InRange, in_range}

-- `Within` of a draft at the field f, for proofs by cases on the field
pub record Standing (f : Field) (d : Draft) : Type 0 where
  pub bodies_le : d.config.bodies ≤ max_bodies
  pub resources_le : d.config.resources ≤ max_resources
  pub tables_le : d.config.tables ≤ max_tables
  pub entry_le : d.entry ≤ d.until
  pub until_le : d.until ≤ max_entries
  pub inside : Inside f d

pub standing : (d : Draft) → Within d → Standing d.field d
standing d w =
    record {
      bodies_le = w.bodies_le;
      resources_le = w.resources_le;
      tables_le = w.tables_le;
      entry_le = w.entry_le;
      until_le = w.until_le;
      inside = w.inside;
    }

within : (d : Draft) → Standing d.field d → Within d
within d s =
    record {
      bodies_le = s.bodies_le;
      resources_le = s.resources_le;
      tables_le = s.tables_le;
      entry_le = s.entry_le;
      until_le = s.until_le;
      inside = s.inside;
    }

-- the most numbers that are still to come, this one included
abbrev left_at : Field → Draft → ℕ
left_at Version d = 164 + 2 * (64 - d.entry)
left_at Bodies d = 163 + 2 * (64 - d.entry)
left_at Kind d = 4 * (32 - d.index) + 34 + 2 * (64 - d.entry)
left_at Priority d = 4 * (32 - d.index) + 33 + 2 * (64 - d.entry)
left_at Autostart d = 4 * (32 - d.index) + 32 + 2 * (64 - d.entry)
left_at Deadline d = 4 * (32 - d.index) + 31 + 2 * (64 - d.entry)
left_at Resources d = 34 + 2 * (64 - d.entry)
left_at Users d = (16 - d.index) + 17 + 2 * (64 - d.entry)
left_at Tables d = 17 + 2 * (64 - d.entry)
left_at Period d = 2 * (8 - d.index) + 2 * (64 - d.entry)
left_at Entries d = 2 * (7 - d.index) + 1 + 2 * (64 - d.entry)
left_at Offset d = 2 * (7 - d.index) + 2 * (64 - d.entry)
left_at Task d = 2 * (7 - d.index) + 1 + 2 * (63 - d.entry)
left_at End d = 0

abbrev pub left : Draft → ℕ
left d = left_at d.field d

-- it depends on the position alone
left_at_lem : (f : Field) (d e : Draft) → d.index ≡ e.index → d.entry ≡ e.entry → left_at f d ≡ left_at f e
left_at_lem Version d e i n = rw n
left_at_lem Bodies d e i n = rw n
left_at_lem Kind d e i n = rw (i, n)
left_at_lem Priority d e i n = rw (i, n)
left_at_lem Autostart d e i n = rw (i, n)
left_at_lem Deadline d e i n = rw (i, n)
left_at_lem Resources d e i n = rw n
left_at_lem Users d e i n = rw (i, n)
left_at_lem Tables d e i n = rw n
left_at_lem Period d e i n = rw (i, n)
left_at_lem Entries d e i n = rw (i, n)
left_at_lem Offset d e i n = rw (i, n)
left_at_lem Task d e i n = rw (i, n)
left_at_lem End d e i n = refl

pub left_same : (d e : Draft) → d.field ≡ e.field → d.index ≡ e.index → d.entry ≡ e.entry → left d ≡ left e
left_same d e f i n = ap (λ (g : Field). left_at g d) f ∙ left_at_lem e.field d e i n

record MovedAt (f : Field) (d : Draft) (f' : Field) (d' : Draft) : Type 0 where
  standing : Standing f' d'
  fewer : left_at f' d' < left_at f d

-- what a number in order makes of a draft within its arrays
pub record Moved (d d' : Draft) : Type 0 where
  pub within : Within d'
  pub fewer : left d' < left d

pub start_within : Within start
unfolding Inside
start_within = omega arith

-- no period is over 65,535
abbrev pub Paced : Draft → Type 0
Paced d = (t : ℕ) → get_or d.config.period t 0 ≤ 65535

get_d_set_le : (l : List ℕ) (i v k t : ℕ) → v ≤ k → get_or l t 0 ≤ k → get_or (set l i v) t 0 ≤ k
get_d_set_le [] i v k t h p = p
get_d_set_le (x ∷ xs) zero v k zero h p = h
get_d_set_le (x ∷ xs) zero v k (suc t) h p = p
get_d_set_le (x ∷ xs) (suc i) v k zero h p = p
get_d_set_le (x ∷ xs) (suc i) v k (suc t) h p = get_d_set_le xs i v k t h p

pub start_paced : Paced start
start_paced t = rw (get_d_zeros max_tables t) (omega arith)

pub most_le : (k : ℕ) → most_autostart k ≤ 1
most_le k = cond_either (λ n. n ≤ 1) (startable k) 1 0 (omega arith) (omega arith)

pub most_deadline_le : (version k : ℕ) → most_deadline version k ≤ 65535
most_deadline_le version k =
    cond_either (λ n. n ≤ 65535) (has_deadlines version && not (eqb k isr)) 65535 0 (omega arith) (omega arith)

-- a number in order, put
module _ (d : Draft) (v : ℕ) where
  moved_at : (f : Field) → ended f ≡ false → Standing f d → InRange f d v
      → MovedAt f d (put_at f d v).field (put_at f d v)
  unfolding put_at ended Inside
  moved_at Version e s h = omega arith
  moved_at Bodies e s h = omega arith
  moved_at Kind e s h = omega arith
  moved_at Priority e s h = omega arith
  moved_at Autostart e s h = omega arith
  moved_at Deadline e s h =
      by_eq (d.index + 1) d.config.bodies
      (λ p. rw (eq-eqb (d.index + 1) d.config.bodies p) (omega arith))
      (λ p. rw (ne_eqb (d.index + 1) d.config.bodies p) (omega arith))
  moved_at Resources e s h =
      by_eq 0 v
      (λ p. rw (eq-eqb 0 v p) (omega arith))
      (λ p. rw (ne_eqb 0 v p) (omega arith))
  moved_at Users e s h =
      by_eq (d.index + 1) d.config.resources
      (λ p. rw (eq-eqb (d.index + 1) d.config.resources p) (omega arith))
      (λ p. rw (ne_eqb (d.index + 1) d.config.resources p) (omega arith))
  moved_at Tables e s h =
      by_eq 0 v
      (λ p. rw (eq-eqb 0 v p) (omega arith))
      (λ p. rw (ne_eqb 0 v p) (omega arith))
  moved_at Period e s h = omega arith
  moved_at Entries e s h = omega arith
  moved_at Offset e s h = omega arith
  moved_at Task e s h =
      by_eq (d.entry + 1) d.until
      (λ p. rw (eq-eqb (d.entry + 1) d.until p)
      (by_eq (d.index + 1) d.config.tables
      (λ q. rw (eq-eqb (d.index + 1) d.config.tables q) (omega arith))
      (λ q. rw (ne_eqb (d.index + 1) d.config.tables q) (omega arith))))
      (λ p. rw (ne_eqb (d.entry + 1) d.until p) (omega arith))
  moved_at End e s h = absurd (true≢false e)

  pub moved : ended d.field ≡ false → fault d v ≡ none → Within d → Moved d (put d v)
  moved t e w =
      let m = moved_at d.field t (standing d w) (in_range d v d.field e) in
      record { within = within (put d v) m.standing; fewer = m.fewer }

  paced_at : (f : Field) → InRange f d v → Paced d → Paced (put_at f d v)
  unfolding put_at
  paced_at Version h p = p
  paced_at Bodies h p = p
  paced_at Kind h p = p
  paced_at Priority h p = p
  paced_at Autostart h p = p
  paced_at Deadline h p = p
  paced_at Resources h p = p
  paced_at Users h p = p
  paced_at Tables h p = p
  paced_at Period h p = λ t. get_d_set_le d.config.period d.index v 65535 t h.1 (p t)
  paced_at Entries h p = p
  paced_at Offset h p = p
  paced_at Task h p = p
  paced_at End h p = p

  pub paced : fault d v ≡ none → Paced d → Paced (put d v)
  paced e = paced_at d.field (in_range d v d.field e)

  -- a number in order is a number of the format
  small_at : (f : Field) → ended f ≡ false → Standing f d → Paced d → InRange f d v → v < number_bound
  unfolding ended
  small_at Version e s p h = omega arith
  small_at Bodies e s p h = omega arith
  small_at Kind e s p h = omega arith
  small_at Priority e s p h = omega arith
  small_at Autostart e s p h = omega (arith, most_le (get_or d.config.kind d.index 0))
  small_at Deadline e s p h =
      omega (arith, most_deadline_le d.config.version (get_or d.config.kind d.index 0))
  small_at Resources e s p h = omega arith
  small_at Users e s p h = let q = pow_mono s.bodies_le in omega arith
  small_at Tables e s p h = omega arith
  small_at Period e s p h = omega arith
  small_at Entries e s p h = omega arith
  small_at Offset e s p h = omega (arith, p d.index)
  small_at Task e s p h = omega (arith, (is_task_true d.config v h.0).0)
  small_at End e s p h = absurd (true≢false e)

  pub small : ended d.field ≡ false → fault d v ≡ none → Within d → Paced d → v < number_bound
  small t e w p = small_at d.field t (standing d w) p (in_range d v d.field e)

-- before the end there is a number to come
some_left_at : (f : Field) (d : Draft) → ended f ≡ false → Standing f d → 0 < left_at f d
unfolding ended Inside
some_left_at Version d e s = omega arith
some_left_at Bodies d e s = omega arith
some_left_at Kind d e s = omega arith
some_left_at Priority d e s = omega arith
some_left_at Autostart d e s = omega arith
some_left_at Deadline d e s = omega arith
some_left_at Resources d e s = omega arith
some_left_at Users d e s = omega arith
some_left_at Tables d e s = omega arith
some_left_at Period d e s = omega arith
some_left_at Entries d e s = omega arith
some_left_at Offset d e s = omega arith
some_left_at Task d e s = omega arith
some_left_at End d e s = absurd (true≢false e)

pub some_left : (d : Draft) → ended d.field ≡ false → Within d → 0 < left d
some_left d t w = some_left_at d.field d t (standing d w)
