-- The writer passes over what stands past the counts: it treats a value as it treats `trimmed` of it.
use Prim.Native.Nat.{ℕ, zero, suc, ◌<◌}
use mathlib.Core.Path.{◌≡◌, refl, sym, ap, ◌∙◌}
use mathlib.Core.List.{List, [], ◌∷◌}
use native.Mathlib.Omega.{arith}
use borrow.Author.Tests.{eq-eqb, ne_eqb}
use Rattle.number.specs.Refusal.{none}
use Rattle.number.proofs.Cases.{by_test, by_eq}
use Rattle.config.specs.declared.Config.{Config}
use Rattle.config.specs.declared.Draft.{Draft}
use Rattle.config.specs.declared.Field.{Field}
use Rattle.config.specs.declared.Field.TheVariants.{Version, Bodies, Kind, Priority, Autostart, Deadline, Resources, Users, Tables, Period, Entries, Offset, Task, End}
use Rattle.config.specs.Meaning.{first_of}
use Rattle.config.specs.Value.{max_bodies, max_resources, max_tables, max_entries}
use Rattle.config.specs.Draft.{fault, put, asked, asked_at, ended, start}
use Rattle.config.specs.Reader.{max_numbers}
use Rattle.config.specs.Writer.{fault_from, first_fault, config_bytes, write_config, wrote_config}
use Rattle.config.specs.Accepted.{Shaped, trimmed}
use Rattle.config.proofs.Filled.{get_d_padded}
use Rattle.config.proofs.Ranges.{in_range}
use Rattle.config.proofs.Walk.{InOrder, Asks, fault_end, fault_step, fault_stop, walk_bytes}
use Rattle.config.proofs.Extends.{Extends, start_extends, extends_put}
use Rattle.config.proofs.Tables.{first_of_step, first_of_rises}
use Rattle.config.proofs.Rows.{Place, place_put}
use Rattle.config.proofs.RoundTrip.{walk, walk_written, enough}

module _ (c : Config) (s : Shaped c) where
  -- an entry of a table is one of those that the counts reach
  in_tables : (d : Draft) → Place Task c d → d.entry < first_of c c.tables
  in_tables d p =
      omega (arith, first_of_step c d.index, first_of_rises c (suc d.index) c.tables p.1)

  -- where the writer walks, c and `trimmed c` have the same number
  asked_trimmed : (f : Field) (d : Draft) → Place f c d → asked_at f (trimmed c) d ≡ asked_at f c d
  unfolding asked_at trimmed
  asked_trimmed Version d p = refl
  asked_trimmed Bodies d p = refl
  asked_trimmed Kind d p = get_d_padded max_bodies c.kind s.kinds c.bodies d.index p.1
  asked_trimmed Priority d p = get_d_padded max_bodies c.priority s.priorities c.bodies d.index p.1
  asked_trimmed Autostart d p = get_d_padded max_bodies c.autostart s.autostarts c.bodies d.index p.1
  asked_trimmed Deadline d p = get_d_padded max_bodies c.deadline s.deadlines c.bodies d.index p.1
  asked_trimmed Resources d p = refl
  asked_trimmed Users d p = get_d_padded max_resources c.users s.masks c.resources d.index p.1
  asked_trimmed Tables d p = refl
  asked_trimmed Period d p = get_d_padded max_tables c.period s.periods c.tables d.index p.1
  asked_trimmed Entries d p = get_d_padded max_tables c.entries s.counts c.tables d.index p.1
  asked_trimmed Offset d p =
      get_d_padded max_entries c.offset s.offsets (first_of c c.tables) d.entry (in_tables d p)
  asked_trimmed Task d p =
      get_d_padded max_entries c.task s.tasks (first_of c c.tables) d.entry (in_tables d p)
  asked_trimmed End d p = refl

  fault_trimmed : (k : ℕ) (d : Draft) → Extends c d.field d → Place d.field c d
      → fault_from k (trimmed c) d ≡ fault_from k c d
  unfolding fault_from
  fault_trimmed zero d x p = refl
  fault_trimmed (suc k) d x p =
      let e = asked_trimmed d.field d p in
      by_test (ended d.field)
      (λ t. fault_end (suc k) (trimmed c) d t ∙ sym (fault_end (suc k) c d t))
      (λ t. by_eq (fault d (asked c d)) none
      (λ f. fault_step k (trimmed c) d (asked c d) e t f
      ∙ fault_trimmed k (put d (asked c d)) (extends_put c d s d.field t x)
      (place_put c d d.field t x (in_range d (asked c d) d.field f) p)
      ∙ sym (fault_step k c d (asked c d) refl t f))
      (λ f. fault_stop k (trimmed c) d (asked c d) e t f ∙ sym (fault_stop k c d (asked c d) refl t f)))

  asks_trimmed : (d : Draft) (vs : List ℕ) → Extends c d.field d → Place d.field c d
      → InOrder d vs → Asks c d vs → Asks (trimmed c) d vs
  asks_trimmed d [] x p o a = tt
  asks_trimmed d (v ∷ vs) x p o a = (
    asked_trimmed d.field d p ∙ a.0,
    asks_trimmed (put d v) vs
        (rw a.0 at (extends_put c d s d.field o.0 x))
        (rw a.0 at (place_put c d d.field o.0 x (rw a.0 (in_range d v d.field o.1)) p))
        o.2 a.1,
  )

  first_fault_trimmed : first_fault (trimmed c) ≡ first_fault c
  first_fault_trimmed = fault_trimmed max_numbers start (start_extends c) refl

  config_bytes_trimmed : first_fault c ≡ none → config_bytes (trimmed c) ≡ config_bytes c
  config_bytes_trimmed fine =
      let w = walk c fine in
      let a = asks_trimmed start w.numbers (start_extends c) refl w.in_order w.asks in
      walk_bytes w.numbers max_numbers (trimmed c) start (enough c fine) w.in_order a
      ∙ sym (walk_written c fine)

-- values that are the same as far as their counts reach
module _ (b c : Config) (sb : Shaped b) (sc : Shaped c) (e : trimmed b ≡ trimmed c) where
  same_fault : first_fault b ≡ first_fault c
  same_fault = sym (first_fault_trimmed b sb) ∙ ap first_fault e ∙ first_fault_trimmed c sc

  same_bytes : first_fault c ≡ none → config_bytes b ≡ config_bytes c
  same_bytes h = sym (config_bytes_trimmed b sb (same_fault ∙ h)) ∙ ap config_bytes e ∙ config_bytes_trimmed c sc h

  pub same_answer : (n : ℕ) → write_config b n ≡ write_config c n
  same_answer n =
      rw same_fault
      (by_eq (first_fault c) none
      (λ h. rw (eq-eqb (first_fault c) none h, same_bytes h))
      (λ h. rw (ne_eqb (first_fault c) none h)))

  pub same_output : (d : List ℕ) → wrote_config b d ≡ wrote_config c d
  same_output d =
      rw same_fault
      (by_eq (first_fault c) none
      (λ h. rw (eq-eqb (first_fault c) none h, same_bytes h))
      (λ h. rw (ne_eqb (first_fault c) none h)))
