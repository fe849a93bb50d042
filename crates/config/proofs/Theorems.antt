-- What the crate shows beyond its contracts. Each law stands here in full, over specs/ alone;
-- the modules it cites prove it.
--
-- In order: what every reading satisfies; where a number can't be read; which bytes decide a refusal; versions 1 and 2;
-- every accepted value, its entries, tables and bodies of kind 3; a resource's ceiling and its users; both round trips;
-- which values the writer accepts; counts that are too great; what stands past the counts; that the fuel of the
-- definitions is enough.
use Prim.Native.Nat.{ℕ, zero, suc, ◌+◌, ◌≤◌, ◌<◌}
use mathlib.Core.Path.{◌≡◌, refl, sym, ◌∙◌}
use mathlib.Core.Bool.{true, false}
use mathlib.Core.List.{List, ◌∷◌, ◌++◌}
use mathlib.Core.Logic.{◌≢◌, ◌↔◌, ◌⊎◌, inl, inr, ⊎_elim}
use native.Mathlib.Omega.{arith}
use lib.ListN.{length, get_or, take}
use borrow.Author.Tests.{le-ltb}
use Rattle.number.specs.Refusal.{none, cut, malformed}
use Rattle.number.specs.Number.{Bytes, read_number}
use Rattle.number.proofs.Cases.{by_lt}
use Rattle.config.specs.declared.Config.{Config}
use Rattle.config.specs.Refusal.{bad_version, bad_count, too_many_entries, left_over, too_long, shared_offset, mixed_table}
use Rattle.config.specs.Value.{max_bodies, max_resources, no_config, with_resources}
use Rattle.config.specs.Meaning.{isr, last_kind, is_timed, is_user, priority_of, ceiling, first_of, timed_entry, smallest_offset, execution_level, trigger_level}
use Rattle.config.specs.declared.Draft.{Draft}
use Rattle.config.specs.Draft.{ended, silent, start}
use Rattle.config.specs.Reader.{ConfigRead, accepted, refused, in_second, read_from, max_numbers, max_length, read_config}
use Rattle.config.specs.Writer.{fault_from, first_fault, bytes_from, config_bytes, write_config, wrote_config}
use Rattle.config.specs.Accepted.{Shaped, Accepted, trimmed}
use Rattle.config.specs.Decisive.{OfNumber, decisive}
use Rattle.config.proofs.Tables as Tables
use Rattle.config.proofs.Timed as Timed
use Rattle.config.proofs.Mask as Mask
use Rattle.config.proofs.Ceiling as Ceiling
use Rattle.config.proofs.Reading as Reading
use Rattle.config.proofs.FirstFault as FirstFault
use Rattle.config.proofs.RoundTrip as RoundTrip
use Rattle.config.proofs.Sound as Sound
use Rattle.config.proofs.Counts as Counts
use Rattle.config.proofs.Trimmed as Trimmed
use Rattle.config.proofs.Fuel as Fuel
use Rattle.config.proofs.Editions as Editions

-- "A refused reader returns an all-zero value with refusal and place"; "An accepted reading has refusal 0 and the place
-- after it", which is the input's end, as is that of one "cut off"; "entries past the counts are 0"
pub record ConfigReading (bs : List ℕ) (r : ConfigRead) : Type 0 where
  pub refusals : (r.refusal ≤ too_long) ⊎ ((r.refusal ≡ shared_offset) ⊎ (r.refusal ≡ mixed_table))
  pub inside : r.place ≤ length bs
  pub shaped : Shaped r.config
  pub whole : r.refusal ≡ none → r.place ≡ length bs
  pub at_end : r.refusal ≡ cut → r.place ≡ length bs
  pub zero_value : (r.refusal ≡ none → ⊥) → r.config ≡ no_config
  pub zero_past : r.config ≡ trimmed r.config

pub reading : (bs : List ℕ) → ConfigReading bs (read_config bs)
reading bs =
    let b = Reading.bounded bs in
    record {
      refusals = b.refusals;
      inside = b.inside;
      shaped = RoundTrip.shaped bs;
      whole = RoundTrip.read_place bs;
      at_end = Reading.cut_place bs;
      zero_value = b.zero_value;
      zero_past = RoundTrip.zero_past bs;
    }

-- A number that can't be read is refused with the number reader's refusal and place (document 02, A2), whichever number
-- it is and wherever it begins; so the place of every refusal 2 is that of a number at which the number reader says so
pub unreadable_there : (k : ℕ) (bs : List ℕ) (at : ℕ) (d : Draft) → ended d.field ≡ false → silent d ≡ false
    → ((read_number bs at).refusal ≡ none → ⊥)
    → read_from (suc k) bs at d ≡ refused (read_number bs at).refusal (read_number bs at).place
unreadable_there = Reading.unreadable_there

pub malformed_there : (bs : List ℕ) → (read_config bs).refusal ≡ malformed
    → (at : ℕ) × ((read_number bs at).refusal ≡ malformed) × ((read_config bs).place ≡ (read_number bs at).place)
malformed_there = Reading.malformed_there

-- "the configuration in reading order": the first number at fault decides. Whatever follows it, the refusal is the same;
-- the bytes before its place break off there, so no number of theirs is at fault
pub fault_decided : (bs cs : List ℕ) → OfNumber (read_config bs).refusal → length cs ≤ max_length
    → take (decisive bs (read_config bs)) cs ≡ take (decisive bs (read_config bs)) bs → read_config cs ≡ read_config bs
fault_decided bs cs o = FirstFault.fault_decided bs o cs

pub fault_cut_before : (bs : List ℕ) → OfNumber (read_config bs).refusal
    → read_config (take (read_config bs).place bs) ≡ refused cut (read_config bs).place
fault_cut_before = FirstFault.fault_cut_before

-- "9: the first byte left over": what stands before it is accepted, and whatever is accepted can have bytes left over
pub left_over_before : (bs : List ℕ) → (read_config bs).refusal ≡ left_over
    → (read_config (take (read_config bs).place bs)).refusal ≡ none
left_over_before = FirstFault.left_over_before

pub left_over_after : (bs : List ℕ) → (read_config bs).refusal ≡ none → (b : ℕ) (rest : List ℕ)
    → length (bs ++ b ∷ rest) ≤ max_length → read_config (bs ++ b ∷ rest) ≡ refused left_over (length bs)
left_over_after = FirstFault.left_over_after

-- "Version 1 or 2 at the head of the configuration": what stands after it is read alike, and neither has deadlines
pub versions_read : (bs : List ℕ) → read_config (2 ∷ bs) ≡ in_second (read_config (1 ∷ bs))
versions_read = Editions.versions_read

-- every field of an accepted configuration is in its range
pub accepted_ranges : (bs : List ℕ) → (read_config bs).refusal ≡ none → Accepted (read_config bs).config
accepted_ranges bs e =
    RoundTrip.faultless_accepted (read_config bs).config (RoundTrip.shaped bs) (RoundTrip.read_faultless bs e)

-- "Each has its own priority"
pub priority_inj : (c : Config) → Accepted c → (a b : ℕ) → a < c.bodies → b < c.bodies
    → priority_of c a ≡ priority_of c b → a ≡ b
priority_inj c accepted a b ha hb e =
    by_lt a b
    (λ l. absurd (accepted.priorities_differ a b l hb e))
    (λ l. by_lt b a
    (λ m. absurd (accepted.priorities_differ b a m ha (sym e)))
    (λ m. omega arith))

-- the tests that `Accepted` has of an entry, said with numbers:
-- "Entries rise by offset, then by task, none twice"; its task is one
pub entries_in_order : (c : Config) → Accepted c → (t e : ℕ)
    → t < c.tables → first_of c t ≤ e → e + 1 < first_of c (suc t)
    → (get_or c.offset e 0 < get_or c.offset (e + 1) 0)
    ⊎ ((get_or c.offset e 0 ≡ get_or c.offset (e + 1) 0) × (get_or c.task e 0 < get_or c.task (e + 1) 0))
entries_in_order c a t e p q r =
    Tables.rises_true (get_or c.offset e 0) (get_or c.task e 0) (get_or c.offset (e + 1) 0)
    (get_or c.task (e + 1) 0) (a.entries_rise t e p q r)

-- so no offset of a table is below its smallest, the first entry's
pub smallest_least : (c : Config) → Accepted c → (t e : ℕ) → t < c.tables → first_of c t ≤ e → e < first_of c (suc t)
    → smallest_offset c t ≤ get_or c.offset e 0
smallest_least c a t e t< low high =
    Timed.no_fall c t (λ n. a.entries_rise t n t<) (first_of c t) e (omega arith) low high

-- and it is the offset of one of its entries
pub smallest_reached : (c : Config) → Accepted c → (t : ℕ) → t < c.tables
    → (e : ℕ) × (first_of c t ≤ e) × (e < first_of c (suc t)) × (get_or c.offset e 0 ≡ smallest_offset c t)
smallest_reached c a t t< =
    let some : 1 ≤ get_or c.entries t 0 = a.some_entry t t< in
    (first_of c t, omega arith, omega (arith, Tables.first_of_step c t), refl)

pub entry_of_task : (c : Config) → Accepted c → (e : ℕ) → e < first_of c c.tables
    → (get_or c.task e 0 < c.bodies)
    × ((get_or c.kind (get_or c.task e 0) 0 ≡ 0)
    ⊎ ((get_or c.kind (get_or c.task e 0) 0 ≡ 2) ⊎ (get_or c.kind (get_or c.task e 0) 0 ≡ 3)))
entry_of_task c a e h =
    let p = Tables.is_task_true c (get_or c.task e 0) (a.entry_task e h) in
    (p.0, task_kind (get_or c.kind (get_or c.task e 0) 0) (a.kind_known (get_or c.task e 0) p.0) p.1)
  where
    task_kind : (k : ℕ) → k ≤ last_kind → (k ≡ isr → ⊥) → (k ≡ 0) ⊎ ((k ≡ 2) ⊎ (k ≡ 3))
    task_kind zero l n = inl refl
    task_kind (suc zero) l n = absurd (n refl)
    task_kind (suc (suc zero)) l n = inr (inl refl)
    task_kind (suc (suc (suc zero))) l n = inr (inr refl)
    task_kind (suc (suc (suc (suc k)))) l n = absurd (omega arith)

-- "One table at most has kind 3 entries, and only those": the tables of two such entries are one, and it has no other
pub timed_one_table : (c : Config) → Accepted c → (t t' e e' : ℕ)
    → e < first_of c c.tables → e' < first_of c c.tables
    → first_of c t ≤ e → e < first_of c (suc t) → first_of c t' ≤ e' → e' < first_of c (suc t')
    → timed_entry c e ≡ true → timed_entry c e' ≡ true → t ≡ t'
timed_one_table c a t t' e e' h h' low high low' high' =
    a.timed_in_one t t' e e' (Tables.table_there c t e h low) (Tables.table_there c t' e' h' low') low high low' high'

pub timed_only_those : (c : Config) → Accepted c → (t e e' : ℕ) → t < c.tables
    → first_of c t ≤ e → e < first_of c (suc t) → first_of c t ≤ e' → e' < first_of c (suc t)
    → timed_entry c e ≡ true → timed_entry c e' ≡ true
timed_only_those c a t e e' t< low high low' high' k = sym (a.timed_alone t e e' t< low high low' high') ∙ k

-- "with distinct offsets": they rise, for "Entries rise by offset"
pub timed_offsets_differ : (c : Config) → Accepted c → (t e e' : ℕ) → t < c.tables
    → first_of c t ≤ e → e < e' → e' < first_of c (suc t)
    → timed_entry c e ≡ true → timed_entry c e' ≡ true → get_or c.offset e 0 < get_or c.offset e' 0
timed_offsets_differ c a t e e' t< low less high k k' =
    let apart = a.timed_distinct t e e' t< low less high k k' in
    let up = Timed.no_fall c t (λ n. a.entries_rise t n t<) e e' low (omega arith) high in
    omega (arith, apart, up)

-- no mask has a bit for a body of kind 3, and none is autostart
pub timed_no_user : (c : Config) → Accepted c → (r b : ℕ) → is_timed c b ≡ true → is_user c r b ≡ false
timed_no_user c a r b k =
    by_lt r c.resources
    (λ h. a.users_osek r b h k)
    (λ h. rw (le-ltb r c.resources h))

pub timed_no_autostart : (c : Config) → Accepted c → (b : ℕ) → is_timed c b ≡ true → get_or c.autostart b 0 ≡ 0
timed_no_autostart c a b k = let p = Mask.is_timed_true c b k in a.autostart_osek b p.0 p.1

-- "runs at one common execution level 201; the trigger level is 202"
pub timed_levels : (execution_level ≡ 201) × (trigger_level ≡ 202)
timed_levels = (refl, refl)

-- "its ceiling is the greatest priority among" its users: none is above it, and one has it
pub user_ceiling : (c : Config) → Accepted c → Shaped c → (r b : ℕ) → b < c.bodies → is_user c r b ≡ true
    → priority_of c b ≤ ceiling c r
user_ceiling = Ceiling.user_le

pub ceiling_reached : (c : Config) → Accepted c → Shaped c → (r : ℕ) → r < c.resources
    → (b : ℕ) × (b < c.bodies) × (is_user c r b ≡ true) × (priority_of c b ≡ ceiling c r)
ceiling_reached = Ceiling.ceiling_reached

-- what is written reads back the same, as far as the counts reach
pub read_written : (c : Config) → Shaped c → first_fault c ≡ none
    → read_config (config_bytes c) ≡ accepted (trimmed c) (length (config_bytes c))
read_written = RoundTrip.read_written

-- whatever the reader accepts, the writer accepts, and writes it back to the same bytes
pub written_read : (bs : List ℕ) → Bytes bs → (read_config bs).refusal ≡ none
    → (first_fault (read_config bs).config ≡ none) × (config_bytes (read_config bs).config ≡ bs)
written_read bs b e = (RoundTrip.read_faultless bs e, RoundTrip.written_read bs e b)

-- at most 292 numbers of "1 to 5 groups"
pub length_config_bytes : (c : Config) → length (config_bytes c) ≤ 1460
length_config_bytes = RoundTrip.few_bytes

-- the bytes of a value without a fault are bytes
pub config_bytes_are_bytes : (c : Config) → first_fault c ≡ none → Bytes (config_bytes c)
config_bytes_are_bytes = RoundTrip.config_bytes_are_bytes

-- the writer accepts exactly the values whose fields are in their ranges
pub writer_accepts : (c : Config) → Shaped c → (first_fault c ≡ none) ↔ Accepted c
writer_accepts c s = (RoundTrip.faultless_accepted c s, λ a. Sound.accepted_faultless c s a max_numbers)

-- "or refuse with 3 to 8", and with A10's 13 and 14
pub writer_refusals : (c : Config) → first_fault c ≢ none
    → ((bad_version ≤ first_fault c) × (first_fault c ≤ too_many_entries))
    ⊎ ((first_fault c ≡ shared_offset) ⊎ (first_fault c ≡ mixed_table))
writer_refusals c d = ⊎_elim (λ z. absurd (d z)) (λ h. h) (Reading.first_tested max_numbers c start)

-- a count that is too great is the first fault:
-- of the bodies, and of the resources where the value without them has none
pub too_many_bodies : (c : Config) → c.version ≡ 1 → max_bodies < c.bodies → first_fault c ≡ bad_count
too_many_bodies = Counts.too_many_bodies

pub too_many_resources : (c : Config) → max_resources < c.resources → first_fault (with_resources c 0) ≡ none
    → first_fault c ≡ bad_count
too_many_resources = Counts.too_many_resources

-- "entries past the counts are .. ignored by the writer":
-- values that differ only there get the same answer and leave the same output, refused ones too
pub past_ignored : (b c : Config) → Shaped b → Shaped c → trimmed b ≡ trimmed c → (n : ℕ) (d : List ℕ)
    → (write_config b n ≡ write_config c n) × (wrote_config b d ≡ wrote_config c d)
past_ignored b c sb sc e n d = (Trimmed.same_answer b c sb sc e n, Trimmed.same_output b c sb sc e d)

-- no configuration has more numbers than `max_numbers` (specs/Reader.antt): more fuel reads the same, finds the same
-- fault and, where there is none, writes the same bytes
pub read_from_enough : (bs : List ℕ) (k : ℕ) → max_numbers ≤ k → read_from k bs 0 start ≡ read_from max_numbers bs 0 start
read_from_enough = Fuel.read_from_enough

pub fault_from_enough : (c : Config) (k : ℕ) → max_numbers ≤ k → fault_from k c start ≡ first_fault c
fault_from_enough = Fuel.fault_from_enough

pub bytes_from_enough : (c : Config) (k : ℕ) → max_numbers ≤ k → first_fault c ≡ none → bytes_from k c start ≡ config_bytes c
bytes_from_enough = Fuel.bytes_from_enough
