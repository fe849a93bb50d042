-- How a value and a draft agree: the draft is the value, cut off where the draft is.
--
--   filled f c i e  how many numbers of each kind come before the field f of row i and entry e
--   cut n c         c as far as the numbers n say, and zeros
--   Extends c f d   the draft d, at the field f, is c cut off there
--
-- A number of c put keeps it so (`extends_put`),
-- and whatever is put later leaves the part before it alone (`asks_last`).
use Prim.Native.Nat.{ℕ, zero, suc, ◌+◌, ◌≤◌}
use mathlib.Core.Path.{◌≡◌, refl, sym, ap, ◌∙◌}
use mathlib.Core.Bool.{false, true≢false}
use mathlib.Core.List.{List, [], ◌∷◌}
use native.Mathlib.Omega.{arith}
use lib.ListN.{length, length-set}
use lib.Seq.{get_or-set_same}
use borrow.Author.Tests.{eq-eqb, ne_eqb}
use Rattle.number.proofs.Cases.{by_eq}
use Rattle.config.specs.declared.Config.{Config}
use Rattle.config.specs.declared.Draft.{Draft}
use Rattle.config.specs.declared.Field.{Field}
use Rattle.config.specs.declared.Field.TheVariants.{Version, Bodies, Kind, Priority, Autostart, Deadline, Resources, Users, Tables, Period, Entries, Offset, Task, End}
use Rattle.config.specs.Value.{max_bodies, max_resources, max_tables, max_entries}
use Rattle.config.specs.Draft.{put, put_at, asked, asked_at, ended, start, Inside, Within}
use Rattle.config.specs.Accepted.{Shaped, padded}
use Rattle.config.proofs.Filled.{get_d_padded, set_padded, padded_padded, padded_set}
use Rattle.config.proofs.Position.{Standing, standing, moved}
use Rattle.config.proofs.Walk.{InOrder, Asks, last}

pub record Counts : Type 0 where
  pub versions : ℕ
  pub bodies : ℕ
  pub kinds : ℕ
  pub priorities : ℕ
  pub autostarts : ℕ
  pub deadlines : ℕ
  pub resources : ℕ
  pub users : ℕ
  pub tables : ℕ
  pub periods : ℕ
  pub entries : ℕ
  pub offsets : ℕ
  pub tasks : ℕ

abbrev counts : ℕ → ℕ → ℕ → ℕ → ℕ → ℕ → ℕ → ℕ → ℕ → ℕ → ℕ → ℕ → ℕ → Counts
counts v b k p a q r u t n m o w =
    record {
      versions = v;
      bodies = b;
      kinds = k;
      priorities = p;
      autostarts = a;
      deadlines = q;
      resources = r;
      users = u;
      tables = t;
      periods = n;
      entries = m;
      offsets = o;
      tasks = w;
    }

abbrev pub filled : Field → Config → ℕ → ℕ → Counts
filled Version c i e = counts 0 0 0 0 0 0 0 0 0 0 0 e e
filled Bodies c i e = counts 1 0 0 0 0 0 0 0 0 0 0 e e
filled Kind c i e = counts 1 1 i i i i 0 0 0 0 0 e e
filled Priority c i e = counts 1 1 (i + 1) i i i 0 0 0 0 0 e e
filled Autostart c i e = counts 1 1 (i + 1) (i + 1) i i 0 0 0 0 0 e e
filled Deadline c i e = counts 1 1 (i + 1) (i + 1) (i + 1) i 0 0 0 0 0 e e
filled Resources c i e = counts 1 1 c.bodies c.bodies c.bodies c.bodies 0 0 0 0 0 e e
filled Users c i e = counts 1 1 c.bodies c.bodies c.bodies c.bodies 1 i 0 0 0 e e
filled Tables c i e = counts 1 1 c.bodies c.bodies c.bodies c.bodies 1 c.resources 0 0 0 e e
filled Period c i e = counts 1 1 c.bodies c.bodies c.bodies c.bodies 1 c.resources 1 i i e e
filled Entries c i e = counts 1 1 c.bodies c.bodies c.bodies c.bodies 1 c.resources 1 (i + 1) i e e
filled Offset c i e = counts 1 1 c.bodies c.bodies c.bodies c.bodies 1 c.resources 1 (i + 1) (i + 1) e e
filled Task c i e =
    counts 1 1 c.bodies c.bodies c.bodies c.bodies 1 c.resources 1 (i + 1) (i + 1) (e + 1) e
filled End c i e =
    counts 1 1 c.bodies c.bodies c.bodies c.bodies 1 c.resources 1 c.tables c.tables e e

-- the same after the number there, whether or not its row is the last
abbrev after : Field → Config → ℕ → ℕ → Counts
after Version c i e = filled Bodies c i e
after Bodies c i e = filled Kind c 0 e
after Kind c i e = filled Priority c i e
after Priority c i e = filled Autostart c i e
after Autostart c i e = filled Deadline c i e
after Deadline c i e = filled Kind c (i + 1) e
after Resources c i e = filled Users c 0 e
after Users c i e = filled Users c (i + 1) e
after Tables c i e = filled Period c 0 e
after Period c i e = filled Entries c i e
after Entries c i e = filled Offset c i e
after Offset c i e = filled Task c i e
after Task c i e = filled Offset c i (e + 1)
after End c i e = filled End c i e

-- one number: v where it is filled, 0 where not
abbrev kept : ℕ → ℕ → ℕ
kept zero v = 0
kept (suc n) v = v

abbrev pub cut : Counts → Config → Config
cut n c =
    record {
      version = kept n.versions c.version;
      bodies = kept n.bodies c.bodies;
      kind = padded max_bodies n.kinds c.kind;
      priority = padded max_bodies n.priorities c.priority;
      autostart = padded max_bodies n.autostarts c.autostart;
      deadline = padded max_bodies n.deadlines c.deadline;
      resources = kept n.resources c.resources;
      users = padded max_resources n.users c.users;
      tables = kept n.tables c.tables;
      period = padded max_tables n.periods c.period;
      entries = padded max_tables n.entries c.entries;
      offset = padded max_entries n.offsets c.offset;
      task = padded max_entries n.tasks c.task;
    }

-- the same for the number that a draft is at, without it and with it
abbrev before : Field → Config → Draft → Counts
before f c d = filled f c d.index d.entry

abbrev past : Field → Config → Draft → Counts
past f c d = after f c d.index d.entry

abbrev pub Extends : Config → Field → Draft → Type 0
Extends c f d = d.config ≡ cut (before f c d) c

pub start_extends : (c : Config) → Extends c Version start
start_extends c = refl

-- the draft with its number of c put in its place
abbrev pub onward : Config → Field → Draft → Draft
onward c f d = put_at f d (asked_at f c d)

-- what is filled after a number, what is filled before it is filled too
record Below (n m : Counts) : Type 0 where
  versions : n.versions ≤ m.versions
  bodies : n.bodies ≤ m.bodies
  kinds : n.kinds ≤ m.kinds
  priorities : n.priorities ≤ m.priorities
  autostarts : n.autostarts ≤ m.autostarts
  deadlines : n.deadlines ≤ m.deadlines
  resources : n.resources ≤ m.resources
  users : n.users ≤ m.users
  tables : n.tables ≤ m.tables
  periods : n.periods ≤ m.periods
  entries : n.entries ≤ m.entries
  offsets : n.offsets ≤ m.offsets
  tasks : n.tasks ≤ m.tasks

grows : (f : Field) (c : Config) (i e : ℕ) → Below (filled f c i e) (after f c i e)
grows Version c i e = omega arith
grows Bodies c i e = omega arith
grows Kind c i e = omega arith
grows Priority c i e = omega arith
grows Autostart c i e = omega arith
grows Deadline c i e = omega arith
grows Resources c i e = omega arith
grows Users c i e = omega arith
grows Tables c i e = omega arith
grows Period c i e = omega arith
grows Entries c i e = omega arith
grows Offset c i e = omega arith
grows Task c i e = omega arith
grows End c i e = omega arith

kept_kept : (n m v : ℕ) → n ≤ m → kept n (kept m v) ≡ kept n v
kept_kept zero m v h = refl
kept_kept (suc n) zero v h = absurd (omega arith)
kept_kept (suc n) (suc m) v h = refl

-- what is cut twice is cut where it is shorter
cut_cut : (n m : Counts) (c : Config) → Shaped c → Below n m → cut n (cut m c) ≡ cut n c
cut_cut n m c s b =
    rw (
      kept_kept n.versions m.versions c.version b.versions,
      kept_kept n.bodies m.bodies c.bodies b.bodies,
      padded_padded max_bodies c.kind s.kinds n.kinds m.kinds b.kinds,
      padded_padded max_bodies c.priority s.priorities n.priorities m.priorities b.priorities,
      padded_padded max_bodies c.autostart s.autostarts n.autostarts m.autostarts b.autostarts,
      padded_padded max_bodies c.deadline s.deadlines n.deadlines m.deadlines b.deadlines,
      kept_kept n.resources m.resources c.resources b.resources,
      padded_padded max_resources c.users s.masks n.users m.users b.users,
      kept_kept n.tables m.tables c.tables b.tables,
      padded_padded max_tables c.period s.periods n.periods m.periods b.periods,
      padded_padded max_tables c.entries s.counts n.entries m.entries b.entries,
      padded_padded max_entries c.offset s.offsets n.offsets m.offsets b.offsets,
      padded_padded max_entries c.task s.tasks n.tasks m.tasks b.tasks,
    )

module _ (c : Config) (d : Draft) (v : ℕ) where
  -- the last row of a kind leaves as much filled as the field that follows wants
  next_filled : (f : Field) → ended f ≡ false
      → cut (past f c d) (put_at f d v).config ≡ cut (past f c d) c
      → filled (put_at f d v).field c (put_at f d v).index (put_at f d v).entry ≡ past f c d
  unfolding put_at ended
  next_filled Version t h = refl
  next_filled Bodies t h = refl
  next_filled Kind t h = refl
  next_filled Priority t h = refl
  next_filled Autostart t h = refl
  next_filled Deadline t h =
      by_eq (d.index + 1) d.config.bodies
      (λ p. rw (eq-eqb (d.index + 1) d.config.bodies p, ← ap (λ (y : Config). y.bodies) h, ← p))
      (λ p. rw (ne_eqb (d.index + 1) d.config.bodies p))
  next_filled Resources t h =
      by_eq 0 v
      (λ p. rw (eq-eqb 0 v p, ← ap (λ (y : Config). y.resources) h, ← p))
      (λ p. rw (ne_eqb 0 v p))
  next_filled Users t h =
      by_eq (d.index + 1) d.config.resources
      (λ p. rw (eq-eqb (d.index + 1) d.config.resources p, ← ap (λ (y : Config). y.resources) h, ← p))
      (λ p. rw (ne_eqb (d.index + 1) d.config.resources p))
  next_filled Tables t h =
      by_eq 0 v
      (λ p. rw (eq-eqb 0 v p, ← ap (λ (y : Config). y.tables) h, ← p))
      (λ p. rw (ne_eqb 0 v p))
  next_filled Period t h = refl
  next_filled Entries t h = refl
  next_filled Offset t h = refl
  next_filled Task t h =
      by_eq (d.entry + 1) d.until
      (λ p. rw (eq-eqb (d.entry + 1) d.until p)
      (by_eq (d.index + 1) d.config.tables
      (λ q. rw (eq-eqb (d.index + 1) d.config.tables q, ← ap (λ (y : Config). y.tables) h, ← q))
      (λ q. rw (ne_eqb (d.index + 1) d.config.tables q))))
      (λ p. rw (ne_eqb (d.entry + 1) d.until p))
  next_filled End t h = absurd (true≢false t)

module _ (c : Config) (d : Draft) (s : Shaped c) where
  put_cut : (f : Field) → Extends c f d → (onward c f d).config ≡ cut (past f c d) c
  unfolding put_at asked_at
  put_cut Version h = rw h
  put_cut Bodies h = rw h
  put_cut Kind h = rw (h, set_padded max_bodies c.kind s.kinds d.index)
  put_cut Priority h = rw (h, set_padded max_bodies c.priority s.priorities d.index)
  put_cut Autostart h = rw (h, set_padded max_bodies c.autostart s.autostarts d.index)
  put_cut Deadline h = rw (h, set_padded max_bodies c.deadline s.deadlines d.index)
  put_cut Resources h = rw h
  put_cut Users h = rw (h, set_padded max_resources c.users s.masks d.index)
  put_cut Tables h = rw h
  put_cut Period h = rw (h, set_padded max_tables c.period s.periods d.index)
  put_cut Entries h = rw (h, set_padded max_tables c.entries s.counts d.index)
  put_cut Offset h = rw (h, set_padded max_entries c.offset s.offsets d.entry)
  put_cut Task h = rw (h, set_padded max_entries c.task s.tasks d.entry)
  put_cut End h = h

  pub extends_put : (f : Field) → ended f ≡ false → Extends c f d → Extends c (onward c f d).field (onward c f d)
  extends_put f t h =
      let a = past f c d in
      let e = put_cut f h in
      let n = next_filled c d (asked_at f c d) f t (ap (cut a) e ∙ cut_cut a a c s (omega arith)) in
      e ∙ ap (λ (n : Counts). cut n c) (sym n)

  -- the number that d is at, of a value cut after it
  asked_cut : (f : Field) (x : Config) → asked_at f (cut (past f x d) c) d ≡ asked_at f c d
  unfolding asked_at
  asked_cut Version x = refl
  asked_cut Bodies x = refl
  asked_cut Kind x = get_d_padded max_bodies c.kind s.kinds (d.index + 1) d.index (omega arith)
  asked_cut Priority x = get_d_padded max_bodies c.priority s.priorities (d.index + 1) d.index (omega arith)
  asked_cut Autostart x =
      get_d_padded max_bodies c.autostart s.autostarts (d.index + 1) d.index (omega arith)
  asked_cut Deadline x = get_d_padded max_bodies c.deadline s.deadlines (d.index + 1) d.index (omega arith)
  asked_cut Resources x = refl
  asked_cut Users x = get_d_padded max_resources c.users s.masks (d.index + 1) d.index (omega arith)
  asked_cut Tables x = refl
  asked_cut Period x = get_d_padded max_tables c.period s.periods (d.index + 1) d.index (omega arith)
  asked_cut Entries x = get_d_padded max_tables c.entries s.counts (d.index + 1) d.index (omega arith)
  asked_cut Offset x = get_d_padded max_entries c.offset s.offsets (d.entry + 1) d.entry (omega arith)
  asked_cut Task x = get_d_padded max_entries c.task s.tasks (d.entry + 1) d.entry (omega arith)
  asked_cut End x = refl

-- the lengths of the arrays
abbrev Lengths : Type 0
Lengths = ℕ × ℕ × ℕ × ℕ × ℕ × ℕ × ℕ × ℕ × ℕ

abbrev lengths : Config → Lengths
lengths c = (
  length c.kind,
  length c.priority,
  length c.autostart,
  length c.deadline,
  length c.users,
  length c.period,
  length c.entries,
  length c.offset,
  length c.task,
)

same_lengths : (c x : Config) → lengths x ≡ lengths c → Shaped c → Shaped x
same_lengths c x e s =
    record {
      kinds = ap (λ (l : Lengths). l.0) e ∙ s.kinds;
      priorities = ap (λ (l : Lengths). l.1) e ∙ s.priorities;
      autostarts = ap (λ (l : Lengths). l.2) e ∙ s.autostarts;
      deadlines = ap (λ (l : Lengths). l.3) e ∙ s.deadlines;
      masks = ap (λ (l : Lengths). l.4) e ∙ s.masks;
      periods = ap (λ (l : Lengths). l.5) e ∙ s.periods;
      counts = ap (λ (l : Lengths). l.6) e ∙ s.counts;
      offsets = ap (λ (l : Lengths). l.7) e ∙ s.offsets;
      tasks = ap (λ (l : Lengths). l.8) e ∙ s.tasks;
    }

module _ (d : Draft) (v : ℕ) where
  -- a number put leaves what is filled before it alone
  put_kept : (f : Field)
      → cut (before f (put_at f d v).config d) (put_at f d v).config ≡ cut (before f d.config d) d.config
  unfolding put_at
  put_kept Version = refl
  put_kept Bodies = refl
  put_kept Kind = rw (padded_set max_bodies d.config.kind d.index v)
  put_kept Priority = rw (padded_set max_bodies d.config.priority d.index v)
  put_kept Autostart = rw (padded_set max_bodies d.config.autostart d.index v)
  put_kept Deadline = rw (padded_set max_bodies d.config.deadline d.index v)
  put_kept Resources = refl
  put_kept Users = rw (padded_set max_resources d.config.users d.index v)
  put_kept Tables = refl
  put_kept Period = rw (padded_set max_tables d.config.period d.index v)
  put_kept Entries = rw (padded_set max_tables d.config.entries d.index v)
  put_kept Offset = rw (padded_set max_entries d.config.offset d.entry v)
  put_kept Task = rw (padded_set max_entries d.config.task d.entry v)
  put_kept End = refl

  put_filled : (f : Field) → before f d.config d ≡ before f (put_at f d v).config d
  unfolding put_at
  put_filled Version = refl
  put_filled Bodies = refl
  put_filled Kind = refl
  put_filled Priority = refl
  put_filled Autostart = refl
  put_filled Deadline = refl
  put_filled Resources = refl
  put_filled Users = refl
  put_filled Tables = refl
  put_filled Period = refl
  put_filled Entries = refl
  put_filled Offset = refl
  put_filled Task = refl
  put_filled End = refl

  -- the number that d is at is the one put
  asked_put : (f : Field) → ended f ≡ false → Shaped d.config → Standing f d
      → asked_at f (put_at f d v).config d ≡ v
  unfolding asked_at put_at ended Inside
  asked_put Version t s p = refl
  asked_put Bodies t s p = refl
  asked_put Kind t s p = get_or-set_same d.config.kind d.index v 0 (omega arith)
  asked_put Priority t s p = get_or-set_same d.config.priority d.index v 0 (omega arith)
  asked_put Autostart t s p = get_or-set_same d.config.autostart d.index v 0 (omega arith)
  asked_put Deadline t s p = get_or-set_same d.config.deadline d.index v 0 (omega arith)
  asked_put Resources t s p = refl
  asked_put Users t s p = get_or-set_same d.config.users d.index v 0 (omega arith)
  asked_put Tables t s p = refl
  asked_put Period t s p = get_or-set_same d.config.period d.index v 0 (omega arith)
  asked_put Entries t s p = get_or-set_same d.config.entries d.index v 0 (omega arith)
  asked_put Offset t s p = get_or-set_same d.config.offset d.entry v 0 (omega arith)
  asked_put Task t s p = get_or-set_same d.config.task d.entry v 0 (omega arith)
  asked_put End t s p = absurd (true≢false t)

  -- the arrays' lengths stay
  lengths_put : (f : Field) → lengths (put_at f d v).config ≡ lengths d.config
  unfolding put_at
  lengths_put Version = refl
  lengths_put Bodies = refl
  lengths_put Kind = rw length-set
  lengths_put Priority = rw length-set
  lengths_put Autostart = rw length-set
  lengths_put Deadline = rw length-set
  lengths_put Resources = refl
  lengths_put Users = rw length-set
  lengths_put Tables = refl
  lengths_put Period = rw length-set
  lengths_put Entries = rw length-set
  lengths_put Offset = rw length-set
  lengths_put Task = rw length-set
  lengths_put End = refl

  shaped_put : (f : Field) → Shaped d.config → Shaped (put_at f d v).config
  shaped_put f = same_lengths d.config (put_at f d v).config (lengths_put f)

pub shaped_last : (d : Draft) (vs : List ℕ) → Shaped d.config → Shaped (last d vs).config
shaped_last d [] s = s
shaped_last d (v ∷ vs) s = shaped_last (put d v) vs (shaped_put d v d.field s)

-- what is put later leaves what is filled alone: y is the draft's configuration as far as it is filled
abbrev Keeps : Draft → Config → Type 0
Keeps d y = cut (before d.field d.config d) y ≡ cut (before d.field d.config d) d.config

module _ (d : Draft) (v : ℕ) (y : Config) (t : ended d.field ≡ false) (sy : Shaped y) (s : Shaped d.config)
    (k : Keeps (put d v) y) where
  same_after : cut (past d.field (put d v).config d) y ≡ cut (past d.field (put d v).config d) (put d v).config
  same_after = rw (next_filled (put d v).config d v d.field t refl) at k

  keeps_put : Keeps d y
  keeps_put =
      let m = before d.field (put d v).config d in
      let a = past d.field (put d v).config d in
      let g = grows d.field (put d v).config d.index d.entry in
      ap (λ (n : Counts). cut n y) (put_filled d v d.field)
      ∙ sym (cut_cut m a y sy g)
      ∙ ap (cut m) same_after
      ∙ cut_cut m a (put d v).config (shaped_put d v d.field s) g
      ∙ put_kept d v d.field

  asked_later : Within d → asked y d ≡ v
  asked_later w =
      sym (asked_cut y d sy d.field (put d v).config)
      ∙ ap (λ (c : Config). asked c d) same_after
      ∙ asked_cut (put d v).config d (shaped_put d v d.field s) d.field (put d v).config
      ∙ asked_put d v d.field t s (standing d w)

-- so the numbers that lead to a configuration are its own
last_kept : (d : Draft) (vs : List ℕ) → Within d → Shaped d.config → InOrder d vs
    → Keeps d (last d vs).config × Asks (last d vs).config d vs
last_kept d [] w s o = (refl, tt)
last_kept d (v ∷ vs) w s o =
    let s' = shaped_put d v d.field s in
    let y = (last (put d v) vs).config in
    let sy = shaped_last (put d v) vs s' in
    let rest = last_kept (put d v) vs (moved d v o.0 o.1 w).within s' o.2 in
    (keeps_put d v y o.0 sy s rest.0, (asked_later d v y o.0 sy s rest.0 w, rest.1))

pub asks_last : (d : Draft) (vs : List ℕ) → Within d → Shaped d.config → InOrder d vs → Asks (last d vs).config d vs
asks_last d vs w s o = (last_kept d vs w s o).1
