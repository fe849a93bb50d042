-- Where the walk stands: inside the arrays, and at the number that follows.
--
--   placed         the element that a number goes to lies inside its array
--   asked_same     the number of a value stands where it stands, whatever the draft has
--   onward         the position after a number that is put, where the counts are those that were put
--   Counted        the counts of a value are those of the draft, as far as they have come; `counted_at` keeps it
--   silent_at_lem  so both have a number that stands in no byte at the same places
use Prim.Native.Nat.{ℕ, ◌+◌, ◌<◌}
use mathlib.Core.Path.{◌≡◌, refl, sym, ap, subst, ◌∙◌}
use mathlib.Core.Bool.{Bool, false, cond, true≢false}
use native.Mathlib.Omega.{arith}
use lib.Dec.{eqb}
use Rattle.number.proofs.Cases.{cond_either}
use Rattle.config.specs.declared.Config.{Config}
use Rattle.config.specs.declared.Draft.{Draft}
use Rattle.config.specs.declared.Field.{Field}
use Rattle.config.specs.declared.Field.TheVariants.{Version, Bodies, Kind, Priority, Autostart, Deadline, Resources, Users, Tables, Period, Entries, Offset, Task, End}
use Rattle.config.specs.Draft.{put, put_at, asked, asked_at, ended, silent_at, Inside, Within}
use Rattle.config_codec.specs.declared.position.Position.{Position}
use Rattle.config_codec.specs.Position.{draft_at, position_of}

-- the element that a number goes to lies inside its array
abbrev pub Placed : Field → Position → Type 0
Placed Version p = Unit {0}
Placed Bodies p = Unit {0}
Placed Kind p = p.index < 32
Placed Priority p = p.index < 32
Placed Autostart p = p.index < 32
Placed Deadline p = p.index < 32
Placed Resources p = Unit {0}
Placed Users p = p.index < 16
Placed Tables p = Unit {0}
Placed Period p = p.index < 8
Placed Entries p = p.index < 8
Placed Offset p = (p.index < 8) × (p.entry < 64)
Placed Task p = (p.index < 8) × (p.entry < 64)
Placed End p = Unit {0}

module _ (c : Config) (p : Position) (w : Within (draft_at c p)) where
  placed_at : (f : Field) → Inside f (draft_at c p) → Placed f p
  unfolding Inside
  placed_at Version i = tt
  placed_at Bodies i = tt
  placed_at Kind i = omega (arith, i, w.bodies_le)
  placed_at Priority i = omega (arith, i, w.bodies_le)
  placed_at Autostart i = omega (arith, i, w.bodies_le)
  placed_at Deadline i = omega (arith, i, w.bodies_le)
  placed_at Resources i = tt
  placed_at Users i = omega (arith, i, w.resources_le)
  placed_at Tables i = tt
  placed_at Period i = omega (arith, i, w.tables_le)
  placed_at Entries i = omega (arith, i, w.tables_le)
  placed_at Offset i = omega (arith, i, w.tables_le, w.until_le)
  placed_at Task i = omega (arith, i, w.tables_le, w.until_le)
  placed_at End i = tt

  pub placed : (f : Field) → p.field ≡ f → Placed f p
  placed f e = placed_at f (subst (λ (g : Field). Inside g (draft_at c p)) e w.inside)

-- one number of the value, which stands where it stands whatever the draft has
module _ (c g h : Config) (p : Position) where
  asked_at_lem : (f : Field) → asked_at f c (draft_at g p) ≡ asked_at f c (draft_at h p)
  unfolding asked_at
  asked_at_lem Version = refl
  asked_at_lem Bodies = refl
  asked_at_lem Kind = refl
  asked_at_lem Priority = refl
  asked_at_lem Autostart = refl
  asked_at_lem Deadline = refl
  asked_at_lem Resources = refl
  asked_at_lem Users = refl
  asked_at_lem Tables = refl
  asked_at_lem Period = refl
  asked_at_lem Entries = refl
  asked_at_lem Offset = refl
  asked_at_lem Task = refl
  asked_at_lem End = refl

  pub asked_same : asked c (draft_at g p) ≡ asked c (draft_at h p)
  asked_same = asked_at_lem p.field

-- where a number goes does not change what follows it
module _ (c : Config) (p : Position) (v : ℕ) where
  same_at : (f : Field) → position_of (put_at f (draft_at (put_at f (draft_at c p) v).config p) v)
      ≡ position_of (put_at f (draft_at c p) v)
  unfolding put_at
  same_at Version = refl
  same_at Bodies = refl
  same_at Kind = refl
  same_at Priority = refl
  same_at Autostart = refl
  same_at Deadline = refl
  same_at Resources = refl
  same_at Users = refl
  same_at Tables = refl
  same_at Period = refl
  same_at Entries = refl
  same_at Offset = refl
  same_at Task = refl
  same_at End = refl

  pub onward : (c' : Config) (q : Position) → c' ≡ (put (draft_at c p) v).config
      → q ≡ position_of (put (draft_at c' p) v) → draft_at c' q ≡ put (draft_at c p) v
  onward c' q e f =
      let is : q ≡ position_of (put (draft_at c p) v) =
      f ∙ ap (λ (g : Config). position_of (put (draft_at g p) v)) e ∙ same_at p.field in
      ap (λ (g : Config). draft_at g q) e ∙ ap (draft_at (put (draft_at c p) v).config) is

-- the count that says whether another row follows is the value's, and so is the version that says which numbers do
abbrev pub Counted : Field → Config → Config → Type 0
Counted Version c g = Unit {0}
Counted Bodies c g = g.version ≡ c.version
Counted Kind c g = (g.bodies ≡ c.bodies) × (g.version ≡ c.version)
Counted Priority c g = (g.bodies ≡ c.bodies) × (g.version ≡ c.version)
Counted Autostart c g = (g.bodies ≡ c.bodies) × (g.version ≡ c.version)
Counted Deadline c g = (g.bodies ≡ c.bodies) × (g.version ≡ c.version)
Counted Resources c g = Unit {0}
Counted Users c g = g.resources ≡ c.resources
Counted Tables c g = Unit {0}
Counted Period c g = g.tables ≡ c.tables
Counted Entries c g = g.tables ≡ c.tables
Counted Offset c g = g.tables ≡ c.tables
Counted Task c g = g.tables ≡ c.tables
Counted End c g = Unit {0}

module _ (c : Config) (d : Draft) where
  chosen : (g : Config) (t : Bool) (f h : Field) → Counted f c g → Counted h c g → Counted (cond t f h) c g
  chosen g = cond_either (λ (f : Field). Counted f c g)

  pub counted_at : (f : Field) → ended f ≡ false → Counted f c d.config
      → Counted (put_at f d (asked_at f c d)).field c (put_at f d (asked_at f c d)).config
  unfolding put_at asked_at ended
  counted_at Version e h = refl
  counted_at Bodies e h = (refl, h)
  counted_at Kind e h = h
  counted_at Priority e h = h
  counted_at Autostart e h = h
  counted_at Deadline e h = chosen _ (eqb (d.index + 1) d.config.bodies) Resources Kind tt h
  counted_at Resources e h = chosen _ (eqb 0 c.resources) Tables Users tt refl
  counted_at Users e h = chosen _ (eqb (d.index + 1) d.config.resources) Tables Users tt h
  counted_at Tables e h = chosen _ (eqb 0 c.tables) End Period tt refl
  counted_at Period e h = h
  counted_at Entries e h = h
  counted_at Offset e h = h
  counted_at Task e h =
      let last = eqb (d.index + 1) d.config.tables in
      chosen _ (eqb (d.entry + 1) d.until) (cond last End Period) Offset (chosen _ last End Period tt h) h
  counted_at End e h = absurd (true≢false e)

  pub follows_at : (v : ℕ) (f : Field) → Counted f c d.config
      → position_of (put_at f (draft_at c (position_of d)) v) ≡ position_of (put_at f d v)
  unfolding put_at
  follows_at v Version h = refl
  follows_at v Bodies h = refl
  follows_at v Kind h = refl
  follows_at v Priority h = refl
  follows_at v Autostart h = refl
  follows_at v Deadline h = rw h.0
  follows_at v Resources h = refl
  follows_at v Users h = rw h
  follows_at v Tables h = refl
  follows_at v Period h = refl
  follows_at v Entries h = refl
  follows_at v Offset h = refl
  follows_at v Task h = rw h
  follows_at v End h = refl

  pub silent_at_lem : (f : Field) → Counted f c d.config → silent_at f c.version ≡ silent_at f d.config.version
  silent_at_lem Version h = refl
  silent_at_lem Bodies h = refl
  silent_at_lem Kind h = refl
  silent_at_lem Priority h = refl
  silent_at_lem Autostart h = refl
  silent_at_lem Deadline h = ap (silent_at Deadline) (sym h.1)
  silent_at_lem Resources h = refl
  silent_at_lem Users h = refl
  silent_at_lem Tables h = refl
  silent_at_lem Period h = refl
  silent_at_lem Entries h = refl
  silent_at_lem Offset h = refl
  silent_at_lem Task h = refl
  silent_at_lem End h = refl
