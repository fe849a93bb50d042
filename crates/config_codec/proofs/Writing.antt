-- The writer's second pass: the bytes of the numbers so far lie over the output, and at the end all of them. The pass
-- has no draft but a position, which goes on as one does (`WritesOn`).
use Prim.Native.Nat.{ℕ, ◌+◌, ◌*◌, ◌-◌, ◌≤◌, ◌<◌}
use mathlib.Core.Path.{◌≡◌, refl, sym, ap, subst, ◌∙◌}
use mathlib.Core.Bool.{Bool, true, false}
use mathlib.Core.List.{List, [], ◌++◌}
use native.Mathlib.Omega.{arith}
use native.Mathlib.Nat.{zero-add}
use borrow.Rule.Slice.PartMut.{put_mid}
use lib.ListN.{length, take, drop, length-append, length-take, length-drop}
use Rattle.number.specs.Refusal.{none}
use Rattle.number.specs.Output.{written, laid}
use Rattle.number.proofs.Laying.{length_laid, laid_laid, laid_zero, laid_part}
use Rattle.config.specs.declared.Config.{Config}
use Rattle.config.specs.declared.Draft.{Draft}
use Rattle.config.specs.Draft.{fault, put, asked, ended, silent, silent_at, start}
use Rattle.config.specs.Reader.{max_numbers}
use Rattle.config.specs.Writer.{bytes_at, first_fault, config_bytes}
use Rattle.config.proofs.Position.{left, left_same, moved}
use Rattle.config_codec.specs.declared.position.Position.{Position}
use Rattle.config_codec.specs.Position.{draft_at, position_of, Stands}
use Rattle.config_codec.specs.Walk.{shown}
use Rattle.config_codec.proofs.NextNumber.{asked_same, Counted, counted_at, follows_at, silent_at_lem}
use Rattle.config_codec.proofs.Walks.{Walks, walks_start, walks_end, walks_faultless, walks_next, walks_few, walks_room}

-- the numbers of c before p are written up to the place `at`; the output was `before` and is `out`
pub record WritesOn (c : Config) (before : List ℕ) (p : Position) (at : ℕ) (out : List ℕ) : Type 0 where
  pub draft : Draft
  pub here : p ≡ position_of draft
  pub counted : Counted draft.field c draft.config
  pub bytes : List ℕ
  pub walks : Walks c none (config_bytes c) draft bytes
  pub long : length bytes ≡ at
  pub over : out ≡ laid 0 bytes before
  pub room : length (config_bytes c) ≤ length before

nothing_laid : (l : List ℕ) → l ≡ laid 0 [] l
unfolding laid
nothing_laid l = refl

pub writes_start : (c : Config) (before : List ℕ) → first_fault c ≡ none → length (config_bytes c) ≤ length before
    → WritesOn c before (position_of start) 0 before
writes_start c before e h =
    record {
      draft = start;
      here = refl;
      counted = tt;
      bytes = [];
      walks = subst (λ (F : ℕ). Walks c F (config_bytes c) start []) e (walks_start c);
      long = refl;
      over = nothing_laid before;
      room = h;
    }

module _ {c : Config} {before : List ℕ} {p : Position} {at : ℕ} {out : List ℕ} (o : WritesOn c before p at out) where
  pub writes_stand : Stands p
  writes_stand =
      subst (λ (q : Position). Stands q) (sym o.here) (record { config = o.draft.config; within = o.walks.within })

  ended_here : (t : Bool) → ended p.field ≡ t → ended o.draft.field ≡ t
  ended_here t e = sym (ap (λ (q : Position). ended q.field) o.here) ∙ e

  pub writes_end : ended p.field ≡ true → out ≡ written (config_bytes c) before
  writes_end e =
      o.over ∙ ap (λ (l : List ℕ). laid 0 l before) (walks_end o.walks (ended_here true e)).1
      ∙ sym (laid_zero (config_bytes c) before o.room)

  -- one more number: v, as it is asked, which may stand in no byte
  module _ (going : ended p.field ≡ false) {v : ℕ} (told : v ≡ asked c (draft_at c p)) {q : Bool}
      (quiet : q ≡ silent_at p.field c.version) where
    more : ended o.draft.field ≡ false
    more = ended_here false going

    is : v ≡ asked c o.draft
    is = told ∙ ap (λ (q : Position). asked c (draft_at c q)) o.here
        ∙ asked_same c c o.draft.config (position_of o.draft)

    here_quiet : q ≡ silent o.draft
    here_quiet = quiet ∙ ap (λ (q : Position). silent_at q.field c.version) o.here
        ∙ silent_at_lem c o.draft o.draft.field o.counted

    same_bytes : shown q v ≡ bytes_at o.draft (asked c o.draft)
    unfolding bytes_at
    same_bytes = rw (here_quiet, is) refl

    in_order : fault o.draft v ≡ none
    in_order = rw is (walks_faultless o.walks more refl)

    fits_all : length o.bytes + length (shown q v) ≤ length (config_bytes c)
    fits_all = rw same_bytes (walks_room o.walks more)

    same_long : length out ≡ length before
    same_long = ap length o.over ∙ length_laid 0 o.bytes before (omega (arith, fits_all, o.room))

    pub writes_room : at + length (shown q v) ≤ length out
    writes_room = omega (arith, fits_all, same_long, o.long, o.room)

    -- five bytes a number
    pub writes_small : at + length (shown q v) ≤ 5 * max_numbers
    writes_small = rw (← o.long, same_bytes) (walks_few o.walks more)

    -- what the number's writer is lent
    abbrev part : List ℕ
    part = take (length out - at) (drop at out)

    pub part_room : length (shown q v) ≤ length part
    part_room = simp (length-take, length-drop) (omega (arith, writes_room))

    over_next : {ys : List ℕ} → ys ≡ written (shown q v) part
        → put_mid at (length out - at) out ys ≡ laid 0 (o.bytes ++ shown q v) before
    over_next e =
        rw e
        (laid_part at (shown q v) out writes_room
        ∙ rw (← o.long, o.over)
        (ap (λ (p : ℕ). laid p (shown q v) (laid 0 o.bytes before)) (sym (zero-add (length o.bytes)))
        ∙ laid_laid 0 o.bytes (shown q v) before (omega (arith, fits_all, o.room))))

    module _ {p' : Position} (f : p' ≡ position_of (put (draft_at c p) v)) where
      next_here : p' ≡ position_of (put o.draft v)
      next_here = f ∙ ap (λ (x : Position). position_of (put (draft_at c x) v)) o.here
          ∙ follows_at c o.draft v o.draft.field o.counted

      pub writes_fewer : left (draft_at c p') < left (draft_at c p)
      writes_fewer = omega (
        arith,
        (moved o.draft v more in_order o.walks.within).fewer,
        same p o.draft o.here,
        same p' (put o.draft v) next_here,
      )
        where
          same : (x : Position) (d : Draft) → x ≡ position_of d → left (draft_at c x) ≡ left d
          same x d e =
              left_same (draft_at c x) d (ap (λ (y : Position). y.field) e) (ap (λ (y : Position). y.index) e)
              (ap (λ (y : Position). y.entry) e)

      pub writes_next : {n : ℕ} → n ≡ length (shown q v) → {ys : List ℕ} → ys ≡ written (shown q v) part
          → WritesOn c before p' (at + n) (put_mid at (length out - at) out ys)
      writes_next {n} wrote {ys} e =
          record {
            draft = put o.draft v;
            here = next_here;
            counted = subst (λ (x : ℕ). Counted (put o.draft x).field c (put o.draft x).config) (sym is)
                (counted_at c o.draft o.draft.field more o.counted);
            bytes = o.bytes ++ shown q v;
            walks = rw (same_bytes, is) (walks_next o.walks more (walks_faultless o.walks more refl));
            long = length-append o.bytes (shown q v) ∙ ap (λ (l : ℕ). l + length (shown q v)) o.long
                ∙ ap (λ (l : ℕ). at + l) (sym wrote);
            over = over_next e;
            room = o.room;
          }
