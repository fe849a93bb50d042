-- How the rows of event bits and of waited masks stand for the bodies'.
--
--   Noted c rk x es ws bs  the bits es by rank, of which those in x count as 0, and the masks ws are those of the
--                          bodies bs; NotedOf c rk m bs: those of the model m
--   noted_same             bodies with the same bits and masks
--   noted_touched          one body is changed, but for its bits and masks
--   noted_changed          one body is changed, and the rows follow it
use Prim.Native.Nat.{ℕ, ◌<◌}
use mathlib.Core.Path.{◌≡◌, refl, sym, ◌∙◌}
use mathlib.Core.Logic.{◌≢◌}
use mathlib.Core.Bool.{cond}
use mathlib.Core.List.{List}
use lib.ListN.{length, get_or, set}
use lib.Seq.{get_or-set_same}
use Rattle.number.proofs.Cases.{by_eq}
use Rattle.config.specs.declared.Config.{Config}
use Rattle.plan.specs.declared.Plan.{Plan}
use Rattle.word.specs.Word.{has}
use Rattle.scheduler.specs.Body.{waiting, is_suspended, Body}
use Rattle.scheduler.specs.State.{no_body}
use Rattle.plan.proofs.Fitted.{Fitted}
use Rattle.machine.specs.Model.{Model}
use Rattle.machine.proofs.Relation.Words.{at, at_other, other_rank}

-- the event bits of the rank r
abbrev pub noted : ℕ → List ℕ → ℕ → ℕ
noted x es r = cond (has x r) 0 (get_or es r 0)

-- the event bits that count of a body: none while it is suspended, since its next activation clears them
abbrev pub event_bits : Body → ℕ
event_bits b = cond (is_suspended b.phase) 0 b.bits

pub record Noted (c : Config) (rk : ℕ → ℕ) (x : ℕ) (es ws : List ℕ) (bs : List Body) : Type 0 where
  pub bits_long : length es ≡ 32
  pub masks_long : length ws ≡ 32
  pub bits_are : (b : ℕ) → b < c.bodies → noted x es (rk b) ≡ event_bits (at bs b)
  pub mask_is : (b w : ℕ) → b < c.bodies → (at bs b).phase ≡ waiting w → get_or ws (rk b) 0 ≡ w

-- those of the model m
abbrev pub NotedOf : Config → (ℕ → ℕ) → Model → List Body → Type 0
NotedOf c rk m bs = Noted c rk m.cleared m.bits m.waited bs

pub noted_same : {c : Config} {rk : ℕ → ℕ} {x : ℕ} {es ws : List ℕ} {bs bs' : List Body}
    → ((i : ℕ) → event_bits (at bs' i) ≡ event_bits (at bs i))
    → ((i w : ℕ) → (at bs' i).phase ≡ waiting w → (at bs i).phase ≡ waiting w)
    → Noted c rk x es ws bs → Noted c rk x es ws bs'
noted_same bits masks n =
    record {
      bits_long = n.bits_long;
      masks_long = n.masks_long;
      bits_are = λ b b<. n.bits_are b b< ∙ sym (bits b);
      mask_is = λ b w b< h. n.mask_is b w b< (masks b w h);
    }

module _ {c : Config} {p : Plan} {rk : ℕ → ℕ} (fit : Fitted c p rk) {x : ℕ} {es ws : List ℕ} {bs : List Body}
    (n : Noted c rk x es ws bs) (size : length bs ≡ c.bodies) (b : ℕ) (b< : b < c.bodies) (y : Body) where
  at_b : at (set bs b y) b ≡ y
  at_b = get_or-set_same bs b y no_body (rw size b<)

  -- body b becomes y, the rows agree with y at its rank, and are as before elsewhere
  pub noted_changed : (x' : ℕ) (es' ws' : List ℕ) → length es' ≡ 32 → length ws' ≡ 32
      → noted x' es' (rk b) ≡ event_bits y → ((w : ℕ) → y.phase ≡ waiting w → get_or ws' (rk b) 0 ≡ w)
      → ((r : ℕ) → r ≢ rk b → noted x' es' r ≡ noted x es r) → ((r : ℕ) → r ≢ rk b → get_or ws' r 0 ≡ get_or ws r 0)
      → Noted c rk x' es' ws' (set bs b y)
  noted_changed x' es' ws' bits_long masks_long bits mask other_bits other_masks =
      record {
        bits_long = bits_long;
        masks_long = masks_long;
        bits_are = λ i i<. by_eq i b
            (λ e. rw (e, at_b) bits)
            (λ d. rw (at_other bs b y i d) (other_bits (rk i) (other_rank fit b b< i i< d) ∙ n.bits_are i i<));
        mask_is = λ i w i< h. by_eq i b
            (λ e. rw e (mask w (rw (e, at_b) at h)))
            (λ d. other_masks (rk i) (other_rank fit b b< i i< d) ∙ n.mask_is i w i< (rw (at_other bs b y i d) at h));
      }

  -- the rows stay, since y has the bits and the mask of the body before
  pub noted_touched : event_bits (at bs b) ≡ event_bits y → ((w : ℕ) → y.phase ≡ waiting w → (at bs b).phase ≡ waiting w)
      → Noted c rk x es ws (set bs b y)
  noted_touched bits masks =
      noted_changed x es ws n.bits_long n.masks_long
      (n.bits_are b b< ∙ bits)
      (λ w h. n.mask_is b w b< (masks w h))
      (λ r d. refl)
      (λ r d. refl)
