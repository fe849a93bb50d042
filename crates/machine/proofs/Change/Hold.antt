-- The runner holds other resources than before, and runs at the level that they give it: what Get and Release share.
--
--   held_tied      the runner becomes y, its slots are those of what y holds
--   holding_is     the slot on top is the runner's exactly if it holds a resource
--   latest_is_lem  and then it is that of the latest of them
use Prim.Native.Nat.{ℕ, ◌<◌}
use mathlib.Core.Path.{◌≡◌, refl, sym, ap, ◌∙◌}
use mathlib.Core.Bool.{true, false, true≢false}
use mathlib.Core.List.{List, [], ◌∷◌, ◌++◌}
use native.Mathlib.Omega.{arith}
use borrow.Author.Tests.{eq-eqb, ne_eqb}
use lib.Dec.{eqb}
use lib.ListN.{get_or, set, length-set}
use lib.Seq.{get_or-set_same}
use Rattle.number.proofs.Cases.{by_eq}
use Rattle.config.specs.declared.Config.{Config}
use Rattle.config.specs.Meaning.{priority_of}
use Rattle.plan.specs.declared.Plan.{Plan}
use Rattle.stack.specs.declared.Row.{Row}
use Rattle.scheduler.specs.Body.{Body, is_started, holds, current}
use Rattle.scheduler.specs.State.{no_body, among}
use Rattle.scheduler.specs.Call.{latest_is}
use Rattle.scheduler.proofs.Members.{among_head, among_tail}
use Rattle.machine.specs.Model.{Model, no_rank, with_level, with_slots}
use Rattle.machine.specs.Resources.{holding, latest}
use Rattle.plan.proofs.Fitted.{Fitted}
use Rattle.machine.proofs.Relation.Rows.{row_shows_top}
use Rattle.machine.proofs.Relation.Words.{at, at_other, words_changed, marks_same, unmoved_same, is_aside}
use Rattle.machine.proofs.Relation.Slots.{Slot, slot, level_with, slots_for, slots_along, holders_in, Slots, SlotsOf}
use Rattle.machine.proofs.Relation.Nest.{level_at, Nested, Seats, AlikeAlong, alike_outside, nest_other, nest_exists, nest_started, level_at_alike, nested_alike, hold_alike, slots_along_alike}
use Rattle.machine.proofs.Relation.Whole.{Tied}
use Rattle.machine.proofs.Arbitration.Dispatch.{rank_below}

-- the slots of a nest: none, or the first is that of a body of the nest
data Held (rk : ℕ → ℕ) (ns : List ℕ) : List Slot → Type 0 where
  nothing : Held rk ns []
  by : (a : ℕ) (x : Slot) (xs : List Slot) → among a ns ≡ true → x.holder ≡ rk a → Held rk ns (x ∷ xs)

along_held : (c : Config) (rk : ℕ → ℕ) (bs : List Body) (ns : List ℕ) → Held rk ns (slots_along c rk bs ns)
unfolding slots_along slots_for
along_held c rk bs [] = nothing
along_held c rk bs (b ∷ ns) = go (at bs b).held (along_held c rk bs ns)
  where
    wider : {ss : List Slot} → Held rk ns ss → Held rk (b ∷ ns) ss
    wider nothing = nothing
    wider (by a x xs h e) = by a x xs (among_tail a b ns h) e

    go : (rs : List ℕ) → Held rk ns (slots_along c rk bs ns)
        → Held rk (b ∷ ns) (slots_for c rk b rs ++ slots_along c rk bs ns)
    go [] k = wider k
    go (r ∷ rs) k =
        by b (slot r (rk b) (level_with c b (r ∷ rs))) (slots_for c rk b rs ++ slots_along c rk bs ns)
        (among_head b ns) refl

eqb_sym : (a b : ℕ) → eqb a b ≡ eqb b a
eqb_sym a b = by_eq a b (λ e. rw e) (λ n. ne_eqb a b n ∙ sym (ne_eqb b a (λ e. n (sym e))))

-- a runner that isn't started, as no time-triggered task is, holds nothing
module _ {c : Config} {p : Plan} {rk : ℕ → ℕ} (fit : Fitted c p rk) {m : Model} {bs : List Body} {js ns : List ℕ}
    (t : Tied c rk m bs js ns) {j : ℕ} (rank : m.core.runner ≡ rk j) (j< : j < c.bodies)
    (unstarted : is_started (at bs j).phase ≡ false) where
  none_own : {ss : List Slot} → Held rk ns ss → eqb (get_or (holders_in ss) 0 no_rank) m.core.runner ≡ false
  none_own nothing = ne_eqb no_rank m.core.runner (λ z. absurd (omega (arith, z, rank, rank_below fit j j<)))
  none_own (by a x xs among_a holder) =
      ne_eqb x.holder m.core.runner
      (λ z.
      let a< = nest_exists c bs a ns t.nested among_a in
      let same : a ≡ j = fit.rank_inj a j a< j< (sym holder ∙ z ∙ rank) in
      absurd (true≢false (sym (nest_started c bs a ns t.nested among_a) ∙ rw same unstarted)))

  pub holding_timed : holding m ≡ false
  holding_timed =
      ap (λ (h : ℕ). eqb h m.core.runner) (row_shows_top m.holder _ t.slots.holders)
      ∙ none_own (along_held c rk bs ns)

-- the runner is b
module _ {c : Config} {p : Plan} {rk : ℕ → ℕ} (fit : Fitted c p rk) {m : Model} {bs : List Body} {b : ℕ} {ns : List ℕ}
    (t : Tied c rk m bs [] (b ∷ ns)) where
  pub exists : b < c.bodies
  unfolding Nested
  exists = t.nested.0

  pub runner_rank : m.core.runner ≡ rk b
  unfolding Seats
  runner_rank = t.seats.0

  pub level_was : m.core.level ≡ current c b (at bs b)
  unfolding Seats
  level_was = t.seats.1.0

  below : Nested c bs ns
  unfolding Nested
  below = t.nested.1.1.1

  -- where the runner's slots for rs come first, the first slot is the runner's exactly if there are any
  pub first_own : (rs : List ℕ)
      → eqb (get_or (holders_in (slots_for c rk b rs ++ slots_along c rk bs ns)) 0 no_rank) m.core.runner ≡ holds rs
  unfolding slots_for
  first_own (r ∷ rs) = eq-eqb (rk b) m.core.runner (sym runner_rank)
  first_own [] = go (along_held c rk bs ns)
    where
      go : {ss : List Slot} → Held rk ns ss → eqb (get_or (holders_in ss) 0 no_rank) m.core.runner ≡ false
      go nothing =
          ne_eqb no_rank m.core.runner (λ z. absurd (omega (arith, z, runner_rank, rank_below fit b exists)))
      go (by a x xs among_a holder) =
          ne_eqb x.holder m.core.runner
          (λ z.
          let a< = nest_exists c bs a ns below among_a in
          let same : a ≡ b = fit.rank_inj a b a< exists (sym holder ∙ z ∙ runner_rank) in
          absurd (nest_other c bs b a ns t.nested among_a same))

  -- the runner's slots come first of all
  pub slots_are : SlotsOf m (slots_for c rk b (at bs b).held ++ slots_along c rk bs ns)
  unfolding slots_along
  slots_are = t.slots

  -- "the runner holds a resource"
  pub holding_is : holding m ≡ holds (at bs b).held
  holding_is =
      ap (λ (h : ℕ). eqb h m.core.runner) (row_shows_top m.holder _ slots_are.holders)
      ∙ first_own (at bs b).held

  -- "the runner's most recently taken one still held"
  pub latest_is_lem : (r : ℕ) → latest m r ≡ latest_is r (at bs b).held
  unfolding slots_for
  latest_is_lem r = go (at bs b).held slots_are holding_is
    where
      go : (rs : List ℕ) → SlotsOf m (slots_for c rk b rs ++ slots_along c rk bs ns)
          → holding m ≡ holds rs → latest m r ≡ latest_is r rs
      go [] k h = rw h
      go (q ∷ rs) k h = rw (h, row_shows_top m.resource _ k.resources) (eqb_sym q r)

  -- the runner becomes y, which is as it was but for what it holds
  module _ (y : Body) (phase : y.phase ≡ (at bs b).phase) (second : y.pending ≡ (at bs b).pending)
      (l : ℕ) (level : l ≡ current c b y) (w : ℕ) (rs hs ls : Row)
      (slots : Slots w rs hs ls (slots_for c rk b y.held ++ slots_along c rk bs ns)) where
    abbrev bs' : List Body
    bs' = set bs b y

    at_b : at bs' b ≡ y
    at_b = get_or-set_same bs b y no_body (rw t.size exists)

    begun_same : (i : ℕ) → is_started (at bs' i).phase ≡ is_started (at bs i).phase
    begun_same i = by_eq i b (λ e. rw (e, at_b) (ap is_started phase)) (λ n. rw (at_other bs b y i n))

    alike : AlikeAlong bs bs' ns
    alike = alike_outside b y (λ i h. nest_other c bs b i ns t.nested h)

    lower : level_at c bs' ns < priority_of c b
    unfolding Nested
    lower = rw (sym (level_at_alike c alike)) t.nested.1.1.0

    pub held_tied : Tied c rk (with_slots m l w rs hs ls) bs' [] (b ∷ ns)
    unfolding Nested Seats slots_along
    held_tied =
        record {
          size = length-set bs b y ∙ t.size;
          words = words_changed fit t.words t.size b exists y (with_level m.core l)
              ((λ h. (t.words.suits b).0 (sym second ∙ h)), λ h. (t.words.suits b).1 (ap is_aside (sym phase) ∙ h))
              (marks_same t.words b exists y phase second m.core.runner l)
              (unmoved_same t.words m.core.runner l (rk b));
          nested = (exists, (begun_same b ∙ t.nested.1.0, (lower, nested_alike c alike below)));
          seats = (runner_rank, (rw at_b level, hold_alike alike t.seats.1.1));
          slots = rw (at_b, sym (slots_along_alike c rk alike)) slots;
          loose = λ i h. by_eq i b
              (λ e. absurd (true≢false (sym (among_head b ns) ∙ (rw e at h))))
              (λ n. rw (at_other bs b y i n) (t.loose i h));
        }
