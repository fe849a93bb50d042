-- Release: the runner gives its latest resource back, and runs at the level that it has without it.
use Prim.Native.Nat.{ℕ, ◌+◌, ◌<◌}
use mathlib.Core.Path.{◌≡◌, refl, sym, ap, ◌∙◌}
use mathlib.Core.Bool.{true, false}
use mathlib.Core.List.{List, [], ◌∷◌, ◌++◌}
use native.Mathlib.Omega.{arith}
use borrow.Author.Tests.{eq-eqb, ne_eqb}
use lib.Dec.{eqb}
use lib.ListN.{set}
use Rattle.number.proofs.Cases.{by_eq}
use Rattle.config.specs.declared.Config.{Config}
use Rattle.config.specs.Meaning.{is_timed}
use Rattle.plan.specs.declared.Plan.{Plan}
use Rattle.word.specs.Word.{has, without}
use Rattle.word.proofs.Theorems.{has_without_same, has_without_other}
use Rattle.stack.specs.Stack.{second_row, pop_row, row_bytes}
use Rattle.scheduler.specs.Body.{Body, holds, current, releases}
use Rattle.scheduler.specs.State.{among}
use Rattle.machine.specs.Model.{Model}
use Rattle.machine.specs.Resources.{level_without, releasing}
use Rattle.plan.proofs.Fitted.{Fitted}
use Rattle.machine.proofs.Relation.Rows.{Shows, row_shows_popped, row_shows_second}
use Rattle.machine.proofs.Relation.Words.{at}
use Rattle.machine.proofs.Relation.Slots.{Slot, slot, level_with, slots_for, slots_along, levels_in, missing, SlotsOf}
use Rattle.machine.proofs.Relation.Free.{missing_one}
use Rattle.machine.proofs.Relation.Kinds.{trigger_plain}
use Rattle.machine.proofs.Relation.Whole.{Tied}
use Rattle.machine.proofs.Change.Hold.{exists, runner_rank, first_own, slots_are, held_tied}

-- the runner b holds r, taken after rs
module _ {c : Config} {p : Plan} {rk : ℕ → ℕ} (fit : Fitted c p rk) {m : Model} {bs : List Body} {b : ℕ} {ns : List ℕ}
    (t : Tied c rk m bs [] (b ∷ ns)) (untimed : is_timed c b ≡ false) (r : ℕ) (r< : r < c.resources) (rs : List ℕ)
    (held_is : (at bs b).held ≡ r ∷ rs) where
  abbrev y : Body
  y = releases (at bs b)

  held_y : y.held ≡ rs
  held_y = rw held_is

  -- the slots without that of r
  abbrev rest : List Slot
  rest = slots_for c rk b rs ++ slots_along c rk bs ns

  old : SlotsOf m (slot r (rk b) (level_with c b (r ∷ rs)) ∷ rest)
  unfolding slots_for
  old = rw held_is at (slots_are fit t)

  -- the level without r
  second_is : (q : List ℕ)
      → Shows (row_bytes m.raised) (level_with c b (r ∷ rs) ∷ levels_in (slots_for c rk b q ++ slots_along c rk bs ns))
      → eqb (second_row m.holder) m.core.runner ≡ holds q → level_without p.priority m ≡ level_with c b q
  unfolding slots_for
  second_is [] k h =
      rw (h, runner_rank fit t) (fit.priority_at_lem b (exists fit t) ∙ trigger_plain c b (exists fit t) untimed)
  second_is (x ∷ q) k h = rw h (row_shows_second m.raised _ _ k)

  level_is : level_without p.priority m ≡ current c b y
  level_is =
      second_is rs old.levels
      (ap (λ (h : ℕ). eqb h m.core.runner) (row_shows_second m.holder _ _ old.holders) ∙ first_own fit t rs)
      ∙ ap (level_with c b) (sym held_y)

  flag_r : has m.held r ≡ true
  unfolding among
  flag_r = old.flags r ∙ rw (eq-eqb r r refl)

  one_more_lem : missing 16 (without m.held r) ≡ missing 16 m.held + 1
  one_more_lem =
      missing_one m.held (without m.held r) r (λ i n. sym (has_without_other m.held r i n))
      16 (omega (arith, fit.few_resources)) flag_r (has_without_same m.held r)

  slots' : SlotsOf (releasing p.priority r m) rest
  unfolding among
  slots' =
      record {
        resources = row_shows_popped m.resource _ _ old.resources;
        holders = row_shows_popped m.holder _ _ old.holders;
        levels = row_shows_popped m.raised _ _ old.levels;
        flags = λ q. by_eq q r
            (λ e. rw e (has_without_same m.held r ∙ sym old.distinct.0))
            (λ n. has_without_other m.held r q n ∙ old.flags q ∙ rw (ne_eqb q r n));
        distinct = old.distinct.1;
        counted = omega (arith, old.counted, one_more_lem);
      }

  pub release_tied : Tied c rk (releasing p.priority r m) (set bs b (releases (at bs b))) [] (b ∷ ns)
  release_tied =
      held_tied fit t y refl refl (level_without p.priority m) level_is
      (without m.held r) (pop_row m.resource) (pop_row m.holder) (pop_row m.raised) (rw held_y slots')
