-- Get: the runner takes a resource that nobody holds, and runs at its ceiling.
use Prim.Native.Nat.{ℕ, ◌+◌, max, ◌≤◌, ◌<◌}
use mathlib.Core.Path.{◌≡◌, refl, sym, ap₂, ◌∙◌}
use mathlib.Core.Bool.{false}
use mathlib.Core.List.{List, [], ◌∷◌, ◌++◌}
use native.Mathlib.Omega.{arith}
use borrow.Author.Tests.{eq-eqb, ne_eqb}
use lib.ListN.{length, get_or, set, length-map}
use Rattle.number.proofs.Cases.{by_eq}
use Rattle.config.specs.declared.Config.{Config}
use Rattle.plan.specs.declared.Plan.{Plan}
use Rattle.word.specs.Word.{has, with}
use Rattle.word.proofs.Theorems.{has_with_same, has_with_other}
use Rattle.stack.specs.Stack.{push_row}
use Rattle.scheduler.specs.Body.{Body, current, gets}
use Rattle.scheduler.specs.State.{among}
use Rattle.machine.specs.Model.{Model}
use Rattle.machine.specs.Resources.{getting}
use Rattle.plan.proofs.Fitted.{Fitted}
use Rattle.machine.proofs.Relation.Rows.{row_shows_pushed}
use Rattle.machine.proofs.Relation.Words.{at}
use Rattle.machine.proofs.Relation.Slots.{Slot, slot, slots_for, slots_along, resources_in, holders_in, levels_in, missing, SlotsOf}
use Rattle.machine.proofs.Relation.Free.{missing_one}
use Rattle.machine.proofs.Relation.Whole.{Tied}
use Rattle.machine.proofs.Arbitration.Seat.{current_few}
use Rattle.machine.proofs.Arbitration.Dispatch.{rank_below}
use Rattle.machine.proofs.Change.Hold.{exists, runner_rank, level_was, slots_are, held_tied}

module _ {c : Config} {p : Plan} {rk : ℕ → ℕ} (fit : Fitted c p rk) {m : Model} {bs : List Body} {b : ℕ} {ns : List ℕ}
    (t : Tied c rk m bs [] (b ∷ ns)) (r : ℕ) (r< : r < c.resources) (free : has m.held r ≡ false) where
  abbrev level' : ℕ
  level' = max (get_or p.ceiling r 0) m.core.level

  raised_level : level' ≡ current c b (gets r (at bs b))
  raised_level = ap₂ max (fit.ceiling_at r r<) (level_was fit t)

  level_lt : level' < 256
  level_lt =
      let few = current_few fit b (at bs b) (exists fit t) in
      omega (arith, fit.ceiling_at r r<, fit.ceiling_few r, level_was fit t)

  -- the slots before
  abbrev ss : List Slot
  ss = slots_for c rk b (at bs b).held ++ slots_along c rk bs ns

  r_lt_16 : r < 16
  r_lt_16 = omega (arith, fit.few_resources)

  one_less : missing 16 m.held ≡ missing 16 (with m.held r) + 1
  one_less =
      missing_one (with m.held r) m.held r (λ i n. has_with_other m.held r i n) 16 r_lt_16
      (has_with_same m.held r (omega (arith, r_lt_16))) free

  row_room : length ss ≤ 15
  row_room = omega (arith, (slots_are fit t).counted, one_less)

  runner_lt : m.core.runner < 256
  runner_lt = omega (arith, runner_rank fit t, rank_below fit b (exists fit t))

  slots' : SlotsOf (getting r level' m) (slot r (rk b) (current c b (gets r (at bs b))) ∷ ss)
  unfolding among
  slots' =
      let old = slots_are fit t in
      record {
        resources = row_shows_pushed m.resource r (resources_in ss)
            (omega (arith, r_lt_16))
            (rw (length-map ss (λ x. x.resource)) row_room)
            old.resources;
        holders = rw (sym (runner_rank fit t))
            (row_shows_pushed m.holder m.core.runner (holders_in ss)
            runner_lt
            (rw (length-map ss (λ x. x.holder)) row_room)
            old.holders);
        levels = rw (sym raised_level)
            (row_shows_pushed m.raised level' (levels_in ss)
            level_lt
            (rw (length-map ss (λ x. x.level)) row_room)
            old.levels);
        flags = λ q. by_eq q r
            (λ e. rw (e, eq-eqb r r refl) (has_with_same m.held r (omega (arith, r_lt_16))))
            (λ n. rw (ne_eqb q r n) (has_with_other m.held r q n ∙ old.flags q));
        distinct = (sym (old.flags r) ∙ free, old.distinct);
        counted = omega (arith, old.counted, one_less);
      }

  pub get_tied : Tied c rk (getting r level' m) (set bs b (gets r (at bs b))) [] (b ∷ ns)
  unfolding slots_for
  get_tied =
      held_tied fit t (gets r (at bs b)) refl refl level' raised_level
      (with m.held r) (push_row m.resource r) (push_row m.holder m.core.runner) (push_row m.raised level')
      slots'
