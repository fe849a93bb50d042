-- Nothing is held exactly where the word of held resources is 0.
use Prim.Native.Nat.{ℕ, ◌^◌, ◌<◌}
use mathlib.Core.Path.{◌≡◌, refl, sym, ap, ◌∙◌}
use mathlib.Core.Bool.{true, false, true≢false}
use mathlib.Core.List.{List, [], ◌∷◌, ◌++◌}
use native.Mathlib.Omega.{arith}
use lib.ListN.{length}
use Rattle.number.proofs.Cases.{by_test, by_eq}
use Rattle.config.specs.declared.Config.{Config}
use Rattle.word.specs.Word.{ranks}
use Rattle.word.proofs.Theorems.{none_has}
use Rattle.scheduler.specs.Body.{Body}
use Rattle.scheduler.specs.State.{State, among}
use Rattle.scheduler.proofs.Members.{among_other}
use Rattle.plan.specs.declared.Plan.{Plan}
use Rattle.machine.specs.Model.{Model}
use Rattle.machine.proofs.Relation.Words.{at}
use Rattle.machine.proofs.Relation.Slots.{Slot, slots_for, slots_along, missing, resources_in}
use Rattle.machine.proofs.Relation.Free.{missing_empty}
use Rattle.machine.proofs.Relation.Whole.{Sim}
use Rattle.waiting.specs.Conditions.{resource_held}
use Rattle.waiting.proofs.State.NoHolder.{held_none, none_held}

length_none : (ss : List Slot) → length ss ≡ 0 → ss ≡ []
length_none [] e = refl
length_none (x ∷ xs) e = absurd (omega arith)

-- no slots, so nobody of the nest holds
module _ (c : Config) (rk : ℕ → ℕ) (bs : List Body) where
  slots_for_none : (b : ℕ) (rs : List ℕ) (ss : List Slot) → slots_for c rk b rs ++ ss ≡ [] → (rs ≡ []) × (ss ≡ [])
  unfolding slots_for
  slots_for_none b [] ss e = (refl, e)
  slots_for_none b (r ∷ rs) ss e = let z : ◌≡◌ {A = ℕ} 1 0 = ap some e in absurd (omega arith)
    where
      some : List Slot → ℕ
      some [] = 0
      some (x ∷ xs) = 1

  along_none : (ns : List ℕ) → slots_along c rk bs ns ≡ [] → (b : ℕ) → among b ns ≡ true → (at bs b).held ≡ []
  unfolding slots_along among
  along_none [] e b h = absurd (true≢false (sym h))
  along_none (n ∷ ns) e b h =
      let q = slots_for_none n (at bs n).held (slots_along c rk bs ns) e in
      by_eq b n
      (λ same. rw same q.0)
      (λ other. along_none ns q.1 b (sym (among_other b n ns other) ∙ h))

  none_along : (ns : List ℕ) → ((b : ℕ) → (at bs b).held ≡ []) → slots_along c rk bs ns ≡ []
  unfolding slots_along slots_for
  none_along [] h = refl
  none_along (n ∷ ns) h = rw (h n) (none_along ns h)

module _ {c : Config} {p : Plan} {rk : ℕ → ℕ} {m : Model} {s : State} (sim : Sim c p rk m s) where
  pub held_zero : m.held ≡ 0 → resource_held s ≡ false
  held_zero e =
      let slots = slots_along c rk s.bodies sim.nest in
      let none : slots_along c rk s.bodies sim.nest ≡ [] =
      length_none (slots_along c rk s.bodies sim.nest)
      (omega (arith, sim.tied.slots.counted, ap (missing 16) e, missing_empty 16)) in
      none_held s (λ b. by_test (among b sim.nest)
      (along_none c rk s.bodies sim.nest none b)
      (sim.tied.loose b))

  pub zero_held : m.held < 2 ^ ranks → resource_held s ≡ false → m.held ≡ 0
  unfolding among
  zero_held small free =
      none_has m.held small
      (λ r. sim.tied.slots.flags r
      ∙ ap (λ (ss : List Slot). among r (resources_in ss))
      (none_along c rk s.bodies sim.nest (held_none s free)))
