-- How the row of held resources stands for what the bodies hold.
--
--   Slot                    a held resource: its number, its holder's rank, and the holder's level after it was taken
--   slots_along c rk bs ns  the slots of the bodies ns, one body after the other
--   Slots w rs hs ls ss     the row of slots is ss, and the word w has their resources; SlotsOf m ss: in the model m
use Prim.Native.Nat.{ℕ, zero, suc, ◌+◌, max}
use mathlib.Core.Path.{◌≡◌}
use mathlib.Core.Bool.{cond}
use mathlib.Core.List.{List, [], ◌∷◌, ◌++◌, map, foldr}
use lib.ListN.{length}
use Rattle.config.specs.declared.Config.{Config}
use Rattle.config.specs.Meaning.{priority_of, ceiling}
use Rattle.word.specs.Word.{has}
use Rattle.stack.specs.declared.Row.{Row}
use Rattle.stack.specs.Stack.{row_bytes}
use Rattle.scheduler.specs.Body.{Body}
use Rattle.scheduler.specs.State.{among}
use Rattle.scheduler.proofs.Members.{Distinct}
use Rattle.machine.specs.Model.{Model}
use Rattle.machine.proofs.Relation.Rows.{Shows}
use Rattle.machine.proofs.Relation.Words.{at}

pub record Slot : Type 0 where
  pub resource : ℕ
  pub holder : ℕ
  pub level : ℕ

abbrev pub slot : ℕ → ℕ → ℕ → Slot
slot r h l = record { resource = r; holder = h; level = l }

-- the level of body b where it holds rs: its `current` priority
abbrev pub level_with : Config → ℕ → List ℕ → ℕ
level_with c b rs = foldr max (priority_of c b) (map (ceiling c) rs)

-- the slots of the resources that body b holds, the most recently taken first
unfoldable pub slots_for : Config → (ℕ → ℕ) → ℕ → List ℕ → List Slot
slots_for c rk b [] = []
slots_for c rk b (r ∷ rs) = slot r (rk b) (level_with c b (r ∷ rs)) ∷ slots_for c rk b rs

unfoldable pub slots_along : Config → (ℕ → ℕ) → List Body → List ℕ → List Slot
slots_along c rk bs [] = []
slots_along c rk bs (b ∷ ns) = slots_for c rk b (at bs b).held ++ slots_along c rk bs ns

abbrev pub resources_in : List Slot → List ℕ
resources_in = map (λ x. x.resource)

abbrev pub holders_in : List Slot → List ℕ
holders_in = map (λ x. x.holder)

abbrev pub levels_in : List Slot → List ℕ
levels_in = map (λ x. x.level)

-- how many of the numbers below n are not in the word
unfoldable pub missing : ℕ → ℕ → ℕ
missing zero w = 0
missing (suc n) w = cond (has w n) 0 1 + missing n w

-- the row of slots is ss, and the word w has their resources
pub record Slots (w : ℕ) (rs hs ls : Row) (ss : List Slot) : Type 0 where
  pub resources : Shows (row_bytes rs) (resources_in ss)
  pub holders : Shows (row_bytes hs) (holders_in ss)
  pub levels : Shows (row_bytes ls) (levels_in ss)
  pub flags : (r : ℕ) → has w r ≡ among r (resources_in ss)
  pub distinct : Distinct (resources_in ss)
  pub counted : length ss + missing 16 w ≡ 16

abbrev pub SlotsOf : Model → List Slot → Type 0
SlotsOf m ss = Slots m.held m.resource m.holder m.raised ss
