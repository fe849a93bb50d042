-- What the view of an outcome shows is all there is of it: contracts speak of the view, and fix the outcome.
use Prim.Native.Nat.{ℕ}
use mathlib.Core.Path.{◌≡◌, refl, sym, ap, ◌∙◌}
use mathlib.Core.Bool.{cond}
use lib.Dec.{eqb}
use Rattle.machine.specs.Model as Machine
use Rattle.model.specs.declared.Status.{Status}
use Rattle.model.specs.declared.Status.TheVariants.{Done, Access, CallLevel, NoSuch, Limit, NoFunction, HoldsResource, WrongState, BadDelay, NotUser}
use Rattle.model.specs.declared.Outcome.{Outcome}
use Rattle.model.specs.View.{status_number, model_of, view_outcome}

-- the status that has the number n
abbrev numbered : ℕ → Status
numbered n =
    cond (eqb n 0) Done
    (cond (eqb n 1) Access
    (cond (eqb n 2) CallLevel
    (cond (eqb n 3) NoSuch
    (cond (eqb n 4) Limit
    (cond (eqb n 5) NoFunction
    (cond (eqb n 6) HoldsResource
    (cond (eqb n 7) WrongState
    (cond (eqb n 8) BadDelay NotUser))))))))

numbered_back : (s : Status) → numbered (status_number s) ≡ s
numbered_back Done = refl
numbered_back Access = refl
numbered_back CallLevel = refl
numbered_back NoSuch = refl
numbered_back Limit = refl
numbered_back NoFunction = refl
numbered_back HoldsResource = refl
numbered_back WrongState = refl
numbered_back BadDelay = refl
numbered_back NotUser = refl

pub status_number_injective : (s t : Status) → status_number s ≡ status_number t → s ≡ t
status_number_injective s t e = sym (numbered_back s) ∙ ap numbered e ∙ numbered_back t

abbrev outcome_from : Machine.Outcome → Outcome
outcome_from o = record { model = model_of o.model; status = numbered o.status; begun = o.begun }

outcome_back : (o : Outcome) → outcome_from (view_outcome o) ≡ o
outcome_back o = λ i. record { model = o.model; status = numbered_back o.status i; begun = o.begun }

pub view_outcome_injective : (o p : Outcome) → view_outcome o ≡ view_outcome p → o ≡ p
view_outcome_injective o p e = sym (outcome_back o) ∙ ap outcome_from e ∙ outcome_back p
