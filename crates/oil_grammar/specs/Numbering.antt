-- What the laws of a text's meaning are tokened with: the objects of a sort in the order in which they stand, and what an
-- object says of itself.
--
--   bodies os, declared os  the TASK and ISR objects, and the RESOURCE objects
--   Says a o                the attribute a stands in the object o
--   BodyMeant c i o         body i of the configuration c is the object o
use Rattle.std.specs.Prelude.{ℕ, ◌≤◌, ◌≡◌, Bool, true, cond, not, List, [], ◌∷◌, ◌++◌, ◌↔◌, get_or}
use Rattle.config.specs.declared.Config.{Config}
use Rattle.oil_grammar.specs.Object.{Attribute, priority, autostart, Object, is_resource}

-- those of which p holds, in their order
unfoldable pub members : (Object → Bool) → List Object → List Object
members p [] = []
members p (o ∷ os) = cond (p o) (o ∷ members p os) (members p os)

-- a RESOURCE object
abbrev pub is_declared : Object → Bool
is_declared o = is_resource o.kind

-- a TASK or an ISR
abbrev pub is_body : Object → Bool
is_body o = not (is_declared o)

abbrev pub bodies : List Object → List Object
bodies os = members is_body os

abbrev pub declared : List Object → List Object
declared os = members is_declared os

-- what stands past the last object
abbrev pub no_object : Object
no_object = record { kind = 0; called = []; attributes = [] }

-- the object number i
abbrev pub nth : List Object → ℕ → Object
nth os i = get_or os i no_object

abbrev pub Says : Attribute → Object → Type 0
Says a o = (before : List Attribute) × (rest : List Attribute) × (o.attributes ≡ before ++ a ∷ rest)

-- "kind (0 task, 1 ISR)"; its PRIORITY where that is in range; "AUTOSTART (tasks only, FALSE if absent)"
pub record BodyMeant (c : Config) (i : ℕ) (o : Object) : Type 0 where
  pub kind_task : o.kind ≡ 1 → get_or c.kind i 0 ≡ 0
  pub kind_isr : o.kind ≡ 2 → get_or c.kind i 0 ≡ 1
  pub priority_is : (v : ℕ) → Says (priority v) o → v ≤ 200 → get_or c.priority i 0 ≡ v
  pub autostart_is : (get_or c.autostart i 0 ≡ 1) ↔ Says (autostart true) o
