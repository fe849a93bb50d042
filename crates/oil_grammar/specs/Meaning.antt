-- The configuration that objects are.
--
--   users_of x os  the mask of the bodies among os that use the resource x
--   config_of os   the version 1 configuration of os, without tables
--
-- A count or a priority above 255 is held as 255, the most that its field holds: it is out of range all the same, and
-- the writer refuses it.
use Rattle.std.specs.Prelude.{ℕ, ◌+◌, ◌-◌, min, Bool, cond, List, [], ◌∷◌}
use Rattle.word.specs.Word.{with}
use Rattle.config.specs.declared.Config.{Config}
use Rattle.config.specs.Value.{no_config, with_version, with_bodies, with_kind, with_priority, with_autostart, with_resources, with_users}
use Rattle.oil_grammar.specs.Token.{same, task_sort}
use Rattle.oil_grammar.specs.Object.{Attribute, priority, autostart, uses, Object, is_resource}

-- a number as a byte holds it
abbrev pub held : ℕ → ℕ
held n = min n 255

-- one more of a sort
abbrev pub counted : ℕ → ℕ
counted n = held (n + 1)

-- bodies and resources are numbered as they stand, each sort from 0: n is the number of the next body
abbrev pub number_after : ℕ → ℕ → ℕ
number_after kind n = cond (is_resource kind) n (counted n)

-- the mask m with body n in it, if one of its attributes uses x
unfoldable pub users_with : List ℕ → ℕ → ℕ → List Attribute → ℕ
users_with x n m [] = m
users_with x n m (priority v ∷ rest) = users_with x n m rest
users_with x n m (autostart b ∷ rest) = users_with x n m rest
users_with x n m (uses y ∷ rest) = users_with x n (cond (same y x) (with m n) m) rest

-- the mask m with those of the objects in it that use x; n is the number of the next body
unfoldable pub users_from : List ℕ → ℕ → ℕ → List Object → ℕ
users_from x n m [] = m
users_from x n m (o ∷ os) = users_from x (number_after o.kind n) (users_with x n m o.attributes) os

-- "its users as a mask"
abbrev pub users_of : List ℕ → List Object → ℕ
users_of x os = users_from x 0 0 os

-- "kind (0 task, 1 ISR)"
abbrev pub kind_of : ℕ → ℕ
kind_of kind = kind - task_sort

-- 1 for TRUE, 0 for FALSE
abbrev pub start_of : Bool → ℕ
start_of b = cond b 1 0

-- c with an attribute of its next body
unfoldable pub attributed : Config → Attribute → Config
attributed c (priority v) = with_priority c c.bodies (held v)
attributed c (autostart b) = with_autostart c c.bodies (start_of b)
attributed c (uses x) = c

-- c with attributes of its next body
unfoldable pub attributed_all : Config → List Attribute → Config
attributed_all c [] = c
attributed_all c (a ∷ rest) = attributed_all (attributed c a) rest

-- c with the object's kind, for a body, or users, for a resource; `users` gives the users of a resource by its name
unfoldable pub begun : (List ℕ → ℕ) → Config → Object → Config
begun users c o =
    cond (is_resource o.kind) (with_users c c.resources (users o.called))
    (with_kind c c.bodies (kind_of o.kind))

-- c with one more body or resource
unfoldable pub ended : ℕ → Config → Config
ended kind c = cond (is_resource kind) (with_resources c (counted c.resources)) (with_bodies c (counted c.bodies))

-- c with the objects after those that it has
unfoldable pub placed : (List ℕ → ℕ) → Config → List Object → Config
placed users c [] = c
placed users c (o ∷ os) = placed users (ended o.kind (attributed_all (begun users c o) o.attributes)) os

-- "our version 1 configuration"; "Tables are not in the text, so none result"
abbrev pub empty : Config
empty = with_version no_config 1

unfoldable pub config_of : List Object → Config
config_of os = placed (λ x. users_of x os) empty os
