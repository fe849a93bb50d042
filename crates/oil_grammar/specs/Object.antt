-- Objects with their attributes, and how each is written in tokens.
--
--   written os      the tokens of the objects, one after the other
--   Fits o          its attributes are those that its kind has
--   names os        what the objects are called; resources os: the RESOURCE objects among them
--   object_uses os  the names that their RESOURCE attributes have
use Rattle.std.specs.Prelude.{ℕ, suc, ◌≤◌, ◌≡◌, Bool, false, cond, ◌||◌, List, [], ◌∷◌, ◌++◌, eqb}
use Rattle.oil_grammar.specs.Token.{Token, mark, name, number, same, task_sort, isr_sort, resource_sort, priority_sort, autostart_sort, true_sort, false_sort, open_sort, close_sort, equals_sort, semicolon_sort}

-- PRIORITY with its number, AUTOSTART with TRUE or FALSE, RESOURCE with a name
pub data Attribute : Type 0 where
  priority : ℕ → Attribute
  autostart : Bool → Attribute
  uses : List ℕ → Attribute

-- the kind is the token that the object begins with: TASK, ISR or RESOURCE
pub record Object : Type 0 where
  pub kind : ℕ
  pub called : List ℕ
  pub attributes : List Attribute

-- the token RESOURCE
abbrev pub is_resource : ℕ → Bool
is_resource kind = eqb kind resource_sort

-- `PRIORITY = 2;`, `AUTOSTART = TRUE;`, `RESOURCE = r;`
unfoldable pub attribute_tokens : Attribute → List Token
attribute_tokens (priority n) = mark priority_sort ∷ mark equals_sort ∷ number n ∷ mark semicolon_sort ∷ []
attribute_tokens (autostart b) =
    mark autostart_sort ∷ mark equals_sort ∷ mark (cond b true_sort false_sort) ∷ mark semicolon_sort ∷ []
attribute_tokens (uses x) = mark resource_sort ∷ mark equals_sort ∷ name x ∷ mark semicolon_sort ∷ []

-- one after the other
unfoldable pub attributes_tokens : List Attribute → List Token
attributes_tokens [] = []
attributes_tokens (a ∷ rest) = attribute_tokens a ++ attributes_tokens rest

-- `TASK name { .. };`
unfoldable pub object_tokens : Object → List Token
object_tokens o =
    mark o.kind
    ∷ name o.called
    ∷ mark open_sort
    ∷ (attributes_tokens o.attributes ++ (mark close_sort ∷ mark semicolon_sort ∷ []))

-- "The text is only objects"
unfoldable pub written : List Object → List Token
written [] = []
written (o ∷ os) = object_tokens o ++ written os

-- how often PRIORITY stands
unfoldable pub priorities : List Attribute → ℕ
priorities [] = 0
priorities (priority n ∷ rest) = suc (priorities rest)
priorities (autostart b ∷ rest) = priorities rest
priorities (uses x ∷ rest) = priorities rest

-- how often AUTOSTART stands
unfoldable pub autostarts : List Attribute → ℕ
autostarts [] = 0
autostarts (priority n ∷ rest) = autostarts rest
autostarts (autostart b ∷ rest) = suc (autostarts rest)
autostarts (uses x ∷ rest) = autostarts rest

-- "PRIORITY (for an ISR a maker's own attribute), AUTOSTART (tasks only, FALSE if absent) and RESOURCE attributes"; a
-- task and an ISR have one PRIORITY, and AUTOSTART stands once at most; "without attributes, `RESOURCE r { };`"
pub data Fits : Object → Type 0 where
  task : {x : List ℕ} {rest : List Attribute} → priorities rest ≡ 1 → autostarts rest ≤ 1
      → Fits (record { kind = task_sort; called = x; attributes = rest })
  isr : {x : List ℕ} {rest : List Attribute} → priorities rest ≡ 1 → autostarts rest ≡ 0
      → Fits (record { kind = isr_sort; called = x; attributes = rest })
  resource : {x : List ℕ} → Fits (record { kind = resource_sort; called = x; attributes = [] })

-- x is one of the names
unfoldable pub among_names : List ℕ → List (List ℕ) → Bool
among_names x [] = false
among_names x (y ∷ ys) = same y x || among_names x ys

unfoldable pub names : List Object → List (List ℕ)
names [] = []
names (o ∷ os) = o.called ∷ names os

unfoldable pub resources : List Object → List (List ℕ)
resources [] = []
resources (o ∷ os) = cond (is_resource o.kind) (o.called ∷ resources os) (resources os)

-- the names of an object's RESOURCE attributes
unfoldable pub attribute_uses : List Attribute → List (List ℕ)
attribute_uses [] = []
attribute_uses (priority n ∷ rest) = attribute_uses rest
attribute_uses (autostart b ∷ rest) = attribute_uses rest
attribute_uses (uses x ∷ rest) = x ∷ attribute_uses rest

unfoldable pub object_uses : List Object → List (List ℕ)
object_uses [] = []
object_uses (o ∷ os) = attribute_uses o.attributes ++ object_uses os
