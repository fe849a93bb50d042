-- A search that goes by classes of names.
use Rattle.std.specs.Prelude.{ℕ, ◌≤◌, Bool, ◌&&◌, List, Option}
use Rattle.oil.specs.declared.hashing.Class.{Class}
use Rattle.oil.specs.Tokens.{First}
use Rattle.oil.specs.Names.{in_class, spelled}

-- among the tokens of a text t, `finds` gives the first below a bound that is of a class and of which p holds
abbrev pub FindsFirst : List ℕ → ℕ → (ℕ → Class → Option ℕ → Type 0) → (ℕ → Bool) → Type 0
FindsFirst t n finds p =
    (bound : ℕ) (c : Class) (r : Option ℕ) → bound ≤ n → finds bound c r
    → First bound (λ i. in_class c (spelled t i) && p i) r
