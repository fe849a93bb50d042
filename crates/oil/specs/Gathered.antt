-- What is known of the names that are kept.
use Rattle.std.specs.Prelude.{ℕ, ◌<◌, ◌≡◌, Bool, true, List, length, take}
use Rattle.std.specs.List.{All, Any}
use Rattle.oil.specs.declared.hashing.Class.{Class}
use Rattle.oil.specs.declared.names.Name.{Name}
use Rattle.oil.specs.declared.names.Names.{Names}
use Rattle.oil_grammar.specs.Automaton.{fresh}
use Rattle.oil_grammar.specs.Walk.{borne}
use Rattle.oil.specs.Hash.{hashed}
use Rattle.oil.specs.Names.{in_class}

-- the names that are kept
abbrev pub kept : Names → List Name
kept n = take n.count n.room.now

-- x is one of them
abbrev pub Among : Names → List ℕ → Type 0
Among n x = Any (λ (m : Name). m.bytes.now ≡ x) (kept n)

-- n are names of the class c of a text t, of RESOURCE objects alone where r is true
pub record IsOf (n : Names) (t : List ℕ) (r : Bool) (c : Class) : Type 0 where
  pub text_is : n.text.now ≡ t
  pub resource_is : n.resource ≡ r
  pub class_is : n.class ≡ c

-- each has its hash; they are names that an object, or a RESOURCE where those are wanted, bears among the first i tokens; where room is left, all of the class
pub record Gathered (n : Names) (i : ℕ) : Type 0 where
  pub hash : All (λ (m : Name). m.hash ≡ hashed n.class.key 0 m.bytes.now) (kept n)
  pub known : All (λ (m : Name). borne i n.text.now 0 fresh n.resource m.bytes.now ≡ true) (kept n)
  pub whole : n.count < length n.room.now → (x : List ℕ) → in_class n.class x ≡ true → borne i n.text.now 0 fresh n.resource x ≡ true → Among n x
