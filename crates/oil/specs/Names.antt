-- The names of a text's objects, by classes.
--
--   in_class c xs                      the name xs is of the class c
--   repeated_at, twice_at, missing_at  of the token i: it is a name borne before, one of the class; a use that is not borne
use Rattle.std.specs.Prelude.{ℕ, ◌%◌, Bool, ◌&&◌, List, eqb}
use Rattle.oil.specs.declared.hashing.Class.{Class}
use Rattle.oil_grammar.specs.Next.{spelling}
use Rattle.oil_grammar.specs.Automaton.{fresh}
use Rattle.oil_grammar.specs.Walk.{bears, borne, unborne_at}
use Rattle.oil.specs.Hash.{hashed}
use Rattle.oil.specs.Tokens.{token, progress_after}

unfoldable pub in_class : Class → List ℕ → Bool
in_class c x = eqb (hashed c.key 0 x % c.count) c.number

-- the bytes of the token i
abbrev pub spelled : List ℕ → ℕ → List ℕ
spelled t i = spelling t (token t i)

-- the token i is the name of an object, or with r of a RESOURCE, that one before it bears
unfoldable pub repeated_at : List ℕ → Bool → ℕ → Bool
repeated_at t r i = bears r (progress_after t i) && borne i t 0 fresh r (spelled t i)

-- .. of the class
unfoldable pub twice_at : List ℕ → Bool → Class → ℕ → Bool
twice_at t r c i = in_class c (spelled t i) && repeated_at t r i

-- the token i is a use that no RESOURCE among the first n tokens bears
abbrev pub unborne_no : List ℕ → ℕ → ℕ → Bool
unborne_no t n i = unborne_at t (progress_after t i) n (token t i)

-- .. of the class
unfoldable pub missing_at : List ℕ → ℕ → Class → ℕ → Bool
missing_at t n c i = in_class c (spelled t i) && unborne_no t n i
