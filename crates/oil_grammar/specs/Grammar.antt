-- The grammar: which objects a text is OIL of, and the configuration that it describes.
-- Written without the parser. Main laws: `accepted_exactly` and `one_meaning` (proofs/Theorems.antt).
use Rattle.std.specs.Prelude.{ℕ, ◌≡◌, true, false, List, [], ◌∷◌}
use Rattle.number.specs.Refusal.{none}
use Rattle.config.specs.declared.Config.{Config}
use Rattle.config.specs.Writer.{first_fault}
use Rattle.oil_grammar.specs.Text.{Spells}
use Rattle.oil_grammar.specs.Object.{Object, Fits, among_names, object_uses, resources, written}
use Rattle.oil_grammar.specs.Meaning.{config_of}

-- each object's attributes are those of its kind
pub data AllFit : List Object → Type 0 where
  fit_nil : AllFit []
  fit_cons : {o : Object} {os : List Object} → Fits o → AllFit os → AllFit (o ∷ os)

-- no object has the name of an earlier one, "of whatever kind"
pub data Fresh : List (List ℕ) → List Object → Type 0 where
  fresh_nil : {earlier : List (List ℕ)} → Fresh earlier []
  fresh_cons : {earlier : List (List ℕ)} {o : Object} {os : List Object} → among_names o.called earlier ≡ false
      → Fresh (o.called ∷ earlier) os → Fresh earlier (o ∷ os)

-- each of the names is one of the others
pub data Borne (rs : List (List ℕ)) : List (List ℕ) → Type 0 where
  borne_nil : Borne rs []
  borne_cons : {x : List ℕ} {xs : List (List ℕ)} → among_names x rs ≡ true → Borne rs xs → Borne rs (x ∷ xs)

-- the text is OIL of these objects
pub record Oil (text : List ℕ) (os : List Object) : Type 0 where
  pub spells : Spells text (written os)
  pub fits : AllFit os
  pub fresh : Fresh [] os
  pub borne : Borne (resources os) (object_uses os)

-- the text describes the configuration: the fields are in their ranges
pub record Describes (text : List ℕ) (c : Config) : Type 0 where
  pub objects : List Object
  pub oil : Oil text objects
  pub meant : c ≡ config_of objects
  pub in_range : first_fault c ≡ none
