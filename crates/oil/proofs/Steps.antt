-- The walks over a text's tokens as folds over its steps.
use Rattle.std.proofs.Common.{◌≡◌, ℕ, zero, suc, List, [], ◌∷◌, refl}
use Rattle.config.specs.declared.Config.{Config}
use Rattle.oil_grammar.specs.Records.{Token, Progress}
use Rattle.oil_grammar.specs.Next.{next_token, spelling}
use Rattle.oil_grammar.specs.Automaton.{after}
use Rattle.oil_grammar.specs.Walk.{numbered, marked, mask, put, fill}
use Rattle.oil.specs.Tokens.{tokens_from}

abbrev pub mask_over : List ℕ → List (Progress × Token × List ℕ) → ℕ → ℕ → ℕ
mask_over x [] b m = m
mask_over x (e ∷ rest) b m = mask_over x rest (numbered e.0 b) (marked e.0 e.2 x b m)

abbrev pub fill_over : (List ℕ → ℕ) → List (Progress × Token × List ℕ) → Config → Config
fill_over u [] c = c
fill_over u (e ∷ rest) c = fill_over u rest (put u e.0 c e.1.sort e.2)

module _ (t : List ℕ) where
  pub mask_steps : (k at : ℕ) (s : Progress) (x : List ℕ) (b m : ℕ) → mask_over x (tokens_from k t at s) b m ≡ mask k t at s x b m
  unfolding tokens_from mask
  mask_steps zero at s x b m = refl
  mask_steps (suc k) at s x b m =
      let w = next_token t at in
      mask_steps k w.end (after s w.sort) x (numbered s b) (marked s (spelling t w) x b m)

  pub fill_steps : (k at : ℕ) (s : Progress) (u : List ℕ → ℕ) (c : Config) → fill_over u (tokens_from k t at s) c ≡ fill k t at s u c
  unfolding tokens_from fill
  fill_steps zero at s u c = refl
  fill_steps (suc k) at s u c =
      let w = next_token t at in
      fill_steps k w.end (after s w.sort) u (put u s c w.sort (spelling t w))
