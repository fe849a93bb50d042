-- `beyond_basic` meets its contract: any of the kinds decides.
use Rattle.std.proofs.Common.{◌≡◌, ℕ, Bool, ◌||◌, List, [], ◌∷◌, take, refl, ap, ◌∙◌, rules, tests, nat_eq}
use Rattle.std.proofs.lemmas.Iterator.{YieldsList-from_slice}
use Rattle.std.proofs.lemmas.Iterator.Search.{any_from_yields_List}
use Rattle.std.specs.List.{list_any}
use Rattle.config.specs.Meaning.{extended, time_triggered}
use Rattle.waiting.specs.Conditions.{some_beyond_basic}
use Rattle.waits.proofs.beyond_basic.Goals as goal

some_any : (ks : List ℕ) → list_any (λ k. nat_eq k extended || nat_eq k time_triggered) ks ≡ some_beyond_basic ks
unfolding some_beyond_basic
some_any [] = refl
some_any (k ∷ ks) = ap (λ (t : Bool). (nat_eq k extended || nat_eq k time_triggered) || t) (some_any ks)

pub returns : goal.returns
returns c = let kinds = take c.args.config.now.bodies c.args.config.now.kind in
    any_from_yields_List (λ k. nat_eq k extended || nat_eq k time_triggered) _ _ c.any.result c.any.ensures.ran
    (YieldsList-from_slice kinds
    (c.iter.ensures.rest ∙ ap (λ (n : ℕ). take n c.args.config.now.kind) c.from-bodies.ensures))
    (λ x b q k. search (rules, tests))
    ∙ some_any kinds
