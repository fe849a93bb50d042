-- `chained_body` meets its contract: its tests are the definition's.
use Rattle.std.proofs.Common.{◌≡◌, ℕ, Bool, true, false, ◌&&◌, cond, Some, None, refl, sym, rules}
use borrow.Author.Tests.{ne_eqb}
use Rattle.model.specs.declared.Status.TheVariants.{Done}
use Rattle.model.specs.View.{status_number}
use Rattle.model.proofs.Views.{status_number_injective}
use Rattle.misses.specs.Change.{chained_body}
use Rattle.misses.proofs.change.chained_body.Goals as goal

refused : (t : Bool) (r : ℕ) → None ≡ cond (t && false) (Some r) None
refused true r = refl
refused false r = refl

pub returns-in-Some : goal.returns-in-Some
unfolding chained_body
returns-in-Some c = let done : c.args.status ≡ Done = search rules in
    rw (c.in-Some.is, sym c.chains_to.ensures, c.if-chains_to.true, done) refl

pub returns-in_default : goal.returns-in_default
unfolding chained_body
returns-in_default c = rw (c.in-Some.is, sym c.chains_to.ensures, c.if-chains_to.false) refl

pub returns-in_default-2 : goal.returns-in_default-2
unfolding chained_body
returns-in_default-2 c = let other : c.args.status ≡ Done → ⊥ = search rules in
    rw (c.in-Some.is, ne_eqb (status_number c.args.status) 0 (λ e. other (status_number_injective c.args.status Done e)))
    (refused _ _)

pub returns-in_default-3 : goal.returns-in_default-3
unfolding chained_body
returns-in_default-3 c = rw c.in_default.is refl
