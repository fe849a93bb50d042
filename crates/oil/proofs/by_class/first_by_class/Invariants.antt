-- `first_by_class` meets its contract: a class at a time.
use Rattle.std.proofs.Common.{ℕ, Bool, ◌%◌}
use Rattle.oil.specs.Hash.{hashed}
use Rattle.oil.specs.Tokens.{First}
use Rattle.oil.specs.Names.{spelled}
use Rattle.oil.specs.ByClass.{FindsFirst}
use Rattle.oil.proofs.ByClass.{within}
use Rattle.oil.proofs.by_class.first_by_class.Given as goal

abbrev pub invariant-loop-number : goal.invariant-loop-number
invariant-loop-number g l =
    (p : ℕ → Bool) → FindsFirst l.text l.tokens (λ n c r. goal.F-post g l.find n c r) p
    → First l.tokens (within l.tokens p (λ i. hashed l.class.key 0 (spelled l.text i) % l.class.count) l.number) l.first
