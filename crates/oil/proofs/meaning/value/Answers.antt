-- `value` meets its contract: a digit more, held as a byte.
use Rattle.std.proofs.Common.{◌≡◌, ℕ, List, Bor, rules}
use Rattle.std.proofs.lemmas.Fn.{fold_over, slice_gives, fronts}
use Rattle.oil_grammar.specs.Token.{decimal}
use Rattle.oil_grammar.specs.Meaning.{held}
use Rattle.oil.proofs.Digits.{held_last, held_none}
use Rattle.oil.proofs.meaning.value.Goals as goal

pub returns : goal.returns
returns c =
    let rest = c.iter.result.rest.now in
    let r : c.fold.result ≡ held (decimal 0 rest) =
    fold_over fronts (λ (y : Bor ℕ). y.now) _ (λ (xs : List ℕ) (v : ℕ). v ≡ held (decimal 0 xs)) _
    (λ ys a x b f so_far called. (held_last ys a b x.now so_far (search rules), search rules))
    c.iter.result rest 0 c.fold.result (slice_gives c.iter.result) held_none c.fold.ensures.ran in
    rw c.iter.ensures.rest at r
