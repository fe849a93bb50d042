-- `check_priority` meets its contract: what stands nowhere in the array is none of its first.
use mathlib.Core.Path.{◌≡◌, sym, ◌∙◌}
use mathlib.Core.Bool.{true, false}
use lib.ListN.{take}
use Rattle.config.specs.Among.{among}
use Rattle.config_codec.proofs.Search.{among_any, among_take}
use Rattle.config_codec.proofs.limits.check_priority.Goals as goal
use Rattle.config_codec.proofs.limits.check_priority.Goals.{else-contains-via-then-contains+else-contains-2, else-contains-via-else-contains}

pub returns-then-contains-2-clause-refusal : goal.returns-then-contains-2-clause-refusal
returns-then-contains-2-clause-refusal c =
    let a = c.args in
    let found : among a.v (take a.n a.priority.now) ≡ true =
    sym (among_any a.v (take a.n a.priority.now)) ∙ sym c.contains-then-contains.ensures.value ∙ c.if-contains-2.true in
    rw (← c.in_ok-within.ensures.refusal, found)

pub returns-clause-refusal : goal.returns-clause-refusal
returns-clause-refusal c =
    let a = c.args in
    let none : among a.v (take a.n a.priority.now) ≡ false = elim c.else-contains.branch [
      | else-contains-via-then-contains+else-contains-2 w ↦
          sym (among_any a.v (take a.n a.priority.now)) ∙ sym w.contains-then-contains.ensures.value
          ∙ w.if-contains-2.false
      | else-contains-via-else-contains w ↦
          among_take a.v a.n a.priority.now
          (sym (among_any a.v a.priority.now) ∙ sym c.contains.ensures.value ∙ w.if-contains.false)
    ] in
    rw (← c.in_ok-within.ensures.refusal, none)
