-- `draw` meets its contract: each of its four ways out is a law of `Answers`.
use Rattle.std.proofs.Common.{◌≡◌, rules}
use mathlib.Core.Path.{refl, sym, ◌∙◌}
use lib.ListN.{length}
use Rattle.number.specs.Answer.{as_written}
use Rattle.draw.proofs.Answers.{drew_zero_start, drew_no_weight, drew_no_limit, drew_trace, zero_among}
use Rattle.draw.proofs.draw.Goals as goal
use Rattle.draw.proofs.draw.Goals.{then-sum-eq0-via-then-sum-eq0, then-sum-eq0-via-else-sum-eq0+then-contains}

pub returns-then-start-eq0 : goal.returns-then-start-eq0
returns-then-start-eq0 c = let a = c.args in
    let all = drew_zero_start a.start a.weights.now a.limits.now a.count a.out.now _
    c.if-start-eq0.true refl in record { result = all.0; output = all.1 }

pub returns-then-sum-eq0 : goal.returns-then-sum-eq0
returns-then-sum-eq0 c = let t = c.total-sum in
    let a = c.args in
    let four : length a.limits.now ≡ 4 = search rules in
    elim c.then-sum-eq0.branch [
      | then-sum-eq0-via-then-sum-eq0 w ↦
          let all = drew_no_weight a.start a.weights.now a.limits.now a.count a.out.now _ c.if-start-eq0.false
          (sym t.ensures ∙ w.if-sum-eq0.true) refl in record { result = all.0; output = all.1 }
      | then-sum-eq0-via-else-sum-eq0+then-contains w ↦
          let all = drew_no_limit a.start a.weights.now a.limits.now a.count a.out.now _ c.if-start-eq0.false
          (λ none. w.if-sum-eq0.false (t.ensures ∙ none))
          (sym (zero_among a.limits.now four) ∙ sym w.contains.ensures.value ∙ w.if-contains.true) refl in
          record { result = all.0; output = all.1 }
    ]

pub returns : goal.returns
returns c = let w = c.fill in
    let t = c.total-sum in
    let a = c.args in
    let four : length a.limits.now ≡ 4 = search rules in
    let all = drew_trace a.start a.weights.now a.limits.now a.count a.out.now (as_written w.result) c.if-start-eq0.false
    (λ none. c.if-sum-eq0.false (t.ensures ∙ none))
    (sym (zero_among a.limits.now four) ∙ sym c.contains.ensures.value ∙ c.if-contains.false) _
    (w.ensures.result, w.ensures.output) in record { result = all.0; output = all.1 }
