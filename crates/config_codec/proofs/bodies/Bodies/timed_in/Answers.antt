-- `timed_in` meets its contract: what is left of the mask says whether it has a bit of kind 3.
use Prim.Native.Nat.{◌+◌, ◌/◌}
use mathlib.Core.Path.{◌≡◌, sym, ◌∙◌}
use lib.ListN.{take, drop}
use Rattle.config.specs.Meaning.{time_triggered}
use Rattle.config.specs.Draft.{timed_in}
use Rattle.config_codec.proofs.Search.{among_any, among_take}
use Rattle.config_codec.proofs.Timed.{none_timed, timed_here, not_set, not_timed, timed_done}
use Rattle.config_codec.proofs.bodies.Bodies.timed_in.Goals as goal
use Rattle.config_codec.proofs.bodies.Bodies.timed_in.Goals.{else-kind-eq-TIME_TRIGGERED-via-then-kind-eq-TIME_TRIGGERED+else-rest-eq1, else-kind-eq-TIME_TRIGGERED-via-else-kind-eq-TIME_TRIGGERED}

pub returns-then-not-contains : goal.returns-then-not-contains
returns-then-not-contains c =
    let s = c.args.self in
    sym (none_timed c.args.mask (take s.count s.kind)
    (among_take time_triggered s.count s.kind
    (sym (among_any time_triggered s.kind) ∙ sym c.contains.ensures.value ∙ c.if-not-contains.true)))

pub returns-then-rest-eq1 : goal.returns-then-rest-eq1
returns-then-rest-eq1 c =
    let l = c.loop-kind in
    let s = c.args.self in
    sym (timed_here l.rest l.kind-index (take s.count s.kind) c.loop-kind-test.true c.if-rest-eq1.true
    c.if-kind-eq-TIME_TRIGGERED.true) ∙ l.invariant

pub loop-kind-preserved : goal.loop-kind-preserved
loop-kind-preserved c =
    let l = c.loop-kind in
    let s = c.args.self in
    let kinds = take s.count s.kind in
    let step : timed_in l.rest (drop l.kind-index kinds) ≡ timed_in (l.rest / 2) (drop (l.kind-index + 1) kinds) =
    elim c.else-kind-eq-TIME_TRIGGERED.branch [
      | else-kind-eq-TIME_TRIGGERED-via-then-kind-eq-TIME_TRIGGERED+else-rest-eq1 w ↦
          not_set l.rest l.kind-index kinds c.loop-kind-test.true w.if-rest-eq1.false
      | else-kind-eq-TIME_TRIGGERED-via-else-kind-eq-TIME_TRIGGERED w ↦
          not_timed l.rest l.kind-index kinds c.loop-kind-test.true w.if-kind-eq-TIME_TRIGGERED.false
    ] in
    sym step ∙ l.invariant

pub returns : goal.returns
returns c =
    let l = c.loop-kind in
    let s = c.args.self in
    sym (timed_done l.rest l.kind-index (take s.count s.kind) c.loop-kind-test.false) ∙ l.invariant
