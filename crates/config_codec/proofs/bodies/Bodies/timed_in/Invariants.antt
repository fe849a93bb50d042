-- `timed_in` meets its contract: what is left of the mask says whether it has a bit of kind 3.
use mathlib.Core.Path.{◌≡◌}
use lib.ListN.{take, drop}
use Rattle.config.specs.Draft.{timed_in}
use Rattle.config_codec.proofs.bodies.Bodies.timed_in.Given as goal

abbrev pub invariant-loop-kind : goal.invariant-loop-kind
invariant-loop-kind l =
    let kinds = take l.fn.self.count l.fn.self.kind in
    timed_in l.rest (drop l.kind-index kinds) ≡ timed_in l.mask kinds
