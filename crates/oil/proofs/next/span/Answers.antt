-- `span` meets its contract: the run has come as far as the index.
use Rattle.std.proofs.Common.{◌≡◌, true, false, get_or, refl, rules, arith}
use Rattle.oil_grammar.proofs.Span.{span_le, run_stopped, run_ended, run_more}
use Rattle.oil.proofs.next.span.Goals as goal

pub loop-i-init : goal.loop-i-init
loop-i-init g c = refl

pub returns-then-not-is_of-clause-run : goal.returns-then-not-is_of-clause-run
returns-then-not-is_of-clause-run g c =
    let out : g.class (get_or c.args.rest.now c.loop-i.i 0) ≡ false = search rules in
    omega (arith, run_stopped g.class c.args.rest.now 0 c.loop-i.i c.loop-i.invariant (omega arith) out)

pub loop-i-preserved : goal.loop-i-preserved
loop-i-preserved g c =
    let in_run : g.class (get_or c.args.rest.now c.loop-i.i 0) ≡ true = search rules in
    run_more g.class c.args.rest.now 0 c.loop-i.i c.loop-i.invariant (omega arith) in_run

pub returns-clause-run : goal.returns-clause-run
returns-clause-run g c = let rest = c.args.rest.now in
    omega (arith, run_ended g.class rest 0 c.loop-i.i c.loop-i.invariant (omega arith), span_le g.class rest)
