-- `closing` meets its contract: no */ ends before `end`.
use borrow.Author.Tests.{eq-eqb, ne_eqb}
use Rattle.oil.proofs.Comment.{unclosed_start, closed_here, closed_later, closed_never}
use Rattle.oil.proofs.next.closing.Goals as goal
use Rattle.oil.proofs.next.closing.Goals.{else-rest-end-eq42-via-then-rest-end-eq42+else-rest-end-eq47, else-rest-end-eq42-via-else-rest-end-eq42}

pub loop-end-init : goal.loop-end-init
loop-end-init c = unclosed_start _

pub returns-then-rest-end-eq47-clause-bytes : goal.returns-then-rest-end-eq47-clause-bytes
returns-then-rest-end-eq47-clause-bytes c = let l = c.loop-end in
    closed_here c.args.rest.now l.auto.end l.invariant c.loop-end-test.true c.if-rest-end-eq42.true c.if-rest-end-eq47.true

pub loop-end-preserved : goal.loop-end-preserved
loop-end-preserved c = let l = c.loop-end in
    closed_later c.args.rest.now l.auto.end l.invariant c.loop-end-test.true
    (elim c.else-rest-end-eq42.branch [
      | else-rest-end-eq42-via-then-rest-end-eq42+else-rest-end-eq47 w ↦ rw (eq-eqb _ _ w.if-rest-end-eq42.true, ne_eqb _ _ w.if-rest-end-eq47.false)
      | else-rest-end-eq42-via-else-rest-end-eq42 w ↦ rw (ne_eqb _ _ w.if-rest-end-eq42.false)
    ])

pub returns-clause-bytes : goal.returns-clause-bytes
returns-clause-bytes c = let l = c.loop-end in
    closed_never c.args.rest.now l.auto.end l.invariant c.loop-end-test.false l.auto.end-end
