-- `read_event` meets its contract: how many arguments follow the code says how many numbers are read.
use native.Mathlib.Omega.{arith}
use Rattle.event.proofs.Codes.{known_le}
use Rattle.event.proofs.Theorems.{unreadable_code}
use Rattle.event_codec.proofs.Steps.{handed_on, unknown, no_argument, first_unread, one_argument, second_unread, two_arguments}
use Rattle.event_codec.proofs.read_event.Goals as goal

pub returns-in_err-head : goal.returns-in_err-head
returns-in_err-head c = let e = c.in_err-head.ensures in
    handed_on c.from_residual.result _ c.from_residual.ensures.1 _ _ (unreadable_code c.args.trace.now c.args.at e.0) e.1

pub returns-in-None : goal.returns-in-None
returns-in-None c = let h = c.in_ok-head in
    unknown c.args.trace.now c.args.at h.head.value h.head.place h.ensures c.in-None.ensures

pub reading-requires : goal.reading-requires
reading-requires c = omega (arith, known_le _ c.in-Some-eq0.ensures.0)

pub returns-in-Some-eq0 : goal.returns-in-Some-eq0
returns-in-Some-eq0 c = let h = c.in_ok-head in let s = c.in-Some-eq0 in
    rw (c.reading.ensures.value, c.reading.ensures.place)
    (no_argument c.args.trace.now c.args.at h.head.value h.head.place h.ensures s.ensures.0 (omega (arith, s.ensures.1)))

pub returns-in_err-first-in-Some-eq1 : goal.returns-in_err-first-in-Some-eq1
returns-in_err-first-in-Some-eq1 c = let h = c.in_ok-head in let s = c.in-Some-eq1 in
    let e = c.in_err-first-in-Some-eq1.ensures in
    handed_on c.from_residual-in_err-first-in-Some-eq1.result _ c.from_residual-in_err-first-in-Some-eq1.ensures.1 _ _
    (first_unread c.args.trace.now c.args.at h.head.value h.head.place h.ensures s.ensures.0
    (omega (arith, s.ensures.1)) e.0) e.1

pub reading-requires-in-Some-eq1 : goal.reading-requires-in-Some-eq1
reading-requires-in-Some-eq1 c = omega (arith, known_le _ c.in-Some-eq1.ensures.0)

pub returns-in_ok-first-in-Some-eq1 : goal.returns-in_ok-first-in-Some-eq1
returns-in_ok-first-in-Some-eq1 c = let h = c.in_ok-head in let s = c.in-Some-eq1 in
    let f = c.in_ok-first-in-Some-eq1 in
    rw (c.reading-in-Some-eq1.ensures.value, c.reading-in-Some-eq1.ensures.place)
    (one_argument c.args.trace.now c.args.at h.head.value h.head.place h.ensures s.ensures.0 f.first.value
    f.first.place f.ensures (omega (arith, s.ensures.1)))

pub returns-in_err-first-in-Some : goal.returns-in_err-first-in-Some
returns-in_err-first-in-Some c = let h = c.in_ok-head in let s = c.in-Some in
    let e = c.in_err-first-in-Some.ensures in
    handed_on c.from_residual-in_err-first-in-Some.result _ c.from_residual-in_err-first-in-Some.ensures.1 _ _
    (first_unread c.args.trace.now c.args.at h.head.value h.head.place h.ensures s.ensures.0
    (omega (arith, s.ensures.1)) e.0) e.1

pub returns-in_err-second-in-Some : goal.returns-in_err-second-in-Some
returns-in_err-second-in-Some c = let h = c.in_ok-head in let s = c.in-Some in
    let f = c.in_ok-first-in-Some in
    let e = c.in_err-second-in-Some.ensures in
    handed_on c.from_residual-in_err-second-in-Some.result _ c.from_residual-in_err-second-in-Some.ensures.1 _ _
    (second_unread c.args.trace.now c.args.at h.head.value h.head.place h.ensures s.ensures.0 f.first.value
    f.first.place f.ensures (omega (arith, s.ensures.1)) e.0) e.1

pub reading-requires-in-Some : goal.reading-requires-in-Some
reading-requires-in-Some c = omega (arith, known_le _ c.in-Some.ensures.0)

pub returns-in_ok-second-in-Some : goal.returns-in_ok-second-in-Some
returns-in_ok-second-in-Some c = let h = c.in_ok-head in let s = c.in-Some in
    let f = c.in_ok-first-in-Some in
    let g = c.in_ok-second-in-Some in
    rw (c.reading-in-Some.ensures.value, c.reading-in-Some.ensures.place)
    (two_arguments c.args.trace.now c.args.at h.head.value h.head.place h.ensures s.ensures.0 f.first.value
    f.first.place f.ensures (omega (arith, s.ensures.1)) g.second.value g.second.place g.ensures)
