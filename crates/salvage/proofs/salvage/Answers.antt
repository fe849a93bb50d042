-- `salvage` meets its contract: each of its four ways out is a law of `Answers`.
use mathlib.Core.Path.{refl}
use Rattle.salvage.proofs.Answers.{did_too_long, did_no_room, did_no_list, did_whole}
use Rattle.salvage.proofs.salvage.Goals as goal

pub returns-then-trace-gt-MAX_TRACE : goal.returns-then-trace-gt-MAX_TRACE
returns-then-trace-gt-MAX_TRACE c = let a = c.args in
    let all = did_too_long a.trace.now a.events.now a.stretches.now _ c.if-trace-gt-MAX_TRACE.true
    refl in record { result = all.0; events = all.1.0; stretches = all.1.1 }

pub returns-then-events-need : goal.returns-then-events-need
returns-then-events-need c = let m = c.measure-need in
    let a = c.args in
    let all = did_no_room a.trace.now a.events.now a.stretches.now _ c.if-trace-gt-MAX_TRACE.false m.result
    m.ensures c.if-events-need.true refl in record { result = all.0; events = all.1.0; stretches = all.1.1 }

pub returns-then-stretches-need : goal.returns-then-stretches-need
returns-then-stretches-need c = let m = c.measure-need in
    let a = c.args in
    let all = did_no_list a.trace.now a.events.now a.stretches.now _ c.if-trace-gt-MAX_TRACE.false m.result
    m.ensures c.if-events-need.false c.if-stretches-need.true refl in record { result = all.0; events = all.1.0; stretches = all.1.1 }

pub returns : goal.returns
returns c = let w = c.write_both in
    let m = c.measure-need in
    let a = c.args in
    let all = did_whole a.trace.now a.events.now a.stretches.now _ c.if-trace-gt-MAX_TRACE.false m.result m.ensures
    c.if-events-need.false c.if-stretches-need.false refl _ _ w.ensures.events w.ensures.stretches in record { result = all.0; events = all.1.0; stretches = all.1.1 }
