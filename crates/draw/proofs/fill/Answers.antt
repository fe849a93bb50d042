-- `fill` meets its contract: each of its four ways out is a law of `Answers`.
use mathlib.Core.Path.{refl}
use native.Mathlib.Omega.{arith}
use Rattle.drawing.specs.Drawing.{draw_bytes}
use Rattle.draw.proofs.Answers.{did_too_long, did_no_room, did_whole, too_many}
use Rattle.draw.proofs.fill.Goals as goal

pub returns-then-count-gt-MAX_TRACE : goal.returns-then-count-gt-MAX_TRACE
returns-then-count-gt-MAX_TRACE c = let a = c.args in
    let ch = a.chances.now in
    let all = did_too_long (draw_bytes ch.weights ch.limits a.start a.count) a.out.now _
    (too_many ch.weights ch.limits a.start a.count c.if-count-gt-MAX_TRACE.true) refl in record { result = all.0; output = all.1 }

pub returns-then-need-gt-MAX_TRACE : goal.returns-then-need-gt-MAX_TRACE
returns-then-need-gt-MAX_TRACE c = let m = c.measure-need in
    let a = c.args in
    let ch = a.chances.now in
    let all = did_too_long (draw_bytes ch.weights ch.limits a.start a.count) a.out.now _
    (omega (arith, m.ensures, c.if-need-gt-MAX_TRACE.true)) refl in record { result = all.0; output = all.1 }

pub returns-then-out-need : goal.returns-then-out-need
returns-then-out-need c = let m = c.measure-need in
    let a = c.args in
    let ch = a.chances.now in
    let all = did_no_room (draw_bytes ch.weights ch.limits a.start a.count) a.out.now m.result m.ensures
    c.if-need-gt-MAX_TRACE.false _ c.if-out-need.true refl in record { result = all.0; output = all.1 }

pub returns : goal.returns
returns c = let w = c.write_trace in
    let m = c.measure-need in
    let a = c.args in
    let ch = a.chances.now in
    let all = did_whole (draw_bytes ch.weights ch.limits a.start a.count) a.out.now m.result
    m.ensures c.if-need-gt-MAX_TRACE.false c.if-out-need.false _ w.ensures in record { result = all.0; output = all.1 }
