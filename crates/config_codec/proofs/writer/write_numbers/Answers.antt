-- `write_numbers` meets its contract: the loop keeps `WritesOn`. The measure is the numbers left.
use mathlib.Core.Path.{◌≡◌, sym, ap, ◌∙◌}
use mathlib.Core.Bool.{false}
use native.Mathlib.Omega.{arith}
use lib.ListN.{length}
use Rattle.number.proofs.Theorems.{length_written}
use Rattle.config.specs.Draft.{ended}
use Rattle.config.specs.Writer.{config_bytes}
use Rattle.config_codec.proofs.Writing.{writes_start, writes_stand, writes_room, part_room, writes_small, writes_fewer, writes_next, writes_end}
use Rattle.config_codec.proofs.writer.write_numbers.Goals as goal

pub loop-c-init : goal.loop-c-init
loop-c-init c = rw c.first-p.ensures (writes_start c.args.c c.args.out.now c.requires.0 c.requires.1)

pub write_at-at-requires : goal.write_at-at-requires
write_at-at-requires c = let l = c.loop-c in let going : ended l.p.field ≡ false = sym c.ended.ensures ∙ c.loop-c-test.true in
    part_room l.invariant going c.asked-v.ensures c.silent.ensures

pub overflow_add-at : goal.overflow_add-at
overflow_add-at c = let l = c.loop-c in let going : ended l.p.field ≡ false = sym c.ended.ensures ∙ c.loop-c-test.true in
    let h = writes_small l.invariant going c.asked-v.ensures c.silent.ensures in
    omega (arith, h, c.write_at-at.ensures.result)

pub next-p-requires : goal.next-p-requires
next-p-requires c = let l = c.loop-c in let going : ended l.p.field ≡ false = sym c.ended.ensures ∙ c.loop-c-test.true in
    writes_stand l.invariant

pub loop-c-smaller : goal.loop-c-smaller
loop-c-smaller c = let l = c.loop-c in let going : ended l.p.field ≡ false = sym c.ended.ensures ∙ c.loop-c-test.true in
    writes_fewer l.invariant going c.asked-v.ensures c.silent.ensures
    c.next-p.ensures

pub loop-c-preserved : goal.loop-c-preserved
loop-c-preserved c = let l = c.loop-c in let going : ended l.p.field ≡ false = sym c.ended.ensures ∙ c.loop-c-test.true in
    writes_next l.invariant going c.asked-v.ensures c.silent.ensures
    c.next-p.ensures c.write_at-at.ensures.result c.write_at-at.ensures.output

pub returns : goal.returns
returns c = writes_end c.loop-c.invariant (sym c.ended.ensures ∙ c.loop-c-test.false)

pub shape_of-out : goal.shape_of-out
shape_of-out c = let a = c.args in
    ap length (returns c) ∙ length_written (config_bytes a.c) a.out.now

pub asked-v-requires : goal.asked-v-requires
asked-v-requires c = writes_stand c.loop-c.invariant

pub slice_bounds-write_at-count : goal.slice_bounds-write_at-count
slice_bounds-write_at-count c = let l = c.loop-c in let going : ended l.p.field ≡ false = sym c.ended.ensures ∙ c.loop-c-test.true in
    let h = writes_room l.invariant going c.asked-v.ensures c.silent.ensures in
    omega (arith, h)

pub slice_bounds-write_at-start : goal.slice_bounds-write_at-start
slice_bounds-write_at-start c = let l = c.loop-c in let going : ended l.p.field ≡ false = sym c.ended.ensures ∙ c.loop-c-test.true in
    let h = writes_room l.invariant going c.asked-v.ensures c.silent.ensures in
    omega (arith, h)

pub slice_bounds-write_at-end : goal.slice_bounds-write_at-end
slice_bounds-write_at-end c = let l = c.loop-c in let going : ended l.p.field ≡ false = sym c.ended.ensures ∙ c.loop-c-test.true in
    let h = writes_room l.invariant going c.asked-v.ensures c.silent.ensures in
    omega (arith, h)
