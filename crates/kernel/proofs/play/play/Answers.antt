-- `play` meets its contract: each step of the loop is that of the event that was read, and its answer is laid after
-- those before it.
use Prim.Native.Nat.{ℕ}
use mathlib.Core.Path.{ap, ◌∙◌}
use mathlib.Core.List.{[], ◌∷◌}
use native.Mathlib.Omega.{arith}
use Rattle.number.specs.Output.{laid}
use Rattle.scheduler.specs.Scheduler.{mark_of}
use Rattle.model.specs.View.{status_number, view, model_of, view_outcome}
use Rattle.kernel.proofs.Passes.Read.{known_byte}
use Rattle.kernel.proofs.Passes.Arm.{Arm, activate_arm, finish_arm, chain_arm, get_arm, release_arm, tick_arm, line_arm, start_arm, stop_arm, wait_arm, set_arm, clear_arm, one_of_twelve}
use Rattle.kernel.proofs.Passes.Play.{playing_start, length_out, playing_end, playing_fine, playing_room, playing_later, playing_step}
use Rattle.kernel.proofs.play.play.Goals as goal
use Rattle.kernel.proofs.play.play.Goals.{in-1, in-2, in-3, in-4, in-5, in-6, in-7, in-8, in-9, in-10, in-11, in-12, in-0, in-0-1, in_default-1}

-- what the arms leave is the step of the event that was read
armed : (c : goal.After-slice_known-in-loop-at-1)
    → Arm c.args.config.now c.args.plan.now c.args.trace.now (view c.loop-at.o.model) c.loop-at.at c.match-code.next
    (view_outcome c.match-code.o)
armed c =
    let inside = c.loop-at-test.true in
    let fine = playing_fine c.loop-at.invariant inside in
    let code = known_byte _ _ (λ i. omega (arith, c.type_inv.trace i)) fine in
    elim c.match-code.branch [
      | in-1 w ↦ activate_arm inside fine w.in-1.is (w.number_at-task.ensures.value, w.number_at-task.ensures.place) (ap view_outcome w.o-is ∙ w.activate-o.ensures) w.next-is
      | in-2 w ↦ finish_arm inside fine w.in-2.is (ap view_outcome w.o-is ∙ w.finish-o.ensures) w.next-is
      | in-3 w ↦ chain_arm inside fine w.in-3.is (w.number_at-task-in-3.ensures.value, w.number_at-task-in-3.ensures.place) (ap view_outcome w.o-is ∙ w.chain-o.ensures) w.next-is
      | in-4 w ↦ get_arm inside fine w.in-4.is (w.number_at-resource.ensures.value, w.number_at-resource.ensures.place) (ap view_outcome w.o-is ∙ w.get-o.ensures) w.next-is
      | in-5 w ↦ release_arm inside fine w.in-5.is (w.number_at-resource-in-5.ensures.value, w.number_at-resource-in-5.ensures.place) (ap view_outcome w.o-is ∙ w.release-o.ensures) w.next-is
      | in-6 w ↦ tick_arm inside fine w.in-6.is (ap view_outcome w.o-is ∙ w.tick-o.ensures) w.next-is
      | in-7 w ↦ line_arm inside fine w.in-7.is (w.number_at-isr.ensures.value, w.number_at-isr.ensures.place) (ap view_outcome w.o-is ∙ w.line-o.ensures) w.next-is
      | in-8 w ↦ start_arm inside fine w.in-8.is (w.read_pair-arguments.ensures.first, (w.read_pair-arguments.ensures.second, w.read_pair-arguments.ensures.place)) (ap view_outcome w.o-is ∙ w.start-o.ensures) w.next-is
      | in-9 w ↦ stop_arm inside fine w.in-9.is (w.number_at-table.ensures.value, w.number_at-table.ensures.place) (ap view_outcome w.o-is ∙ w.stop-o.ensures) w.next-is
      | in-10 w ↦ wait_arm inside fine w.in-10.is (w.number_at-mask.ensures.value, w.number_at-mask.ensures.place) (ap view_outcome w.o-is ∙ w.wait-o.ensures) w.next-is
      | in-11 w ↦ set_arm inside fine w.in-11.is (w.read_pair-arguments-in-11.ensures.first, (w.read_pair-arguments-in-11.ensures.second, w.read_pair-arguments-in-11.ensures.place)) (ap view_outcome w.o-is ∙ w.set_event-o.ensures) w.next-is
      | in-12 w ↦ clear_arm inside fine w.in-12.is (w.number_at-mask-in-12.ensures.value, w.number_at-mask-in-12.ensures.place) (ap view_outcome w.o-is ∙ w.clear-o.ensures) w.next-is
      | in-0 w ↦ absurd (elim w.in-0-1.branch [
        | in-0-1 v ↦ omega (arith, v.in-0-1.keys13, code)
        | in_default-1 v ↦ let r = v.in_default-1.rest in one_of_twelve _ code.0 code.1 r.0.0.0.0.0.0.0.0.0.0.0.0.1 r.0.0.0.0.0.0.0.0.0.0.0.1 r.0.0.0.0.0.0.0.0.0.0.1 r.0.0.0.0.0.0.0.0.0.1 r.0.0.0.0.0.0.0.0.1 r.0.0.0.0.0.0.0.1 r.0.0.0.0.0.0.1 r.0.0.0.0.0.1 r.0.0.0.0.1 r.0.0.0.1 r.0.0.1 r.0.1
      ])
    ]

pub loop-at-init : goal.loop-at-init
loop-at-init c = playing_start c.requires

pub put_answer-requires : goal.put_answer-requires
put_answer-requires c = playing_room c.loop-at.invariant c.loop-at-test.true

pub overflow_add-to : goal.overflow_add-to
overflow_add-to c = omega (arith, playing_room c.loop-at.invariant c.loop-at-test.true, length_out c.loop-at.invariant, c.well_formed)

pub loop-at-smaller : goal.loop-at-smaller
loop-at-smaller c = omega (arith, playing_later c.loop-at.invariant c.loop-at-test.true (armed c), c.loop-at-test.true)

pub loop-at-preserved : goal.loop-at-preserved
loop-at-preserved c = playing_step c.loop-at.invariant c.loop-at-test.true (armed c) _
    (c.put_answer.ensures
    ∙ ap (λ (n : ℕ). laid c.loop-at.to
    (n ∷ c.runner.result ∷ c.match-code.o.model.registers.level ∷ mark_of c.match-code.o.begun ∷ [])
    c.loop-at.out) c.number-status.ensures
    ∙ ap (λ (n : ℕ). laid c.loop-at.to
    (status_number c.match-code.o.status ∷ n ∷ c.match-code.o.model.registers.level ∷ mark_of c.match-code.o.begun ∷ [])
    c.loop-at.out) c.runner.ensures)

pub shape_of-out : goal.shape_of-out
shape_of-out c = length_out c.loop-at.invariant

pub returns : goal.returns
returns c = let e = playing_end c.loop-at.invariant c.loop-at-test.false in
    record {
      value = ap model_of e.0;
      out_after = e.1;
    }
