-- A refused event leaves the model as it was (`refused_same`), but for the count of a lost line (`lost_line`):
-- at the end of the file.
--
-- In order: an attempt gives the status that it was asked for; what an event does where it is accepted has status 0; what
-- a refused event leaves.
use Prim.Native.Nat.{ℕ}
use mathlib.Core.Path.{◌≡◌, refl, sym, ◌∙◌}
use mathlib.Core.Logic.{◌≢◌}
use mathlib.Core.Bool.{Bool, true, false, true≢false, cond, ◌&&◌}
use lib.ListN.{get_or}
use native.Mathlib.Omega.{arith}
use lib.Dec.{eqb}
use borrow.Author.Tests.{eq-eqb, ne_eqb}
use Rattle.number.proofs.Cases.{by_eq, cond_either}
use Rattle.config.specs.declared.Config.{Config}
use Rattle.config.specs.Meaning.{counts_lines}
use Rattle.plan.specs.declared.Plan.{Plan}
use Rattle.scheduler.specs.Status.{done, limit_reached}
use Rattle.scheduler.specs.Bits.{any_set}
use Rattle.scheduler.specs.Scheduler.{Event, Activate, Finish, Chain, Get, Release, Tick, Line, Start, Stop, Wait, Set, Clear}
use Rattle.machine.specs.Model.{Model, Outcome, no_rank, with_losses}
use Rattle.machine.specs.Arbiter.{is_triggered}
use Rattle.machine.specs.Cells.{one_lost}
use Rattle.machine.specs.Events.{attempt, ticking, tick, bits_at}
use Rattle.machine.specs.Machine.{status_of, effect_of, else_of, machine_step, LostLine}

-- a refused event leaves m
attempt_same : (m : Model) (st : ℕ) (o : Outcome) → o.status ≡ done → (attempt m st o).status ≢ done
    → (attempt m st o).model ≡ m
attempt_same m st o e n =
    by_eq st done
    (λ z. absurd (n (rw (eq-eqb st done z) e)))
    (λ z. rw (ne_eqb st done z))

-- what an event does where it is accepted has status 0
effect_done : (c : Config) (p : Plan) (m : Model) (e : Event) → (effect_of c p m e).status ≡ done
unfolding effect_of tick
effect_done c p m (Activate t) = refl
effect_done c p m Finish = refl
effect_done c p m (Chain t) = refl
effect_done c p m (Get r) = refl
effect_done c p m (Release r) = refl
effect_done c p m Tick =
    let now = ticking p.compare p.entry m in
    cond_either (λ (o : Outcome). o.status ≡ done) (is_triggered p.priority now.core) _ _ refl refl
effect_done c p m (Line i) = refl
effect_done c p m (Start t d) = refl
effect_done c p m (Stop t) = refl
effect_done c p m (Wait w) =
    cond_either (λ (o : Outcome). o.status ≡ done) (any_set (bits_at m m.core.runner) w) _ _ refl refl
effect_done c p m (Set t w) = refl
effect_done c p m (Clear w) = refl

attempt_status : (m : Model) (st : ℕ) (o : Outcome) → o.status ≡ done → (attempt m st o).status ≡ st
attempt_status m st o e =
    by_eq st done
    (λ z. rw (eq-eqb st done z) (e ∙ sym z))
    (λ z. rw (ne_eqb st done z))

module _ (c : Config) (p : Plan) (m : Model) where
  -- what is left is what the refusal leaves, and the status that of the checks
  left : (e : Event) → (machine_step c p m e).status ≢ done
      → (machine_step c p m e).model ≡ else_of c p m (status_of c p m e) e
  left e =
      attempt_same (else_of c p m (status_of c p m e) e) (status_of c p m e) (effect_of c p m e) (effect_done c p m e)

  pub status_is : (e : Event) → (machine_step c p m e).status ≡ status_of c p m e
  status_is e =
      attempt_status (else_of c p m (status_of c p m e) e) (status_of c p m e) (effect_of c p m e) (effect_done c p m e)

  -- what a refused event leaves
  refusal_same : (e : Event) → ((i : ℕ) → LostLine c p m e i → ⊥) → else_of c p m (status_of c p m e) e ≡ m
  unfolding else_of
  refusal_same (Activate t) kept = refl
  refusal_same Finish kept = refl
  refusal_same (Chain t) kept = refl
  refusal_same (Get r) kept = refl
  refusal_same (Release r) kept = refl
  refusal_same Tick kept = refl
  refusal_same (Line i) kept = go (counts_lines c) refl
    where
      st : ℕ
      st = status_of c p m (Line i)

      go : (b : Bool) → counts_lines c ≡ b
          → cond (b && eqb st limit_reached) (with_losses m (one_lost (get_or p.line i no_rank) m.losses)) m ≡ m
      go true e =
          by_eq st limit_reached
          (λ q. absurd (kept i (e, refl, status_is (Line i) ∙ q)))
          (λ q. rw (ne_eqb st limit_reached q))
      go false e = refl
  refusal_same (Start t d) kept = refl
  refusal_same (Stop t) kept = refl
  refusal_same (Wait w) kept = refl
  refusal_same (Set t w) kept = refl
  refusal_same (Clear w) kept = refl

  pub refused_same : (e : Event) → (machine_step c p m e).status ≢ done → ((i : ℕ) → LostLine c p m e i → ⊥)
      → (machine_step c p m e).model ≡ m
  refused_same e refused kept = left e refused ∙ refusal_same e kept

  pub lost_line : (i : ℕ) → LostLine c p m (Line i) i
      → (machine_step c p m (Line i)).model ≡ with_losses m (one_lost (get_or p.line i no_rank) m.losses)
  unfolding else_of
  lost_line i lost =
      left (Line i) (λ z. absurd (omega (arith, lost.2, z)))
      ∙ rw lost.0 (rw (eq-eqb (status_of c p m (Line i)) limit_reached (sym (status_is (Line i)) ∙ lost.2)))

  pub refused_same_one : c.version ≡ 1 → (e : Event) → (machine_step c p m e).status ≢ done
      → (machine_step c p m e).model ≡ m
  refused_same_one v e refused = refused_same e refused (λ i lost. true≢false (sym lost.0 ∙ rw v))
