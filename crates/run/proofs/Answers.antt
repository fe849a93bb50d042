-- The machine's answers are the plain scheduler's, as bytes: what demand 3 says of what is seen, it says of the output.
--
--   answers_same    the machine's answers and the plain scheduler's
--   length_answers  how many bytes they take
use Prim.Native.Nat.{ℕ, ◌+◌, ◌*◌}
use mathlib.Core.Path.{◌≡◌, refl, sym, ap, ap₂, ◌∙◌}
use mathlib.Core.List.{List, [], ◌∷◌, ◌++◌}
use native.Mathlib.Omega.{arith}
use lib.ListN.{length, get_or, take, length-append, length-map}
use lib.Seq.{length-take-le}
use Rattle.config.specs.declared.Config.{Config}
use Rattle.config.specs.Accepted.{Accepted, Shaped}
use Rattle.plan.specs.declared.Plan.{Plan}
use Rattle.plan.specs.Rank.{rank_of}
use Rattle.plan.specs.Plan.{plan_of}
use Rattle.scheduler.specs.Scheduler.{Event, Seen, fresh, after}
use Rattle.machine.specs.Model.{Model}
use Rattle.machine.specs.Machine.{fresh_model, machine_step, losses_of, machine_seen, machine_after}
use Rattle.plan.proofs.Fitted.{Fitted, fitted}
use Rattle.machine.proofs.Event.Agrees.{losses_seen_lem}
use Rattle.machine.proofs.Whole.Lists.{agreement_from, after_sim}
use Rattle.machine.proofs.Whole.Fresh.{fresh_sim}
use Rattle.run.specs.Run.{answer_bytes, loss_bytes, answers}
use Rattle.run.specs.Steps.{machine_answers}

-- "four bytes an event", "two bytes a body"
pub length_answer_bytes : (xs : List Seen) → length (answer_bytes xs) ≡ 4 * length xs
unfolding answer_bytes
length_answer_bytes [] = refl
length_answer_bytes (x ∷ xs) = let h = length_answer_bytes xs in omega arith

pub length_loss_bytes : (ns : List ℕ) → length (loss_bytes ns) ≡ 2 * length ns
unfolding loss_bytes
length_loss_bytes [] = refl
length_loss_bytes (n ∷ ns) = let h = length_loss_bytes ns in omega arith

length_seen : (c : Config) (p : Plan) (es : List Event) (m : Model) → length (machine_seen c p m es) ≡ length es
unfolding machine_seen
length_seen c p [] m = refl
length_seen c p (e ∷ es) m = let h = length_seen c p es (machine_step c p m e).model in omega arith

module _ (c : Config) (p : Plan) (fit : Fitted c p (rank_of c)) where
  pub length_losses : (m : Model) → length (loss_bytes (losses_of c p m)) ≡ 2 * c.bodies
  length_losses m =
      length_loss_bytes (losses_of c p m)
      ∙ ap (λ (n : ℕ). 2 * n)
      (length-map (take c.bodies p.rank) (λ r. get_or m.losses r 0)
      ∙ length-take-le c.bodies p.rank (omega (arith, fit.ranks_long, fit.few)))

  module _ (es : List Event) where
    abbrev pub events : List ℕ
    events = answer_bytes (machine_seen c p (fresh_model p) es)

    pub length_events : length events ≡ 4 * length es
    length_events =
        length_answer_bytes (machine_seen c p (fresh_model p) es)
        ∙ ap (λ (n : ℕ). 4 * n) (length_seen c p es (fresh_model p))

    length_machine : length (machine_answers c p es) ≡ 4 * length es + 2 * c.bodies
    unfolding machine_answers
    length_machine =
        let m = machine_after c p (fresh_model p) es in
        length-append events (loss_bytes (losses_of c p m)) ∙ ap₂ (λ (a b : ℕ). a + b) length_events (length_losses m)

    machine_same : machine_answers c p es ≡ answers c es
    unfolding machine_answers answers
    machine_same =
        let start = fresh_sim fit in
        let end = after_sim fit es start in
        let m = machine_after c p (fresh_model p) es in
        ap₂ (λ (xs : List Seen) (ns : List ℕ). answer_bytes xs ++ loss_bytes ns)
        (agreement_from fit es start)
        (losses_seen_lem fit m (after c (fresh c) es).bodies end.tied.size end.lost)

module _ (c : Config) (ok : Accepted c) (shaped : Shaped c) (es : List Event) where
  -- the two sides of demand 3, as bytes
  pub answers_same : machine_answers c (plan_of c) es ≡ answers c es
  answers_same = machine_same c (plan_of c) (fitted c ok shaped) es

  -- "four bytes an event .., then two bytes a body"
  pub length_answers : length (answers c es) ≡ 4 * length es + 2 * c.bodies
  length_answers = sym (ap length answers_same) ∙ length_machine c (plan_of c) (fitted c ok shaped) es
