-- The machine's fresh start stands for the plain scheduler's.
use Prim.Native.Nat.{ℕ, ◌<◌}
use mathlib.Core.Path.{◌≡◌, refl, sym, ap, ◌∙◌}
use mathlib.Core.Bool.{Bool, true, false, true≢false, cond, or-false}
use mathlib.Core.List.{[]}
use native.Mathlib.Omega.{arith}
use lib.Dec.{eqb}
use lib.ListN.{length, get_or, take, replicate, length-map, length-replicate, get_or-map}
use lib.Seq.{get_or-take, length-take-le}
use Rattle.config.specs.declared.Config.{Config}
use Rattle.plan.specs.declared.Plan.{Plan}
use Rattle.word.specs.Word.{has, union}
use Rattle.word.proofs.Theorems.{empty, has_union}
use Rattle.scheduler.specs.Body.{Body, is_started, is_waiting, activated}
use Rattle.scheduler.specs.State.{stopped, State, no_body, among}
use Rattle.scheduler.specs.Scheduler as Plain
use Rattle.scheduler.specs.Scheduler.{new_body, fresh}
use Rattle.scheduler.proofs.Event.Effects.{tables_dispatched}
use Rattle.scheduler.proofs.Order.Invariant.{orderly_unstarted, orderly_fresh}
use Rattle.machine.specs.Machine.{unstarted, fresh_model}
use Rattle.machine.proofs.Relation.Rows.{same_everywhere, row_empty_shows}
use Rattle.machine.specs.Cells.{switch_off, is_on, has_turn}
use Rattle.plan.proofs.Fitted.{Fitted}
use Rattle.machine.proofs.Relation.Words.{at, wants, is_aside}
use Rattle.machine.proofs.Relation.Slots.{slots_along}
use Rattle.machine.proofs.Relation.Free.{missing_empty}
use Rattle.machine.proofs.Relation.Nest.{Nested, Seats}
use Rattle.machine.proofs.Relation.Cells.{CellFits, CellsTied}
use Rattle.machine.proofs.Relation.Losses.{Lost, lost_same}
use Rattle.machine.proofs.Relation.Bits.{event_bits, Noted, noted_same}
use Rattle.machine.proofs.Relation.Whole.{Tied, Sim}
use Rattle.machine.proofs.Event.Agrees.{dispatched_losses, dispatched_bits, dispatched_masks, order_dispatched, latest_of_lem, settled_orderly}

-- whatever a new body is, it has not begun, holds nothing and lost nothing
new_wants : (a : ℕ) → wants (new_body a) ≡ eqb a 1
new_wants a = go (eqb a 1)
  where
    go : (b : Bool) → wants (cond b (activated no_body) no_body) ≡ b
    go true = refl
    go false = refl

new_same {ℓ} : {A : Type ℓ} (f : Body → A) → f (activated no_body) ≡ f no_body → (a : ℕ) → f (new_body a) ≡ f no_body
new_same f e a = go (eqb a 1)
  where
    go : (b : Bool) → f (cond b (activated no_body) no_body) ≡ f no_body
    go true = e
    go false = refl

module _ {c : Config} {p : Plan} {rk : ℕ → ℕ} (fit : Fitted c p rk) where
  abbrev unbegun : State
  unbegun = Plain.unstarted c

  size : length unbegun.bodies ≡ c.bodies
  size =
      length-map (take c.bodies c.autostart) new_body
      ∙ length-take-le c.bodies c.autostart (omega (arith, fit.few, fit.autostarts_long))

  -- past the list's end stands a body like that of autostart 0
  at_new : (b : ℕ) → at unbegun.bodies b ≡ new_body (get_or (take c.bodies c.autostart) b 0)
  at_new b = get_or-map new_body (take c.bodies c.autostart) b 0

  at_known : (b : ℕ) → b < c.bodies → at unbegun.bodies b ≡ new_body (get_or c.autostart b 0)
  at_known b h = at_new b ∙ ap new_body (get_or-take c.bodies c.autostart b 0 h)

  at_same {ℓ} : {A : Type ℓ} (f : Body → A) → f (activated no_body) ≡ f no_body
      → (b : ℕ) → f (at unbegun.bodies b) ≡ f no_body
  at_same f e b = ap f (at_new b) ∙ new_same f e (get_or (take c.bodies c.autostart) b 0)

  unbegun_tied : Tied c rk (unstarted p.autostart) unbegun.bodies [] []
  unfolding Nested Seats slots_along among
  unbegun_tied =
      record {
        size = size;
        words = record {
          request_lt = fit.autostart_lt;
          started_lt = omega arith;
          aside_lt = omega arith;
          asks = λ b b<. fit.autostart_at b b< ∙ sym (ap wants (at_known b b<) ∙ new_wants (get_or c.autostart b 0));
          goes_on = λ b b<. empty (rk b) ∙ sym (at_same (λ x. is_started x.phase) refl b);
          put_aside = λ b b<. empty (rk b) ∙ sym (at_same (λ x. is_aside x.phase) refl b);
          real = λ r h. fit.autostart_real r (none_started r ∙ h);
          quiet = λ b h. at_same (λ x. x.pending) refl b;
          suits = λ b. (
            (λ h. absurd (true≢false (sym h ∙ at_same (λ x. x.pending) refl b))),
            λ h. absurd (true≢false (sym h ∙ at_same (λ x. is_aside x.phase) refl b)),
          );
        };
        nested = tt;
        seats = (refl, refl);
        slots = record {
          resources = row_empty_shows;
          holders = row_empty_shows;
          levels = row_empty_shows;
          flags = empty;
          distinct = tt;
          counted = omega (arith, missing_empty 16);
        };
        loose = λ b h. at_same (λ x. x.held) refl b;
      }
    where
      none_started : (r : ℕ) → has p.autostart r ≡ has (union p.autostart 0) r
      none_started r = sym (has_union p.autostart 0 r ∙ rw (empty r) (or-false (has p.autostart r)))

  unbegun_cells : CellsTied c p (replicate 64 0) (replicate 64 switch_off) false (replicate c.tables stopped)
  unfolding CellFits
  unbegun_cells =
      record {
        tables_long = length-replicate c.tables stopped;
        counters_long = refl;
        switches_long = refl;
        fits = λ t e t< a b. rw (same_everywhere c.tables stopped t) (ap is_on (same_everywhere 64 switch_off e));
        spare = λ e h. ap is_on (same_everywhere 64 switch_off e);
        unturned = λ _ e. ap has_turn (same_everywhere 64 switch_off e);
      }

  unbegun_noted : Noted c rk 0 (replicate 32 0) (replicate 32 0) unbegun.bodies
  unbegun_noted =
      record {
        bits_long = refl;
        masks_long = refl;
        bits_are = λ b b<. rw (empty (rk b)) (same_everywhere 32 0 (rk b)) ∙ sym (at_same event_bits refl b);
        mask_is = λ b w b< h. absurd (true≢false (sym (ap is_waiting h) ∙ at_same (λ x. is_waiting x.phase) refl b));
      }

  unbegun_lost : Lost c rk (replicate 32 0) unbegun.bodies
  unbegun_lost =
      record {
        losses_long = refl;
        of_body = λ b b<. same_everywhere 32 0 (rk b) ∙ sym (at_same (λ x. x.losses) refl b);
      }

  pub fresh_sim : Sim c p rk (fresh_model p) (fresh c)
  fresh_sim =
      let ready = orderly_unstarted c fit.accepted fit.shaped in
      let arb = settled_orderly fit unbegun ready unbegun_tied in
      let top = latest_of_lem fit ready in
      record {
        nest = arb.nest;
        tied = rw (order_dispatched c unbegun top) arb.tied;
        calm = arb.calm;
        cells = rw (tables_dispatched c unbegun) unbegun_cells;
        lost = lost_same (dispatched_losses c unbegun) unbegun_lost;
        noted = noted_same (dispatched_bits c unbegun top) (dispatched_masks c unbegun top) unbegun_noted;
        orderly = orderly_fresh c fit.accepted fit.shaped;
        row = rw (order_dispatched c unbegun top) row_empty_shows;
      }
