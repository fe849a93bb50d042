-- From the steps one by one (`Until`) to their number and to what is seen of them:
-- `begins_at_count`, and after a list of events `begins_at`.
use Prim.Native.Nat.{ℕ, zero, suc, ◌-◌, ◌≤◌}
use mathlib.Core.Path.{◌≡◌, refl, ap₂}
use mathlib.Core.Bool.{Bool, true, false}
use mathlib.Core.List.{List, [], ◌∷◌, ◌++◌, map}
use native.Mathlib.Omega.{arith}
use lib.ListN.{replicate}
use Rattle.config.specs.declared.Config.{Config}
use Rattle.config.specs.Accepted as Configuration
use Rattle.scheduler.specs.Status.{done}
use Rattle.scheduler.specs.State.{State}
use Rattle.scheduler.specs.Event.{Event, Finish}
use Rattle.scheduler.specs.Scheduler.{Seen, fresh, after, seen, seen_by}
use Rattle.scheduler.proofs.Choice.Separation.{holders, set_holds, reached_kept}
use Rattle.scheduler.proofs.Choice.Dispatch.{Underway, underway_fresh, underway_after}
use Rattle.waiting.specs.Conditions.{waits_to_begin, resource_held}
use Rattle.waiting.specs.Finishes.{begins_in, finishes_within, finishes_until, most_finishes, BeginsAt}
use Rattle.waiting.specs.Jobs.{jobs_ahead}
use Rattle.waiting.proofs.State.BasicKinds.{Basic}
use Rattle.waiting.proofs.State.Basic.{reached_basic}
use Rattle.waiting.proofs.State.NoHolder.{NoHolder, held_none}
use Rattle.waiting.proofs.Count.Sum.{ahead_few}
use Rattle.waiting.proofs.Count.Descent.{Until, last, before, b_fits, ahead_low, until_ahead}

module _ (c : Config) (ok : Configuration.Accepted c) where
  -- every state that the fresh start leads to, where nothing is held
  reached_free : Configuration.Shaped c → Basic c → (es : List Event)
      → resource_held (after c (fresh c) es) ≡ false
      → NoHolder c (after c (fresh c) es)
  reached_free shaped basic es free =
      record {
        basic = reached_basic c basic es;
        free = held_none (after c (fresh c) es) free;
        size = (reached_kept c ok holders (set_holds c) shaped es).size;
      }

  module _ (b : ℕ) where
    -- a bound that suffices
    until_finishes : {s : State} {n : ℕ} → Until c ok b s n → (m : ℕ) → suc n ≤ m
        → finishes_within m c s b ≡ suc n
    unfolding finishes_within
    until_finishes (last a e) zero h = absurd (omega arith)
    until_finishes (last a e) (suc m) h = simp (a, e)
    until_finishes (before a e u) zero h = absurd (omega arith)
    until_finishes (before a e u) (suc m) h = simp (a, e) (omega (arith, until_finishes u m (omega arith)))

    until_accepted : {s : State} {n : ℕ} → Until c ok b s n
        → map (λ (x : Seen). x.status) (seen c s (replicate (suc n) Finish)) ≡ replicate (suc n) done
    unfolding seen_by
    until_accepted (last a e) = rw a
    until_accepted (before a e u) = ap₂ (λ (x : ℕ) (xs : List ℕ). x ∷ xs) a (until_accepted u)

    until_begins : {s : State} {n : ℕ} → Until c ok b s n
        → map (begins_in b) (seen c s (replicate (suc n) Finish)) ≡ replicate n false ++ true ∷ []
    unfolding seen_by
    until_begins (last a e) = rw e
    until_begins (before a e u) = ap₂ (λ (x : Bool) (xs : List Bool). x ∷ xs) e (until_begins u)

    -- where nothing is held, after any dispatch: the closed count is where it begins
    begins_at_count : (n : ℕ) (s : State) → NoHolder c s → Underway c s → waits_to_begin s b ≡ true
        → jobs_ahead c s b ≡ n
        → BeginsAt c s b n
    begins_at_count zero s a u w e = absurd (omega (arith, ahead_low c ok b a u w))
    begins_at_count (suc n) s a u w e =
        let steps = until_ahead c ok b n s a u w e in
        let one_less : suc n - 1 ≡ n = omega arith in
        record {
          some = omega arith;
          few = omega (
            arith,
            ahead_few c b s.bodies (rw a.size (b_fits c ok b a w)),
            a.size,
            ok.few_bodies,
          );
          accepted = until_accepted steps;
          begins = rw one_less (until_begins steps);
          enough = until_finishes steps;
        }

    module _ (shaped : Configuration.Shaped c) (basic : Basic c) (es : List Event)
        (waits : waits_to_begin (after c (fresh c) es) b ≡ true) (free : resource_held (after c (fresh c) es) ≡ false)
      where
        pub begins_at : BeginsAt c (after c (fresh c) es) b (jobs_ahead c (after c (fresh c) es) b)
        begins_at =
            begins_at_count (jobs_ahead c (after c (fresh c) es) b) (after c (fresh c) es)
            (reached_free shaped basic es free)
            (underway_after c es (fresh c) (underway_fresh c)) waits refl

        pub finishes_jobs : finishes_until c (after c (fresh c) es) b ≡ jobs_ahead c (after c (fresh c) es) b
        finishes_jobs = begins_at.enough most_finishes begins_at.few
