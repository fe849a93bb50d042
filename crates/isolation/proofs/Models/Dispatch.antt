-- The dispatch in two models that are the same above L, where both levels are at least L after it:
-- `settled_same`, and after a Tick `triggering_same`.
use Prim.Native.Nat.{ℕ, ◌≤◌, ◌<◌}
use mathlib.Core.Path.{◌≡◌, refl, sym, ap, subst, ◌∙◌}
use mathlib.Core.Logic.{◌⊎◌, ⊎_elim}
use mathlib.Core.Bool.{Bool, true, false, cond, not, ◌&&◌, ◌||◌}
use mathlib.Core.List.{List}
use native.Mathlib.Omega.{arith}
use borrow.Author.Tests.{le-ltb}
use lib.Dec.{ltb, eqb}
use lib.ListN.{get_or}
use Rattle.number.proofs.Cases.{by_test, by_lt, by_eq}
use Rattle.config.specs.declared.Config.{Config}
use Rattle.config.specs.Meaning.{execution_level, trigger_level}
use Rattle.config.specs.Accepted as Configuration
use Rattle.word.specs.Word.{has, with, without, winner}
use Rattle.word.proofs.Theorems.{has_union, has_without_same, has_without_other}
use Rattle.stack.specs.Stack.{push_row}
use Rattle.plan.specs.Plan.{plan_of}
use Rattle.machine.specs.Model.{Core, Picked, Model, Outcome, with_core, with_request, with_triggered, done_with}
use Rattle.machine.specs.Arbiter.{bids, arbitrated, settled, triggering}
use Rattle.isolation.specs.Models.{waiting_with, SameWord, SameLosses, SameModel}
use Rattle.isolation.proofs.Models.Winner.{winners, winners_at}

-- what an event hands back of two models, where both levels are at least L after it
pub record SameOutcome (c : Config) (L : ℕ) (o o' : Outcome) : Type 0 where
  pub status : o.status ≡ o'.status
  pub begun : o.begun ≡ o'.begun
  pub model : SameModel c L o.model o'.model

abbrev pub Follows : Config → ℕ → Outcome → Outcome → Type 0
Follows c L o o' = L ≤ o.model.core.level → L ≤ o'.model.core.level → SameOutcome c L o o'

-- two cores after arbitration
record SamePicked (c : Config) (L : ℕ) (a a' : Picked) : Type 0 where
  begun : a.begun ≡ a'.begun
  rest : a'.core ≡ with_request a.core a'.core.request
  requests : SameWord c L a.core.request a'.core.request

pub without_same : (c : Config) (L w w' r : ℕ) → SameWord c L w w' → SameWord c L (without w r) (without w' r)
without_same c L w w' r same i l =
    by_eq i r
    (λ e. rw e (has_without_same w r ∙ sym (has_without_same w' r)))
    (λ d. has_without_other w r i d ∙ same i l ∙ sym (has_without_other w' r i d))

module _ (c : Config) (ok : Configuration.Accepted c) (shaped : Configuration.Shaped c) (L : ℕ) where
  abbrev levels : List ℕ
  levels = (plan_of c).priority

  abbrev level_of : ℕ → ℕ
  level_of r = get_or levels r 0

  -- the core after arbitration, where r wins
  abbrev picked_at : Core → ℕ → Picked
  picked_at k r =
      cond (ltb k.level (level_of r))
      (record {
        core = record {
          request = cond (not (has k.started r)) (without k.request r) k.request;
          started = with k.started r;
          aside = k.aside;
          runner = r;
          level = level_of r;
        };
        begun = not (has k.started r);
      })
      (record { core = k; begun = false })

  arbitrated_at : (k : Core) → arbitrated levels k ≡ picked_at k (winner (bids k))
  unfolding arbitrated
  arbitrated_at k = refl

  module _ (k : Core) (w : ℕ) (same : SameWord c L k.request w) where
    -- the core with the other requests
    abbrev other : Core
    other = with_request k w

    bids_same : SameWord c L (bids k) (bids other)
    bids_same r l =
        has_union k.request k.started r
        ∙ ap (λ (x : Bool). x || has k.started r) (same r l)
        ∙ sym (has_union w k.started r)

    pub winners_are : (winner (bids k) ≡ winner (bids other))
        ⊎ ((level_of (winner (bids k)) ≤ L) × (level_of (winner (bids other)) ≤ L))
    winners_are = winners c ok shaped L (bids k) (bids other) bids_same

    -- the same rank wins in both
    picked_same : (r : ℕ) → SamePicked c L (picked_at k r) (picked_at other r)
    picked_same r =
        by_test (ltb k.level (level_of r))
        (λ h. rw h (by_test (has k.started r)
        (λ b. rw b (record { begun = refl; rest = refl; requests = same }))
        (λ b. rw b (record { begun = refl; rest = refl; requests = without_same c L k.request w r same }))))
        (λ h. rw h (record { begun = refl; rest = refl; requests = same }))

    by_same : winner (bids k) ≡ winner (bids other)
        → SamePicked c L (arbitrated levels k) (arbitrated levels other)
    by_same e =
        rw (arbitrated_at k, arbitrated_at other)
        (subst (λ (r : ℕ). SamePicked c L (picked_at k (winner (bids k))) (picked_at other r)) e
        (picked_same (winner (bids k))))

    -- neither winner is above the level
    unpicked : (k : Core) (r : ℕ) → level_of r ≤ k.level → picked_at k r ≡ record { core = k; begun = false }
    unpicked k r h = rw (le-ltb k.level (level_of r) h)

    by_neither : level_of (winner (bids k)) ≤ k.level → level_of (winner (bids other)) ≤ k.level
        → SamePicked c L (arbitrated levels k) (arbitrated levels other)
    by_neither h h' =
        rw (
          arbitrated_at k,
          arbitrated_at other,
          unpicked k (winner (bids k)) h,
          unpicked other (winner (bids other)) h',
        )
        (record { begun = refl; rest = refl; requests = same })

    -- a level that is below L rose to the winner's
    risen : (k : Core) (r : ℕ) → k.level < L → L ≤ (picked_at k r).core.level → L ≤ level_of r
    risen k r less =
        by_test (ltb k.level (level_of r))
        (λ h. rw h (λ q. q))
        (λ h. rw h (λ q. absurd (omega arith)))

    arbitrated_same : L ≤ (arbitrated levels k).core.level → L ≤ (arbitrated levels other).core.level
        → SamePicked c L (arbitrated levels k) (arbitrated levels other)
    arbitrated_same high high' =
        ⊎_elim by_same
        (λ h. by_lt k.level L
        (λ less.
        let at = risen k (winner (bids k)) less (rw (arbitrated_at k) at high) in
        let at' = risen other (winner (bids other)) less
        (rw (arbitrated_at other) at high') in
        by_same (equal (omega arith) (omega (arith, h.0, at)) (omega (arith, h.1, at'))))
        (λ more. by_neither (omega (arith, h.0)) (omega (arith, h.1))))
        winners_are
      where
        equal : 0 < L → level_of (winner (bids k)) ≡ L → level_of (winner (bids other)) ≡ L
            → winner (bids k) ≡ winner (bids other)
        equal = winners_at c ok shaped L (bids k) (bids other) bids_same

  module _ (m : Model) (w : ℕ) (ls : List ℕ) (same : SameWord c L m.core.request w)
      (lost : SameLosses c L m.losses ls) where
    pub settled_same : Follows c L (settled levels m) (settled levels (waiting_with m w ls))
    settled_same high high' =
        let a = arbitrated_same m.core w same high high' in
        record {
          status = refl;
          begun = a.begun;
          model = record {
            rest = ap (with_core (waiting_with m w ls)) a.rest;
            requests = a.requests;
            losses = lost;
          };
        }

    -- arbitration after a Tick, where r wins
    abbrev triggering_at : Model → ℕ → Outcome
    triggering_at m r =
        cond (ltb m.core.level (level_of r) && eqb (level_of r) trigger_level)
        (done_with
        (with_triggered m
        (record {
          request = without m.core.request r;
          started = m.core.started;
          aside = with m.core.aside r;
          runner = r;
          level = execution_level;
        })
        m.cleared
        (push_row m.triggered r))
        true)
        (settled levels m)

    launched_same : (r : ℕ) → Follows c L (triggering_at m r) (triggering_at (waiting_with m w ls) r)
    launched_same r =
        by_test (ltb m.core.level (level_of r) && eqb (level_of r) trigger_level)
        (λ h. rw h (λ _ _. record {
          status = refl;
          begun = refl;
          model = record { rest = refl; requests = without_same c L m.core.request w r same; losses = lost };
        }))
        (λ h. rw h settled_same)

    untriggered : (m : Model) (r : ℕ) → level_of r ≤ m.core.level → triggering_at m r ≡ settled levels m
    untriggered m r h = rw (le-ltb m.core.level (level_of r) h)

    pub triggering_same : L ≤ m.core.level
        → Follows c L (triggering levels m) (triggering levels (waiting_with m w ls))
    triggering_same more =
        ⊎_elim
        (λ e. subst (λ (r : ℕ). Follows c L (triggering levels m) (triggering_at (waiting_with m w ls) r)) e
        (launched_same (winner (bids m.core))))
        (λ h. rw (
          untriggered m (winner (bids m.core)) (omega (arith, h.0)),
          untriggered (waiting_with m w ls) (winner (bids (with_request m.core w))) (omega (arith, h.1)),
        )
        settled_same)
        (winners_are m.core w same)
