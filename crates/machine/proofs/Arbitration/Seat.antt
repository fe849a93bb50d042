-- The state between two runners: the nest of those that hold a resource.
--
--   Holders c rk m bs  the bodies that hold a resource, nested, with a level at most the model's
--   holders            of every model there are such
use Prim.Native.Nat.{ℕ, ◌≤◌, ◌<◌}
use mathlib.Core.Path.{◌≡◌, refl, sym, ◌∙◌}
use mathlib.Core.Bool.{false, true≢false}
use mathlib.Core.List.{List, [], ◌∷◌}
use native.Mathlib.Omega.{arith}
use Rattle.number.proofs.Cases.{by_eq}
use Rattle.config.specs.declared.Config.{Config}
use Rattle.config.specs.Value.{max_priority}
use Rattle.plan.specs.declared.Plan.{Plan}
use Rattle.plan.proofs.Fitted.{Fitted}
use Rattle.scheduler.specs.Body.{Body, current}
use Rattle.scheduler.specs.State.{among}
use Rattle.scheduler.proofs.Choice.Runner.{current_own}
use Rattle.scheduler.proofs.Members.{among_nil, by_among, not_among}
use Rattle.machine.specs.Model.{Model}
use Rattle.machine.proofs.Relation.Words.{at}
use Rattle.machine.proofs.Relation.Slots.{level_with, slots_for, slots_along, SlotsOf}
use Rattle.machine.proofs.Relation.Nest.{level_at, Nested, AllHold, Seats}
use Rattle.machine.proofs.Relation.Whole.{Tied, latest_seat}

pub record Holders (c : Config) (rk : ℕ → ℕ) (m : Model) (bs : List Body) : Type 0 where
  pub nest : List ℕ
  pub nested : Nested c bs nest
  pub hold : AllHold bs nest
  pub low : level_at c bs nest ≤ m.core.level
  pub slots : SlotsOf m (slots_along c rk bs nest)
  pub loose : (b : ℕ) → among b nest ≡ false → (at bs b).held ≡ []

-- every current priority is one that a body may have
module _ {c : Config} {p : Plan} {rk : ℕ → ℕ} (fit : Fitted c p rk) where
  pub current_few : (b : ℕ) (x : Body) → b < c.bodies → current c b x ≤ max_priority
  current_few b x h = go x.held
    where
      go : (rs : List ℕ) → level_with c b rs ≤ max_priority
      go [] = fit.own_few b h
      go (r ∷ rs) = let low = go rs in omega (arith, fit.ceiling_few r)

  pub level_few : (bs : List Body) (ns : List ℕ) → Nested c bs ns → level_at c bs ns ≤ max_priority
  unfolding Nested level_at
  level_few bs [] k = omega arith
  level_few bs (b ∷ ns) k = current_few b (at bs b) k.0

module _ {c : Config} {p : Plan} {rk : ℕ → ℕ} (fit : Fitted c p rk) {m : Model} {bs : List Body} where
  -- whoever runs stays among them if it holds a resource; a time-triggered task holds none
  pub holders : (js : List ℕ) {ns : List ℕ} → Tied c rk m bs js ns → Holders c rk m bs
  unfolding Nested Seats level_at slots_along slots_for
  holders (j ∷ js) {ns} t =
      let k = latest_seat t in
      record {
        nest = ns;
        nested = t.nested;
        hold = k.1.1;
        low = omega (arith, k.1.0, level_few fit bs ns t.nested);
        slots = t.slots;
        loose = t.loose;
      }
  holders [] {ns} t = go ns t.nested t.seats t.slots t.loose
    where
      go : (ns : List ℕ) → Nested c bs ns → Seats c rk bs [] m.core.runner m.core.level ns
          → SlotsOf m (slots_along c rk bs ns) → ((b : ℕ) → among b ns ≡ false → (at bs b).held ≡ []) → Holders c rk m bs
      go [] k s q l =
          record {
            nest = [];
            nested = k;
            hold = λ i h. absurd (true≢false (sym h ∙ among_nil i));
            low = omega arith;
            slots = q;
            loose = l;
          }
      go (b ∷ ns) k s q l = by (at bs b).held refl
        where
          by : (rs : List ℕ) → (at bs b).held ≡ rs → Holders c rk m bs
          by [] e =
              record {
                nest = ns;
                nested = k.1.1.1;
                hold = s.1.1;
                low = omega (arith, k.1.1.0, s.1.0, current_own c b (at bs b));
                slots = rw e at q;
                loose = λ i h. by_eq i b (λ f. rw f e) (λ n. l i (not_among i b ns n h));
              }
          by (r ∷ rs) e =
              record {
                nest = b ∷ ns;
                nested = k;
                hold = λ i h. by_among i b ns h (λ f. rw (f, e)) (λ _ a. s.1.1 i a);
                low = omega (arith, s.1.0);
                slots = q;
                loose = l;
              }
