-- A Wait that does not go on, beside a Finish of the same runner: the runner leaves as by its end, and the same
-- arbitration follows. What differs is what is kept of the runner itself.
use Prim.Native.Nat.{ℕ}
use mathlib.Core.Path.{◌≡◌, refl}
use mathlib.Core.Bool.{Bool, true, false, cond, not, ◌||◌}
use mathlib.Core.List.{List, [], ◌∷◌}
use native.Mathlib.Omega.{arith}
use lib.Dec.{ltb}
use lib.ListN.{set}
use Rattle.scheduler.specs.Status.{done, call_level, access, holds_resource, ◌gives◌, first_given}
use Rattle.scheduler.specs.Bits.{any_set}
use Rattle.word.specs.Word.{has, with}
use Rattle.machine.specs.Model.{Core, Picked, Model, with_begun, with_event_bits}
use Rattle.machine.specs.Arbiter.{winning, beginning, dispatching, arbitrated, timed, leaving}
use Rattle.machine.specs.Resources.{holding}
use Rattle.machine.specs.Events.{attempt, idles, bits_at, wait_status, wait_effect, finish_status, finish_effect}

-- the core with another word of those that are aside
abbrev with_aside : Core → ℕ → Core
with_aside k a = with_begun k k.started a

-- what arbitration makes of the core k, where the winner is dispatched and where not
abbrev either : List ℕ → Core → Bool → Picked
either ps k b = cond b (record { core = dispatching ps k; begun = beginning k }) (record { core = k; begun = false })

-- it neither asks who is aside nor changes that
arbitrated_aside : (ps : List ℕ) (k : Core) (a : ℕ)
    → arbitrated ps (with_aside k a)
    ≡ record { core = with_aside (arbitrated ps k).core a; begun = (arbitrated ps k).begun }
unfolding arbitrated
arbitrated_aside ps k a = go (ltb k.level (winning ps k))
  where
    go : (b : Bool)
        → either ps (with_aside k a) b
        ≡ record { core = with_aside (either ps k b).core a; begun = (either ps k b).begun }
    go true = refl
    go false = refl

-- an accepted Wait is made by a runner who is no time-triggered task and holds nothing
accepted : (i t x h : Bool)
    → first_given ((i || t gives call_level) ∷ (not x gives access) ∷ (h gives holds_resource) ∷ []) ≡ done
    → (i ≡ false) × (t ≡ false) × (h ≡ false)
unfolding first_given
accepted true t x h e = absurd (omega (arith, e))
accepted false true x h e = absurd (omega (arith, e))
accepted false false false h e = absurd (omega (arith, e))
accepted false false true true e = absurd (omega (arith, e))
accepted false false true false e = (refl, refl, refl)

module _ (xs : ℕ) (ps : List ℕ) (m : Model) (w : ℕ) where
  -- the model f, but for what is kept of the runner of m: it is aside, with its event bits and the mask w
  abbrev pub keeping : Model → Model
  keeping f =
      with_event_bits f (with_aside f.core (with m.core.aside m.core.runner)) m.cleared m.bits
      (set m.waited m.core.runner w)

  pub as_finish : wait_status xs m ≡ done → any_set (bits_at m m.core.runner) w ≡ false
      → attempt m (wait_status xs m) (wait_effect ps m w)
      ≡ record {
        model = keeping (attempt m (finish_status m) (finish_effect ps m)).model;
        status = (attempt m (finish_status m) (finish_effect ps m)).status;
        begun = (attempt m (finish_status m) (finish_effect ps m)).begun;
      }
  unfolding first_given
  as_finish e unset =
      let ok = accepted (idles m) (timed m) (has xs m.core.runner) (holding m) e in
      let same = arbitrated_aside ps (leaving m).core (with m.core.aside m.core.runner) in
      rw (e, unset, ok.0, ok.1, ok.2, same) refl
