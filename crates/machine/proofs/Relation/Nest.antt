-- The nest: the runner, and below it those preempted bodies that hold a resource, each above the level of the rest.
--
--   level_at c bs ns         the level at which a nest runs
--   Nested c bs ns           each one's own priority is above the level of the rest
--   Seats c rk bs js r l ns  the runner r and the level l are those of the nest, and whoever is below holds a resource;
--                            where time-triggered tasks js are started the latest of them runs, and all of the nest
--                            hold a resource
--
-- A preempted body that holds nothing is in no nest: its bit in `started` brings it back.
use Prim.Native.Nat.{ℕ, ◌≤◌, ◌<◌}
use mathlib.Core.Path.{◌≡◌, refl, sym, ap, ap₂, ◌∙◌}
use mathlib.Core.Logic.{◌≢◌}
use mathlib.Core.Bool.{true, true≢false}
use mathlib.Core.List.{List, [], ◌∷◌, ◌++◌}
use native.Mathlib.Omega.{arith}
use lib.ListN.{set}
use lib.Seq.{get_or-set_other}
use Rattle.config.specs.declared.Config.{Config}
use Rattle.config.specs.Meaning.{execution_level, priority_of}
use Rattle.scheduler.specs.Body.{Body, is_started, holds, current}
use Rattle.scheduler.specs.State.{no_body, among}
use Rattle.scheduler.proofs.Choice.Runner.{current_own}
use Rattle.scheduler.proofs.Members.{among_head, among_tail, by_among}
use Rattle.machine.specs.Model.{no_rank}
use Rattle.machine.proofs.Relation.Words.{at}
use Rattle.machine.proofs.Relation.Slots.{Slot, level_with, slots_for, slots_along}

unfoldable pub level_at : Config → List Body → List ℕ → ℕ
level_at c bs [] = 0
level_at c bs (b ∷ ns) = current c b (at bs b)

unfoldable pub Nested : Config → List Body → List ℕ → Type 0
Nested c bs [] = Unit {0}
Nested c bs (b ∷ ns) =
    (b < c.bodies) × ((is_started (at bs b).phase ≡ true) × ((level_at c bs ns < priority_of c b) × Nested c bs ns))

-- every body of a list holds a resource
abbrev pub AllHold : List Body → List ℕ → Type 0
AllHold bs ns = (i : ℕ) → among i ns ≡ true → holds (at bs i).held ≡ true

unfoldable pub Seats : Config → (ℕ → ℕ) → List Body → List ℕ → ℕ → ℕ → List ℕ → Type 0
Seats c rk bs [] r l [] = (r ≡ no_rank) × (l ≡ 0)
Seats c rk bs [] r l (b ∷ ns) = (r ≡ rk b) × ((l ≡ current c b (at bs b)) × AllHold bs ns)
Seats c rk bs (j ∷ js) r l [] = (r ≡ rk j) × ((l ≡ execution_level) × AllHold bs [])
Seats c rk bs (j ∷ js) r l (b ∷ ns) = (r ≡ rk j) × ((l ≡ execution_level) × AllHold bs (b ∷ ns))

-- in a nest
module _ (c : Config) (bs : List Body) where
  -- every body of a nest runs at most at its level
  pub nest_level : (i : ℕ) (ns : List ℕ) → Nested c bs ns → among i ns ≡ true → current c i (at bs i) ≤ level_at c bs ns
  unfolding Nested level_at among
  nest_level i [] k h = absurd (true≢false (sym h))
  nest_level i (b ∷ ns) k h =
      by_among i b ns h
      (λ e. rw e (omega arith))
      (λ _ a. let l = nest_level i ns k.1.1.1 a in omega (arith, k.1.1.0, current_own c b (at bs b)))

  -- the bodies of a nest below its first are other bodies
  pub nest_other : (b i : ℕ) (ns : List ℕ) → Nested c bs (b ∷ ns) → among i ns ≡ true → i ≡ b → ⊥
  unfolding Nested
  nest_other b i ns k h e =
      let l : current c b (at bs b) ≤ level_at c bs ns = rw e at (nest_level i ns k.1.1.1 h) in
      omega (arith, current_own c b (at bs b), k.1.1.0)

  pub nest_exists : (i : ℕ) (ns : List ℕ) → Nested c bs ns → among i ns ≡ true → i < c.bodies
  unfolding Nested among
  nest_exists i [] k h = absurd (true≢false (sym h))
  nest_exists i (b ∷ ns) k h = by_among i b ns h (λ e. rw e k.0) (λ _ a. nest_exists i ns k.1.1.1 a)

  pub nest_started : (i : ℕ) (ns : List ℕ) → Nested c bs ns → among i ns ≡ true → is_started (at bs i).phase ≡ true
  unfolding Nested among
  nest_started i [] k h = absurd (true≢false (sym h))
  nest_started i (b ∷ ns) k h = by_among i b ns h (λ e. rw e k.1.0) (λ _ a. nest_started i ns k.1.1.1 a)

-- as far as a nest goes two bodies are alike: begun or not, and holding the same
pub record Alike (x y : Body) : Type 0 where
  pub phase : is_started x.phase ≡ is_started y.phase
  pub held : x.held ≡ y.held

pub alike_same : {x y : Body} → x ≡ y → Alike x y
alike_same e = record { phase = ap (λ (b : Body). is_started b.phase) e; held = ap (λ (b : Body). b.held) e }

-- the bodies of a nest are alike in bs and bs'
pub record AlikeAlong (bs bs' : List Body) (ns : List ℕ) : Type 0 where
  pub each : (b : ℕ) → among b ns ≡ true → Alike (at bs b) (at bs' b)

-- one body is changed that is not in it
pub alike_outside : {bs : List Body} {ns : List ℕ} (b : ℕ) (y : Body) → ((i : ℕ) → among i ns ≡ true → i ≢ b)
    → AlikeAlong bs (set bs b y) ns
alike_outside {bs} b y other =
    record { each = λ i h. alike_same (sym (get_or-set_other bs b i y no_body (other i h))) }

current_alike : {x y : Body} (c : Config) (b : ℕ) → Alike x y → current c b x ≡ current c b y
current_alike c b a = ap (level_with c b) a.held

-- then the nest stays as it is
module _ {bs bs' : List Body} where
  head_alike : {b : ℕ} {ns : List ℕ} → AlikeAlong bs bs' (b ∷ ns) → Alike (at bs b) (at bs' b)
  head_alike {b} {ns} a = a.each b (among_head b ns)

  tail_alike : {b : ℕ} {ns : List ℕ} → AlikeAlong bs bs' (b ∷ ns) → AlikeAlong bs bs' ns
  tail_alike {b} {ns} a = record { each = λ i h. a.each i (among_tail i b ns h) }

  pub level_at_alike : (c : Config) {ns : List ℕ} → AlikeAlong bs bs' ns → level_at c bs ns ≡ level_at c bs' ns
  unfolding level_at
  level_at_alike c {ns = []} a = refl
  level_at_alike c {ns = b ∷ ns} a = current_alike c b (head_alike a)

  pub nested_alike : (c : Config) {ns : List ℕ} → AlikeAlong bs bs' ns → Nested c bs ns → Nested c bs' ns
  unfolding Nested
  nested_alike c {ns = []} a k = k
  nested_alike c {ns = b ∷ ns} a k =
      let below = tail_alike a in
      let begun = sym (head_alike a).phase ∙ k.1.0 in
      (k.0, (begun, (rw (sym (level_at_alike c below)) k.1.1.0, nested_alike c below k.1.1.1)))

  pub slots_along_alike : (c : Config) (rk : ℕ → ℕ) {ns : List ℕ} → AlikeAlong bs bs' ns
      → slots_along c rk bs ns ≡ slots_along c rk bs' ns
  unfolding slots_along
  slots_along_alike c rk {ns = []} a = refl
  slots_along_alike c rk {ns = b ∷ ns} a =
      ap₂ (λ (x y : List Slot). x ++ y)
      (ap (slots_for c rk b) (head_alike a).held)
      (slots_along_alike c rk (tail_alike a))

  pub hold_alike : {ns : List ℕ} → AlikeAlong bs bs' ns → AllHold bs ns → AllHold bs' ns
  hold_alike a h i m = sym (ap holds (a.each i m).held) ∙ h i m

  pub seats_alike : (c : Config) (rk : ℕ → ℕ) (js : List ℕ) (r l : ℕ) {ns : List ℕ} → AlikeAlong bs bs' ns
      → Seats c rk bs js r l ns → Seats c rk bs' js r l ns
  unfolding Seats
  seats_alike c rk [] r l {ns = []} a k = k
  seats_alike c rk [] r l {ns = b ∷ ns} a k =
      (k.0, (k.1.0 ∙ current_alike c b (head_alike a), hold_alike (tail_alike a) k.1.1))
  seats_alike c rk (j ∷ js) r l {ns = []} a k = (k.0, (k.1.0, hold_alike a k.1.1))
  seats_alike c rk (j ∷ js) r l {ns = b ∷ ns} a k = (k.0, (k.1.0, hold_alike a k.1.1))

-- a time-triggered task takes the seat, above a nest of which all hold a resource; and back
module _ (c : Config) (rk : ℕ → ℕ) (bs : List Body) (j : ℕ) (js : List ℕ) (r l : ℕ) where
  pub timed_seats : (ns : List ℕ) → r ≡ rk j → l ≡ execution_level → AllHold bs ns → Seats c rk bs (j ∷ js) r l ns
  unfolding Seats
  timed_seats [] e f h = (e, (f, h))
  timed_seats (b ∷ ns) e f h = (e, (f, h))

  pub timed_seat : (ns : List ℕ) → Seats c rk bs (j ∷ js) r l ns → (r ≡ rk j) × ((l ≡ execution_level) × AllHold bs ns)
  unfolding Seats
  timed_seat [] k = k
  timed_seat (b ∷ ns) k = k
