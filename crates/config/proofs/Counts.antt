-- A count that is too great is the writer's first fault: of the bodies, whatever else the value has, and of the
-- resources where the numbers before it are in order.
use Prim.Native.Nat.{ℕ, zero, suc, ◌+◌, ◌≤◌, ◌<◌}
use mathlib.Core.Path.{◌≡◌, refl, sym, ◌∙◌}
use mathlib.Core.Bool.{false}
use mathlib.Core.Logic.{◌⊎◌, inl, inr}
use native.Mathlib.Omega.{arith}
use borrow.Author.Tests.{eq-eqb, ne_eqb, le-leb, lt-leb}
use Rattle.number.specs.Refusal.{none}
use Rattle.number.proofs.Cases.{by_eq}
use Rattle.config.specs.declared.Config.{Config}
use Rattle.config.specs.declared.Draft.{Draft}
use Rattle.config.specs.declared.Field.{Field}
use Rattle.config.specs.declared.Field.TheVariants.{Version, Bodies, Kind, Priority, Autostart, Deadline, Resources}
use Rattle.config.specs.Refusal.{bad_count}
use Rattle.config.specs.Value.{max_bodies, max_resources, with_resources}
use Rattle.config.specs.Draft.{fault_at, fault, put_at, put, asked_at, asked, ended, start, Within}
use Rattle.config.specs.Reader.{max_numbers}
use Rattle.config.specs.Writer.{fault_from, first_fault}
use Rattle.config.proofs.Position.{left, moved, some_left, start_within}
use Rattle.config.proofs.Walk.{fault_step, fault_stop}

-- the count of bodies is the second number
second_number : (k : ℕ) (c : Config) → c.version ≡ 1 → max_bodies < c.bodies
    → fault_from (suc (suc k)) c start ≡ bad_count
unfolding fault_from fault_at put_at asked_at ended
second_number k c v h = rw (v, le-leb 1 c.bodies (omega arith), lt-leb c.bodies max_bodies h) refl

pub too_many_bodies : (c : Config) → c.version ≡ 1 → max_bodies < c.bodies → first_fault c ≡ bad_count
too_many_bodies c v h = second_number 290 c v h

-- the fields before the count of resources
data Early : Field → Type 0 where
  version : Early Version
  count : Early Bodies
  kind : Early Kind
  priority : Early Priority
  autostart : Early Autostart
  deadline : Early Deadline

abbrev UpToResources : Field → Type 0
UpToResources f = Early f ⊎ (f ≡ Resources)

not_ended : {f : Field} → UpToResources f → ended f ≡ false
unfolding ended
not_ended (inl version) = refl
not_ended (inl count) = refl
not_ended (inl kind) = refl
not_ended (inl priority) = refl
not_ended (inl autostart) = refl
not_ended (inl deadline) = refl
not_ended (inr e) = rw e refl

next : {f : Field} → Early f → (d : Draft) (v : ℕ) → UpToResources (put_at f d v).field
unfolding put_at
next version d v = inl count
next count d v = inl kind
next kind d v = inl priority
next priority d v = inl autostart
next autostart d v = inl deadline
next deadline d v =
    by_eq (d.index + 1) d.config.bodies
    (λ e. rw (eq-eqb (d.index + 1) d.config.bodies e) (inr refl))
    (λ n. rw (ne_eqb (d.index + 1) d.config.bodies n) (inl kind))

module _ (c : Config) (many : max_resources < c.resources) where
  abbrev without : Config
  without = with_resources c 0

  asked_same : {f : Field} → Early f → (d : Draft) → asked_at f without d ≡ asked_at f c d
  unfolding asked_at
  asked_same version d = refl
  asked_same count d = refl
  asked_same kind d = refl
  asked_same priority d = refl
  asked_same autostart d = refl
  asked_same deadline d = refl

  at_resources : (k : ℕ) (d : Draft) → d.field ≡ Resources → fault_from (suc k) c d ≡ bad_count
  unfolding fault_from fault_at asked_at ended
  at_resources k d e = rw (e, le-leb 0 c.resources (omega arith), lt-leb c.resources max_resources many) refl

  reached : (k : ℕ) (d : Draft) → Within d → left d ≤ k → UpToResources d.field → fault_from k without d ≡ none
      → fault_from k c d ≡ bad_count
  reached zero d w l u e = absurd (omega (arith, some_left d (not_ended u) w))
  reached (suc k) d w l (inr r) e = at_resources k d r
  reached (suc k) d w l (inl u) e =
      let t = not_ended (inl u) in
      let q : asked without d ≡ asked c d = asked_same u d in
      by_eq (fault d (asked c d)) none
      (λ f. let m = moved d (asked c d) t f w in
      fault_step k c d (asked c d) refl t f
      ∙ reached k (put d (asked c d)) m.within (omega (arith, m.fewer)) (next u d (asked c d))
      (sym (fault_step k without d (asked c d) q t f) ∙ e))
      (λ f. absurd (f (sym (fault_stop k without d (asked c d) q t f) ∙ e)))

  pub too_many_resources : first_fault without ≡ none → first_fault c ≡ bad_count
  too_many_resources e = reached max_numbers start start_within (omega arith) (inl version) e
