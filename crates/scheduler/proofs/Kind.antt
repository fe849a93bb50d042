-- Kinds of bodies: who is time-triggered is a body, and a body of one kind is of no other.
use Prim.Native.Nat.{ℕ, ◌<◌}
use mathlib.Core.Path.{◌≡◌, refl, sym, ap, ◌∙◌}
use mathlib.Core.Logic.{◌≢◌}
use mathlib.Core.Bool.{Bool, true, false, true≢false, not, ◌&&◌, and-false}
use borrow.Author.Tests.{ltb-true, eqb-true, ne_eqb}
use lib.Dec.{ltb, eqb}
use lib.ListN.{get_or}
use native.Mathlib.Omega.{arith}
use Rattle.number.proofs.Cases.{and_true}
use Rattle.config.specs.declared.Config.{Config}
use Rattle.config.specs.Meaning.{isr, extended, time_triggered, is_task, is_osek_task, is_isr, is_extended, is_timed}

pub timed_body : (c : Config) (t : ℕ) → is_timed c t ≡ true → t < c.bodies
timed_body c t h = ltb-true t c.bodies (and_true (ltb t c.bodies) (eqb (get_or c.kind t 0) time_triggered) h).0

pub of_one_kind : (c : Config) (b k k' : ℕ) → k ≢ k' → ltb b c.bodies && eqb (get_or c.kind b 0) k ≡ true
    → ltb b c.bodies && eqb (get_or c.kind b 0) k' ≡ false
of_one_kind c b k k' n h =
    ap (λ (x : Bool). ltb b c.bodies && x)
    (ne_eqb (get_or c.kind b 0) k' (λ e. n (sym kind ∙ e)))
    ∙ and-false (ltb b c.bodies)
  where
    kind : get_or c.kind b 0 ≡ k
    kind = eqb-true (get_or c.kind b 0) k (and_true (ltb b c.bodies) _ h).1

-- an ISR, an extended task and one of OSEK are not time-triggered
pub isr_untimed : (c : Config) (i : ℕ) → is_isr c i ≡ true → is_timed c i ≡ false
isr_untimed c i h = of_one_kind c i isr time_triggered (λ e. omega arith) h

pub extended_untimed : (c : Config) (i : ℕ) → is_extended c i ≡ true → is_timed c i ≡ false
extended_untimed c i h = of_one_kind c i extended time_triggered (λ e. omega arith) h

pub osek_untimed : (c : Config) (i : ℕ) → is_osek_task c i ≡ true → is_timed c i ≡ false
osek_untimed c i h = go (is_timed c i) (and_true (is_task c i) (not (is_timed c i)) h).1
  where
    go : (b : Bool) → not b ≡ true → b ≡ false
    go true e = absurd (true≢false (sym e))
    go false e = refl
