-- Event bits, each bit by itself; what Clear, Set, Wait and an activation make of those of a body; who is resumed.
use Prim.Native.Nat.{ℕ, ◌-◌, ◌^◌, ◌<◌}
use mathlib.Core.Path.{◌≡◌, refl, sym, ap, ◌∙◌}
use mathlib.Core.Bool.{Bool, true, false, true≢false, cond, not, ◌&&◌, ◌||◌}
use mathlib.Core.Logic.{◌↔◌}
use native.Mathlib.Omega.{arith}
use borrow.Author.Tests.{eqb-true, eq-eqb, not-false}
use lib.Bits.{bit_and, and_zero_r}
use lib.Dec.{eqb}
use Rattle.number.proofs.Cases.{cond_either}
use Rattle.number.proofs.Bits.{or_bit, and_bits, and_not, no_bit}
use Rattle.number.proofs.Bits as Number
use Rattle.scheduler.specs.Bits.{bit_set, any_set, with_bits, without_bits}
use Rattle.scheduler.specs.Body.{Phase, suspended, ready, started, waiting, triggered, has_begun, Body, become, activated, clears, waits, resumed, receives}
use Rattle.scheduler.specs.Scheduler.{new_body}

module _ (bits w : ℕ) where
  pub any_set_lem : (any_set bits w ≡ false) ↔ ((i : ℕ) → bit_set bits i && bit_set w i ≡ false)
  unfolding any_set
  any_set_lem = (
    λ e i. sym (and_bits bits w i)
        ∙ ap (λ (n : ℕ). bit_set n i) (eqb-true (bit_and bits w) 0 (not-false (eqb (bit_and bits w) 0) e)) ∙ none i,
    λ h. ap not (eq-eqb (bit_and bits w) 0 (no_bit (bit_and bits w) (λ i. and_bits bits w i ∙ h i))),
  )
    where
      none : (i : ℕ) → bit_set 0 i ≡ false
      none i = go (bit_set 0 i) (ap (λ (n : ℕ). bit_set n i) (sym (and_zero_r 0)) ∙ Number.without_bit 0 0 i)
        where
          go : (b : Bool) → b ≡ b && not b → b ≡ false
          go true e = e
          go false e = refl

  pub with_bit : (i : ℕ) → bit_set (with_bits bits w) i ≡ bit_set bits i || bit_set w i
  unfolding with_bits
  with_bit = or_bit bits w

  pub without_bit : (i : ℕ) → bit_set (without_bits bits w) i ≡ bit_set bits i && not (bit_set w i)
  unfolding without_bits
  without_bit = Number.without_bit bits w

  -- the machine's `&` with the complement clears the same
  without_and : bits < 2 ^ 32 → w < 2 ^ 32 → bit_and bits (2 ^ 32 - 1 - w) ≡ without_bits bits w
  unfolding without_bits
  without_and h k = omega (arith, and_not 32 bits w h k)

-- a body
module _ (w : ℕ) (b : Body) where
  pub clears_bit : (i : ℕ) → bit_set (clears w b).bits i ≡ bit_set b.bits i && not (bit_set w i)
  clears_bit = without_bit b.bits w

  pub receives_bit : (i : ℕ) → bit_set (receives w b).bits i ≡ bit_set b.bits i || bit_set w i
  receives_bit = with_bit b.bits w

  pub waits_bits : (waits w b).bits ≡ b.bits
  waits_bits = cond_either (λ (x : Body). x.bits ≡ b.bits) (any_set b.bits w) _ _ refl refl

  some_set : (bits : ℕ) (i : ℕ) → bit_set bits i && bit_set w i ≡ true → any_set bits w ≡ true
  some_set bits i h = go (any_set bits w) refl
    where
      go : (x : Bool) → any_set bits w ≡ x → any_set bits w ≡ true
      go true e = e
      go false e = absurd (true≢false (sym h ∙ (any_set_lem bits w).0 e i))

  -- one waited bit that is set suffices; where none is, the body waits for those of the mask, and for no other
  pub waits_on : (i : ℕ) → bit_set b.bits i && bit_set w i ≡ true → waits w b ≡ b
  waits_on i h = rw (some_set b.bits i h)

  pub waits_for : ((i : ℕ) → bit_set b.bits i && bit_set w i ≡ false) → waits w b ≡ become (waiting w) b
  waits_for none = rw ((any_set_lem b.bits w).1 none)

  pub resumed_on : (bits i : ℕ) → bit_set bits i && bit_set w i ≡ true → resumed bits (waiting w) ≡ started
  resumed_on bits i h = rw (some_set bits i h)

  pub resumed_not : (bits : ℕ) → ((i : ℕ) → bit_set bits i && bit_set w i ≡ false) → resumed bits (waiting w) ≡ waiting w
  resumed_not bits none = rw ((any_set_lem bits w).1 none)

-- all of them
pub activated_bits : (b : Body) → (activated b).bits ≡ 0
activated_bits b = refl

pub new_bits : (autostart : ℕ) → (new_body autostart).bits ≡ 0
new_bits autostart = cond_either (λ (x : Body). x.bits ≡ 0) (eqb autostart 1) _ _ refl refl

-- mask 0 has no bit to wait for
pub mask_zero : (bits : ℕ) → any_set bits 0 ≡ false
unfolding any_set
mask_zero bits = ap (λ (n : ℕ). not (eqb n 0)) (and_zero_r bits)

-- "Wait on mask 0 is never resumed"
pub mask_zero_waits : (bits : ℕ) → resumed bits (waiting 0) ≡ waiting 0
mask_zero_waits bits = rw (mask_zero bits)

-- who is resumed has begun as before
pub resumed_begun : (bits : ℕ) (p : Phase) → has_begun (resumed bits p) ≡ has_begun p
resumed_begun bits suspended = refl
resumed_begun bits ready = refl
resumed_begun bits started = refl
resumed_begun bits (waiting w) = go (any_set bits w)
  where
    go : (p : Bool) → has_begun (cond p started (waiting w)) ≡ true
    go true = refl
    go false = refl
resumed_begun bits (triggered x) = refl
