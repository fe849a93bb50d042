-- What an event's code says of it: whether it is a Tick, and whether it is a Chain to a body; the body of a rank.
use Prim.Native.Nat.{ℕ}
use mathlib.Core.Path.{◌≡◌, refl, sym, ap, ◌∙◌}
use mathlib.Core.Bool.{Bool, true, false, cond}
use mathlib.Core.List.{List}
use native.Mathlib.Omega.{arith}
use lib.Dec.{eqb}
use lib.ListN.{length}
use borrow.Author.Tests.{ne_eqb, lt-ltb, le-ltb}
use Rattle.number.proofs.Cases.{by_eq, by_lt}
use Rattle.event.specs.declared.Event.{Event}
use Rattle.event.specs.Event.{activate, finish, chain, get, release, tick, line, start, stop, wait, set}
use Rattle.scheduler.specs.Event as Plain
use Rattle.scheduler.specs.Event.{Activate, Finish, Chain, Get, Release, Tick, Line, Start, Stop, Wait, Set, Clear, is_tick}
use Rattle.run.specs.Run.{call_of}
use Rattle.deadlines.specs.Activation.{chains_to}
use Rattle.misses.specs.Change.{body_at}
use Rattle.std.proofs.Common.{Option, Some, None, Bor}
use Rattle.std.specs.List.{slice_get}
use Rattle.std.specs.Option.{option_copied}
use Rattle.std.specs.Slice.{IsItemAt}
use Rattle.std.proofs.lemmas.Option.{slice_get-get_or, slice_get_past}

cond_same : (t x : Bool) → cond t x x ≡ x
cond_same true x = refl
cond_same false x = refl

cond_of : (p : Plain.Event → Bool) (t : Bool) (x y : Plain.Event) → p (cond t x y) ≡ cond t (p x) (p y)
cond_of p true x y = refl
cond_of p false x y = refl

module _ (e : Event) where
  -- what a test says of the event, code by code
  by_code : (p : Plain.Event → Bool)
      → p (call_of e)
      ≡ cond (eqb e.code activate) (p (Activate e.first))
      (cond (eqb e.code finish) (p Finish)
      (cond (eqb e.code chain) (p (Chain e.first))
      (cond (eqb e.code get) (p (Get e.first))
      (cond (eqb e.code release) (p (Release e.first))
      (cond (eqb e.code tick) (p Tick)
      (cond (eqb e.code line) (p (Line e.first))
      (cond (eqb e.code start) (p (Start e.first e.second))
      (cond (eqb e.code stop) (p (Stop e.first))
      (cond (eqb e.code wait) (p (Wait e.first))
      (cond (eqb e.code set) (p (Set e.first e.second))
      (p (Clear e.first))))))))))))
  unfolding call_of
  by_code p = simp (cond_of p)

  pub chains : (b : ℕ) → e.code ≡ chain → chains_to b (call_of e) ≡ eqb e.first b
  unfolding call_of
  chains b code = rw code

  pub chains_not : (b : ℕ) → (e.code ≡ chain → ⊥) → chains_to b (call_of e) ≡ false
  chains_not b n = by_code (chains_to b) ∙ rw (ne_eqb e.code chain n) (simp cond_same)

  ticks_is : e.code ≡ tick → is_tick (call_of e) ≡ eqb e.code tick
  unfolding call_of
  ticks_is code = rw code

  ticks_not : (e.code ≡ tick → ⊥) → is_tick (call_of e) ≡ false
  ticks_not n = by_code is_tick ∙ rw (ne_eqb e.code tick n) (simp cond_same)

  pub ticks : is_tick (call_of e) ≡ eqb e.code tick
  ticks = by_eq e.code tick ticks_is (λ n. ticks_not n ∙ sym (ne_eqb e.code tick n))

-- the body with the rank r, read of an array
pub body_read : (bs : List ℕ) (r : ℕ) → length bs ≡ 32 → slice_get bs r ≡ body_at bs r
body_read bs r long =
    by_lt r 32
    (λ h. slice_get-get_or bs r 0 (omega arith) ∙ sym (rw (lt-ltb r 32 h) refl))
    (λ h. slice_get_past bs r (omega arith) ∙ sym (rw (le-ltb r 32 h) refl))

pub item_copied : (r : Option (Bor ℕ)) (xs : List ℕ) (i : ℕ) → IsItemAt xs i r → option_copied r ≡ slice_get xs i
item_copied None xs i e = sym (slice_get_past xs i e.3)
item_copied (Some x) xs i e = ap Some (e.4 (omega arith) 0) ∙ sym (slice_get-get_or xs i 0 e.3.0)
