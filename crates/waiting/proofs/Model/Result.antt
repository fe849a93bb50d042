-- What the call returns, by the words of the last model: `wait_by_words`.
use Prim.Native.Nat.{ℕ, ◌^◌, ◌<◌}
use mathlib.Core.Path.{◌≡◌, sym, ◌∙◌}
use mathlib.Core.Bool.{true≢false, not}
use mathlib.Core.List.{List}
use borrow.Author.Tests.{le-leb, lt-leb, eq-eqb, ne_eqb}
use lib.Dec.{eqb}
use Rattle.number.proofs.Cases.{by_test, by_lt}
use Rattle.config.specs.declared.Config.{Config}
use Rattle.config.specs.Accepted.{Accepted, Shaped}
use Rattle.word.specs.Word.{ranks}
use Rattle.scheduler.specs.State.{State}
use Rattle.scheduler.specs.Scheduler.{Event, fresh, after}
use Rattle.machine.proofs.Theorems.{reached}
use Rattle.waiting.specs.Conditions.{beyond_basic, waits_to_begin, resource_held}
use Rattle.waiting.specs.Result.{wait_in}
use Rattle.waiting.specs.Words.{wait_at, wait_by}
use Rattle.waiting.proofs.State.BasicKinds.{basic_kinds}
use Rattle.waiting.proofs.Model.Words.{wait_held, wait_asks, wait_finishes}

module _ (c : Config) (ok : Accepted c) (shaped : Shaped c) (es : List Event) (b : ℕ)
    (small : (reached c es).held < 2 ^ ranks) where
  abbrev now : State
  now = after c (fresh c) es

  held : eqb (reached c es).held 0 ≡ not (resource_held now)
  held =
      by_test (resource_held now)
      (λ h. rw h
      (ne_eqb (reached c es).held 0 (λ e. true≢false (sym h ∙ (wait_held c ok shaped es small).0 e))))
      (λ h. rw h (eq-eqb (reached c es).held 0 ((wait_held c ok shaped es small).1 h)))

  pub wait_by_words : wait_in c now b
      ≡ wait_by c (reached c es).core.request (reached c es).core.started (reached c es).held b
  unfolding wait_in wait_at wait_by
  wait_by_words =
      by_test (beyond_basic c)
      (λ other. by_lt b c.bodies
      (λ l. simp (other, lt-leb c.bodies b l))
      (λ l. simp (other, le-leb c.bodies b l)))
      (λ basic. by_lt b c.bodies
      (λ l.
      let asks = wait_asks c ok shaped es b l in
      by_test (waits_to_begin now b)
      (λ w. by_test (resource_held now)
      (λ h. simp (basic, lt-leb c.bodies b l, asks, w, held, h))
      (λ h. simp (
        basic,
        lt-leb c.bodies b l,
        asks,
        w,
        held,
        h,
        wait_finishes c ok shaped es (basic_kinds c basic) b l w h,
      )))
      (λ w. by_test (resource_held now)
      (λ h. simp (basic, lt-leb c.bodies b l, asks, w, held, h))
      (λ h. simp (basic, lt-leb c.bodies b l, asks, w, held, h))))
      (λ l. simp (basic, le-leb c.bodies b l)))
