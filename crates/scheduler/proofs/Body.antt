-- One body: what one question about its phase says of another, and what its end leaves.
use mathlib.Core.Path.{◌≡◌, refl, sym}
use mathlib.Core.Bool.{Bool, true, false, true≢false, cond}
use mathlib.Core.List.{List, [], ◌∷◌}
use Prim.Native.Nat.{ℕ}
use Rattle.number.proofs.Cases.{cond_either}
use Rattle.scheduler.specs.Body.{Phase, suspended, ready, started, waiting, triggered, is_suspended, is_started, has_begun, competes, Body, holds, finished}

pub suspended_is : (p : Phase) → is_suspended p ≡ true → p ≡ suspended
suspended_is suspended h = refl
suspended_is ready h = absurd (true≢false (sym h))
suspended_is started h = absurd (true≢false (sym h))
suspended_is (waiting w) h = absurd (true≢false (sym h))
suspended_is (triggered x) h = absurd (true≢false (sym h))

-- who is started may run by its priority
pub started_competes : (p : Phase) → is_started p ≡ true → competes p ≡ true
started_competes suspended h = h
started_competes ready h = refl
started_competes started h = refl
started_competes (waiting w) h = h
started_competes (triggered x) h = h

-- who may run, and who has begun, is not suspended
pub competes_active : (p : Phase) → competes p ≡ true → is_suspended p ≡ false
competes_active suspended h = absurd (true≢false (sym h))
competes_active ready h = refl
competes_active started h = refl
competes_active (waiting w) h = refl
competes_active (triggered x) h = refl

pub begun_active : (p : Phase) → has_begun p ≡ true → is_suspended p ≡ false
begun_active suspended h = absurd (true≢false (sym h))
begun_active ready h = refl
begun_active started h = refl
begun_active (waiting w) h = refl
begun_active (triggered x) h = refl

-- whoever begins, by a call or by an entry
pub begun_phase_active : (x : Bool) → is_suspended (cond x (triggered true) started) ≡ false
begun_phase_active x = cond_either (λ (p : Phase). is_suspended p ≡ false) x _ _ refl refl

pub unbegun_unstarted : (p : Phase) → has_begun p ≡ false → is_started p ≡ false
unbegun_unstarted suspended h = refl
unbegun_unstarted ready h = refl
unbegun_unstarted started h = h
unbegun_unstarted (waiting w) h = refl
unbegun_unstarted (triggered x) h = refl

pub nothing_held : (rs : List ℕ) → holds rs ≡ false → rs ≡ []
nothing_held [] h = refl
nothing_held (r ∷ rs) h = absurd (true≢false h)

-- "the runner suspended, but ready if a request waits, which is then used up"
pub finished_free : (b : Body) → b.pending ≡ false → (finished b).phase ≡ suspended
finished_free b h = rw h

pub finished_again : (b : Body) → b.pending ≡ true → (finished b).phase ≡ ready
finished_again b h = rw h

pub finished_used : (b : Body) → (finished b).pending ≡ false
finished_used b = cond_either (λ (x : Body). x.pending ≡ false) b.pending _ _ refl refl
