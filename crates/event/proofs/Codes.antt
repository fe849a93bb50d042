-- Which codes are known, said with numbers.
use Prim.Native.Nat.{ℕ, ◌≤◌}
use mathlib.Core.Path.{◌≡◌}
use mathlib.Core.Bool.{true, and-eq-true_iff}
use lib.Dec.{leb}
use borrow.Author.Tests.{leb-true, le-leb}
use Rattle.event.specs.Event.{activate, last_code, known}

pub known_le : (code : ℕ) → known code ≡ true → (activate ≤ code) × (code ≤ last_code)
unfolding known
known_le code k =
    let b = (and-eq-true_iff (leb activate code) (leb code last_code)).0 k in
    (leb-true activate code b.0, leb-true code last_code b.1)

pub known_true : (code : ℕ) → activate ≤ code → code ≤ last_code → known code ≡ true
unfolding known
known_true code low high = simp (le-leb activate code low, le-leb code last_code high)
