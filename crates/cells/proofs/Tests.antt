-- What the code's tests say of the definitions' ones.
use Rattle.std.proofs.Common.{◌≡◌, ℕ, Bool, true, false, ◌&&◌, ◌||◌, arith}

-- the two ways of an `||`, whose halves are a and b; r: what was tested first
pub or_first : (a b : Bool) {r : Bool} → r ≡ a → r ≡ true → r ≡ a || b
or_first true b e t = e
or_first false b e t = absurd (let z : ◌≡◌ {A = ℕ} 0 1 = cc in omega arith)

pub or_second : (a b : Bool) {r s : Bool} → r ≡ a → r ≡ false → s ≡ b → s ≡ a || b
or_second true b e t f = absurd (let z : ◌≡◌ {A = ℕ} 0 1 = cc in omega arith)
or_second false b e t f = f

-- an `&&` whose first half a fails
pub and_first : (a b : Bool) {r : Bool} → r ≡ a → r ≡ false → r ≡ a && b
and_first true b e f = absurd (let z : ◌≡◌ {A = ℕ} 0 1 = cc in omega arith)
and_first false b e f = e
