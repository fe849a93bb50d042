-- A step of the generator, a number with itself, shifted, xored in: made twice, it is the step with the shift doubled.
--
-- In order: what is xored in on both sides is gone; shifts pass through xor; `twice`, for the shift to the left and to
-- the right; shifts that leave nothing.
use Prim.Native.Nat.{ℕ, zero, suc, ◌+◌, ◌-◌, ◌*◌, ◌/◌, ◌%◌, ◌^◌, ◌≤◌, ◌<◌}
use mathlib.Core.Path.{◌≡◌, refl, sym, ap, ap₂, ◌∙◌}
use native.Mathlib.Nat.{add-zero, sub-add_cancel, mul_assoc, mul_right_comm, add-mul, mul-mod_left, mul-add-mod_self_right, div-add-mod', div-eq_of_lt, lt_of_lt_of_le}
use native.Mathlib.Omega.{arith}
use lib.Arith.{bin_ind}
use lib.Bits.{bit_xor, xor_shr, xor_mod, xor_block, xor_zero_r}
use lib.Pow.{pow-add, pow_pos, pow_mono, shr-shr}
use Rattle.drawing.specs.Xorshift.{width, value_bound, xor_left, xor_right}

by_halves : (m n : ℕ) → m / 2 ≡ n / 2 → m % 2 ≡ n % 2 → m ≡ n
by_halves m n h l = omega arith

-- what holds of 0 and 1 holds of a bit
of_bit : (P : ℕ → Type 0) → P 0 → P 1 → (x : ℕ) → x < 2 → P x
of_bit P a b zero h = a
of_bit P a b (suc zero) h = b
of_bit P a b (suc (suc x)) h = absurd (omega arith)

-- b, xored in on both sides, is gone
abbrev Gone : ℕ → ℕ → ℕ → Type 0
Gone a b c = bit_xor (bit_xor a b) (bit_xor b c) ≡ bit_xor a c

gone_bits : (x y z : ℕ) → x < 2 → y < 2 → z < 2 → Gone x y z
gone_bits x y z i j k =
    of_bit (λ x. Gone x y z)
    (of_bit (λ y. Gone 0 y z) (of_bit (Gone 0 0) refl refl z k) (of_bit (Gone 0 1) refl refl z k) y j)
    (of_bit (λ y. Gone 1 y z) (of_bit (Gone 1 0) refl refl z k) (of_bit (Gone 1 1) refl refl z k) y j) x i

-- the lowest bit and those above it
half : (a b : ℕ) → bit_xor a b / 2 ≡ bit_xor (a / 2) (b / 2)
half a b = xor_shr a b 1

lowest : (a b : ℕ) → bit_xor a b % 2 ≡ bit_xor (a % 2) (b % 2)
lowest a b = xor_mod a b 1

gone_step : (a b c : ℕ) → Gone (a / 2) (b / 2) (c / 2) → Gone a b c
gone_step a b c ih =
    by_halves _ _
    (half (bit_xor a b) (bit_xor b c) ∙ ap₂ bit_xor (half a b) (half b c) ∙ ih ∙ sym (half a c))
    (lowest (bit_xor a b) (bit_xor b c) ∙ ap₂ bit_xor (lowest a b) (lowest b c)
    ∙ gone_bits (a % 2) (b % 2) (c % 2) (omega arith) (omega arith) (omega arith) ∙ sym (lowest a c))

-- three numbers of few digits
pub gone : (a b c : ℕ) → Gone a b c
gone a =
    bin_ind (λ a. (b c : ℕ) → Gone a b c)
    (λ b. bin_ind (λ b. (c : ℕ) → Gone 0 b c) (λ c. refl) (λ b ih c. gone_step 0 b c (ih (c / 2))) b)
    (λ a ih b c. gone_step a b c (ih (b / 2) (c / 2))) a

-- for any shift that passes through xor
module _ (s : ℕ → ℕ) (passes : (a b : ℕ) → s (bit_xor a b) ≡ bit_xor (s a) (s b)) where
  doubled : (x : ℕ) → bit_xor (bit_xor x (s x)) (s (bit_xor x (s x))) ≡ bit_xor x (s (s x))
  doubled x = ap (bit_xor (bit_xor x (s x))) (passes x (s x)) ∙ gone x (s x) (s (s x))

-- the shift to the left
abbrev shl : ℕ → ℕ → ℕ
shl k x = x * 2 ^ k % 2 ^ width

shl_passes : (k a b : ℕ) → shl k (bit_xor a b) ≡ bit_xor (shl k a) (shl k b)
shl_passes k a b = ap (λ (n : ℕ). n % 2 ^ width) scaled ∙ xor_mod (a * 2 ^ k) (b * 2 ^ k) width
  where
    scaled : bit_xor a b * 2 ^ k ≡ bit_xor (a * 2 ^ k) (b * 2 ^ k)
    scaled =
        sym (ap₂ bit_xor (sym (add-zero (a * 2 ^ k))) (sym (add-zero (b * 2 ^ k)))
        ∙ xor_block k a b 0 0 (pow_pos k) (pow_pos k) ∙ add-zero (bit_xor a b * 2 ^ k))

mod_scaled : (n m k : ℕ) → n % m * k % m ≡ n * k % m
mod_scaled n m k =
    sym (ap (λ (t : ℕ). t * k % m) (sym (div-add-mod' n m))
    ∙ ap (λ (t : ℕ). t % m) (add-mul (n / m * m) (n % m) k)
    ∙ ap (λ (t : ℕ). (t + n % m * k) % m) (mul_right_comm (n / m) m k)
    ∙ mul-add-mod_self_right (n / m * k) m (n % m * k))

shl_shl : (k x : ℕ) → shl k (shl k x) ≡ shl (k + k) x
shl_shl k x =
    mod_scaled (x * 2 ^ k) (2 ^ width) (2 ^ k)
    ∙ ap (λ (n : ℕ). n % 2 ^ width) (mul_assoc x (2 ^ k) (2 ^ k) ∙ ap (λ (n : ℕ). x * n) (sym (pow-add 2 k k)))

pub left_twice : (k x : ℕ) → xor_left k (xor_left k x) ≡ xor_left (k + k) x
unfolding xor_left
left_twice k x = doubled (shl k) (shl_passes k) x ∙ ap (bit_xor x) (shl_shl k x)

pub right_twice : (k x : ℕ) → xor_right k (xor_right k x) ≡ xor_right (k + k) x
unfolding xor_right
right_twice k x = doubled (λ x. x / 2 ^ k) (λ a b. xor_shr a b k) x ∙ ap (bit_xor x) (shr-shr x k k)

-- shifts that leave nothing
pub left_out : (k x : ℕ) → width ≤ k → xor_left k x ≡ x
unfolding xor_left
left_out k x h = ap (bit_xor x) none ∙ xor_zero_r x
  where
    none : shl k x ≡ 0
    none =
        ap (λ (j : ℕ). x * 2 ^ j % 2 ^ width) (sym (sub-add_cancel h))
        ∙ ap (λ (n : ℕ). x * n % 2 ^ width) (pow-add 2 (k - width) width)
        ∙ ap (λ (n : ℕ). n % 2 ^ width) (sym (mul_assoc x (2 ^ (k - width)) (2 ^ width)))
        ∙ mul-mod_left (x * 2 ^ (k - width)) (2 ^ width)

pub right_out : (k x : ℕ) → width ≤ k → x < value_bound → xor_right k x ≡ x
unfolding xor_right
right_out k x h small =
    ap (bit_xor x) (div-eq_of_lt (lt_of_lt_of_le small (pow_mono h))) ∙ xor_zero_r x
