-- The hash of a name, byte by byte.
use Rattle.std.proofs.Common.{ℕ, ◌+◌, ◌*◌, ◌%◌, ◌≤◌, ◌<◌, ◌≡◌, List, length, get_or, drop, sym, ap, ◌∙◌, arith}
use native.Mathlib.Nat.{mul-le-mul}
use Rattle.std.proofs.lemmas.List.{at_drop_more, at_drop_all}
use Rattle.oil.specs.Hash.{prime, hashed}

-- the product fits
pub product_small : (h k : ℕ) → h < prime → k < prime → h * k ≤ 18446744030759878656
product_small h k l m =
    let a : h ≤ 4294967290 = omega arith in let b : k ≤ 4294967290 = omega arith in
    let p = mul-le-mul a b in
    omega (arith, p)

module _ (t : List ℕ) (k i h : ℕ) where
  pub hash_step : i < length t → {g : ℕ} → g ≡ (h * k + get_or t i 0) % prime
      → hashed k g (drop (i + 1) t) ≡ hashed k h (drop i t)
  unfolding hashed
  hash_step l q = ap (λ n. hashed k n (drop (i + 1) t)) q ∙ sym (at_drop_more (hashed k h) t i 0 l)

  pub hash_done : length t ≤ i → h ≡ hashed k h (drop i t)
  unfolding hashed
  hash_done l = sym (at_drop_all (hashed k h) t i l)
