-- The loop over the set bits of a mask of users: the ceiling and the word of ranks as far as it has come (`Going`).
use Prim.Native.Nat.{ℕ, ◌+◌, ◌*◌, ◌/◌, ◌%◌, ◌^◌, ◌≤◌, ◌<◌, max, min}
use mathlib.Core.Path.{◌≡◌, refl, sym, ap, ◌∙◌}
use mathlib.Core.List.{List}
use native.Mathlib.Omega.{arith}
use native.Mathlib.Numerals.{add-one}
use native.Mathlib.Nat.{div-one, div-le_self, mul-div_cancel}
use lib.Count.{count_trailing_zeros}
use lib.Pow.{pow_pos}
use lib.ListN.{length, get_or, take}
use Rattle.config.specs.Meaning.{greatest_in}
use Rattle.word.specs.Word.{with}
use Rattle.plan.specs.Words.{marked}
use Rattle.plan.proofs.Words.{marked_step}
use Rattle.plan.proofs.Greatest.{left_in, chosen_next, left_shift, left_none, chosen_or_past}
use Rattle.plan.proofs.SetBits.{Lowest, lowest, up_to, up_shift, rest_shift, rest_next, up_whole, bit_low}

module _ (users n : ℕ) (priority ranks : List ℕ) where
  -- the bodies before b are done, and m has the bits from b on
  pub record Going (most w m b : ℕ) : Type 0 where
    pub fits : n ≤ length priority
    pub few : users < 2 ^ 32
    pub low : b ≤ 32
    pub rest : m ≡ users / 2 ^ b
    pub ceiling : max most (left_in n priority m b) ≡ greatest_in users (take n priority)
    pub word : w ≡ up_to (λ i. get_or ranks i 0) users n b

module _ {users n : ℕ} {priority ranks : List ℕ} where
  pub start : n ≤ length priority → users < 2 ^ 32 → Going users n priority ranks 0 0 users 0
  unfolding marked
  start fits few =
      record { fits = fits; few = few; low = omega arith; rest = sym (div-one users); ceiling = omega arith; word = first n }
    where
      first : (n : ℕ) → 0 ≡ up_to (λ i. get_or ranks i 0) users n 0
      first n = let z : min 0 n ≡ 0 = omega arith in rw z refl

  pub going_end : {most w m b : ℕ} → Going users n priority ranks most w m b → m ≡ 0
      → (most ≡ greatest_in users (take n priority))
      × (w ≡ marked (λ i. get_or ranks i 0) (λ i. users / 2 ^ i % 2) 1 n)
  going_end {most} {w} {m} {b} g z = (
    sym (left_none n priority g.fits most b) ∙ ap (λ (x : ℕ). max most (left_in n priority x b)) (sym z) ∙ g.ceiling,
    g.word ∙ up_whole (λ i. get_or ranks i 0) users n b (sym g.rest ∙ z),
  )

  -- at a set bit, which is z bits on
  module _ {most w m b : ℕ} (g : Going users n priority ranks most w m b) (some : m ≡ 0 → ⊥) where
    abbrev z : ℕ
    z = count_trailing_zeros 32 m

    found : Lowest 32 m
    found = lowest 32 m (omega arith) (omega (arith, g.few, g.rest, div-le_self users (2 ^ b)))

    abbrev q : ℕ
    q = found.rest

    odd : q % 2 ≡ 1
    odd = found.odd

    shifted : users / 2 ^ b ≡ q * 2 ^ z
    shifted = sym g.rest ∙ found.split

    here : users / 2 ^ (b + z) ≡ q
    here = rest_shift (λ i. get_or ranks i 0) users n q z b shifted

    pub set_low : b + z < 32
    set_low = bit_low users (b + z) g.few (rw here (omega (arith, odd)))

    left_here : m / 2 ^ z ≡ q
    left_here = ap (λ (x : ℕ). x / 2 ^ z) found.split ∙ mul-div_cancel q (pow_pos z)

    ceiling_here : max most (left_in n priority q (b + z)) ≡ greatest_in users (take n priority)
    ceiling_here =
        ap (max most) (sym (left_shift n priority g.fits q z b) ∙ ap (λ (x : ℕ). left_in n priority x b) (sym found.split))
        ∙ g.ceiling

    word_here : w ≡ up_to (λ i. get_or ranks i 0) users n (b + z)
    word_here = g.word ∙ up_shift (λ i. get_or ranks i 0) users n q z b shifted

    next_rest : m / 2 ^ z / 2 ≡ users / 2 ^ (b + z + 1)
    next_rest =
        ap (λ (x : ℕ). x / 2) (left_here ∙ sym here) ∙ sym (rest_next (λ i. get_or ranks i 0) users n (b + z))

    pub going_body : b + z < n
        → Going users n priority ranks (max most (get_or priority (b + z) 0)) (with w (get_or ranks (b + z) 0)) (m / 2 ^ z / 2) (b + z + 1)
    going_body l =
        record {
          fits = g.fits;
          few = g.few;
          low = omega (arith, set_low);
          rest = next_rest;
          ceiling =
              ap (λ (x : ℕ). max (max most (get_or priority (b + z) 0)) (left_in n priority (x / 2) (b + z + 1))) left_here
              ∙ ap (λ (x : ℕ). max (max most (get_or priority (b + z) 0)) (left_in n priority (q / 2) x)) (add-one (b + z))
              ∙ chosen_next q most n priority g.fits (b + z) l odd
              ∙ ceiling_here;
          word = word_more;
        }
      where
        word_more : with w (get_or ranks (b + z) 0) ≡ up_to (λ i. get_or ranks i 0) users n (b + z + 1)
        word_more =
            let now : min (b + z) n ≡ b + z = omega arith in
            let then : min (b + z + 1) n ≡ b + z + 1 = omega arith in
            rw then (marked_step (λ i. get_or ranks i 0) (λ i. users / 2 ^ i % 2) 1 (b + z) w (rw now at word_here) (rw here odd))

    pub going_past : n ≤ b + z → Going users n priority ranks most w (m / 2 ^ z / 2) (b + z + 1)
    going_past l =
        record {
          fits = g.fits;
          few = g.few;
          low = omega (arith, set_low);
          rest = next_rest;
          ceiling =
              ap (λ (x : ℕ). max most (left_in n priority (x / 2) (b + z + 1))) left_here
              ∙ ap (λ (x : ℕ). max most (left_in n priority (q / 2) x)) (add-one (b + z))
              ∙ chosen_or_past n priority g.fits q most (b + z) l
              ∙ ceiling_here;
          word = word_here ∙ ap (λ (x : ℕ). marked (λ i. get_or ranks i 0) (λ i. users / 2 ^ i % 2) 1 x) whole;
        }
      where
        whole : min (b + z) n ≡ min (b + z + 1) n
        whole = omega arith
