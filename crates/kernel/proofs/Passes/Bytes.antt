-- The bytes of the run's output, laid one piece after the other.
use Prim.Native.Nat.{ℕ, suc, ◌+◌, ◌*◌, ◌/◌, ◌%◌, ◌≤◌, ◌<◌}
use mathlib.Core.Path.{◌≡◌, refl, sym, ap, ◌∙◌}
use mathlib.Core.List.{List, [], ◌∷◌, ◌++◌, map, map-append, append_assoc}
use native.Mathlib.Omega.{arith}
use native.Mathlib.Numerals.{add-one}
use lib.ListN.{length, get_or, take, drop, set, length-map, take-append-drop}
use lib.Seq.{take-suc, sets-eq, length-take-le, drop-drop}
use borrow.Rule.Slice.PartMut.{put_mid}
use Rattle.std.proofs.Common.{w16}
use Rattle.std.specs.Int.{to_le_bytes}
use Rattle.number.specs.Output.{laid}
use Rattle.number.proofs.Laying.{laid_laid}
use Rattle.run.specs.Run.{loss_bytes}
use Rattle.run.proofs.Answers.{length_loss_bytes}

-- nothing laid
pub laid_none : (at : ℕ) (d : List ℕ) → d ≡ laid at [] d
unfolding laid
laid_none at d = sym (rw (zero_more) (take-append-drop at d))
  where
    zero_more : at + 0 ≡ at
    zero_more = omega arith

-- bytes that are written to a part of a slice
pub laid_mid : (at k : ℕ) (bs d : List ℕ) → length bs ≡ k → put_mid at k d bs ≡ laid at bs d
unfolding laid
laid_mid at k bs d long =
    ap (λ (n : ℕ). take at d ++ (bs ++ drop n (drop at d))) (sym long)
    ∙ ap (λ (l : List ℕ). take at d ++ (bs ++ l)) (drop-drop (length bs) at d)

pub two_bytes : (n : ℕ) → n < 65536 → to_le_bytes w16 n ≡ n % 256 ∷ n / 256 ∷ []
two_bytes n h = ap (λ (k : ℕ). n % 256 ∷ k ∷ []) high
  where
    high : n / 256 % 256 ≡ n / 256
    high = omega arith

-- bytes that are stored one by one
pub four_laid : (d : List ℕ) (at a b c e : ℕ) → at + 4 ≤ length d
    → set (set (set (set d at a) (at + 1) b) (at + 2) c) (at + 3) e ≡ laid at (a ∷ b ∷ c ∷ e ∷ []) d
unfolding laid
four_laid d at a b c e h =
    let one : at + 1 ≡ suc at = omega arith in
    let two : at + 2 ≡ suc (suc at) = omega arith in
    let three : at + 3 ≡ suc (suc (suc at)) = omega arith in
    rw (one, two, three) (sets-eq (a ∷ b ∷ c ∷ e ∷ []) d at h
    ∙ append_assoc (take at d) (a ∷ b ∷ c ∷ e ∷ []) (drop (at + 4) d))

loss_bytes_append : (ns ks : List ℕ) → loss_bytes (ns ++ ks) ≡ loss_bytes ns ++ loss_bytes ks
unfolding loss_bytes
loss_bytes_append [] ks = refl
loss_bytes_append (n ∷ ns) ks = ap (λ (l : List ℕ). n % 256 ∷ n / 256 ∷ l) (loss_bytes_append ns ks)

-- the losses of the first b bodies; rs: their ranks
module _ (f : ℕ → ℕ) (rs : List ℕ) (at : ℕ) (d : List ℕ) where
  abbrev losses_up_to : ℕ → List ℕ
  losses_up_to b = loss_bytes (map f (take b rs))

  pub length_losses : (b : ℕ) → b ≤ length rs → length (losses_up_to b) ≡ 2 * b
  length_losses b h =
      length_loss_bytes (map f (take b rs)) ∙ ap (λ (n : ℕ). 2 * n) (length-map (take b rs) f ∙ length-take-le b rs h)

  pub losses_step : (b n : ℕ) → b < length rs → at + 2 * b + 2 ≤ length d → n ≡ f (get_or rs b 0)
      → laid (at + 2 * b) (n % 256 ∷ n / 256 ∷ []) (laid at (losses_up_to b) d) ≡ laid at (losses_up_to (b + 1)) d
  unfolding loss_bytes
  losses_step b n h room e =
      let long = length_losses b (omega arith) in
      ap (λ (k : ℕ). laid (at + k) (n % 256 ∷ n / 256 ∷ []) (laid at (losses_up_to b) d)) (sym long)
      ∙ laid_laid at (losses_up_to b) (n % 256 ∷ n / 256 ∷ []) d (omega arith)
      ∙ ap (λ (l : List ℕ). laid at l d) (sym more)
    where
      more : losses_up_to (b + 1) ≡ losses_up_to b ++ (n % 256 ∷ n / 256 ∷ [])
      more =
          rw (
            add-one b,
            take-suc rs b 0 h,
            map-append f (take b rs) (get_or rs b 0 ∷ []),
            loss_bytes_append (map f (take b rs)) (f (get_or rs b 0) ∷ []),
            ← e,
          )
