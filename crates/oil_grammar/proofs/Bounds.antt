-- A token lies in its text: where it begins and ends.
use Prim.Native.Nat.{ℕ, suc, ◌+◌, ◌≤◌, ◌<◌}
use mathlib.Core.Path.{◌≡◌, refl}
use mathlib.Core.Bool.{true, false}
use mathlib.Core.List.{List, [], ◌∷◌}
use native.Mathlib.Omega.{arith}
use lib.Dec.{leb, eqb}
use lib.ListN.{length, take, drop, length-drop}
use Rattle.number.proofs.Cases.{by_test}
use Rattle.oil_grammar.specs.Records.{Token}
use Rattle.oil_grammar.specs.Byte.{is_letter, is_digit, is_name_byte, span}
use Rattle.oil_grammar.specs.Token.{spelled_sort, sign_of, end_sort}
use Rattle.oil_grammar.specs.Next.{token_at, sign_at, token_of, skipped, next_token}
use Rattle.oil_grammar.proofs.Span.{span_le}
use Rattle.oil_grammar.proofs.Blank.{skipped_le}

-- the token w from the place p on, of n bytes at most; it has a byte unless it is the end or unreadable
pub record Lies (p n : ℕ) (w : Token) : Type 0 where
  pub at_start : w.start ≡ p
  pub forward : w.start ≤ w.end
  pub inside : w.end ≤ p + n
  pub some : leb end_sort w.sort ≡ false → w.start < w.end

lies : (s p k n : ℕ) → k ≤ n → (leb end_sort s ≡ false → 1 ≤ k) → Lies p n (token_of s p k)
lies s p k n h some =
    record { at_start = refl; forward = omega arith; inside = omega arith; some = λ e. let o = some e in omega arith }

sign_lies : (p n s : ℕ) → Lies p (suc n) (sign_at p s)
sign_lies p n s =
    by_test (eqb s 0)
    (λ e. rw e (lies 15 p 0 (suc n) (omega arith) (λ f. absurd (never f))))
    (λ e. rw e (lies s p 1 (suc n) (omega arith) (λ f. omega arith)))
  where
    never : true ≡ false → ⊥
    never f = let z : ◌≡◌ {A = ℕ} 0 1 = cc in omega arith

pub token_lies : (p : ℕ) (bs : List ℕ) → Lies p (length bs) (token_at p bs)
unfolding token_at
token_lies p [] = lies end_sort p 0 0 (omega arith) (λ f. let z : ◌≡◌ {A = ℕ} 0 1 = cc in absurd (omega arith))
token_lies p (b ∷ bs) =
    by_test (is_letter b)
    (λ e. rw e (lies (spelled_sort (b ∷ take (span is_name_byte bs) bs)) p (suc (span is_name_byte bs)) (suc (length bs))
    (let h = span_le is_name_byte bs in omega arith) (λ f. omega arith)))
    (λ e. by_test (is_digit b)
    (λ f. rw (e, f) (lies 13 p (suc (span is_digit bs)) (suc (length bs)) (let h = span_le is_digit bs in omega arith)
    (λ g. omega arith)))
    (λ f. rw (e, f) (sign_lies p (length bs) (sign_of b))))

-- the next token of a text: after the place, inside the text
pub record Next (t : List ℕ) (at : ℕ) (w : Token) : Type 0 where
  pub begins : at ≤ w.start
  pub forward : w.start ≤ w.end
  pub inside : w.end ≤ length t
  pub some : leb end_sort w.sort ≡ false → w.start < w.end

pub next_inside : (t : List ℕ) (at : ℕ) → at ≤ length t → Next t at (next_token t at)
unfolding next_token
next_inside t at h =
    let l = token_lies (skipped t at) (drop (skipped t at) t) in
    let k = skipped_le t at h in
    let n = length-drop (skipped t at) t in
    record {
      begins = omega (arith, l.at_start);
      forward = l.forward;
      inside = omega (arith, l.inside);
      some = l.some;
    }
