-- Spaces and comments: how far they go, step by step.
use Prim.Native.Nat.{ℕ, zero, suc, ◌+◌, ◌-◌, ◌≤◌, ◌<◌}
use mathlib.Core.Path.{◌≡◌, refl, sym, ap, ◌∙◌}
use mathlib.Core.Bool.{true, false, cond, ◌&&◌}
use mathlib.Core.List.{List, [], ◌∷◌}
use native.Mathlib.Omega.{arith}
use lib.Dec.{eqb}
use lib.ListN.{length, drop, get_or, length-drop, drop_of_length-le}
use lib.Seq.{drop-drop}
use borrow.Author.Tests.{eq-eqb, ne_eqb}
use Rattle.number.proofs.Cases.{by_test, by_eq}
use Rattle.oil_grammar.specs.Byte.{slash, star, is_space, is_line_byte}
use Rattle.oil_grammar.specs.Next.{closing, comment, blank, blanks, skipped}
use Rattle.oil_grammar.proofs.Span.{span_le, drop_next}

-- the end of a comment, told from n bytes earlier
abbrev pub earlier : ℕ → ℕ → ℕ
earlier n r = cond (eqb r 0) 0 (r + n)

closing_le : (bs : List ℕ) → closing bs ≤ length bs
unfolding closing
closing_le [] = omega arith
closing_le (b ∷ []) = omega arith
closing_le (b ∷ c ∷ bs) =
    let h = closing_le (c ∷ bs) in
    by_test (eqb b star && eqb c slash) (λ e. rw e (omega arith))
    (λ e. by_test (eqb (closing (c ∷ bs)) 0) (λ f. rw (e, f) (omega arith)) (λ f. rw (e, f) (omega arith)))

comment_le : (bs : List ℕ) → comment bs ≤ suc (length bs)
unfolding comment
comment_le [] = omega arith
comment_le (c ∷ bs) =
    by_test (eqb c slash) (λ e. rw e (omega (arith, span_le is_line_byte bs)))
    (λ e. by_test (eqb c star)
    (λ f. by_test (eqb (closing bs) 0) (λ g. rw (e, f, g) (omega arith))
    (λ g. rw (e, f, g) (omega (arith, closing_le bs))))
    (λ f. rw (e, f) (omega arith)))

pub blank_le : (bs : List ℕ) → blank bs ≤ length bs
unfolding blank
blank_le [] = omega arith
blank_le (b ∷ bs) =
    by_test (is_space b) (λ e. rw e (omega arith))
    (λ e. by_test (eqb b slash) (λ f. rw (e, f) (comment_le bs)) (λ f. rw (e, f) (omega arith)))

blanks_le : (k : ℕ) (bs : List ℕ) → blanks k bs ≤ length bs
unfolding blanks
blanks_le zero bs = omega arith
blanks_le (suc k) bs =
    let h = rw length-drop at (blanks_le k (drop (blank bs) bs)) in
    by_test (eqb (blank bs) 0) (λ e. rw e (omega arith)) (λ e. rw e (omega (arith, blank_le bs)))

-- no space or comment: none is passed
pub blanks_none : (k : ℕ) (bs : List ℕ) → blank bs ≡ 0 → blanks k bs ≡ 0
unfolding blanks
blanks_none zero bs e = refl
blanks_none (suc k) bs e = rw (eq-eqb (blank bs) 0 e)

pub blanks_some : (k : ℕ) (bs : List ℕ) → (blank bs ≡ 0 → ⊥)
    → blanks (suc k) bs ≡ blank bs + blanks k (drop (blank bs) bs)
unfolding blanks
blanks_some k bs d = rw (ne_eqb (blank bs) 0 d)

-- as many as there are bytes are enough
blanks_enough : (k : ℕ) (bs : List ℕ) → length bs ≤ k → blanks (suc k) bs ≡ blanks k bs
blanks_enough zero bs h =
    blanks_none 1 bs (let l = blank_le bs in omega arith) ∙ sym (blanks_none 0 bs (let l = blank_le bs in omega arith))
blanks_enough (suc k) bs h =
    by_eq (blank bs) 0
    (λ e. blanks_none (suc (suc k)) bs e ∙ sym (blanks_none (suc k) bs e))
    (λ d. blanks_some (suc k) bs d ∙ ap (blank bs +◌) (blanks_enough k (drop (blank bs) bs) (fewer d))
    ∙ sym (blanks_some k bs d))
  where
    fewer : (blank bs ≡ 0 → ⊥) → length (drop (blank bs) bs) ≤ k
    fewer d = simp length-drop (let l = blank_le bs in omega arith)

-- a loop over the text
module _ (t : List ℕ) where
  pub skipped_le : (at : ℕ) → at ≤ length t → skipped t at ≤ length t
  skipped_le at h = let l = rw length-drop at (blanks_le (length t) (drop at t)) in omega arith

  pub blank_inside : (at : ℕ) → at ≤ length t → at + blank (drop at t) ≤ length t
  blank_inside at h = let l = rw length-drop at (blank_le (drop at t)) in omega arith

  pub skipped_ge : (at : ℕ) → at ≤ skipped t at
  skipped_ge at = omega arith

  pub skip_stopped : (i : ℕ) → blank (drop i t) ≡ 0 → skipped t i ≡ i
  skip_stopped i e = rw (blanks_none (length t) (drop i t) e) (omega arith)

  pub skip_more : (i : ℕ) → i ≤ length t → (blank (drop i t) ≡ 0 → ⊥) → skipped t i ≡ skipped t (i + blank (drop i t))
  skip_more i h d = go (length t) refl
    where
      le : blank (drop i t) ≤ length t - i
      le = rw length-drop at (blank_le (drop i t))

      go : (k : ℕ) → length t ≡ k → skipped t i ≡ skipped t (i + blank (drop i t))
      go zero e = absurd (d (omega (arith, le)))
      go (suc k) e =
          let a : blanks (length t) (drop i t) ≡ blank (drop i t) + blanks k (drop (i + blank (drop i t)) t) =
          ap (λ (m : ℕ). blanks m (drop i t)) e ∙ blanks_some k (drop i t) d
          ∙ ap (λ (l : List ℕ). blank (drop i t) + blanks k l) (drop-drop (blank (drop i t)) i t) in
          let few : length (drop (i + blank (drop i t)) t) ≤ k = simp length-drop (omega (arith, le)) in
          let b : blanks (length t) (drop (i + blank (drop i t)) t) ≡ blanks k (drop (i + blank (drop i t)) t) =
          ap (λ (m : ℕ). blanks m (drop (i + blank (drop i t)) t)) e
          ∙ blanks_enough k (drop (i + blank (drop i t)) t) few in
          omega arith

-- a loop over the text that looks for the end of a comment
pub earlier_suc : (n r : ℕ) → earlier n (cond (eqb r 0) 0 (suc r)) ≡ earlier (n + 1) r
earlier_suc n r =
    by_eq r 0 (λ e. rw (eq-eqb r 0 e)) (λ d. rw (ne_eqb r 0 d, ne_eqb (suc r) 0 (λ e. omega arith)) (omega arith))

module _ (t : List ℕ) (i : ℕ) where
  two : i + 1 < length t → drop i t ≡ get_or t i 0 ∷ get_or t (i + 1) 0 ∷ drop (i + 1 + 1) t
  two h = drop_next t i (omega arith) ∙ ap (λ (l : List ℕ). get_or t i 0 ∷ l) (drop_next t (i + 1) h)

  pub closing_here : i + 1 < length t → (eqb (get_or t i 0) star && eqb (get_or t (i + 1) 0) slash) ≡ true
      → closing (drop i t) ≡ 2
  unfolding closing
  closing_here h e = rw (two h, e)

  pub closing_later : i + 1 < length t → (eqb (get_or t i 0) star && eqb (get_or t (i + 1) 0) slash) ≡ false
      → closing (drop i t) ≡ cond (eqb (closing (drop (i + 1) t)) 0) 0 (suc (closing (drop (i + 1) t)))
  unfolding closing
  closing_later h e = rw (two h, e) (rw (drop_next t (i + 1) h))

  pub closing_last : i + 1 ≡ length t → closing (drop i t) ≡ 0
  unfolding closing
  closing_last h = rw (drop_next t i (omega arith), drop_of_length-le t {i = i + 1} (omega arith))

  pub closing_past : length t ≤ i → closing (drop i t) ≡ 0
  unfolding closing
  closing_past h = rw (drop_of_length-le t {i = i} h)
