-- The loop that looks for the end of a comment: no */ ends before the byte number `end`.
use Rattle.std.proofs.Common.{◌≡◌, ℕ, ◌+◌, ◌-◌, ◌≤◌, ◌<◌, false, ◌&&◌, eqb, List, length, drop, get_or, sym, ap, ◌∙◌, arith}
use borrow.Author.Tests.{eq-eqb, ne_eqb}
use Rattle.number.proofs.Cases.{by_eq}
use Rattle.oil_grammar.specs.Byte.{slash, star}
use Rattle.oil_grammar.specs.Next.{closing}
use Rattle.oil_grammar.proofs.Blank.{earlier, earlier_suc, closing_here, closing_later, closing_last, closing_past}

pub record Unclosed (t : List ℕ) (end : ℕ) : Type 0 where
  pub told : closing t ≡ earlier (end - 1) (closing (drop (end - 1) t))

module _ (t : List ℕ) where
  pub unclosed_start : Unclosed t 1
  unclosed_start =
      record {
        told =
            by_eq (closing t) 0
            (λ e. rw (eq-eqb (closing t) 0 e) e)
            (λ d. rw (ne_eqb (closing t) 0 d) (omega arith));
      }

  module _ {end : ℕ} (some : 1 ≤ end) (u : Unclosed t end) where
    next : end - 1 + 1 ≡ end
    next = omega arith

    pub closed_here : end < length t → get_or t (end - 1) 0 ≡ star → get_or t end 0 ≡ slash → end + 1 ≡ closing t
    closed_here h e f =
        let f' : get_or t (end - 1 + 1) 0 ≡ slash = rw next f in
        let q : closing t ≡ 2 + (end - 1) =
        u.told ∙ rw (closing_here t (end - 1) (omega arith) (rw (eq-eqb _ _ e, eq-eqb _ _ f'))) in
        omega arith

    pub closed_later : end < length t → (eqb (get_or t (end - 1) 0) star && eqb (get_or t end 0) slash) ≡ false
        → Unclosed t (end + 1)
    closed_later h e =
        let e' : (eqb (get_or t (end - 1) 0) star && eqb (get_or t (end - 1 + 1) 0) slash) ≡ false = rw next e in
        let n : end + 1 - 1 ≡ end - 1 + 1 = omega arith in
        record {
          told =
              u.told ∙ ap (earlier (end - 1)) (closing_later t (end - 1) (omega arith) e')
              ∙ earlier_suc (end - 1) (closing (drop (end - 1 + 1) t))
              ∙ ap (λ (m : ℕ). earlier m (closing (drop m t))) (sym n);
        }

    pub closed_never : length t ≤ end → (1 ≤ length t → end ≤ length t) → 0 ≡ closing t
    closed_never h k =
        by_eq (length t) 0
        (λ z. sym (u.told ∙ rw (closing_past t (end - 1) (omega arith))))
        (λ d. let g = k (omega arith) in sym (u.told ∙ rw (closing_last t (end - 1) (omega arith))))
