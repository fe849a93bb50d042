-- The groups at a place, with the place counted from the input's start: what a group and those after it make.
use Rattle.std.specs.Prelude.{ℕ, zero, suc, ◌≡◌, ◌+◌, ◌*◌, ◌-◌, ◌%◌, ◌≤◌, ◌<◌, List, length, drop, get_or}
use mathlib.Core.Path.{refl, sym, ap, ◌∙◌}
use native.Mathlib.Omega.{arith}
use lib.ListN.{length-drop}
use Rattle.number.specs.Refusal.{none, cut, malformed}
use Rattle.number.specs.Number.{NumberRead, number_bound, accepted, refused, continued, shifted, groups, leading, fifth_group}
use Rattle.number.proofs.Groups.{groups_past, groups_at_last, groups_at_end, groups_at_more, fifth_small, fifth_large, continued_refused, continued_zero, continued_more}
use Rattle.number.proofs.Size.{room, room_mono, groups_sized}

same_accepted : (v w p q : ℕ) → v ≡ w → p ≡ q → accepted v p ≡ accepted w q
same_accepted v w p q e f = ap (λ x. accepted x p) e ∙ ap (accepted w) f

same_refused : (r s p q : ℕ) → r ≡ s → p ≡ q → refused r p ≡ refused s q
same_refused r s p q e f = ap (λ x. refused x p) e ∙ ap (refused s) f

module _ (l : List ℕ) (at k : ℕ) where
  abbrev here : NumberRead
  here = shifted at (groups k (drop at l))

  abbrev rest : NumberRead
  rest = groups (k - 1) (drop (at + 1) l)

  pub past : length l ≤ at → refused cut at ≡ here
  past h = same_refused cut cut at (at + 0) refl (omega arith) ∙ ap (shifted at) (sym (groups_past l at k h))

  pub last_small : at < length l → k ≡ 0 → get_or l at 0 < 16 → accepted (get_or l at 0) (at + 1) ≡ here
  last_small h z s = ap (shifted at) (sym (groups_at_last l at k h z ∙ fifth_small (get_or l at 0) s))

  pub last_large : at < length l → k ≡ 0 → 16 ≤ get_or l at 0 → refused malformed at ≡ here
  last_large h z s =
      same_refused malformed malformed at (at + 0) refl (omega arith)
      ∙ ap (shifted at) (sym (groups_at_last l at k h z ∙ fifth_large (get_or l at 0) s))

  pub single : at < length l → 0 < k → get_or l at 0 < 128 → accepted (get_or l at 0) (at + 1) ≡ here
  single h p s = ap (shifted at) (sym (groups_at_end l at k h p s))

  module _ (h : at < length l) (p : 0 < k) (large : 128 ≤ get_or l at 0) where
    goes_on : (r : NumberRead) → continued (get_or l at 0 % 128) rest ≡ r → shifted at r ≡ here
    goes_on r e = ap (shifted at) (sym (groups_at_more l at k h p large ∙ e))

    pub unread : (r q : ℕ) → (r ≡ none → ⊥) → refused r q ≡ shifted (at + 1) rest → refused r q ≡ here
    unread r q some e =
        same_refused r rest.refusal q (at + (1 + rest.place)) why where_to
        ∙ goes_on (refused rest.refusal (1 + rest.place))
        (continued_refused (get_or l at 0 % 128) rest (λ z. some (why ∙ z)))
      where
        why : r ≡ rest.refusal
        why = ap (λ (n : NumberRead). n.refusal) e

        where_to : q ≡ at + (1 + rest.place)
        where_to = omega (arith, ap (λ (n : NumberRead). n.place) e)

    module _ (v q : ℕ) (e : accepted v q ≡ shifted (at + 1) rest) where
      fine : rest.refusal ≡ none
      fine = sym (ap (λ (n : NumberRead). n.refusal) e)

      worth : v ≡ rest.value
      worth = ap (λ (n : NumberRead). n.value) e

      pub superfluous : v ≡ 0 → refused malformed (at + 1) ≡ here
      superfluous z =
          goes_on (refused malformed 1) (continued_zero (get_or l at 0 % 128) rest fine (sym worth ∙ z))

      pub more : (v ≡ 0 → ⊥) → accepted (get_or l at 0 % 128 + 128 * v) q ≡ here
      more some =
          same_accepted (get_or l at 0 % 128 + 128 * v) (get_or l at 0 % 128 + 128 * rest.value) q
          (at + (1 + rest.place)) (ap (λ x. get_or l at 0 % 128 + 128 * x) worth)
          (omega (arith, ap (λ (n : NumberRead). n.place) e))
          ∙ goes_on (accepted (get_or l at 0 % 128 + 128 * rest.value) (1 + rest.place))
          (continued_more (get_or l at 0 % 128) rest fine (λ z. some (worth ∙ z)))

-- the groups after one with its top bit set leave room for it
pub continued_fits : (l : List ℕ) (at k v q : ℕ) → length l < 9223372036854775808 → 0 < k → k ≤ leading
    → accepted v q ≡ shifted (at + 1) (groups (k - 1) (drop (at + 1) l))
    → 128 * v + 128 ≤ number_bound
unfolding room
continued_fits l at zero v q short p few e = absurd (omega arith)
continued_fits l at (suc k) v q short p few e =
    let s = groups_sized k (drop (at + 1) l) in
    let m : room (suc k) ≤ room leading = room_mono (suc k) leading few in
    let n = ap (λ (n : NumberRead). n.value) (e ∙ ap (λ j. shifted (at + 1) (groups j (drop (at + 1) l))) (pred_suc k)) in
    omega (arith, n)
  where
    pred_suc : (j : ℕ) → suc j - 1 ≡ j
    pred_suc j = omega arith
