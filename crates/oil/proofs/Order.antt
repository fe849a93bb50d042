-- The first walk in two parts: the tokens by their sorts alone, and the first name that is repeated among those in order.
use Prim.Native.Nat.{ℕ, zero, suc, ◌+◌, ◌≤◌, ◌<◌}
use mathlib.Core.Path.{◌≡◌, refl, sym, ap, ◌∙◌}
use mathlib.Core.Bool.{false, cond}
use mathlib.Core.List.{List}
use native.Mathlib.Omega.{arith}
use native.Mathlib.Numerals.{add-one}
use lib.ListN.{length}
use borrow.Author.Tests.{eq-eqb, ne_eqb}
use Rattle.number.specs.Refusal.{none}
use Rattle.number.proofs.Cases.{by_eq}
use Rattle.oil_grammar.specs.Records.{Token, Progress, Found}
use Rattle.oil_grammar.specs.declared.Want.{Want}
use Rattle.oil_grammar.specs.declared.Want.TheVariants.{Object, Name, Open, Attribute, PriorityEquals, PriorityNumber, AutostartEquals, AutostartValue, UseEquals, Use, AttributeEnd, ObjectEnd}
use Rattle.oil_grammar.specs.Refusal.{given_twice}
use Rattle.oil_grammar.specs.Token.{end_sort}
use Rattle.oil_grammar.specs.Next.{next_token}
use Rattle.oil_grammar.specs.Automaton.{fault, fault_at, only, unexpected, after, fresh, names_at, names_object}
use Rattle.oil_grammar.specs.Walk.{bears, name_fault, fault_in, refused_at, found}
use Rattle.oil_grammar.specs.Reader.{walked}
use Rattle.oil_grammar.proofs.Bounds.{next_inside}
use Rattle.oil_grammar.proofs.Sorts.{goes}
use Rattle.oil.specs.Tokens.{place_after, token, progress_after, Least, Goes, Ordered}
use Rattle.oil.specs.Names.{repeated_at}
use Rattle.oil.proofs.Walks.{WalksOn, walk_start, walk_refused, walk_ended, walk_next}
use Rattle.oil.proofs.TokenNumbers.{place_inside, place_next, progress_next}

-- n tokens are in order, and the text stands after them
pub record InOrder (t : List ℕ) (at : ℕ) (s : Progress) (n : ℕ) : Type 0 where
  pub placed : at ≡ place_after t n
  pub come : s ≡ progress_after t n
  pub few : n ≤ at
  pub going : (i : ℕ) → i < n → Goes t i

pub order_start : (t : List ℕ) {s : Progress} → s ≡ fresh → InOrder t 0 s 0
unfolding place_after progress_after
order_start t e = record { placed = refl; come = e; few = omega arith; going = λ i h. absurd (omega arith) }

module _ {t : List ℕ} {at : ℕ} {s : Progress} {n : ℕ} (k : InOrder t at s n) where
  pub order_inside : at ≤ length t
  order_inside = rw k.placed (place_inside t n)

  -- a token more
  module _ {w : Token} (e : w ≡ next_token t at) {f : ℕ} (q : f ≡ fault s w.sort) where
    token_is : w ≡ token t n
    token_is = e ∙ ap (next_token t) k.placed

    fault_is : f ≡ fault (progress_after t n) (token t n).sort
    fault_is = q ∙ rw (k.come, token_is)

    pub order_further : f ≡ 0 → (w.sort ≡ end_sort → ⊥) → (at < w.end) × (w.end ≤ length t)
    order_further z d =
        let x = next_inside t at order_inside in
        let y : fault s (next_token t at).sort ≡ 0 = rw e at (sym q ∙ z) in
        let o = x.some (goes t at s y (λ v. d (rw e v))) in
        rw e (omega (arith, x.begins), x.inside)

    pub order_next : f ≡ 0 → (w.sort ≡ end_sort → ⊥) → {u : Progress} → u ≡ after s w.sort
        → InOrder t w.end u (n + 1)
    order_next z d g =
        let o = order_further z d in
        record {
          placed = ap (λ (v : Token). v.end) token_is ∙ place_next t n;
          come = g ∙ rw (k.come, token_is) (progress_next t n);
          few = omega (arith, k.few);
          going = λ i h.
              by_eq i n
              (λ y. rw y (sym fault_is ∙ z, λ v. d (rw token_is v)))
              (λ y. k.going i (omega arith));
        }

-- where the text may end no name is wanted
end_names_none : (v : Want) (s : Progress) → fault_at v s end_sort ≡ 0 → names_at v ≡ false
unfolding fault_at only unexpected names_at
end_names_none Object s e = refl
end_names_none Name s e = absurd (omega arith)
end_names_none Open s e = refl
end_names_none Attribute s e = refl
end_names_none PriorityEquals s e = refl
end_names_none PriorityNumber s e = refl
end_names_none AutostartEquals s e = refl
end_names_none AutostartValue s e = refl
end_names_none UseEquals s e = refl
end_names_none Use s e = refl
end_names_none AttributeEnd s e = refl
end_names_none ObjectEnd s e = refl

module _ (t : List ℕ) where
  -- a token in order is refused for its name alone
  named_fault : (i : ℕ) → fault (progress_after t i) (token t i).sort ≡ none
      → fault_in t (progress_after t i) i (token t i) ≡ cond (repeated_at t false i) given_twice none
  unfolding fault_in name_fault repeated_at bears
  named_fault i e = rw (eq-eqb (fault (progress_after t i) (token t i).sort) none e)

  walks_to : (n : ℕ) → ((i : ℕ) → i < n → Goes t i) → ((i : ℕ) → i < n → repeated_at t false i ≡ false)
      → WalksOn t (place_after t n) (progress_after t n) n
  unfolding place_after progress_after
  walks_to zero f g = walk_start t refl
  walks_to (suc n) f g =
      let o = f n (omega arith) in
      let q : fault_in t (progress_after t n) n (token t n) ≡ 0 = named_fault n o.0 ∙ rw (g n (omega arith)) in
      rw add-one at
      (walk_next (walks_to n (λ i h. f i (omega arith)) (λ i h. g i (omega arith))) refl refl q o.1 refl)

  module _ {v : Found} (o : Ordered t v) {d : ℕ} (l : Least v.tokens (repeated_at t false) d) where
    reached : (n : ℕ) → n ≤ d → WalksOn t (place_after t n) (progress_after t n) n
    reached n h =
        walks_to n (λ i k. o.goes i (let w = l.within in omega arith)) (λ i k. l.none_before i (omega arith))

    pub repeated_refused : d < v.tokens → refused_at given_twice (token t d).start ≡ walked t
    repeated_refused h =
        walk_refused (reached d (omega arith)) refl
        (sym (named_fault d (o.goes d h).0 ∙ rw (l.there h)))
        (λ z. omega arith)

    pub sort_refused : v.tokens ≤ d → (v.refusal ≡ 0 → ⊥) → refused_at v.refusal v.place ≡ walked t
    unfolding fault_in
    sort_refused h z =
        let y : fault (progress_after t v.tokens) (token t v.tokens).sort ≡ none → ⊥ = λ e. z (o.refusal_is ∙ e) in
        rw o.place_is
        (walk_refused (reached v.tokens h) refl
        (o.refusal_is ∙ rw (ne_eqb (fault (progress_after t v.tokens) (token t v.tokens).sort) none y)) z)

    pub all_ordered : v.tokens ≤ d → v.refusal ≡ 0 → found v.tokens ≡ walked t
    unfolding fault_in name_fault
    all_ordered h z =
        let n = v.tokens in
        let s = progress_after t n in
        let e : fault s (token t n).sort ≡ none = sym o.refusal_is ∙ z in
        let g : (token t n).sort ≡ end_sort = o.ends z in
        let m : names_object s ≡ false = end_names_none s.want s (rw g at e) in
        walk_ended (reached n h) refl (sym (rw (eq-eqb (fault s (token t n).sort) none e, m))) refl g
