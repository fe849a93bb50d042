-- The tokens of a text as a list: the one that comes next and the others, each by its number, how many there are.
use Rattle.std.proofs.Common.{[], ℕ, zero, suc, ◌≡◌, ◌-◌, ◌+◌, ◌≤◌, ◌<◌, List, ◌∷◌, length, get_or, refl, ap, zero-add, add-zero, arith, Bool, ◌&&◌, eqb, ◌∙◌, Option, Some, None, MatchOption, true, false}
use Rattle.oil_grammar.specs.Records.{Token}
use Rattle.oil_grammar.specs.Records.{Progress}
use Rattle.oil_grammar.specs.Next.{next_token, spelling}
use Rattle.oil_grammar.specs.Automaton.{after, fresh}
use Rattle.oil_grammar.specs.Walk.{bears, borne}
use Rattle.oil_grammar.specs.Token.{same}
use Rattle.number.proofs.Cases.{by_test}
use Rattle.std.specs.List.{list_any, enumerate_from, AllWithin, HoldsAt}
use Rattle.std.proofs.lemmas.List.FromFn.{get_or-enumerate_from, length-enumerate_from}
use Rattle.std.specs.Str.{bytes_eq}
use Rattle.oil.specs.Tokens.{place_after, token, progress_after, tokens_from, First}

module _ (t : List ℕ) where
  pub tokens_more : (at : ℕ) {n k : ℕ} {s s' : Progress} {w : Token} {x : List ℕ} → 1 ≤ n → k ≡ n - 1
      → w ≡ next_token t at → s' ≡ after s w.sort → x ≡ spelling t w
      → tokens_from n t at s ≡ (s, w, x) ∷ tokens_from k t w.end s'
  unfolding tokens_from
  tokens_more at {n} {k} h e f g y = let q : n ≡ suc k = omega arith in rw (q, y, g, f)

  pub length_tokens : (n at : ℕ) (s : Progress) → length (tokens_from n t at s) ≡ n
  unfolding tokens_from
  length_tokens zero at s = refl
  length_tokens (suc n) at s =
      let w = next_token t at in
      ap (λ k. suc k) (length_tokens n w.end (after s w.sort))

  tokens_after : (n a i : ℕ) (d : Progress × Token × List ℕ) → i < n
      → get_or (tokens_from n t (place_after t a) (progress_after t a)) i d ≡ (progress_after t (a + i), token t (a + i), spelling t (token t (a + i)))
  unfolding tokens_from place_after progress_after
  tokens_after zero a i d h = absurd (omega arith)
  tokens_after (suc n) a zero d h = rw add-zero
  tokens_after (suc n) a (suc i) d h =
      let e : a + suc i ≡ suc a + i = omega arith in
      rw e (tokens_after n (suc a) i d (omega arith))

  -- the token number i
  pub token_at_number : (n i : ℕ) (d : Progress × Token × List ℕ) → i < n
      → get_or (tokens_from n t 0 fresh) i d ≡ (progress_after t i, token t i, spelling t (token t i))
  unfolding place_after progress_after
  token_at_number n i d h = rw zero-add at (tokens_after n 0 i d h)

-- both compare two names byte by byte
pub same_bytes : (xs ys : List ℕ) → same xs ys ≡ bytes_eq xs ys
unfolding same
same_bytes [] [] = refl
same_bytes [] (y ∷ ys) = refl
same_bytes (x ∷ xs) [] = refl
same_bytes (x ∷ xs) (y ∷ ys) = ap (λ b. eqb x y && b) (same_bytes xs ys)

-- an object's name among the tokens
pub borne_any : (t : List ℕ) (n at : ℕ) (s : Progress) (r : Bool) (x : List ℕ)
    → list_any (λ p. bears r p.0 && bytes_eq p.2 x) (tokens_from n t at s) ≡ borne n t at s r x
unfolding borne tokens_from
borne_any t zero at s r x = refl
borne_any t (suc n) at s r x =
    let w = next_token t at in
    rw same_bytes
    (by_test (bears r s && bytes_eq (spelling t w) x) (λ q. rw q) (λ q. rw q (borne_any t n w.end (after s w.sort) r x)))

-- the k-th of the numbered tokens
pub numbered_token : (t : List ℕ) (n k : ℕ) (p : ℕ × (Progress × Token × List ℕ))
    → (k < length (enumerate_from 0 (tokens_from n t 0 fresh))) × (p ≡ get_or (enumerate_from 0 (tokens_from n t 0 fresh)) k p)
    → (p.1.0 ≡ progress_after t p.0) × (p.1.2 ≡ spelling t (token t p.0))
numbered_token t n k p h =
    let l = length_tokens t n 0 fresh in
    let m = length-enumerate_from 0 (tokens_from n t 0 fresh) in
    let e : p ≡ (k, (progress_after t k, token t k, spelling t (token t k))) =
    h.1 ∙ get_or-enumerate_from 0 (tokens_from n t 0 fresh) k p (omega arith)
    ∙ rw (zero-add, token_at_number t n k p.1 (omega arith)) in
    rw e (refl, refl)

-- how many there are
pub length_numbered : (t : List ℕ) (n : ℕ) → length (enumerate_from 0 (tokens_from n t 0 fresh)) ≡ n
length_numbered t n = length-enumerate_from 0 (tokens_from n t 0 fresh) ∙ length_tokens t n 0 fresh

-- the first token that passes a test, by number
pub first_at : (t : List ℕ) (n : ℕ) (test : Progress × Token × List ℕ → Bool) (r : Option ℕ)
    → MatchOption r (AllWithin (λ p. test p ≡ false) (tokens_from n t 0 fresh) 0 (length (tokens_from n t 0 fresh)))
    (λ i. (i < length (tokens_from n t 0 fresh)) × HoldsAt (λ p. test p ≡ true) (tokens_from n t 0 fresh) i
    × AllWithin (λ p. test p ≡ false) (tokens_from n t 0 fresh) 0 i)
    → First n (λ i. test (progress_after t i, token t i, spelling t (token t i))) r
first_at t n test None h = λ i l. let d : Progress × Token × List ℕ = (progress_after t i, token t i, spelling t (token t i)) in
    rw (token_at_number t n i d l) at (h i d (omega arith) (let e = length_tokens t n 0 fresh in omega arith))
first_at t n test (Some k) h =
    let e = length_tokens t n 0 fresh in
    let d : Progress × Token × List ℕ = (progress_after t k, token t k, spelling t (token t k)) in
    let l : k < n = let m = h.0 in omega arith in (
      l,
      rw (token_at_number t n k d l) at (h.1 d),
      λ i j. rw (token_at_number t n i d (omega arith)) at (h.2 i d (omega arith) j),
    )

-- the same, of a test that agrees
pub first_same : (n : ℕ) (p q : ℕ → Bool) (r : Option ℕ) → ((i : ℕ) → q i ≡ p i) → First n p r → First n q r
first_same n p q None e f = λ i h. e i ∙ f i h
first_same n p q (Some k) e f = (f.0, e k ∙ f.1, λ i h. e i ∙ f.2 i h)
