-- A text's tokens by number: the walks of the grammar, which go from the front, as what holds of each token.
use Prim.Native.Nat.{ℕ, zero, suc, ◌+◌, ◌≤◌}
use mathlib.Core.Path.{◌≡◌, refl, sym, ap, ◌∙◌}
use mathlib.Core.Bool.{Bool, true, false, cond, ◌&&◌, ◌||◌}
use mathlib.Core.List.{List}
use Rattle.std.proofs.Common.{Some, None}
use mathlib.Core.Logic.{◌⊎◌, inl, inr}
use native.Mathlib.Omega.{arith}
use native.Mathlib.Numerals.{add-one}
use lib.ListN.{length}
use Rattle.number.proofs.Cases.{by_test, and_true}
use Rattle.oil_grammar.specs.Token.{same}
use Rattle.oil_grammar.specs.Next.{spelling}
use Rattle.oil_grammar.specs.Automaton.{after, fresh}
use Rattle.oil_grammar.specs.Walk.{bears, borne}
use Rattle.oil_grammar.proofs.Spelling.{same_equal}
use Rattle.oil_grammar.proofs.Bounds.{next_inside}
use Rattle.oil.specs.Tokens.{place_after, token, progress_after, Least, First}

module _ (t : List ℕ) where
  pub place_inside : (i : ℕ) → place_after t i ≤ length t
  unfolding place_after
  place_inside zero = omega arith
  place_inside (suc i) = (next_inside t (place_after t i) (place_inside i)).inside

  pub place_next : (i : ℕ) → (token t i).end ≡ place_after t (i + 1)
  unfolding place_after
  place_next i = rw add-one

  pub progress_next : (i : ℕ) → after (progress_after t i) (token t i).sort ≡ progress_after t (i + 1)
  unfolding progress_after
  progress_next i = rw add-one

  module _ (r : Bool) (x : List ℕ) where
    -- the token i is the name x of an object
    abbrev test : ℕ → Bool
    test i = bears r (progress_after t i) && same (spelling t (token t i)) x

    -- one of the first n tokens is
    unfoldable borne_to : ℕ → Bool
    borne_to zero = false
    borne_to (suc n) = cond (test n) true (borne_to n)

    -- the k tokens from the a-th on, and those before
    both : (k a n : ℕ) → n ≡ k + a → (borne k t (place_after t a) (progress_after t a) r x || borne_to a) ≡ borne_to n
    unfolding borne borne_to place_after progress_after
    both zero a n e = let z : a ≡ n = omega arith in ap borne_to z
    both (suc k) a n e =
        let rest = both k (suc a) n (omega arith) in
        by_test (test a)
        (λ q. rw q (sym (or_true (borne k t (place_after t (suc a)) (progress_after t (suc a)) r x)) ∙ rw q at rest))
        (λ q. rw q (rw q at rest))
      where
        or_true : (b : Bool) → (b || true) ≡ true
        or_true true = refl
        or_true false = refl

    borne_to_lem : (n : ℕ) → borne n t 0 fresh r x ≡ borne_to n
    unfolding borne_to place_after progress_after
    borne_to_lem n = sym (or_false (borne n t 0 fresh r x)) ∙ both n 0 n (omega arith)
      where
        or_false : (b : Bool) → (b || false) ≡ b
        or_false true = refl
        or_false false = refl

    -- one token more
    pub borne_next : (i : ℕ) → borne (i + 1) t 0 fresh r x ≡ cond (test i) true (borne i t 0 fresh r x)
    unfolding borne_to
    borne_next i = borne_to_lem (i + 1) ∙ (rw (add-one, borne_to_lem i))

    pub borne_more : (i : ℕ) → borne i t 0 fresh r x ≡ true → borne (i + 1) t 0 fresh r x ≡ true
    borne_more i e = borne_next i ∙ by_test (test i) (λ q. rw q) (λ q. rw q e)

    -- what is borne by one token more was borne before, or is that token
    pub borne_last : (i : ℕ) → borne (i + 1) t 0 fresh r x ≡ true
        → (borne i t 0 fresh r x ≡ true) ⊎ (bears r (progress_after t i) ≡ true) × (spelling t (token t i) ≡ x)
    borne_last i e =
        by_test (test i)
        (λ q. let a = and_true (bears r (progress_after t i)) (same (spelling t (token t i)) x) q in
        inr (a.0, same_equal (spelling t (token t i)) x a.1))
        (λ q. inl (rw q at (sym (borne_next i) ∙ e)))

-- the first number, as one that may be none
module _ {n : ℕ} {p : ℕ → Bool} where
  pub least_some : {k : ℕ} → First n p (Some k) → Least n p k
  least_some f = record { within = let l = f.0 in omega arith; none_before = f.2; there = λ h. f.1 }

  pub least_none : First n p None → Least n p n
  least_none f = record { within = omega arith; none_before = f; there = λ h. absurd (omega arith) }
