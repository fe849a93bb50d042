-- The tokens of a text by number, and how far the text has come before each.
--
--   place_after t i, progress_after t i  where the text stands after i tokens, and what it wants there
--   token t i                            the token that comes then
--   tokens_from k t at s                 the next k tokens from a place on, each with its bytes and how far the text, s at first, has come
--   Least n p r                          r is the first number below n of which p holds, or n
--   First n p r                          the same, where r may be none
--   Ordered t v                          v is what the tokens alone are refused with, and how many stand before it
use Rattle.std.specs.Prelude.{ℕ, zero, suc, ◌≤◌, ◌<◌, ◌≡◌, Bool, true, false, List, [], ◌∷◌, Option, MatchOption, Result, ⊤}
use Rattle.number.specs.declared.Refused.{Refused}
use Rattle.number.specs.Refusal.{none}
use Rattle.oil_grammar.specs.Records.{Token, Progress, Found}
use Rattle.oil.specs.declared.token_walk.Step.{Step}
use Rattle.oil.specs.Answer.{as_token, as_progress, refusal_at, place_of}
use Rattle.oil_grammar.specs.Token.{end_sort}
use Rattle.oil_grammar.specs.Next.{next_token, spelling}
use Rattle.oil_grammar.specs.Automaton.{fault, after, fresh}

unfoldable pub place_after : List ℕ → ℕ → ℕ
place_after t zero = 0
place_after t (suc i) = (next_token t (place_after t i)).end

abbrev pub token : List ℕ → ℕ → Token
token t i = next_token t (place_after t i)

unfoldable pub progress_after : List ℕ → ℕ → Progress
progress_after t zero = fresh
progress_after t (suc i) = after (progress_after t i) (token t i).sort

unfoldable pub tokens_from : ℕ → List ℕ → ℕ → Progress → List (Progress × Token × List ℕ)
tokens_from zero t at s = []
tokens_from (suc k) t at s =
    let w = next_token t at in
    (s, w, spelling t w) ∷ tokens_from k t w.end (after s w.sort)

-- what a step says
abbrev pub step_of : Step → Progress × Token × List ℕ
step_of s = (as_progress s.progress, as_token s.token, s.spelling.now)

pub record Least (n : ℕ) (p : ℕ → Bool) (r : ℕ) : Type 0 where
  pub within : r ≤ n
  pub none_before : (i : ℕ) → i < r → p i ≡ false
  pub there : r < n → p r ≡ true

-- r is the first number below n of which p holds
abbrev pub First : ℕ → (ℕ → Bool) → Option ℕ → Type 0
First n p r = MatchOption r ((i : ℕ) → i < n → p i ≡ false) (λ r. (r < n) × (p r ≡ true) × ((i : ℕ) → i < r → p i ≡ false))

-- the token i is in order, whatever it is called, and is not the end
abbrev pub Goes : List ℕ → ℕ → Type 0
Goes t i = (fault (progress_after t i) (token t i).sort ≡ none) × ((token t i).sort ≡ end_sort → ⊥)

pub record Ordered (t : List ℕ) (v : Found) : Type 0 where
  pub goes : (i : ℕ) → i < v.tokens → Goes t i
  pub refusal_is : v.refusal ≡ fault (progress_after t v.tokens) (token t v.tokens).sort
  pub place_is : v.place ≡ (token t v.tokens).start
  pub ends : v.refusal ≡ none → (token t v.tokens).sort ≡ end_sort

-- the same of what the code gives: the number of tokens that are in order, and why the next is not
abbrev pub as_order : List ℕ → ℕ → Result ⊤ Refused → Found
as_order t n r = record { refusal = refusal_at r; place = place_of r (token t n).start; tokens = n }
