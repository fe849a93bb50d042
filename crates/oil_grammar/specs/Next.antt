-- The next token of a text, from a place on.
--
--   blank bs         how many bytes the space or comment at the head of bs takes, 0 where there is none
--   blanks k bs      how many bytes up to k spaces and comments there take
--   token_at p bs    the token at the head of bs, which stand at the place p
--   next_token t at  the first token at or after a place
--   spelling t w     its bytes; `token_in t w`: the token of the grammar that it is
use Rattle.std.specs.Prelude.{ℕ, zero, suc, ◌+◌, ◌-◌, cond, ◌&&◌, List, [], ◌∷◌, leb, eqb, length, take, drop}
use Rattle.oil_grammar.specs.Records.{Token}
use Rattle.oil_grammar.specs.Byte.{slash, star, is_space, is_letter, is_digit, is_name_byte, is_line_byte, span}
use Rattle.oil_grammar.specs.Token as W
use Rattle.oil_grammar.specs.Token.{mark, name, number, spelled_sort, sign_of, decimal, semicolon_sort, name_sort, number_sort, end_sort, unreadable_sort}

-- how many bytes there are up to and with the first */, 0 where there is none
unfoldable pub closing : List ℕ → ℕ
closing [] = 0
closing (b ∷ []) = 0
closing (b ∷ c ∷ bs) =
    cond (eqb b star && eqb c slash) 2 (cond (eqb (closing (c ∷ bs)) 0) 0 (suc (closing (c ∷ bs))))

-- after /*
abbrev pub closed : ℕ → ℕ
closed n = cond (eqb n 0) 0 (n + 2)

-- after a slash
unfoldable pub comment : List ℕ → ℕ
comment [] = 0
comment (c ∷ bs) = cond (eqb c slash) (span is_line_byte bs + 2) (cond (eqb c star) (closed (closing bs)) 0)

unfoldable pub blank : List ℕ → ℕ
blank [] = 0
blank (b ∷ bs) = cond (is_space b) 1 (cond (eqb b slash) (comment bs) 0)

unfoldable pub blanks : ℕ → List ℕ → ℕ
blanks zero bs = 0
blanks (suc k) bs = let rest = blank bs + blanks k (drop (blank bs) bs) in cond (eqb (blank bs) 0) 0 rest

-- the token of a sort from a place on, n bytes long
abbrev pub token_of : ℕ → ℕ → ℕ → Token
token_of s p n = record { sort = s; start = p; end = p + n }

-- the token of a sign's sort, 0 for a byte that is none
abbrev pub sign_at : ℕ → ℕ → Token
sign_at p s = cond (eqb s 0) (token_of unreadable_sort p 0) (token_of s p 1)

unfoldable pub token_at : ℕ → List ℕ → Token
token_at p [] = token_of end_sort p 0
token_at p (b ∷ bs) =
    cond (is_letter b)
    (token_of (spelled_sort (b ∷ take (span is_name_byte bs) bs)) p (suc (span is_name_byte bs)))
    (cond (is_digit b) (token_of number_sort p (suc (span is_digit bs))) (sign_at p (sign_of b)))

-- as many spaces and comments as there are bytes are enough
abbrev pub skipped : List ℕ → ℕ → ℕ
skipped t at = at + blanks (length t) (drop at t)

unfoldable pub next_token : List ℕ → ℕ → Token
next_token t at = token_at (skipped t at) (drop (skipped t at) t)

abbrev pub spelling : List ℕ → Token → List ℕ
spelling t w = take (w.end - w.start) (drop w.start t)

-- the token of the grammar of a sort, which x spells
unfoldable pub token_of_bytes : ℕ → List ℕ → W.Token
token_of_bytes s x = cond (leb s semicolon_sort) (mark s) (cond (eqb s name_sort) (name x) (number (decimal 0 x)))

abbrev pub token_in : List ℕ → Token → W.Token
token_in t w = token_of_bytes w.sort (spelling t w)
